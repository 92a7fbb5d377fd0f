-- The directory of the source, one argument further.
use Rattle.std.proofs.Common.{◌≡◌, ℕ, ◌+◌, ◌<◌, ◌≤◌, List, Option, length, drop, get_or, sym, ap, ◌∙◌}
use Rattle.std.proofs.Math.ListN.{drop_of_length-le}
use Rattle.options_line.proofs.Turns.{next_of}
use Rattle.options_line.specs.Arguments.{awaited_after}
use Rattle.options_line.specs.Srcdir.{srcdir_after, srcdir_from}
use Rattle.options_line.specs.declared.argument.Target.{Target}

pub directory_more : (awaited next : Option Target) (srcdir now : List ℕ) (i : ℕ) (args : List (List ℕ)) (x : List ℕ) (total : List ℕ) → i < length args
    → x ≡ get_or args i x → next ≡ awaited_after awaited x → now ≡ srcdir_after awaited x srcdir
    → srcdir_from awaited srcdir (drop i args) ≡ total → srcdir_from next now (drop (i + 1) args) ≡ total
unfolding srcdir_from
directory_more awaited next srcdir now i args x total lt is a s h =
    ap (λ t. srcdir_from t now (drop (i + 1) args)) a
    ∙ ap (λ f. srcdir_from (awaited_after awaited x) f (drop (i + 1) args)) s
    ∙ sym (ap (λ xs. srcdir_from awaited srcdir xs) (next_of args i x lt is)) ∙ h

pub directory_end : (awaited : Option Target) (srcdir : List ℕ) (i : ℕ) (args : List (List ℕ)) → length args ≤ i → srcdir_from awaited srcdir (drop i args) ≡ srcdir
unfolding srcdir_from
directory_end awaited srcdir i args le = ap (λ xs. srcdir_from awaited srcdir xs) (drop_of_length-le args le)
