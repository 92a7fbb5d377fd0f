-- What is read under a name.
use Rattle.std.proofs.Common.{◌≡◌, ℕ, ◌+◌, ◌<◌, ◌≤◌, ◌^◌, List, length, take, Option, Some, None, IfSome, IfNone, Result, Ok, Err, IfOk, refl, sym, ap, inr, ◌∙◌, subst, arith, length-take}
use Rattle.std.specs.Prelude.{option_map, unwrap_or}
use Rattle.std.proofs.lemmas.List.{take_all}
use Rattle.std.proofs.lemmas.Bool.{cond-true, cond-false, le-leb, lt-leb}
use Rattle.file_disk.specs.Known.{Known, text_under, limited}
use Rattle.file_texts.specs.Done.{IsReplaceable}
use Rattle.file_texts.specs.Names.{IsFileName}
use Rattle.file_texts.specs.Reading.{whole, IsReadLimited, IsReadWhole}

pub unnamed_read : (known : Option Known) (name : List ℕ) → (IsFileName name → ⊥)
    → IfSome known (λ k. IsReadLimited k name None)
unnamed_read None name no_name = tt
unnamed_read (Some k) name no_name = record { named = λ is. absurd (no_name is); unnamed = λ _. refl }

pub named_read : {E : Type 0} (known : Option Known) (name path : List ℕ) (r : Result (Option (List ℕ)) E) → IsFileName name → path ≡ name
    → IfOk r (λ o. IfSome known (λ k. o ≡ option_map limited (text_under k path)))
    → IfOk r (λ o. IfSome known (λ k. IsReadLimited k name o))
named_read None name path (Ok o) is same read = tt
named_read known name path (Err e) is same read = tt
named_read (Some k) name path (Ok o) is same read =
    record { named = λ _. read ∙ ap (λ n. option_map limited (text_under k n)) same; unnamed = λ no_name. absurd (no_name is) }

some_is : {X : Type 0} {x y : X} → Some x ≡ Some y → x ≡ y
some_is {x = x} is = ap (λ o. unwrap_or o x) is

some_none : {X : Type 0} {x : X} → Some x ≡ None → ⊥
some_none is = subst (λ o. IfNone o ⊥) is tt

front_of_front : (n : ℕ) (t : List ℕ) → length (take (n + 1) t) ≤ n → take (n + 1) t ≡ t
front_of_front n t short = take_all (n + 1) t (omega (arith, short, length-take (n + 1) t))

whole_of : (under : Option (List ℕ)) (text : List ℕ) (o : Option (List ℕ))
    → Some text ≡ option_map limited under
    → IfSome o (λ w. w ≡ text) → IfSome o (λ w. length w ≤ 2 ^ 26) → IfNone o (2 ^ 26 < length text)
    → o ≡ whole under
whole_of None text o is same short long = absurd (some_none is)
whole_of (Some t) text None is same short long =
    let here : text ≡ limited t = some_is is in
    sym (cond-false _ _ _ (lt-leb (length t) (2 ^ 26) (omega (arith, long, ap length here, length-take (2 ^ 26 + 1) t))))
whole_of (Some t) text (Some w) is same short long =
    let here : text ≡ limited t = some_is is in
    let all : limited t ≡ t = front_of_front (2 ^ 26) t (omega (arith, short, ap length same, ap length here)) in
    ap (λ l. Some l) (same ∙ here ∙ all) ∙ sym (cond-true _ _ _ (le-leb (length t) (2 ^ 26) (omega (arith, short, ap length same, ap length here, ap length all))))

-- What is read whole, of what is read up to a limit.
pub whole_read : (known : Option Known) (name text : List ℕ) (o : Option (List ℕ))
    → IfSome known (λ k. IsReadLimited k name (Some text))
    → IfSome o (λ w. w ≡ text) → IfSome o (λ w. length w ≤ 2 ^ 26) → IfNone o (2 ^ 26 < length text)
    → IfSome known (λ k. IsReadWhole k name o)
whole_read None name text o read same short long = tt
whole_read (Some k) name text o read same short long = record {
  named = λ is. whole_of (text_under k name) text o (read.named is) same short long;
  unnamed = λ no_name. absurd (some_none (read.unnamed no_name));
}

-- A cache may be written over the text of its name, if that was read.
pub replaceable : (known : Option Known) (name file text : List ℕ) → IsFileName name
    → IfSome known (λ k. IsReadWhole k name (Some text))
    → IfSome known (λ k. IsReplaceable k name file)
replaceable None name file text is read = tt
replaceable (Some k) name file text is read = inr (λ lost. some_none (read.named is ∙ lost))
