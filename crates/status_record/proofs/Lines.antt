-- Lines and their fields.
use Rattle.std.proofs.Common.{◌≡◌, ℕ, List, [], ◌∷◌, ◌++◌, true, false, cond, refl, ap, ◌∙◌, sym, subst, Bor}
use Rattle.std.specs.Prelude.{Option, Some, None, option_map, option_and_then, MatchOption, ◌≢◌, ◌==◌}
use Rattle.std.proofs.lemmas.Bool.{cond-true}
use Rattle.std.proofs.lemmas.Bool.Decides.{Decides-eqb}
use Rattle.deftable.specs.ShellName.{is_shell_name_of, IsShellName}
use Rattle.status_record.specs.Escape.{unescaped}
use Rattle.status_record.specs.Line.{after_prefix, cut, entry_of, entry_in}

pub after_prefix-append : (front rest : List ℕ) → after_prefix front (front ++ rest) ≡ Some rest
unfolding after_prefix
after_prefix-append [] rest = refl
after_prefix-append (f ∷ front) rest = cond-true _ _ _ ((Decides-eqb f f).1 refl) ∙ after_prefix-append front rest

some_is : (a b : List ℕ) → Some a ≡ Some b → a ≡ b
some_is a b e = cc

pub after_prefix-some : (front text rest : List ℕ) → after_prefix front text ≡ Some rest → text ≡ front ++ rest
unfolding after_prefix
after_prefix-some [] text rest e = some_is text rest e
after_prefix-some (f ∷ front) [] rest e = absurd cc
after_prefix-some (f ∷ front) (b ∷ bs) rest e =
    elim (b == f) as (λ t. b == f ≡ t → cond t (after_prefix front bs) None ≡ Some rest → b ∷ bs ≡ f ∷ (front ++ rest)) [
      | true ↦ λ is h. ap (λ n. n ∷ bs) ((Decides-eqb b f).0 is) ∙ ap (λ t. f ∷ t) (after_prefix-some front bs rest h)
      | false ↦ λ _ h. absurd cc
    ] refl e

after_prefix-none : (front text : List ℕ) → ((rest : List ℕ) → text ≢ front ++ rest) → (o : Option (List ℕ)) → after_prefix front text ≡ o → None ≡ o
after_prefix-none front text apart None e = refl
after_prefix-none front text apart (Some rest) e = absurd (apart rest (after_prefix-some front text rest e))

pub after_prefix-strip : (front text : List ℕ) (r : Option (Bor (List ℕ))) → MatchOption r ((rest : List ℕ) → text ≢ front ++ rest) (λ x. text ≡ front ++ x.now) → option_map (λ t. t.now) r ≡ after_prefix front text
after_prefix-strip front text None h = after_prefix-none front text h (after_prefix front text) refl
after_prefix-strip front text (Some x) h = sym (ap (after_prefix front) h ∙ after_prefix-append front x.now)

-- ---- a name and a value

named_shell : (f : List ℕ × List ℕ) (e : List ℕ × List ℕ) → entry_of f ≡ Some e → IsShellName e.0
named_shell f e h =
    elim (is_shell_name_of f.0) as (λ b. is_shell_name_of f.0 ≡ b → cond b (option_map (λ v. (f.0, v)) (unescaped f.1)) None ≡ Some e → IsShellName e.0) [
      | true ↦ λ is g. from_map (unescaped f.1) is g
      | false ↦ λ _ g. absurd cc
    ] refl h
  where
    same : (a b : List ℕ × List ℕ) → Some a ≡ Some b → a.0 ≡ b.0
    same a b e = cc

    from_map : (o : Option (List ℕ)) → is_shell_name_of f.0 ≡ true → option_map (λ v. (f.0, v)) o ≡ Some e → IsShellName e.0
    from_map None is g = absurd cc
    from_map (Some v) is g = subst IsShellName (same (f.0, v) e g) is

pub entry_shell : (fields : List ℕ) (e : List ℕ × List ℕ) → entry_in fields ≡ Some e → IsShellName e.0
unfolding entry_in
entry_shell fields e h = go (cut fields) h
  where
    go : (c : Option (List ℕ × List ℕ)) → option_and_then entry_of c ≡ Some e → IsShellName e.0
    go None g = absurd cc
    go (Some f) g = named_shell f e g
