-- The names of tests.
use Rattle.std.proofs.Common.{◌≡◌, ℕ, Bool, true, false, ◌&&◌, List, [], ◌∷◌, ◌++◌, map, inl, inr, refl, sym, ap, ◌∙◌}
use Rattle.std.specs.Prelude.{codes}
use Rattle.std.specs.List.{list_all}
use Rattle.std.proofs.lemmas.Bool.Decides.{eqb_tells}
use Rattle.deftable.specs.ShellName.{is_shell_name_of, starts_name, continues_name}
use Rattle.deftable.proofs.Names.{start_continues}
use Rattle.m4quote.specs.Names.{sh_byte}

true_is_false : true ≡ false → ⊥
true_is_false e = absurd cc

both_true : (a b : Bool) → (a && b) ≡ true → (a ≡ true) × (b ≡ true)
both_true true b is = (refl, is)
both_true false b is = absurd cc

byte_stays : (b : ℕ) → continues_name b ≡ true → sh_byte b ≡ b
byte_stays b is = elim (eqb_tells b 42) [
  | inl star ↦ absurd (true_is_false (sym is ∙ ap continues_name star.1))
  | inr other ↦ (elim (eqb_tells b 43) [
    | inl plus ↦ absurd (true_is_false (sym is ∙ ap continues_name plus.1))
    | inr more ↦ rw (other.0, more.0, is) refl
  ])
]

bytes_stay : (t : List ℕ) → list_all continues_name t ≡ true → map sh_byte t ≡ t
bytes_stay [] is = refl
bytes_stay (b ∷ t) is =
    let both = both_true (continues_name b) (list_all continues_name t) is in
    ap (λ c. c ∷ map sh_byte t) (byte_stays b both.0) ∙ ap (λ l. b ∷ l) (bytes_stay t both.1)

-- A text that has the form of a name becomes itself.
name_stays : (t : List ℕ) → is_shell_name_of t ≡ true → map sh_byte t ≡ t
name_stays [] is = refl
name_stays (b ∷ t) is =
    let both = both_true (starts_name b) (list_all continues_name t) is in
    ap (λ c. c ∷ map sh_byte t) (byte_stays b (start_continues b both.0)) ∙ ap (λ l. b ∷ l) (bytes_stay t both.1)

pub test_name_stays : (t key : List ℕ) → t ≡ codes "ac_cv_" ++ key → is_shell_name_of t ≡ true → t ≡ codes "ac_cv_" ++ map sh_byte key
test_name_stays t key same is = sym (name_stays t is) ∙ ap (map sh_byte) same
