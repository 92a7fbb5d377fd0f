-- Lemmas for the functions that make headers.
use Rattle.std.proofs.Common.{◌≡◌, ℕ, suc, arith, ◌+◌, Bool, true, false, ◌&&◌, List, [], ◌∷◌, length, take, drop, Option, Bor, ◌⊎◌, inl, inr, refl, sym, ap, ◌∙◌}
use Rattle.std.specs.List.{list_all, prefix_len}
use Rattle.deftable.specs.ShellName.{starts_name, continues_name, is_shell_name_of}
use Rattle.std.proofs.lemmas.Bool.{and_from, cases_Bool}
use Rattle.deftable.proofs.Names.{start_continues}
use Rattle.std.specs.Prelude.{option_map, bytes_eq}
use Rattle.std.specs.Option.{MatchOption}
use Rattle.deftable.proofs.Fronts.{stripped}
use Rattle.template.specs.Header.{rest_after, word_of, begins_name}

-- what `strip_prefix` returns is the text after the front
pub rest_after_is : (front text : List ℕ) (r : Option (Bor (List ℕ)))
    → MatchOption r (bytes_eq (take (length front) text) front ≡ false) (λ x. (bytes_eq (take (length front) text) front ≡ true) × (x.now ≡ drop (length front) text) × (length x.now + length front ≡ length text))
    → option_map (λ t. t.now) r ≡ rest_after front text
unfolding rest_after
rest_after_is front text r is = stripped front text r is

taken : (b : ℕ) (bs : List ℕ) (n : ℕ) → take (1 + n) (b ∷ bs) ≡ b ∷ take n bs
taken b bs n = let e : 1 + n ≡ suc n = omega arith in ap (λ k. take k (b ∷ bs)) e

word_more : (b : ℕ) (bs : List ℕ) → continues_name b ≡ true → word_of (b ∷ bs) ≡ b ∷ word_of bs
word_more b bs h =
    let e : prefix_len continues_name (b ∷ bs) ≡ 1 + prefix_len continues_name bs = rw (h) refl in
    ap (λ k. take k (b ∷ bs)) e ∙ taken b bs (prefix_len continues_name bs)

word_none : (b : ℕ) (bs : List ℕ) → continues_name b ≡ false → word_of (b ∷ bs) ≡ []
word_none b bs h = let e : prefix_len continues_name (b ∷ bs) ≡ 0 = rw (h) refl in ap (λ k. take k (b ∷ bs)) e

word_bytes : (text : List ℕ) → list_all continues_name (word_of text) ≡ true
word_bytes [] = refl
word_bytes (b ∷ bs) = elim (cases_Bool (continues_name b)) [
  | inl h ↦ ap (list_all continues_name) (word_more b bs h) ∙ and_from (continues_name b) (list_all continues_name (word_of bs)) h (word_bytes bs)
  | inr h ↦ ap (list_all continues_name) (word_none b bs h)
]

-- the first byte says whether the longest word at the front is a name
pub begun : (text : List ℕ) → begins_name text ≡ is_shell_name_of (word_of text)
begun [] = refl
begun (b ∷ bs) = elim (cases_Bool (starts_name b)) [
  | inl h ↦ h ∙ sym (ap is_shell_name_of (word_more b bs (start_continues b h))
      ∙ and_from (starts_name b) (list_all continues_name (word_of bs)) h (word_bytes bs))
  | inr h ↦ h ∙ sym (elim (cases_Bool (continues_name b)) [
    | inl k ↦ ap is_shell_name_of (word_more b bs k) ∙ ap (λ x. x && list_all continues_name (word_of bs)) h
    | inr k ↦ ap is_shell_name_of (word_none b bs k)
  ])
]
