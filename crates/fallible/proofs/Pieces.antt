-- A reading of a text piece by piece. It reads a piece at the front, and then skips the bytes of that piece one by one.
use Rattle.std.proofs.Common.{◌≡◌, ℕ, zero, suc, ◌+◌, ◌-◌, ◌<◌, ◌≤◌, List, [], ◌∷◌, ◌++◌, length, drop, Result, Ok, Err, refl, sym, ap, subst, ◌∙◌, append_assoc, arith}
use Rattle.fallible.specs.Reading.{◌>>=◌}

-- what was read before, and what is still read
abbrev pub with_list : {A F : Type 0} → List A → Result (List A) F → Result (List A) F
with_list list read = read >>= λ more. Ok (list ++ more)

pub with_list-append : {A F : Type 0} (a b : List A) (read : Result (List A) F)
    → with_list (a ++ b) read ≡ with_list a (with_list b read)
with_list-append {A} a b (Ok more) = ap (λ (t : List A). Ok t) (append_assoc a b more)
with_list-append a b (Err f) = refl

-- reading with `k` bytes to skip, at an offset
module _ {R : Type 0} (read : ℕ → ℕ → List ℕ → R)
    (skip : (k at b : ℕ) (bs : List ℕ) → read (suc k) at (b ∷ bs) ≡ read k (at + 1) bs) where
  pub skipped : (k at : ℕ) (text : List ℕ) → k ≤ length text → read k at text ≡ read 0 (at + k) (drop k text)
  skipped zero at text within = ap (λ n. read 0 n text) (omega arith)
  skipped (suc k) at [] within = absurd (omega arith)
  skipped (suc k) at (b ∷ bs) within =
      skip k at b bs ∙ skipped k (at + 1) bs (omega arith) ∙ ap (λ n. read 0 n (drop k bs)) (omega arith)

  -- what is read after a piece of `n` bytes
  pub after_piece : (n at b : ℕ) (bs : List ℕ) → 0 < n → n ≤ length (b ∷ bs)
      → read (n - 1) (at + 1) bs ≡ read 0 (at + n) (drop n (b ∷ bs))
  after_piece zero at b bs some within = absurd (omega arith)
  after_piece (suc k) at b bs some within =
      ap (λ n. read n (at + 1) bs) (let e : suc k - 1 ≡ k = omega arith in e)
      ∙ sym (skip k at b bs) ∙ skipped (suc k) at (b ∷ bs) within

  -- what holds of the empty text, and of each text if it holds of what follows its first piece, holds of all texts
  module _ (Holds : ℕ → List ℕ → R → Type 0) (none : (at : ℕ) → Holds at [] (read 0 at []))
      (one : (at b : ℕ) (bs : List ℕ) → ((n : ℕ) → 0 < n → n ≤ length (b ∷ bs) → Holds (at + n) (drop n (b ∷ bs)) (read (n - 1) (at + 1) bs)) → Holds at (b ∷ bs) (read 0 at (b ∷ bs))) where
    past : (k at : ℕ) (text : List ℕ) → k ≤ length text → Holds (at + k) (drop k text) (read k at text)
    past zero at [] within = subst (λ n. Holds n [] (read 0 at [])) (let e : at ≡ at + 0 = omega arith in e) (none at)
    past (suc k) at [] within = absurd (omega arith)
    past (suc k) at (b ∷ bs) within =
        subst (λ n. Holds n (drop k bs) (read (suc k) at (b ∷ bs))) (let e : at + 1 + k ≡ at + suc k = omega arith in e)
        (subst (Holds (at + 1 + k) (drop k bs)) (sym (skip k at b bs)) (past k (at + 1) bs (omega arith)))
    past zero at (b ∷ bs) within =
        subst (λ n. Holds n (b ∷ bs) (read 0 at (b ∷ bs))) (let e : at ≡ at + 0 = omega arith in e)
        (one at b bs (λ n some short.
        let there : drop (n - 1) bs ≡ drop n (b ∷ bs) = ap (λ m. drop m (b ∷ bs)) (let e : suc (n - 1) ≡ n = omega arith in e) in
        subst (λ (t : List ℕ). Holds (at + n) t (read (n - 1) (at + 1) bs)) there
        (subst (λ p. Holds p (drop (n - 1) bs) (read (n - 1) (at + 1) bs)) (let e : at + 1 + (n - 1) ≡ at + n = omega arith in e)
        (past (n - 1) (at + 1) bs (omega arith)))))

    pub by_pieces : (at : ℕ) (text : List ℕ) → Holds at text (read 0 at text)
    by_pieces at text = subst (λ n. Holds n text (read 0 at text)) (let e : at + 0 ≡ at = omega arith in e) (past 0 at text (omega arith))
