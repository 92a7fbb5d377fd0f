-- The value of a name after writes.
use Rattle.std.proofs.Common.{◌≡◌, ℕ, List, [], ◌∷◌, true, false, refl, sym, ap, ◌∙◌, subst, ⊎_elim}
use Rattle.std.specs.Prelude.{None, bytes_eq}
use Rattle.std.proofs.lemmas.Bool.{cases_Bool}
use Rattle.deftable.specs.Table.{value_of, with_entry, without_entry}
use Rattle.meaning_laws.specs.Cached.{IsSet, IsUnset, StandsOnce}
pub use Rattle.meaning.proofs.Values.{Entries, same_text, same_self, not_same, apart, cond_true, cond_false, cases_value, value_first, value_rest, with_first, with_rest, without_first, without_rest, value_here, value_there, head_value, tail_value, without_unset}

-- A name that is set stays so if any name is written.
pub set_write : (es : Entries) (k v n : List ℕ) → IsSet n es → IsSet n (with_entry es k v)
set_write es k v n h =
    ⊎_elim
    (λ t. (v, ap (value_of (with_entry es k v)) (same_text n k t) ∙ value_here es k v))
    (λ f. (h.0, value_there es k v n f ∙ h.1))
    (cases_Bool (bytes_eq n k))

-- A name that was unset, is written and unset again.
pub reset_own : (es : Entries) (k v : List ℕ) → IsUnset k es → without_entry (with_entry es k v) k ≡ es
unfolding with_entry
reset_own [] k v h = without_first (k, v) [] k (same_self k)
reset_own (e ∷ es) k v h =
    let f = head_value e es k h in
    ap (λ l. without_entry l k) (with_rest e es k v f) ∙ without_rest e (with_entry es k v) k f ∙ ap (λ l. e ∷ l) (reset_own es k v (tail_value e es k h))

-- The last of two writes counts.
pub rewritten : (es : Entries) (k v w : List ℕ) → with_entry (with_entry es k v) k w ≡ with_entry es k w
unfolding with_entry
rewritten [] k v w = with_first (k, v) [] k w (same_self k)
rewritten (e ∷ es) k v w =
    ⊎_elim
    (λ t. ap (λ l. with_entry l k w) (with_first e es k v t) ∙ with_first (e.0, v) es k w t ∙ sym (with_first e es k w t))
    (λ f. ap (λ l. with_entry l k w) (with_rest e es k v f) ∙ with_rest e (with_entry es k v) k w f ∙ ap (λ l. e ∷ l) (rewritten es k v w) ∙ sym (with_rest e es k w f))
    (cases_Bool (bytes_eq k e.0))

-- Another name is unset.
pub value_without : (es : Entries) (k q : List ℕ) → bytes_eq q k ≡ false → value_of (without_entry es k) q ≡ value_of es q
unfolding without_entry
value_without [] k q ne = refl
value_without (e ∷ es) k q ne =
    ⊎_elim
    (λ t.
    let qe : bytes_eq q e.0 ≡ false = subst (λ x. bytes_eq q x ≡ false) (same_text k e.0 t) ne in
    ap (λ l. value_of l q) (without_first e es k t) ∙ sym (value_rest e es q qe))
    (λ f.
    ap (λ l. value_of l q) (without_rest e es k f)
    ∙ ⊎_elim
    (λ a. value_first e (without_entry es k) q a ∙ sym (value_first e es q a))
    (λ b. value_rest e (without_entry es k) q b ∙ value_without es k q ne ∙ sym (value_rest e es q b))
    (cases_Bool (bytes_eq q e.0)))
    (cases_Bool (bytes_eq k e.0))

-- A name with one entry at most.
pub once_unset : (es : Entries) (k : List ℕ) → IsUnset k es → StandsOnce k es
once_unset es k h = ap (λ l. value_of l k) (without_unset es k h) ∙ h

-- What that says of a list with a first entry.
once_first : (e : List ℕ × List ℕ) (es : Entries) (n : List ℕ) → bytes_eq n e.0 ≡ true → value_of (without_entry (e ∷ es) n) n ≡ value_of es n
once_first e es n t = ap (λ l. value_of l n) (without_first e es n t)

once_rest : (e : List ℕ × List ℕ) (es : Entries) (n : List ℕ) → bytes_eq n e.0 ≡ false → value_of (without_entry (e ∷ es) n) n ≡ value_of (without_entry es n) n
once_rest e es n f = ap (λ l. value_of l n) (without_rest e es n f) ∙ value_rest e (without_entry es n) n f

unset_of_none : (n : List ℕ) → value_of [] n ≡ None
unfolding value_of
unset_of_none n = refl

pub once_with : (es : Entries) (k v n : List ℕ) → StandsOnce n es → StandsOnce n (with_entry es k v)
unfolding with_entry
once_with [] k v n h = ⊎_elim (λ t. once_first (k, v) [] n t ∙ unset_of_none n) (λ f. once_rest (k, v) [] n f ∙ h) (cases_Bool (bytes_eq n k))
once_with (e ∷ es) k v n h =
    ⊎_elim
    (λ t. subst (StandsOnce n) (sym (with_first e es k v t))
    (⊎_elim
    (λ a. once_first (e.0, v) es n a ∙ sym (once_first e es n a) ∙ h)
    (λ b. once_rest (e.0, v) es n b ∙ sym (once_rest e es n b) ∙ h)
    (cases_Bool (bytes_eq n e.0))))
    (λ f. subst (StandsOnce n) (sym (with_rest e es k v f))
    (⊎_elim
    (λ a.
    let ne : bytes_eq n k ≡ false = not_same n k (λ same. apart k e.0 f (sym same ∙ same_text n e.0 a)) in
    once_first e (with_entry es k v) n a ∙ value_there es k v n ne ∙ sym (once_first e es n a) ∙ h)
    (λ b. once_rest e (with_entry es k v) n b ∙ once_with es k v n (sym (once_rest e es n b) ∙ h))
    (cases_Bool (bytes_eq n e.0))))
    (cases_Bool (bytes_eq k e.0))

once_other : (es : Entries) (k n : List ℕ) → bytes_eq n k ≡ false → StandsOnce n es → StandsOnce n (without_entry es k)
unfolding without_entry
once_other [] k n ne h = h
once_other (e ∷ es) k n ne h =
    ⊎_elim
    (λ t. subst (StandsOnce n) (sym (without_first e es k t))
    (let b : bytes_eq n e.0 ≡ false = subst (λ x. bytes_eq n x ≡ false) (same_text k e.0 t) ne in sym (once_rest e es n b) ∙ h))
    (λ f. subst (StandsOnce n) (sym (without_rest e es k f))
    (⊎_elim
    (λ a. once_first e (without_entry es k) n a ∙ value_without es k n ne ∙ sym (once_first e es n a) ∙ h)
    (λ b. once_rest e (without_entry es k) n b ∙ once_other es k n ne (sym (once_rest e es n b) ∙ h))
    (cases_Bool (bytes_eq n e.0))))
    (cases_Bool (bytes_eq k e.0))

pub once_without : (es : Entries) (k n : List ℕ) → StandsOnce n es → StandsOnce n (without_entry es k)
once_without es k n h =
    ⊎_elim
    (λ t. subst (λ x. StandsOnce n (without_entry es x)) (same_text n k t) (once_unset (without_entry es n) n h))
    (λ f. once_other es k n f h)
    (cases_Bool (bytes_eq n k))
