-- The parts of a file's name, and the way up from it.
use Rattle.std.proofs.Common.{◌≡◌, ℕ, zero, suc, ◌+◌, ◌-◌, ◌<◌, ◌≤◌, Bool, true, false, List, ◌++◌, length, take, drop, get_or, codes, refl, sym, ap, ◌∙◌, arith, Result, Ok, Err, Vec, Global}
use Rattle.std.specs.Prelude.{not, IfOk}
use Rattle.std.specs.List.{suffix_len, before_last, after_last}
use Rattle.std.proofs.lemmas.List.Sums.{suffix_len_is}
use Rattle.memchr.specs.Find.{Nowhere, Passes, is_byte}
use Rattle.template.specs.Place.{is_slash, up}

-- one directory more
pub up_more : (n : ℕ) → 0 < n → up (n + 1) ≡ up n ++ codes "/.."
unfolding up
up_more zero h = absurd (omega arith)
up_more (suc n) h = let e : suc n + 1 ≡ suc (suc n) = omega arith in ap up e

pub up_none : up 0 ≡ codes "."
unfolding up
up_none = refl

pub up_of_none : {E : Type 0} (r : Result (Vec ℕ Global) E) (n : ℕ) → n ≡ 0 → IfOk r (λ v. v.items ≡ codes ".") → IfOk r (λ v. v.items ≡ up n)
up_of_none (Ok v) n none is = is ∙ sym (ap up none ∙ up_none)
up_of_none (Err e) n none is = tt

pub up_one : up 1 ≡ codes ".."
unfolding up
up_one = refl

negated : (b : Bool) → (b ≡ true → ⊥) → not b ≡ true
negated true h = absurd (h refl)
negated false h = refl

not_slash_after : (file : List ℕ) (k : ℕ) → Nowhere (Passes (is_byte 47) file) (k + 1) (length file) → (j : ℕ) → k + 1 ≤ j → j < length file → not (is_slash (get_or file j 0)) ≡ true
not_slash_after file k h j low high = negated (is_slash (get_or file j 0)) (h j low high)

-- the number of bytes after the last slash
after_slash : (file : List ℕ) (k : ℕ) → k < length file → Passes (is_byte 47) file k → Nowhere (Passes (is_byte 47) file) (k + 1) (length file) → suffix_len (λ b. not (is_slash b)) file ≡ length file - (k + 1)
after_slash file k inside here after =
    suffix_len_is (λ b. not (is_slash b)) file (k + 1) 0 (omega arith) (not_slash_after file k after)
    (λ _. let same : k + 1 - 1 ≡ k = omega arith in ap (λ i. not (is_slash (get_or file i 0))) same ∙ ap not here)

no_slash : (file : List ℕ) → Nowhere (Passes (is_byte 47) file) 0 (length file) → suffix_len (λ b. not (is_slash b)) file ≡ length file
no_slash file h =
    suffix_len_is (λ b. not (is_slash b)) file 0 0 (omega arith) (λ j low high. negated (is_slash (get_or file j 0)) (h j low high)) (λ lt. absurd (omega arith))
    ∙ omega arith

pub directory_at : (file : List ℕ) (k : ℕ) → k < length file → Passes (is_byte 47) file k → Nowhere (Passes (is_byte 47) file) (k + 1) (length file) → take k file ≡ before_last is_slash file
directory_at file k inside here after =
    let n = after_slash file k inside here after in
    let same : k ≡ length file - suffix_len (λ b. not (is_slash b)) file - 1 = omega (arith, n) in
    ap (λ i. take i file) same

pub name_at : (file : List ℕ) (k : ℕ) → k < length file → Passes (is_byte 47) file k → Nowhere (Passes (is_byte 47) file) (k + 1) (length file) → drop (k + 1) file ≡ after_last is_slash file
name_at file k inside here after =
    let n = after_slash file k inside here after in
    let same : k + 1 ≡ length file - suffix_len (λ b. not (is_slash b)) file = omega (arith, n) in
    ap (λ i. drop i file) same

pub no_directory : (file : List ℕ) → Nowhere (Passes (is_byte 47) file) 0 (length file) → take 0 file ≡ before_last is_slash file
no_directory file h =
    let n = no_slash file h in
    let same : 0 ≡ length file - suffix_len (λ b. not (is_slash b)) file - 1 = omega (arith, n) in
    ap (λ i. take i file) same

pub whole_name : (file : List ℕ) → Nowhere (Passes (is_byte 47) file) 0 (length file) → file ≡ after_last is_slash file
whole_name file h =
    let n = no_slash file h in
    let same : 0 ≡ length file - suffix_len (λ b. not (is_slash b)) file = omega (arith, n) in
    ap (λ i. drop i file) same
