-- The directory of a path.
use Rattle.std.proofs.Common.{◌≡◌, ◌≢◌, ◌⊎◌, inl, inr, ℕ, zero, suc, ◌<◌, ◌≤◌, Bool, true, false, List, [], ◌∷◌, Option, Some, None, length, take, Result, Ok, Err, refl, sym, ap, subst, ◌∙◌, arith, true≢false}
use Rattle.std.specs.Prelude.{◌==◌, IfOk, IfSome, MatchOption, codes, slice_index, if◌then◌else◌}
use Rattle.std.specs.Path.{rfind_below}
use Rattle.std.proofs.lemmas.Bool.{cases_lt}
use Rattle.memchr.specs.Find.{IsLast, IsLastByte, NoneAfter, Passes, is_byte}
use Rattle.file_disk.specs.Known.{Known}
use Rattle.file_texts.specs.Names as names
use Rattle.cmd_call.specs.Supplies.{ReadsWhole}
use Rattle.lint_sources.specs.Sources.{IsAt, directory_before, directory_of}
use Rattle.lint_sources.specs.declared.reading.Linted.{Linted}

at_last : (c : ℕ) (text : List ℕ) (n k : ℕ) → (slice_index text n == c) ≡ true → NoneAfter (Passes (is_byte c) text) 0 (suc n) k → (k < n) ⊎ (n ≤ k) → k ≡ n
at_last c text n k is h (inl less) = absurd (h.after n (omega (arith, less)) (omega arith) is)
at_last c text n k is h (inr more) = let high = h.high in omega (arith, high, more)

before_last : (c : ℕ) (text : List ℕ) (n k : ℕ) → (slice_index text n == c) ≡ false → NoneAfter (Passes (is_byte c) text) 0 (suc n) k → Passes (is_byte c) text k → (k < n) ⊎ (n ≤ k)
    → NoneAfter (Passes (is_byte c) text) 0 n k
before_last c text n k is h passes (inl less) = record { low = h.low; high = less; after = λ j low high. h.after j low (omega (arith, high)) }
before_last c text n k is h passes (inr more) =
    let high = h.high in
    let same : k ≡ n = omega (arith, high, more) in
    absurd (true≢false (sym passes ∙ ap (λ x. slice_index text x == c) same ∙ is))

by_test : (c : ℕ) (text : List ℕ) (n : ℕ) (t : Bool) (r : Option ℕ) → (slice_index text n == c) ≡ t → IsLast (Passes (is_byte c) text) 0 (suc n) r
    → ((other : Option ℕ) → IsLast (Passes (is_byte c) text) 0 n other → other ≡ rfind_below c text n) → r ≡ (if t then Some n else rfind_below c text n)
by_test c text n true None is h before = absurd (h n (omega arith) (omega arith) is)
by_test c text n true (Some k) is h before = ap (λ x. Some x) (at_last c text n k is h.0 (cases_lt k n))
by_test c text n false None is h before = before None (λ k low high. h k low (omega (arith, high)))
by_test c text n false (Some k) is h before = before (Some k) (before_last c text n k is h.0 h.1 (cases_lt k n), h.1)

last_below : (c : ℕ) (text : List ℕ) (n : ℕ) (r : Option ℕ) → IsLast (Passes (is_byte c) text) 0 n r → r ≡ rfind_below c text n
last_below c text zero None h = refl
last_below c text zero (Some k) h = let high = h.0.high in absurd (omega (arith, high))
last_below c text (suc n) r h = by_test c text n (slice_index text n == c) r refl h (λ other is. last_below c text n other is)

pub last_slash_is : (path : List ℕ) (r : Option ℕ) → IsLastByte (is_byte 47) path r → r ≡ names.last_slash path
last_slash_is path r h = last_below 47 path (length path) r h

pub last_within : (path : List ℕ) (r : Option ℕ) → IsLastByte (is_byte 47) path r → IfSome r (λ at. at < length path)
last_within path None h = tt
last_within path (Some at) h = h.0.high

front_is : (at : ℕ) (path : List ℕ) → at ≢ 0 → at < length path → take at path ≡ directory_before (Some (take at path))
front_is zero path some within = absurd (some refl)
front_is (suc at) [] some within = absurd (omega (arith, within))
front_is (suc at) (byte ∷ path) some within = refl

pub directory_none : (path : List ℕ) (r : Option ℕ) → r ≡ names.last_slash path → r ≡ None → codes "." ≡ directory_of path
directory_none path r is none = ap (λ o. directory_before (names.before_index path o)) (sym none ∙ is)

pub directory_root : (path : List ℕ) (r : Option ℕ) → r ≡ names.last_slash path → r ≡ Some 0 → codes "/" ≡ directory_of path
directory_root path r is root = ap (λ o. directory_before (names.before_index path o)) (sym root ∙ is)

pub directory_at : (path : List ℕ) (r : Option ℕ) (at : ℕ) → r ≡ names.last_slash path → r ≡ Some at → at ≢ 0 → at < length path → take at path ≡ directory_of path
directory_at path r at is found some within = front_is at path some within ∙ ap (λ o. directory_before (names.before_index path o)) (sym found ∙ is)

-- What was read at a path that was lent
pub within_lent : {E : Type 0} (files : Option Known) (r : Result (Option Linted) E) (slice path wanted : List ℕ) → slice ≡ path → path ≡ wanted
    → IfOk r (λ o. MatchOption o (ReadsWhole files slice None) (λ l. IsAt files slice l.text l.directory))
    → IfOk r (λ o. MatchOption o (ReadsWhole files wanted None) (λ l. IsAt files wanted l.text l.directory))
within_lent files (Err e) slice path wanted lent is h = tt
within_lent files (Ok None) slice path wanted lent is h = subst (λ p. ReadsWhole files p None) (lent ∙ is) h
within_lent files (Ok (Some l)) slice path wanted lent is h = subst (λ p. IsAt files p l.text l.directory) (lent ∙ is) h
