-- What the keys of a table have in common.
use Rattle.std.proofs.Common.{◌≡◌, ℕ, ◌<◌, ◌≤◌, List, [], ◌∷◌, true, false, cond, length, max, refl, sym, ap, subst, Some, None, arith}
use Rattle.std.specs.Prelude.{bytes_eq}
use Rattle.std.specs.List.{AllByRecursion}
use Rattle.std.proofs.lemmas.Slice.Eq.{bytes_eq-Decides}
use Rattle.deftable.specs.Table.{value_of, with_entry, names_of}
use Rattle.deftable.proofs.Tables.{All-with_entry, HasShellNames-with_entry, HasShellNames-[]}
use Rattle.template.specs.Keys.{AreUpTo, AllPass, Passes, longest_of}

-- a text for which a property of every key doesn't hold isn't a key
none-of : (P : List ℕ → Type 0) (es : List (List ℕ × List ℕ)) (k : List ℕ) → AllByRecursion P (names_of es) → (P k → ⊥) → value_of es k ≡ None
unfolding value_of
none-of P [] k h against = refl
none-of P (e ∷ es) k h against =
    elim (bytes_eq k e.0) as (λ b. bytes_eq k e.0 ≡ b → cond b (Some e.1) (value_of es k) ≡ None) [
      | true ↦ λ is. absurd (against (subst P (sym ((bytes_eq-Decides k e.0).0 is)) h.0))
      | false ↦ λ _. none-of P es k h.1 against
    ] refl

pub value_of-too_long : (es : List (List ℕ × List ℕ)) (n : ℕ) (k : List ℕ) → AreUpTo n es → n < length k → value_of es k ≡ None
value_of-too_long es n k h long = none-of (λ x. length x ≤ n) es k h (λ le. absurd (omega arith))

wider : (n m : ℕ) (es : List (List ℕ × List ℕ)) → n ≤ m → AreUpTo n es → AreUpTo m es
wider n m [] le h = tt
wider n m (e ∷ es) le h = (omega (arith, h.0), wider n m es le h.1)

-- ---- the longest key

pub AreUpTo-longest : (es : List (List ℕ × List ℕ)) → AreUpTo (longest_of es) es
unfolding longest_of
AreUpTo-longest [] = tt
AreUpTo-longest (e ∷ es) = (omega arith, wider (longest_of es) (max (length e.0) (longest_of es)) es (omega arith) (AreUpTo-longest es))

pub longest_of-[] : longest_of [] ≡ 0
unfolding longest_of
longest_of-[] = refl

pub longest_of-with_entry : (es : List (List ℕ × List ℕ)) (k v : List ℕ) → longest_of (with_entry es k v) ≡ max (longest_of es) (length k)
unfolding longest_of with_entry
longest_of-with_entry [] k v = omega arith
longest_of-with_entry (e ∷ es) k v =
    elim (bytes_eq k e.0) as (λ b. bytes_eq k e.0 ≡ b → longest_of (cond b ((e.0, v) ∷ es) (e ∷ with_entry es k v)) ≡ max (max (length e.0) (longest_of es)) (length k)) [
      | true ↦ λ is. let same : length k ≡ length e.0 = ap length ((bytes_eq-Decides k e.0).0 is) in omega arith
      | false ↦ λ _. omega (arith, longest_of-with_entry es k v)
    ] refl

-- ---- the sieve

pub value_of-stopped : (rows : List ℕ) (es : List (List ℕ × List ℕ)) (k : List ℕ) → AllPass rows es → (Passes rows k → ⊥) → value_of es k ≡ None
value_of-stopped rows es k h stopped = none-of (Passes rows) es k h stopped

pub AllPass-[] : (rows : List ℕ) → AllPass rows []
AllPass-[] rows = tt

still : (rows later : List ℕ) (es : List (List ℕ × List ℕ)) → ((k : List ℕ) → Passes rows k → Passes later k) → AllPass rows es → AllPass later es
still rows later [] kept h = tt
still rows later (e ∷ es) kept h = (kept e.0 h.0, still rows later es kept h.1)

pub AllPass-with_entry : (rows later : List ℕ) (es : List (List ℕ × List ℕ)) (k v : List ℕ) → ((o : List ℕ) → Passes rows o → Passes later o) → Passes later k → AllPass rows es → AllPass later (with_entry es k v)
AllPass-with_entry rows later es k v kept added h = All-with_entry (Passes later) es k v added (still rows later es kept h)

pub ruleset keys = (value_of-too_long, HasShellNames-with_entry, HasShellNames-[], AreUpTo-longest, longest_of-[], AllPass-[])
