-- The keys of a table.
use Rattle.std.specs.Prelude.{◌≡◌, ℕ, ◌+◌, ◌-◌, ◌%◌, ◌≤◌, max, List, [], ◌∷◌, length, slice_index}
use Rattle.std.specs.Int.{bit_at}
use Rattle.std.specs.List.{AllByRecursion}
use Rattle.deftable.specs.Table.{names_of}

-- Each key has at most n bytes. (own)
abbrev pub AreUpTo : ℕ → List (List ℕ × List ℕ) → Type 0
AreUpTo n es = AllByRecursion (λ k. length k ≤ n) (names_of es)

-- The number of bytes of the longest key, or 0 if there is none. (own)
unfoldable pub longest_of : List (List ℕ × List ℕ) → ℕ
longest_of [] = 0
longest_of (e ∷ es) = max (length e.0) (longest_of es)

-- The row of a text in the sieve, by its first byte. (own)
abbrev pub row_of : List ℕ → ℕ
row_of k = slice_index k 0 % 64

-- The bit of a text in its row, by its last byte and its length. (own)
abbrev pub end_slot : List ℕ → ℕ
end_slot k = (slice_index k (length k - 1) + length k) % 64

-- The sieve accepts the text: its bit is set. (own)
unfoldable pub Passes : List ℕ → List ℕ → Type 0
Passes rows k = bit_at (slice_index rows (row_of k)) (end_slot k) ≡ 1

-- The sieve accepts each key. (own)
abbrev pub AllPass : List ℕ → List (List ℕ × List ℕ) → Type 0
AllPass rows es = AllByRecursion (Passes rows) (names_of es)
