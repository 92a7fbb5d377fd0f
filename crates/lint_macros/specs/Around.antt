-- A text that is cut at a byte.
use Rattle.std.specs.Prelude.{ℕ, ◌+◌, ◌==◌, List, take, drop, position, Option, option_map}

-- The text before the first byte c, and the text after it; nothing if c isn't in it. (own)
abbrev pub around : ℕ → List ℕ → Option (List ℕ × List ℕ)
around c t = option_map (λ i. (take i t, drop (i + 1) t)) (position (λ b. b == c) t)
