-- The fronts that texts share. All are own.
use Rattle.std.specs.Prelude.{ℕ, suc, ◌+◌, Bool, ◌&&◌, List, [], ◌∷◌, nat_le, nat_lt, ◌==◌, if◌then◌else◌}
use Rattle.shell_case.specs.declared.fronts.Stretch.{Stretch}

-- The length of the longest front of both texts.
abbrev pub shared : List ℕ → List ℕ → ℕ
shared [] ys = 0
shared (x ∷ xs) [] = 0
shared (x ∷ xs) (y ∷ ys) = if y == x then suc (shared xs ys) else 0

-- For each offset of a text, the length of the front that the whole shares with the text from there on.
abbrev pub shares : List ℕ → List ℕ → List ℕ
shares whole [] = []
shares whole (b ∷ bs) = shared whole (b ∷ bs) ∷ shares whole bs

-- For each flag and its length, whether the flag is set and the length is at least `len`.
abbrev pub keep_long : ℕ → List Bool → List ℕ → List Bool
keep_long len [] lens = []
keep_long len (f ∷ fs) [] = []
keep_long len (f ∷ fs) (l ∷ ls) = (f && nat_le len l) ∷ keep_long len fs ls

-- The stretch that ends later: this one, or the `len` bytes from `at` on.
abbrev pub later : Stretch → ℕ → ℕ → Stretch
later stretch at len = if nat_lt 0 at && nat_lt stretch.to (at + len) then record { from = at; to = at + len } else stretch
