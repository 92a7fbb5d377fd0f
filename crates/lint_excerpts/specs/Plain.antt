-- Text that can't drive a terminal. All of this is own.
use Rattle.std.specs.Prelude.{◌≡◌, ℕ, ◌==◌, ◌&&◌, ◌||◌, nat_le, nat_lt, Bool, true, false, List}
use Rattle.std.specs.List.{list_all}

-- The byte is no control byte of ASCII, or it is a tab or a newline.
unfoldable pub is_plain : ℕ → Bool
is_plain b = (nat_le 32 b && nat_lt b 127) || nat_le 128 b || b == 9 || b == 10

-- Unless it may have anything, a text has such bytes alone.
abbrev pub IsSafe : Bool → List ℕ → Type 0
IsSafe is_free text = is_free ≡ false → list_all is_plain text ≡ true
