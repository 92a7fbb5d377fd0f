-- Operators of `test` that some shells know, or that compare numbers, and `=` and `!=` in their place. The offsets are those of the
-- condition. (POSIX, `test`; that the words are then compared as texts is own)
use Rattle.std.specs.Prelude.{◌≡◌, ◌⊎◌, ℕ, ◌+◌, ◌<◌, ◌≤◌, ◌==◌, ◌||◌, ◌&&◌, nat_lt, not, Bool, true, false, List, [], ◌∷◌, ◌++◌, length, take, slice_range, slice_index, codes, if◌then◌else◌}
use Rattle.std.specs.List.{list_all, list_any}
use Rattle.shellword.specs.Test.{IsTest}
use Rattle.shellword.specs.Truth.{Joined}
use Rattle.port_parts.specs.Places.{IsWord}
use Rattle.port_joints.specs.Joints.{Becomes, is_gap}

-- Whether a double quote is open after this text, if one is open before it or not. (POSIX shell, 2.2.3)
abbrev pub is_open_after : Bool → List ℕ → Bool
is_open_after open_before [] = open_before
is_open_after open_before (b ∷ more) = is_open_after (if b == 34 then not open_before else open_before) more

-- A digit. (own)
abbrev pub is_digit : ℕ → Bool
is_digit b = nat_lt 47 b && nat_lt b 58

-- Between these offsets is a number without a sign, and with no zero before another digit. A blank or the end follows. (own)
pub record IsNumberAt (text : List ℕ) (at end : ℕ) : Type 0 where
  pub some : at < end
  pub digits : list_all is_digit (slice_range text at end) ≡ true
  pub plain : (end ≡ at + 1) ⊎ (slice_index text at ≡ 48 → ⊥)
  pub ends : (end ≡ length text) ⊎ (is_gap (slice_index text end) ≡ true)

-- This is put in the place of an operator with a blank before it and after it, up to this offset: `=` for `==`, and `=` or `!=` for `-eq` or
-- `-ne` before a number.
pub data Spells (text : List ℕ) : List ℕ → ℕ → List ℕ → Type 0 where
  equals : (next : ℕ) → Spells text (codes " == ") next (codes " = ")
  equal : (next end : ℕ) → IsNumberAt text next end → Spells text (codes " -eq ") next (codes " = ")
  other : (next end : ℕ) → IsNumberAt text next end → Spells text (codes " -ne ") next (codes " != ")

-- A condition has been read up to an offset, and this was written for it. All is copied but such operators that are in no double quotes.
pub data IsSpelled (text : List ℕ) : ℕ → List ℕ → Type 0 where
  begun : IsSpelled text 0 []
  copied : {at : ℕ} {out : List ℕ} (next : ℕ) → IsSpelled text at out → at ≤ next → next ≤ length text → IsSpelled text next (out ++ slice_range text at next)
  spelled : {at : ℕ} {out : List ℕ} (next : ℕ) (operator put : List ℕ) → IsSpelled text at out → is_open_after false (take at text) ≡ false
      → IsWord text at operator next → Spells text operator next put → IsSpelled text next (out ++ put)

-- A backslash, a bracket, a single quote or a backquote. (own)
abbrev pub is_hard : ℕ → Bool
is_hard b = b == 92 || b == 91 || b == 93 || b == 39 || b == 96

-- The text is a test, once `-a` and `-o` in it have become `&&` and `||`.
pub record IsReadable (text : List ℕ) : Type 0 where
  pub final : List ℕ
  pub test : Joined
  pub becomes : Becomes text final
  pub tests : IsTest final test

-- The condition has none of these bytes, and it is spelled so to its end. It is then shorter, so at least one operator was put, and it is a
-- test.
pub record IsRespelled (text put : List ℕ) : Type 0 where
  pub plain : list_any is_hard text ≡ false
  pub spelled : IsSpelled text (length text) put
  pub shorter : length put < length text
  pub readable : IsReadable put
