-- A command of a shell on a line of its own. The offsets are those of the text. All of this is own.
use Rattle.std.specs.Prelude.{◌≡◌, ◌⊎◌, ℕ, ◌-◌, ◌<◌, ◌≤◌, ◌==◌, Bool, false, List, ◌∷◌, [], ◌++◌, length, slice_index, slice_range, codes}
use Rattle.std.specs.List.{list_any}
use Rattle.port_parts.specs.Places.{AreSpaces}
use Rattle.port_echo.specs.Echo.{Prints}

-- Between the first and the last of these offsets is a line, which has only spaces, and this command at offset `at`.
pub record IsCommandLine (text : List ℕ) (start at end : ℕ) (command : List ℕ) : Type 0 where
  pub order : (start ≤ at) × (at ≤ end) × (end ≤ length text)
  pub begins : (start ≡ 0) ⊎ ((0 < start) × (slice_index text (start - 1) ≡ 10))
  pub indent : AreSpaces text start at
  pub is : command ≡ slice_range text at end
  pub ends : (end ≡ length text) ⊎ (slice_index text end ≡ 10)

-- The command prints an empty line: it is `echo` without words, or with an empty one. (POSIX shell, "echo")
abbrev pub IsBlankEcho : List ℕ → Type 0
IsBlankEcho command =
    (command ≡ codes "echo") ⊎ (command ≡ codes "echo " ++ (34 ∷ 34 ∷ [])) ⊎ (command ≡ codes "echo " ++ (39 ∷ 39 ∷ []))

-- A space. (own)
abbrev pub is_gap : ℕ → Bool
is_gap b = b == 32

-- The text is one word of which it is known what `echo` prints: it has no space, or it begins with a quote.
pub record IsOneWord (text : List ℕ) : Type 0 where
  pub message : List ℕ
  pub prints : Prints text message
  pub one : (list_any is_gap text ≡ false) ⊎ ((slice_index text 0 ≡ 34) ⊎ (slice_index text 0 ≡ 39))
