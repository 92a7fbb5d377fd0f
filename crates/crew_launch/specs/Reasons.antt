-- Why a child isn't started, as the line of its cause says it.
use Rattle.std.specs.Prelude.{◌≡◌, ◌⊎◌, ℕ, ◌==◌, not, Bool, List, [], ◌∷◌, codes, IsUtf8, Option, Some, None}
use Rattle.std.specs.List.{find, list_any}
use Rattle.std.specs.Str.{is_utf8}
use Rattle.crew_refusals.specs.Shown.{IsCauseOf, line_of}

-- The text has a NUL, which no word of a command can have. (own)
abbrev pub has_nul : List ℕ → Bool
has_nul text = list_any (λ b. b == 0) text

-- The text isn't UTF-8. (own)
abbrev pub is_no_text : List ℕ → Bool
is_no_text text = not (is_utf8 text)

-- The line says that this text isn't UTF-8. (own)
abbrev pub SaysNoText : List ℕ → List ℕ → Type 0
SaysNoText text line = line ≡ line_of text (codes "not UTF-8")

-- The line says that this text has a NUL. (own)
abbrev pub SaysNul : List ℕ → List ℕ → Type 0
SaysNul text line = line ≡ line_of text (codes "has a NUL")

-- The line says that memory ran out for the command of this program. (own)
abbrev pub SaysNoMemory : List ℕ → List ℕ → Type 0
SaysNoMemory program line = line ≡ line_of program (codes "out of memory")

-- The line says that this word has a NUL. If there is none, it is a cause of the program. (own)
abbrev pub SaysRefused : List ℕ → Option (List ℕ) → List ℕ → Type 0
SaysRefused program None line = IsCauseOf program line
SaysRefused program (Some word) line = SaysNul word line

-- A command of these words, the program first, was refused: the first word with a NUL is at fault, or else the program. (own)
unfoldable pub IsOfSpawn : List ℕ → List (List ℕ) → List ℕ → Type 0
IsOfSpawn program arguments line = SaysRefused program (find has_nul (program ∷ arguments)) line

-- A file of this name wasn't written: the name isn't UTF-8, or else the launcher refused it. (own)
unfoldable pub IsOfName : List ℕ → List ℕ → Type 0
IsOfName name line = (SaysNoText name line × (¬ (IsUtf8 name))) ⊎ (IsCauseOf name line × IsUtf8 name)

-- The conftest wasn't written, if there is one. (own)
abbrev pub IsOfFile : Option (List ℕ × List ℕ) → List ℕ → Type 0
IsOfFile None line = ⊥
IsOfFile (Some file) line = IsOfName file.0 line

-- The line says that this argument isn't UTF-8. If there is none, the conftest wasn't written, or the command was refused. (own)
abbrev pub SaysStopped : List ℕ → List (List ℕ) → Option (List ℕ × List ℕ) → Option (List ℕ) → List ℕ → Type 0
SaysStopped program arguments file None line = IsOfFile file line ⊎ IsOfSpawn program arguments line
SaysStopped program arguments file (Some word) line = SaysNoText word line

-- A command wasn't started: memory ran out for it, the first argument that isn't UTF-8 is at fault, its conftest wasn't
-- written, or it was refused. (own)
unfoldable pub IsOfCommand : List ℕ → List (List ℕ) → Option (List ℕ × List ℕ) → List ℕ → Type 0
IsOfCommand program arguments file line =
    SaysNoMemory program line ⊎ SaysStopped program arguments file (find is_no_text arguments) line

-- There is no program: there is no word, or the first one isn't UTF-8. (own)
abbrev pub IsNoProgram : List (List ℕ) → List ℕ → Type 0
IsNoProgram [] line = line ≡ line_of (codes "command") (codes "no word")
IsNoProgram (program ∷ arguments) line = SaysNoText program line × (¬ (IsUtf8 program))

-- The command of these words wasn't started. (own)
abbrev pub IsUnstarted : List (List ℕ) → Option (List ℕ × List ℕ) → List ℕ → Type 0
IsUnstarted [] file line = ⊥
IsUnstarted (program ∷ arguments) file line = IsOfCommand program arguments file line

-- The child of these words isn't started. (own)
unfoldable pub IsOfWords : List (List ℕ) → Option (List ℕ × List ℕ) → List ℕ → Type 0
IsOfWords words file line = IsNoProgram words line ⊎ IsUnstarted words file line
