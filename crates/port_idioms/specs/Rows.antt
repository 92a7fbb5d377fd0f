-- What the table of macros puts in the place of a call, and the rows that say for which calls an idiom is written.
use Rattle.std.specs.Prelude.{ℕ, ◌+◌, ◌≤◌, List, [], ◌∷◌, ◌++◌, Contains, Option, Some, None}
use Rattle.text_cut.specs.Cuts.{parts}
use Rattle.lint_macros.specs.declared.entry.MacroKind.{MacroKind}
use Rattle.lint_macros.specs.declared.entry.MacroKind.TheVariants.{Idiom, Dropped, Missing, Family}
use Rattle.lint_macros.specs.Entries.{Said}
use Rattle.port_idioms.specs.declared.table.TheConstants.{EXACT, DIFFERING}

-- What an entry of this kind and text puts in the place of a call: the text of an idiom, and nothing for a call that
-- has no meaning. The others say only why nothing does what the macro does. (own)
abbrev pub put_of : MacroKind → List ℕ → Option (List ℕ)
put_of Idiom text = Some text
put_of Dropped text = Some []
put_of Missing text = None
put_of Family text = None

-- The same for the entry that the table has, if it has one. (own)
abbrev pub put_by : Option Said → Option (List ℕ)
put_by (Some s) = put_of s.kind s.text
put_by None = None

-- Two digits, each after a blank, with the count between them, and then this text. (own)
pub data IsCounted (count : ℕ) (text : List ℕ) : List ℕ → Type 0 where
  counted : (least most : ℕ) → least ≤ count → count ≤ most → most ≤ 9 → IsCounted count text (32 ∷ (48 + least) ∷ 32 ∷ (48 + most) ∷ text)

-- A row about calls of this name with so many arguments: the name, the least and the largest number of arguments, and this
-- text. (own)
pub data IsRow (name : List ℕ) (count : ℕ) (text : List ℕ) : List ℕ → Type 0 where
  row : (rest : List ℕ) → IsCounted count text rest → IsRow name count text (name ++ rest)

-- One of these lines is such a row. (own)
pub record IsAmong (lines : List (List ℕ)) (name : List ℕ) (count : ℕ) (text : List ℕ) : Type 0 where
  pub line : List ℕ
  pub is_there : Contains lines line
  pub is_row : IsRow name count text line

-- The idiom of a macro of this name is exact for so many arguments. (own)
unfoldable pub IsExact : List ℕ → ℕ → Type 0
IsExact name count = IsAmong (parts 10 EXACT.now) name count []

-- The idiom of a macro of this name is written for so many arguments, though it differs from the macro: the text, which begins
-- with a blank, says in what. (own)
unfoldable pub Differs : List ℕ → ℕ → List ℕ → Type 0
Differs name count said = IsAmong (parts 10 DIFFERING.now) name count said
