-- The values of words and here texts.
use Rattle.std.specs.Prelude.{ℕ, List, [], ◌∷◌, ◌++◌, Option, Some, None}
use Rattle.deftable.specs.Table.{value_of}
use Rattle.shellword.specs.declared.part.Part.{Part}
use Rattle.shellword.specs.declared.part.Part.TheVariants.{Plain, Quoted, Variable}

-- A value, or the empty text if there is none. (own)
abbrev pub or_empty : Option (List ℕ) → List ℕ
or_empty None = []
or_empty (Some value) = value

-- The value of a part. A byte is itself. A variable is its value, or empty if it is unset, and is neither split nor
-- read again. (POSIX shell, 2.6.2; that it is never split is own)
abbrev pub part_value : List (List ℕ × List ℕ) → Part → List ℕ
part_value vars (Plain b) = b ∷ []
part_value vars (Quoted b) = b ∷ []
part_value vars (Variable name) = or_empty (value_of vars name)

-- The values of the parts, joined. (POSIX shell, 2.6)
unfoldable pub word_value : List Part → List (List ℕ × List ℕ) → List ℕ
word_value [] vars = []
word_value (part ∷ parts) vars = part_value vars part ++ word_value parts vars
