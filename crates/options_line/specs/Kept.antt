-- What the record of a run keeps of the arguments of a command line, whether or not they are right. (own)
use Rattle.std.specs.Prelude.{ℕ, Bool, true, false, List, [], ◌∷◌, ◌++◌, Option, Some, None, if◌then◌else◌}
use Rattle.options_line.specs.Arguments.{Argument, Flag, awaited_after, read_argument}
use Rattle.options_line.specs.CommandLine.{IsSwitch}
use Rattle.options_line.specs.Parts.{ArgumentPart, Word, Valued, AreParts}
use Rattle.options_line.specs.declared.argument.Target.{Target}
use Rattle.options_line.specs.declared.argument.Switch.TheVariants.{NoCreate}

-- ---- as a rule

-- What is kept of these parts: all but the words `-n` and `--no-create`; an option's value is always kept. (own)
pub data KeptParts : List ArgumentPart → List (List ℕ) → Type 0 where
  no_more : KeptParts [] []
  left_out : {word : List ℕ} {parts : List ArgumentPart} {kept : List (List ℕ)} → IsSwitch word NoCreate → KeptParts parts kept
      → KeptParts (Word word ∷ parts) kept
  word : {word : List ℕ} {parts : List ArgumentPart} {kept : List (List ℕ)} → ¬ (IsSwitch word NoCreate) → KeptParts parts kept
      → KeptParts (Word word ∷ parts) (word ∷ kept)
  valued : {option value : List ℕ} {target : Target} {parts : List ArgumentPart} {kept : List (List ℕ)} → KeptParts parts kept
      → KeptParts (Valued option target value ∷ parts) (option ∷ value ∷ kept)

-- This is what is kept of the arguments. (own)
pub record IsKept (arguments kept : List (List ℕ)) : Type 0 where
  pub parts : List ArgumentPart
  pub are_parts : AreParts arguments parts
  pub are_kept : KeptParts parts kept

-- ---- as a function

-- The reading is that of `-n` or `--no-create`. (own)
abbrev pub is_no_create : Argument → Bool
is_no_create (Flag NoCreate) = true
is_no_create other = false

-- The argument, which may be the value of the option before it, is left out. (own)
abbrev pub is_left_out : Option Target → List ℕ → Bool
is_left_out (Some target) argument = false
is_left_out None argument = is_no_create (read_argument argument)

-- What is kept of an argument that may be the value of the option before it. (own)
abbrev pub kept_of : Option Target → List ℕ → List (List ℕ)
kept_of awaited argument = if is_left_out awaited argument then [] else argument ∷ []

-- What is kept of these arguments, the first of which may be the value of the option before it. (own)
unfoldable pub kept_from : Option Target → List (List ℕ) → List (List ℕ)
kept_from awaited [] = []
kept_from awaited (argument ∷ more) = kept_of awaited argument ++ kept_from (awaited_after awaited argument) more

-- What is kept of the arguments. (own)
abbrev pub kept_args : List (List ℕ) → List (List ℕ)
kept_args arguments = kept_from None arguments
