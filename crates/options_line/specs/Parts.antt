-- How the arguments of a command line are cut into words and values, whether or not they are right. (Autoconf's manual,
-- "configure Invocation")
use Rattle.std.specs.Prelude.{ℕ, List, [], ◌∷◌}
use Rattle.options_line.specs.CommandLine.{IsOption}
use Rattle.options_line.specs.declared.argument.Target.{Target}

-- A part of a command line. (own)
pub data ArgumentPart : Type 0 where
  -- An argument by itself.
  Word : (word : List ℕ) → ArgumentPart
  -- An option, and the next argument as its value.
  Valued : (option : List ℕ) → (target : Target) → (value : List ℕ) → ArgumentPart

-- The arguments are these parts, from the left: an option without a `=` takes the next argument as its value, whatever that
-- is; each other argument, right or not, is a word, and so is such an option if it is the last argument. (Autoconf's manual,
-- "configure Invocation")
pub data AreParts : List (List ℕ) → List ArgumentPart → Type 0 where
  no_more : AreParts [] []
  one_word : {word : List ℕ} {more : List (List ℕ)} {parts : List ArgumentPart} → ((target : Target) → ¬ (IsOption word target))
      → AreParts more parts → AreParts (word ∷ more) (Word word ∷ parts)
  two_words : {option : List ℕ} {target : Target} {more : List (List ℕ)} {parts : List ArgumentPart} → IsOption option target → (value : List ℕ)
      → AreParts more parts → AreParts (option ∷ value ∷ more) (Valued option target value ∷ parts)
  no_value : {option : List ℕ} {target : Target} → IsOption option target → AreParts (option ∷ []) (Word option ∷ [])
