-- What the arguments that are kept of a command line give.
use Rattle.std.specs.Prelude.{◌≢◌, ℕ, List, [], ◌∷◌}
use Rattle.options_line.specs.CommandLine.{Setting, Choice, Switched, GivesSettings}
use Rattle.options_line.specs.Kept.{kept_args}
use Rattle.options_line.specs.declared.argument.Switch.TheVariants.{NoCreate}

-- The setting of an argument of this number. (own)
abbrev pub placed : ℕ → Setting → Setting
placed i (Choice place kind name value option) = Choice i kind name value option
placed i setting = setting

-- The second settings are the first ones without `--no-create`, whatever the numbers of their arguments. (own)
pub data AreKept : List Setting → List Setting → Type 0 where
  no_more : AreKept [] []
  left_out : {settings kept : List Setting} → AreKept settings kept → AreKept (Switched NoCreate ∷ settings) kept
  one_more : {setting : Setting} {settings kept : List Setting} → (i : ℕ) → setting ≢ Switched NoCreate → AreKept settings kept
      → AreKept (setting ∷ settings) (placed i setting ∷ kept)

-- What is kept of arguments, after j others, gives what is kept of their settings. (own)
pub record GivesKept (j : ℕ) (arguments : List (List ℕ)) (settings : List Setting) : Type 0 where
  pub kept : List Setting
  pub gives : GivesSettings j (kept_args arguments) kept
  pub are : AreKept settings kept
