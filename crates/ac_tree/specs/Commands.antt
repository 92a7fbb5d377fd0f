-- What the commands of AC_CACHE_CHECK hold: statements that find the value of its name, and do nothing else. All of this
-- is own.
use Rattle.std.specs.Prelude.{◌≡◌, ℕ, true, List}
use Rattle.deftable.specs.CacheName.{is_cache_name}
use Rattle.ac_tree.specs.declared.statement.Declares.{Declares}
use Rattle.ac_tree.specs.declared.statement.Declares.TheVariants as declares
use Rattle.ac_tree.specs.declared.statement.Effect.{Effect}
use Rattle.ac_tree.specs.declared.statement.Effect.TheVariants.{Assign}
use Rattle.ac_tree.specs.declared.statement.Question.TheVariants.{Given, Tries, Checks, ChecksEach, Library, Libraries}
use Rattle.ac_tree.specs.declared.tree.Subject.{Subject}
use Rattle.ac_tree.specs.declared.tree.Subject.TheVariants.{Nothing, Word, Asked}
use Rattle.ac_tree.specs.Script.{Script, Done, Then, Choice, Check, Cases, No_case, Case}

-- The statement declares nothing.
abbrev pub DeclaresNothing : Declares → Type 0
DeclaresNothing declares.Nothing = Unit {0}
DeclaresNothing _ = ⊥

-- The statement is an assignment to this name.
abbrev pub AssignsAlone : List ℕ → Effect → Type 0
AssignsAlone name (Assign variable value) = variable ≡ name
AssignsAlone name _ = ⊥

-- The choice asks no question, unless whether a program passes.
abbrev pub TriesAlone : Subject → Type 0
TriesAlone Nothing = Unit {0}
TriesAlone (Word word) = Unit {0}
TriesAlone (Asked (Tries kind program)) = Unit {0}
TriesAlone (Asked (Given kind variable)) = ⊥
TriesAlone (Asked (Checks sought entry includes)) = ⊥
TriesAlone (Asked (ChecksEach sought entries includes)) = ⊥
TriesAlone (Asked (Library library function others adds)) = ⊥
TriesAlone (Asked (Libraries function libraries others)) = ⊥

abbrev mutual
  -- The statements are commands that set this name: assignments to it, and choices that hold such commands. They declare
  -- nothing.
  pub AreCommands : List ℕ → Script → Type 0
  AreCommands name Done = Unit {0}
  AreCommands name (Then declares effect rest) = DeclaresNothing declares × (AssignsAlone name effect × AreCommands name rest)
  AreCommands name (Choice declares subject cases rest) =
      DeclaresNothing declares × (TriesAlone subject × (AreCommandsIn name cases × AreCommands name rest))
  AreCommands name (Check message other commands rest) = ⊥

  -- The statements of all cases are such commands.
  pub AreCommandsIn : List ℕ → Cases → Type 0
  AreCommandsIn name No_case = Unit {0}
  AreCommandsIn name (Case when body more) = AreCommands name body × AreCommandsIn name more

abbrev mutual
  -- Each AC_CACHE_CHECK among the statements has a cache name, and commands that set it.
  pub HasCommands : Script → Type 0
  HasCommands Done = Unit {0}
  HasCommands (Then declares effect rest) = HasCommands rest
  HasCommands (Choice declares subject cases rest) = HasCommandsIn cases × HasCommands rest
  HasCommands (Check message name commands rest) = (is_cache_name name ≡ true) × (AreCommands name commands × HasCommands rest)

  -- So has each among the statements of all cases.
  pub HasCommandsIn : Cases → Type 0
  HasCommandsIn No_case = Unit {0}
  HasCommandsIn (Case when body more) = HasCommands body × HasCommandsIn more
