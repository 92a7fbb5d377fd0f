-- The weight of a list of statements.
use Rattle.std.specs.Prelude.{ℕ, zero, suc, ◌+◌, length}
use Rattle.ac_tree.specs.declared.statement.Effect.{Effect}
use Rattle.ac_tree.specs.declared.statement.Effect.TheVariants.{Searches, Batch}
use Rattle.ac_tree.specs.declared.statement.Question.TheVariants.{Given, Tries, Checks, ChecksEach, Library, Libraries}
use Rattle.ac_tree.specs.declared.tree.Subject as subject
use Rattle.ac_tree.specs.declared.tree.Subject.TheVariants.{Nothing, Word, Asked}
use Rattle.ac_tree.specs.Script.{Script, Done, Then, Choice, Check, Cases, No_case, Case}
use Rattle.meaning.specs.Meaning.{rounds_of}

-- The number of entries of an effect's list: programs, or what is tested at once. (own)
abbrev pub entries_of : Effect → ℕ
entries_of (Searches variable programs otherwise) = length programs
entries_of (Batch listed entries includes) = length entries
entries_of effect = 0

-- The number of entries of a choice's list: what is tested in turn, or libraries. (own)
abbrev pub entries_asked : subject.Subject → ℕ
entries_asked Nothing = 0
entries_asked (Word word) = 0
entries_asked (Asked (Given kind variable)) = 0
entries_asked (Asked (Tries kind program)) = 0
entries_asked (Asked (Checks sought entry includes)) = 0
entries_asked (Asked (ChecksEach sought entries includes)) = length entries
entries_asked (Asked (Library library function others adds)) = 0
entries_asked (Asked (Libraries function libraries others)) = length libraries

-- A weight so many times. (own)
abbrev pub times : ℕ → ℕ → ℕ
times zero w = 0
times (suc n) w = w + times n w

abbrev mutual
  -- Each statement weighs 1, inside a case too, and each entry of a list 1 more. The cases of a choice weigh as much in
  -- each round. (own)
  pub weight : Script → ℕ
  weight Done = 0
  weight (Then declares effect rest) = 1 + (entries_of effect + weight rest)
  weight (Choice declares subject cases rest) = 1 + (entries_asked subject + (times (length (rounds_of subject)) (weight_of_cases cases) + weight rest))
  weight (Check message name commands rest) = 1 + (weight commands + weight rest)

  -- Each case of a choice weighs 1 more than its statements, a default too. (own)
  pub weight_of_cases : Cases → ℕ
  weight_of_cases No_case = 0
  weight_of_cases (Case when body more) = 1 + (weight body + weight_of_cases more)

-- The greatest weight of a source that has a plan. (own)
abbrev pub heaviest : ℕ
heaviest = 65535
