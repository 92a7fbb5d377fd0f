-- Every jump of a plan goes forward and stays inside, and how many jobs a plan may ask for.
use Rattle.std.specs.Prelude.{ℕ, zero, suc, ◌+◌, ◌≤◌, List, [], ◌∷◌, length}
use Rattle.ac_tree.specs.declared.listed.Sought as sought
use Rattle.ac_tree.specs.declared.listed.Sought.TheVariants.{ListEntry, «Type»}
use Rattle.ac_tree.specs.declared.statement.Effect.{Effect}
use Rattle.ac_tree.specs.declared.statement.Effect.TheVariants.{Search, Batch}
use Rattle.ac_tree.specs.declared.statement.Question.TheVariants.{Given, Tries, Checks, ChecksEach, Library, Libraries}
use Rattle.ac_tree.specs.declared.program.Try as kinds
use Rattle.ac_tree.specs.declared.program.Try.TheVariants.{Compile, Link, Preproc, Run}
use Rattle.ac_tree.specs.declared.tree.Subject as subject
use Rattle.ac_tree.specs.declared.tree.Subject.TheVariants.{Nothing, Word, Asked}
use Rattle.plan.specs.Walk.{Instruction, Does, Looks, Defaults, Begins, Skips_unless, Skips, Opens, Closes}

-- How many steps a step may pass. (own)
abbrev pub reach : Instruction → ℕ
reach (Does effect) = 0
reach (Looks variable program always) = 0
reach (Defaults variable value) = 0
reach (Begins subject) = 0
reach (Skips_unless when steps) = steps
reach (Skips steps) = steps
reach (Opens message name steps) = steps
reach (Closes name) = 0

-- No step passes more steps than there are after it. (own)
abbrev pub StaysInside : List Instruction → Type 0
StaysInside [] = Unit {0}
StaysInside (i ∷ rest) = (reach i ≤ length rest) × StaysInside rest

-- How many directories a search may try. (own)
abbrev pub most_directories : ℕ
most_directories = 65536

-- How many jobs an effect may ask for in its own step. (own)
abbrev pub asks_by : Effect → ℕ
asks_by (Search variable program value otherwise) = most_directories
asks_by (Batch listed entries includes) = length entries
asks_by effect = 0

-- How many jobs a try may ask for. (own)
abbrev pub asks_to_try : kinds.Try → ℕ
asks_to_try Compile = 1
asks_to_try Link = 1
asks_to_try Preproc = 1
asks_to_try Run = 2

-- How many jobs the test of an entry may ask for. (own)
abbrev pub asks_to_find : sought.Sought → ℕ
asks_to_find (ListEntry listed) = 1
asks_to_find «Type» = 2

-- How many jobs the beginning of a choice may ask for; of a list, the first entry alone is tested. A search for libraries
-- links with no further one, and then with each. (own)
abbrev pub asks_about : subject.Subject → ℕ
asks_about Nothing = 0
asks_about (Word word) = 0
asks_about (Asked (Given kind variable)) = 0
asks_about (Asked (Tries kind program)) = asks_to_try kind
asks_about (Asked (Checks sought entry includes)) = asks_to_find sought
asks_about (Asked (ChecksEach sought entries includes)) = asks_to_find sought
asks_about (Asked (Library library function others adds)) = 1
asks_about (Asked (Libraries function libraries others)) = 1 + length libraries

-- How many jobs a step may ask for. (own)
abbrev pub asks_of : Instruction → ℕ
asks_of (Does effect) = asks_by effect
asks_of (Looks variable program always) = most_directories
asks_of (Defaults variable value) = 0
asks_of (Begins subject) = asks_about subject
asks_of (Skips_unless when steps) = 0
asks_of (Skips steps) = 0
asks_of (Opens message name steps) = 0
asks_of (Closes name) = 0

-- How many jobs a plan may ask for, after n steps are passed. (own)
abbrev pub asks_after : List Instruction → ℕ → ℕ
asks_after [] n = 0
asks_after (i ∷ rest) (suc n) = asks_after rest n
asks_after (i ∷ rest) zero = asks_of i + asks_after rest 0

-- Each step of a plan asks for at most 65,536 jobs. (own)
abbrev pub AskFew : List Instruction → Type 0
AskFew [] = Unit {0}
AskFew (i ∷ rest) = (asks_of i ≤ 65536) × AskFew rest

-- A step that tests the entries of a list at once has at most 256. (own)
abbrev pub IsShort : Instruction → Type 0
IsShort (Does (Batch listed entries includes)) = length entries ≤ 256
IsShort _ = Unit {0}

-- So has each step of a plan. (own)
abbrev pub AreShort : List Instruction → Type 0
AreShort [] = Unit {0}
AreShort (i ∷ rest) = IsShort i × AreShort rest
