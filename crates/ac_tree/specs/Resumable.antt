-- Sources that can be resumed: if a run is cut, and is started again with the cache that it saved, it ends as an uncut run
-- does (own). Three rules make a source resumable. A program is tried only in the commands of AC_CACHE_CHECK. No cache name
-- is assigned, except in the commands of the AC_CACHE_CHECK of that name. A cache name is read only after a test of it, in
-- the same list of statements or in one around it.
use Rattle.std.specs.Prelude.{◌≡◌, ℕ, Bool, true, false, List, [], ◌∷◌, ◌++◌, ◌⊎◌, Option, Some, None}
use Rattle.deftable.specs.CacheName.{is_cache_name}
use Rattle.shellword.specs.declared.element.Condition.{Condition}
use Rattle.shellword.specs.declared.element.Condition.TheVariants as conditions
use Rattle.shellword.specs.declared.part.Part.{Part}
use Rattle.shellword.specs.declared.part.Part.TheVariants as parts
use Rattle.shellword.specs.Truth.{Joined, single, joined}
use Rattle.ac_tree.specs.declared.tree.Subject.{Subject}
use Rattle.ac_tree.specs.declared.tree.Subject.TheVariants.{Nothing, Word, Asked}
use Rattle.ac_tree.specs.declared.tree.When.{When}
use Rattle.ac_tree.specs.declared.tree.When.TheVariants.{Holds, Matches, Yes, No, Always}
use Rattle.ac_tree.specs.Script.{Script, Done, Then, Choice, Check, Cases, No_case, Case}
use Rattle.ac_tree.specs.Uses.{Uses, uses_of, uses_asked}

-- ---- what is read

-- The name is one of these. (own)
abbrev pub Among : List ℕ → List (List ℕ) → Type 0
Among name [] = ⊥
Among name (first ∷ more) = (first ≡ name) ⊎ Among name more

-- The name is no cache name. (Autoconf's manual, "Cache Variable Names")
abbrev pub IsOrdinary : List ℕ → Type 0
IsOrdinary name = is_cache_name name ≡ false

-- A name that may be read after tests of these names: no cache name, or one of these. (own)
abbrev pub MayRead : List (List ℕ) → List ℕ → Type 0
MayRead tested name = IsOrdinary name ⊎ Among name tested

-- Each variable of a text may be read. (own)
abbrev pub ReadsText : List (List ℕ) → List Part → Type 0
ReadsText tested [] = Unit {0}
ReadsText tested (parts.Plain b ∷ more) = ReadsText tested more
ReadsText tested (parts.Quoted b ∷ more) = ReadsText tested more
ReadsText tested (parts.Variable name ∷ more) = MayRead tested name × ReadsText tested more

-- Each variable of each text may be read. (own)
abbrev pub ReadsAll : List (List ℕ) → List (List Part) → Type 0
ReadsAll tested [] = Unit {0}
ReadsAll tested (text ∷ more) = ReadsText tested text × ReadsAll tested more

-- Each variable of a condition may be read. (own)
abbrev pub ReadsCondition : List (List ℕ) → Condition → Type 0
ReadsCondition tested conditions.True = Unit {0}
ReadsCondition tested conditions.False = Unit {0}
ReadsCondition tested (conditions.Nonempty word) = ReadsText tested word
ReadsCondition tested (conditions.Empty word) = ReadsText tested word
ReadsCondition tested (conditions.Equal left right) = ReadsText tested left × ReadsText tested right
ReadsCondition tested (conditions.Different left right) = ReadsText tested left × ReadsText tested right

-- Each variable of a shell test may be read. (own)
abbrev pub ReadsTest : List (List ℕ) → Joined → Type 0
ReadsTest tested (single element) = ReadsCondition tested element.condition
ReadsTest tested (joined left joint element) = ReadsTest tested left × ReadsCondition tested element.condition

-- Each variable that decides about a case may be read; patterns have none. (own)
abbrev pub ReadsWhen : List (List ℕ) → When → Type 0
ReadsWhen tested (Holds test) = ReadsTest tested test
ReadsWhen tested (Matches patterns) = Unit {0}
ReadsWhen tested Yes = Unit {0}
ReadsWhen tested No = Unit {0}
ReadsWhen tested Always = Unit {0}

-- ---- what is tested

-- The names that the subject of a choice tests, in order. (own)
abbrev pub tests_at : Subject → List (List ℕ)
tests_at Nothing = []
tests_at (Word word) = []
tests_at (Asked question) = (uses_asked question).tests

-- The first name alone. The actions of a list of entries run after each entry, so there only the first is sure to have
-- been tested. (Autoconf's manual, "Generic Headers" to "Generic Types")
abbrev pub first_alone : List (List ℕ) → List (List ℕ)
first_alone [] = []
first_alone (name ∷ more) = name ∷ []

-- ---- the three rules; `own` is the name of the AC_CACHE_CHECK whose commands the statements are, if they are commands, and
-- `tested` are the names that were tested before

-- The statement is a command of AC_CACHE_CHECK. (own)
abbrev pub IsCommand : Option (List ℕ) → Type 0
IsCommand None = ⊥
IsCommand (Some own) = Unit {0}

-- The statement is a command of the AC_CACHE_CHECK of this name. (own)
abbrev pub IsCommandOf : List ℕ → Option (List ℕ) → Type 0
IsCommandOf name None = ⊥
IsCommandOf name (Some own) = own ≡ name

-- The name may be assigned. (own)
abbrev pub MayAssign : Option (List ℕ) → List ℕ → Type 0
MayAssign own name = IsOrdinary name ⊎ IsCommandOf name own

-- The name may be assigned, if there is one. (own)
abbrev pub MayAssignIfAny : Option (List ℕ) → Option (List ℕ) → Type 0
MayAssignIfAny own None = Unit {0}
MayAssignIfAny own (Some name) = MayAssign own name

-- A program that is tried is tried by a command. (own)
abbrev pub MayTry : Option (List ℕ) → Bool → Type 0
MayTry own false = Unit {0}
MayTry own true = IsCommand own

-- What is used keeps the rules. What a test reads beside its name is read before it. (own)
abbrev pub MayUse : Option (List ℕ) → List (List ℕ) → Uses → Type 0
MayUse own tested uses = MayTry own uses.tries × (MayAssignIfAny own uses.assigns × ReadsAll tested uses.reads)

-- The subject of a choice keeps the rules. (own)
abbrev pub ResumableSubject : Option (List ℕ) → List (List ℕ) → Subject → Type 0
ResumableSubject own tested Nothing = Unit {0}
ResumableSubject own tested (Word word) = ReadsText tested word
ResumableSubject own tested (Asked question) = MayUse own tested (uses_asked question)

abbrev mutual
  -- Statements keep the rules. What the subject of a choice tests counts in its cases, of a list the first entry alone; what
  -- a case tests counts in that case alone. (own)
  pub Resumable : Option (List ℕ) → List (List ℕ) → Script → Type 0
  Resumable own tested Done = Unit {0}
  Resumable own tested (Then declares effect rest) =
      MayUse own tested (uses_of declares effect) × Resumable own ((uses_of declares effect).tests ++ tested) rest
  Resumable own tested (Choice declares subject cases rest) =
      ResumableSubject own tested subject
      × (ResumableIn own (first_alone (tests_at subject) ++ tested) cases × Resumable own (tests_at subject ++ tested) rest)
  Resumable own tested (Check message name commands rest) =
      ReadsText tested message × (Resumable (Some name) tested commands × Resumable own (name ∷ tested) rest)

  -- The statements of all cases keep the rules. (own)
  pub ResumableIn : Option (List ℕ) → List (List ℕ) → Cases → Type 0
  ResumableIn own tested No_case = Unit {0}
  ResumableIn own tested (Case when body more) =
      ReadsWhen tested when × (Resumable own tested body × ResumableIn own tested more)

-- The statements of a source keep the rules. (own)
abbrev pub IsResumable : Script → Type 0
IsResumable script = Resumable None [] script
