-- Whether a source can be resumed, as a function.
use Rattle.std.specs.Prelude.{◌≡◌, ◌↔◌, ◌&&◌, ◌||◌, not, ℕ, Bool, true, false, List, [], ◌∷◌, ◌++◌, Option, Some, None, is_some, bytes_eq}
use Rattle.deftable.specs.CacheName.{is_cache_name}
use Rattle.deftable.specs.NameList.{has_name}
use Rattle.shellword.specs.declared.element.Condition.{Condition}
use Rattle.shellword.specs.declared.element.Condition.TheVariants as conditions
use Rattle.shellword.specs.declared.part.Part.{Part}
use Rattle.shellword.specs.declared.part.Part.TheVariants as parts
use Rattle.shellword.specs.Truth.{Joined, single, joined}
use Rattle.ac_tree.specs.declared.tree.Subject.{Subject}
use Rattle.ac_tree.specs.declared.tree.Subject.TheVariants.{Nothing, Word, Asked}
use Rattle.ac_tree.specs.declared.tree.When.{When}
use Rattle.ac_tree.specs.declared.tree.When.TheVariants.{Holds, Matches, Yes, No, Always}
use Rattle.ac_tree.specs.Script.{Script, Done, Then, Choice, Check, Cases, No_case, Case}
use Rattle.ac_tree.specs.Resumable.{tests_at, first_alone, Resumable}
use Rattle.ac_tree.specs.Uses.{Uses, uses_of, uses_asked}

-- The name may be read after tests of these names. (own)
abbrev pub may_read : List (List ℕ) → List ℕ → Bool
may_read tested name = not (is_cache_name name) || has_name tested name

-- Each variable of a text may be read. (own)
abbrev pub reads_text : List (List ℕ) → List Part → Bool
reads_text tested [] = true
reads_text tested (parts.Plain b ∷ more) = reads_text tested more
reads_text tested (parts.Quoted b ∷ more) = reads_text tested more
reads_text tested (parts.Variable name ∷ more) = may_read tested name && reads_text tested more

-- Each variable of each text may be read. (own)
abbrev pub reads_all : List (List ℕ) → List (List Part) → Bool
reads_all tested [] = true
reads_all tested (text ∷ more) = reads_text tested text && reads_all tested more

-- Each variable of a condition may be read. (own)
abbrev pub reads_condition : List (List ℕ) → Condition → Bool
reads_condition tested conditions.True = true
reads_condition tested conditions.False = true
reads_condition tested (conditions.Nonempty word) = reads_text tested word
reads_condition tested (conditions.Empty word) = reads_text tested word
reads_condition tested (conditions.Equal left right) = reads_text tested left && reads_text tested right
reads_condition tested (conditions.Different left right) = reads_text tested left && reads_text tested right

-- Each variable of a shell test may be read. (own)
abbrev pub reads_test : List (List ℕ) → Joined → Bool
reads_test tested (single element) = reads_condition tested element.condition
reads_test tested (joined left joint element) = reads_test tested left && reads_condition tested element.condition

-- Each variable that decides about a case may be read. (own)
abbrev pub reads_when : List (List ℕ) → When → Bool
reads_when tested (Holds test) = reads_test tested test
reads_when tested (Matches patterns) = true
reads_when tested Yes = true
reads_when tested No = true
reads_when tested Always = true

-- The statement is a command of the AC_CACHE_CHECK of this name. (own)
abbrev pub is_command_of : List ℕ → Option (List ℕ) → Bool
is_command_of name None = false
is_command_of name (Some own) = bytes_eq own name

-- The name may be assigned. (own)
abbrev pub may_assign : Option (List ℕ) → List ℕ → Bool
may_assign own name = not (is_cache_name name) || is_command_of name own

-- The name may be assigned, if there is one. (own)
abbrev pub may_assign_if_any : Option (List ℕ) → Option (List ℕ) → Bool
may_assign_if_any own None = true
may_assign_if_any own (Some name) = may_assign own name

-- A program that is tried is tried by a command. (own)
abbrev pub may_try : Option (List ℕ) → Bool → Bool
may_try own false = true
may_try own true = is_some own

-- What is used keeps the rules of sources that can be resumed. (own)
abbrev pub may_use : Option (List ℕ) → List (List ℕ) → Uses → Bool
may_use own tested uses = may_try own uses.tries && (may_assign_if_any own uses.assigns && reads_all tested uses.reads)

-- The subject of a choice keeps them. (own)
abbrev pub resumable_subject : Option (List ℕ) → List (List ℕ) → Subject → Bool
resumable_subject own tested Nothing = true
resumable_subject own tested (Word word) = reads_text tested word
resumable_subject own tested (Asked question) = may_use own tested (uses_asked question)

abbrev mutual
  -- Statements keep them. (own)
  pub resumable : Option (List ℕ) → List (List ℕ) → Script → Bool
  resumable own tested Done = true
  resumable own tested (Then declares effect rest) =
      may_use own tested (uses_of declares effect) && resumable own ((uses_of declares effect).tests ++ tested) rest
  resumable own tested (Choice declares subject cases rest) =
      resumable_subject own tested subject
      && (resumable_in own (first_alone (tests_at subject) ++ tested) cases && resumable own (tests_at subject ++ tested) rest)
  resumable own tested (Check message name commands rest) =
      reads_text tested message && (resumable (Some name) tested commands && resumable own (name ∷ tested) rest)

  -- The statements of all cases keep them. (own)
  pub resumable_in : Option (List ℕ) → List (List ℕ) → Cases → Bool
  resumable_in own tested No_case = true
  resumable_in own tested (Case when body more) =
      reads_when tested when && (resumable own tested body && resumable_in own tested more)

-- The statements of a source keep them. (own)
abbrev pub is_resumable : Script → Bool
is_resumable script = resumable None [] script

-- The function answers true exactly for statements that keep the rules, whatever they are part of. (own)
abbrev pub ResumableIsDecided : Type 0
ResumableIsDecided = (own : Option (List ℕ)) (tested : List (List ℕ)) (script : Script)
    → (resumable own tested script ≡ true) ↔ Resumable own tested script
