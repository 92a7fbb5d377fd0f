-- That the function which decides whether a source can be resumed answers what the rules say.
use Rattle.std.proofs.Common.{◌≡◌, ◌↔◌, ℕ, List, [], ◌∷◌, ◌++◌, Bool, true, false, ◌⊎◌, inl, inr, Option, Some, None, refl, sym, ap, ⊎_elim}
use Rattle.std.specs.Prelude.{◌&&◌, ◌||◌, not, is_some, bytes_eq}
use Rattle.std.proofs.lemmas.Slice.Eq.{bytes_eq-Decides}
use Rattle.std.proofs.lemmas.Bool.{and_parts, and_from, or_left, or_right}
use Rattle.deftable.specs.CacheName.{is_cache_name}
use Rattle.deftable.specs.NameList.{has_name}
use Rattle.shellword.specs.declared.element.Condition.{Condition}
use Rattle.shellword.specs.declared.element.Condition.TheVariants as conditions
use Rattle.shellword.specs.declared.part.Part.{Part}
use Rattle.shellword.specs.declared.part.Part.TheVariants as parts
use Rattle.shellword.specs.Truth.{Joined, single, joined}
use Rattle.ac_tree.specs.declared.tree.Subject.{Subject}
use Rattle.ac_tree.specs.declared.tree.Subject.TheVariants.{Nothing, Word, Asked}
use Rattle.ac_tree.specs.declared.tree.When.{When}
use Rattle.ac_tree.specs.declared.tree.When.TheVariants.{Holds, Matches, Yes, No, Always}
use Rattle.ac_tree.specs.Script.{Script, Done, Then, Choice, Check, Cases, No_case, Case}
use Rattle.ac_tree.specs.Resumable.{Among, IsOrdinary, MayRead, ReadsText, ReadsAll, ReadsCondition, ReadsTest, ReadsWhen, tests_at, first_alone, IsCommand, IsCommandOf, MayAssign, MayAssignIfAny, MayTry, MayUse, ResumableSubject, Resumable, ResumableIn}
use Rattle.ac_tree.specs.Decide.{may_read, reads_text, reads_all, reads_condition, reads_test, reads_when, is_command_of, may_assign, may_assign_if_any, may_try, may_use, resumable_subject, resumable, resumable_in}
use Rattle.ac_tree.specs.Uses.{Uses, uses_of, uses_asked}

-- The test answers true exactly if this holds.
abbrev Decides : Bool → Type 0 → Type 0
Decides b P = (b ≡ true) ↔ P

or_true : (a b : Bool) → a || b ≡ true → (a ≡ true) ⊎ (b ≡ true)
or_true true b e = inl refl
or_true false b e = inr e

not_true : (a : Bool) → not a ≡ true → a ≡ false
not_true true e = cc
not_true false e = refl

both : (a b : Bool) (P Q : Type 0) → Decides a P → Decides b Q → Decides (a && b) (P × Q)
both a b P Q x y = (λ e. let h = and_parts a b e in (x.0 h.0, y.0 h.1), λ p. and_from a b (x.1 p.0) (y.1 p.1))

either : (a b : Bool) (P Q : Type 0) → Decides a P → Decides b Q → Decides (a || b) (P ⊎ Q)
either a b P Q x y = (
  λ e. ⊎_elim (λ h. inl (x.0 h)) (λ h. inr (y.0 h)) (or_true a b e),
  λ p. ⊎_elim (λ h. or_left a b (x.1 h)) (λ h. or_right a b (y.1 h)) p,
)

always : Decides true (Unit {0})
always = (λ e. tt, λ p. refl)

never : Decides false ⊥
never = (λ e. cc, λ p. absurd p)

ordinary : (name : List ℕ) → Decides (not (is_cache_name name)) (IsOrdinary name)
ordinary name = (not_true (is_cache_name name), λ e. ap not e)

same_name : (a b : List ℕ) → Decides (bytes_eq a b) (a ≡ b)
same_name a b = ((bytes_eq-Decides a b).0, (bytes_eq-Decides a b).1)

-- The same, with its sides exchanged.
turned : (a b : List ℕ) → Decides (bytes_eq a b) (b ≡ a)
turned a b = (λ e. sym ((bytes_eq-Decides a b).0 e), λ e. (bytes_eq-Decides a b).1 (sym e))

among : (name : List ℕ) (names : List (List ℕ)) → Decides (has_name names name) (Among name names)
unfolding has_name
among name [] = never
among name (first ∷ more) = either (bytes_eq name first) (has_name more name) (first ≡ name) (Among name more) (turned name first) (among name more)

read : (tested : List (List ℕ)) (name : List ℕ) → Decides (may_read tested name) (MayRead tested name)
read tested name = either (not (is_cache_name name)) (has_name tested name) (IsOrdinary name) (Among name tested) (ordinary name) (among name tested)

text_read : (tested : List (List ℕ)) (text : List Part) → Decides (reads_text tested text) (ReadsText tested text)
text_read tested [] = always
text_read tested (parts.Plain b ∷ more) = text_read tested more
text_read tested (parts.Quoted b ∷ more) = text_read tested more
text_read tested (parts.Variable name ∷ more) =
    both (may_read tested name) (reads_text tested more) (MayRead tested name) (ReadsText tested more) (read tested name) (text_read tested more)

all_read : (tested : List (List ℕ)) (texts : List (List Part)) → Decides (reads_all tested texts) (ReadsAll tested texts)
all_read tested [] = always
all_read tested (text ∷ more) = both (reads_text tested text) (reads_all tested more) (ReadsText tested text) (ReadsAll tested more) (text_read tested text) (all_read tested more)

two_read : (tested : List (List ℕ)) (a b : List Part) → Decides (reads_text tested a && reads_text tested b) (ReadsText tested a × ReadsText tested b)
two_read tested a b = both (reads_text tested a) (reads_text tested b) (ReadsText tested a) (ReadsText tested b) (text_read tested a) (text_read tested b)

condition_read : (tested : List (List ℕ)) (c : Condition) → Decides (reads_condition tested c) (ReadsCondition tested c)
condition_read tested conditions.True = always
condition_read tested conditions.False = always
condition_read tested (conditions.Nonempty word) = text_read tested word
condition_read tested (conditions.Empty word) = text_read tested word
condition_read tested (conditions.Equal left right) = two_read tested left right
condition_read tested (conditions.Different left right) = two_read tested left right

test_read : (tested : List (List ℕ)) (test : Joined) → Decides (reads_test tested test) (ReadsTest tested test)
test_read tested (single element) = condition_read tested element.condition
test_read tested (joined left joint element) =
    both (reads_test tested left) (reads_condition tested element.condition) (ReadsTest tested left) (ReadsCondition tested element.condition)
    (test_read tested left) (condition_read tested element.condition)

when_read : (tested : List (List ℕ)) (when : When) → Decides (reads_when tested when) (ReadsWhen tested when)
when_read tested (Holds test) = test_read tested test
when_read tested (Matches patterns) = always
when_read tested Yes = always
when_read tested No = always
when_read tested Always = always

command : (own : Option (List ℕ)) → Decides (is_some own) (IsCommand own)
command None = never
command (Some own) = always

command_of : (name : List ℕ) (own : Option (List ℕ)) → Decides (is_command_of name own) (IsCommandOf name own)
command_of name None = never
command_of name (Some own) = same_name own name

assigned : (own : Option (List ℕ)) (name : List ℕ) → Decides (may_assign own name) (MayAssign own name)
assigned own name =
    either (not (is_cache_name name)) (is_command_of name own) (IsOrdinary name) (IsCommandOf name own) (ordinary name) (command_of name own)

any_assigned : (own name : Option (List ℕ)) → Decides (may_assign_if_any own name) (MayAssignIfAny own name)
any_assigned own None = always
any_assigned own (Some name) = assigned own name

tried : (own : Option (List ℕ)) (tries : Bool) → Decides (may_try own tries) (MayTry own tries)
tried own false = always
tried own true = command own

use_decided : (own : Option (List ℕ)) (tested : List (List ℕ)) (u : Uses) → Decides (may_use own tested u) (MayUse own tested u)
use_decided own tested u =
    both (may_try own u.tries) (may_assign_if_any own u.assigns && reads_all tested u.reads) (MayTry own u.tries) (MayAssignIfAny own u.assigns × ReadsAll tested u.reads)
    (tried own u.tries)
    (both (may_assign_if_any own u.assigns) (reads_all tested u.reads) (MayAssignIfAny own u.assigns) (ReadsAll tested u.reads) (any_assigned own u.assigns) (all_read tested u.reads))

subject_decided : (own : Option (List ℕ)) (tested : List (List ℕ)) (s : Subject) → Decides (resumable_subject own tested s) (ResumableSubject own tested s)
subject_decided own tested Nothing = always
subject_decided own tested (Word word) = text_read tested word
subject_decided own tested (Asked q) = use_decided own tested (uses_asked q)

mutual
  pub script_decided : (own : Option (List ℕ)) (tested : List (List ℕ)) (s : Script) → Decides (resumable own tested s) (Resumable own tested s)
  script_decided own tested Done = always
  script_decided own tested (Then d e rest) =
      let u = uses_of d e in
      both (may_use own tested u) (resumable own (u.tests ++ tested) rest) (MayUse own tested u) (Resumable own (u.tests ++ tested) rest)
      (use_decided own tested u) (script_decided own (u.tests ++ tested) rest)
  script_decided own tested (Choice d subject cases rest) =
      let inside = first_alone (tests_at subject) ++ tested in
      let later = tests_at subject ++ tested in
      both (resumable_subject own tested subject) (resumable_in own inside cases && resumable own later rest)
      (ResumableSubject own tested subject) (ResumableIn own inside cases × Resumable own later rest) (subject_decided own tested subject)
      (both (resumable_in own inside cases) (resumable own later rest) (ResumableIn own inside cases) (Resumable own later rest)
      (cases_decided own inside cases) (script_decided own later rest))
  script_decided own tested (Check message name commands rest) =
      both (reads_text tested message) (resumable (Some name) tested commands && resumable own (name ∷ tested) rest)
      (ReadsText tested message) (Resumable (Some name) tested commands × Resumable own (name ∷ tested) rest) (text_read tested message)
      (both (resumable (Some name) tested commands) (resumable own (name ∷ tested) rest)
      (Resumable (Some name) tested commands) (Resumable own (name ∷ tested) rest)
      (script_decided (Some name) tested commands) (script_decided own (name ∷ tested) rest))

  cases_decided : (own : Option (List ℕ)) (tested : List (List ℕ)) (s : Cases) → Decides (resumable_in own tested s) (ResumableIn own tested s)
  cases_decided own tested No_case = always
  cases_decided own tested (Case when body more) =
      both (reads_when tested when) (resumable own tested body && resumable_in own tested more)
      (ReadsWhen tested when) (Resumable own tested body × ResumableIn own tested more) (when_read tested when)
      (both (resumable own tested body) (resumable_in own tested more) (Resumable own tested body) (ResumableIn own tested more)
      (script_decided own tested body) (cases_decided own tested more))
