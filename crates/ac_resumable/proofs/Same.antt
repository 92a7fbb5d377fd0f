-- Lists that have the same names decide the same.
use Rattle.std.proofs.Common.{◌≡◌, ℕ, List, [], ◌∷◌, ◌++◌, Bool, Option, Some, refl, sym, ap, ◌∙◌}
use Rattle.std.specs.Prelude.{◌&&◌, ◌||◌, not}
use Rattle.deftable.specs.CacheName.{is_cache_name}
use Rattle.deftable.specs.NameList.{has_name}
use Rattle.shellword.specs.declared.element.Condition.{Condition}
use Rattle.shellword.specs.declared.element.Condition.TheVariants as conditions
use Rattle.shellword.specs.declared.part.Part.{Part}
use Rattle.shellword.specs.declared.part.Part.TheVariants as parts
use Rattle.shellword.specs.Truth.{Joined, single, joined}
use Rattle.ac_tree.specs.declared.tree.Subject.{Subject}
use Rattle.ac_tree.specs.declared.tree.Subject.TheVariants.{Nothing, Word, Asked}
use Rattle.ac_tree.specs.declared.tree.When.{When}
use Rattle.ac_tree.specs.declared.tree.When.TheVariants.{Holds, Matches, Yes, No, Always}
use Rattle.ac_tree.specs.Script.{Script, Done, Then, Choice, Check, Cases, No_case, Case}
use Rattle.ac_tree.specs.Resumable.{tests_at, first_alone}
use Rattle.ac_tree.specs.Decide.{may_read, reads_text, reads_all, reads_condition, reads_test, reads_when, may_assign_if_any, may_try, may_use, resumable_subject, resumable, resumable_in}
use Rattle.ac_tree.specs.Uses.{Uses, uses_of, uses_asked}
use Rattle.ac_resumable.specs.Tested.{HasSameNames}
use Rattle.ac_resumable.proofs.NameLists.{has_joined}

both : (a b c d : Bool) → a ≡ c → b ≡ d → a && b ≡ c && d
both a b c d e f = cc

-- With the same names before them.
pub same_after : (names a b : List (List ℕ)) → HasSameNames a b → HasSameNames (names ++ a) (names ++ b)
same_after names a b h = λ q. has_joined names a q ∙ ap (λ c. has_name names q || c) (h q) ∙ sym (has_joined names b q)

module _ (a b : List (List ℕ)) (h : HasSameNames a b) where
  read : (name : List ℕ) → may_read a name ≡ may_read b name
  read name = ap (λ c. not (is_cache_name name) || c) (h name)

  text : (t : List Part) → reads_text a t ≡ reads_text b t
  text [] = refl
  text (parts.Plain x ∷ more) = text more
  text (parts.Quoted x ∷ more) = text more
  text (parts.Variable name ∷ more) = both _ _ _ _ (read name) (text more)

  texts : (ts : List (List Part)) → reads_all a ts ≡ reads_all b ts
  texts [] = refl
  texts (t ∷ more) = both _ _ _ _ (text t) (texts more)

  condition : (c : Condition) → reads_condition a c ≡ reads_condition b c
  condition conditions.True = refl
  condition conditions.False = refl
  condition (conditions.Nonempty w) = text w
  condition (conditions.Empty w) = text w
  condition (conditions.Equal v w) = both _ _ _ _ (text v) (text w)
  condition (conditions.Different v w) = both _ _ _ _ (text v) (text w)

  test : (t : Joined) → reads_test a t ≡ reads_test b t
  test (single element) = condition element.condition
  test (joined left joint element) = both _ _ _ _ (test left) (condition element.condition)

  when_same : (w : When) → reads_when a w ≡ reads_when b w
  when_same (Holds t) = test t
  when_same (Matches patterns) = refl
  when_same Yes = refl
  when_same No = refl
  when_same Always = refl

  after : (c x y : Bool) → x ≡ y → c && x ≡ c && y
  after c x y e = ap (λ z. c && z) e

  pub use_same : (own : Option (List ℕ)) (u : Uses) → may_use own a u ≡ may_use own b u
  use_same own u = after (may_try own u.tries) _ _ (after (may_assign_if_any own u.assigns) _ _ (texts u.reads))

  subject_same : (own : Option (List ℕ)) (s : Subject) → resumable_subject own a s ≡ resumable_subject own b s
  subject_same own Nothing = refl
  subject_same own (Word word) = text word
  subject_same own (Asked q) = use_same own (uses_asked q)

mutual
  pub script_same : (own : Option (List ℕ)) (a b : List (List ℕ)) → HasSameNames a b → (s : Script) → resumable own a s ≡ resumable own b s
  script_same own a b h Done = refl
  script_same own a b h (Then d e rest) =
      let u = uses_of d e in
      both _ _ _ _ (use_same a b h own u) (script_same own (u.tests ++ a) (u.tests ++ b) (same_after u.tests a b h) rest)
  script_same own a b h (Choice d subject cases rest) =
      let first = first_alone (tests_at subject) in
      let all = tests_at subject in
      both _ _ _ _ (subject_same a b h own subject)
      (both _ _ _ _ (cases_same own (first ++ a) (first ++ b) (same_after first a b h) cases) (script_same own (all ++ a) (all ++ b) (same_after all a b h) rest))
  script_same own a b h (Check message name commands rest) =
      both _ _ _ _ (text a b h message)
      (both _ _ _ _ (script_same (Some name) a b h commands) (script_same own (name ∷ a) (name ∷ b) (same_after (name ∷ []) a b h) rest))

  pub cases_same : (own : Option (List ℕ)) (a b : List (List ℕ)) → HasSameNames a b → (s : Cases) → resumable_in own a s ≡ resumable_in own b s
  cases_same own a b h No_case = refl
  cases_same own a b h (Case when body more) =
      both _ _ _ _ (when_same a b h when) (both _ _ _ _ (script_same own a b h body) (cases_same own a b h more))
