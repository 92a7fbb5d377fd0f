-- The statement of a question and its cases.
use Rattle.std.proofs.Common.{◌≡◌, ℕ, false, List, [], ◌∷◌, length, Option, refl}
use Rattle.std.specs.Prelude.{◌==◌}
use Rattle.shellword.specs.declared.part.Part.{Part}
use Rattle.ac_tree.specs.declared.declarations.Declarations as declarations
use Rattle.ac_tree.specs.declared.listed.Listed.{Listed}
use Rattle.ac_tree.specs.declared.listed.Sought.TheVariants.{ListEntry, «Type»}
use Rattle.ac_tree.specs.declared.statement.Declares.{Declares}
use Rattle.ac_tree.specs.declared.statement.Effect.TheVariants.{Batch}
use Rattle.ac_tree.specs.declared.statement.Question.{Question}
use Rattle.ac_tree.specs.declared.statement.Question.TheVariants.{ChecksEach}
use Rattle.ac_tree.specs.declared.tree.Case as case
use Rattle.ac_tree.specs.declared.tree.Subject.TheVariants.{Asked}
use Rattle.ac_tree.specs.Lists.{after, after_all, after_cases}
use Rattle.ac_tree.specs.Script.{Script, Done, Then, Choice, Cases, No_case, Case, cases_of}
use Rattle.acparse.specs.Asked.{asked_by}

-- It is a batch without cases, or a choice.
pub asked_one : (P : Cases → Script → Type 0) (d : Declares) (q : Question) (cases : Cases)
    → ((listed : Listed) (entries : List (List ℕ)) (includes : Option (List Part)) → P No_case (Then d (Batch listed entries includes) Done))
    → ((q : Question) → P cases (Choice d (Asked q) cases Done)) → P cases (asked_by d q cases)
asked_one P d (ChecksEach (ListEntry listed) entries includes) No_case batch choice = batch listed entries includes
asked_one P d (ChecksEach (ListEntry listed) entries includes) (Case when body more) batch choice = choice _
asked_one P d (ChecksEach «Type» entries includes) cases batch choice = choice _
asked_one P d q cases batch choice = choice _

-- It declares what the macro and the cases do.
pub asked_known : (c : declarations.Declarations) (d : Declares) (q : Question) (cases : Cases) → after_all c (asked_by d q cases) ≡ after_cases (after c d) cases
asked_known c d q cases = asked_one (λ cases s. after_all c s ≡ after_cases (after c d) cases) d q cases (λ listed entries includes. refl) (λ q. refl)

-- With a case, a list is a choice.
pub asked_some : (d : Declares) (listed : Listed) (entries : List (List ℕ)) (includes : Option (List Part)) (cases : List case.Case) → (length cases == 0) ≡ false
    → asked_by d (ChecksEach (ListEntry listed) entries includes) (cases_of cases) ≡ Choice d (Asked (ChecksEach (ListEntry listed) entries includes)) (cases_of cases) Done
asked_some d listed entries includes [] e = absurd cc
asked_some d listed entries includes (k ∷ more) e = refl
