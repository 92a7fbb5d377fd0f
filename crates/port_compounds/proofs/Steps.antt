-- What a reader has found if it succeeds.
use Rattle.std.proofs.Common.{◌≡◌, ◌∙◌, ap, sym, subst, ℕ, List, [], ◌∷◌, ◌++◌, map, Option, Some}
use Rattle.std.specs.Prelude.{IfSome, codes}
use Rattle.std.proofs.lemmas.List.{map_push}
use Rattle.m4quote.specs.ItemValue.{ItemValue}
use Rattle.m4quote.specs.Spelling.{IsSpelling}
use Rattle.port_compounds.specs.Cases as cases
use Rattle.port_compounds.specs.Guards as guards
use Rattle.port_compounds.specs.Ifs as ifs
use Rattle.port_parts.specs.Places.{IsWord}

-- The parts of a `case` begin with its word.
pub begun_with : {V : Type 0} (view : V → List ℕ) (text : List ℕ) (start end : ℕ) (old new : List V) (o : Option V) (word : V) → old ≡ [] → o ≡ Some word
    → new ≡ old ++ word ∷ [] → IfSome o (λ v. cases.IsHead text start end (view v)) → cases.AreBranches text start end (map view new)
begun_with view text start end old new o word none is pushed heads =
    subst (λ n. cases.AreBranches text start end (map view n)) (sym (pushed ∙ ap (λ x. x ++ word ∷ []) none))
    (cases.AreBranches.begun (subst (λ o. IfSome o (λ v. cases.IsHead text start end (view v))) is heads))

-- A text whose items are one command is one.
pub called_by : {V : Type 0} (view : V → List ItemValue) (text : List ℕ) (items given : V) → given ≡ items → IsSpelling 0 text (view items)
    → guards.AreOneCommand (view given) → guards.IsOneCommand text
called_by view text items given same reads are = guards.IsOneCommand.called (view items) reads (subst (λ i. guards.AreOneCommand (view i)) same are)

-- The parts of a statement after `&&`.
pub and_with : (text : List ℕ) (start end : ℕ) (test done : List ℕ) → guards.IsJoined text start (codes "&&") end test done
    → guards.AreGuardParts text start end (test ∷ done ∷ [])
and_with text start end test done is = guards.AreGuardParts.and is

-- The parts of a statement after `||`, with nothing between them.
pub or_with : (text : List ℕ) (start end : ℕ) (test empty done : List ℕ) → empty ≡ [] → guards.IsJoined text start (codes "||") end test done
    → guards.AreGuardParts text start end (test ∷ empty ∷ done ∷ [])
or_with text start end test empty done none is = subst (λ e. guards.AreGuardParts text start end (test ∷ e ∷ done ∷ [])) (sym none) (guards.AreGuardParts.or is)

-- What is said of a `Some` holds of what is in it.
pub of_some : {V : Type 0} (P : V → Type 0) (o : Option V) (v : V) → o ≡ Some v → IfSome o P → P v
of_some P o v is p = subst (λ o. IfSome o P) is p

-- The condition and the body of a branch.
pub branch_added : {V : Type 0} (view : V → List ℕ) (text : List ℕ) (start at after end : ℕ) (old mid new : List V) (test done : V)
    → ifs.IsCondition text start at (view test) → IsWord text at (codes "then") after → ifs.IsBody text after end (view done) → mid ≡ old ++ test ∷ [] → new ≡ mid ++ done ∷ []
    → ifs.AddsBranch text start end (map view old) (map view new)
branch_added view text start at after end old mid new test done tests word does one two =
    record {
      condition = view test;
      body = view done;
      branch = record { at_then = at; after_then = after; tests = tests; word = word; does = does };
      added = ap (map view) two ∙ map_push view mid done ∙ ap (λ m. m ++ view done ∷ []) (ap (map view) one ∙ map_push view old test);
    }
