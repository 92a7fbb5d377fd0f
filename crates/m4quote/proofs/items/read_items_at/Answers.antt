use Rattle.m4quote.specs.ItemValue.{views}
use Rattle.m4quote.specs.Spelling.{IsSpelling}
use Rattle.m4quote.specs.Parts.{ArePartsOf}
use Rattle.m4quote.specs.Faults.{IsFirstFault}
use Rattle.m4quote.specs.Gives.{Fails}
use Rattle.m4quote.specs.Scan.{outcome}
use Rattle.m4quote.proofs.Laws.{outcome_is_spelling, outcome_is_fault, spelling_parts}
use Rattle.m4quote.proofs.Outcome.{or_memory}
use Rattle.fallible.proofs.Clauses as clause
use Rattle.m4quote.proofs.items.read_items_at.Goals as goal

pub returns-clause-sound : goal.returns-clause-sound
returns-clause-sound c =
    clause.found Fails (λ v. views v.items) c.read_all.result (outcome c.args.at c.args.text.now) c.read_all.ensures
    (IsSpelling c.args.at c.args.text.now) (λ items e. (outcome_is_spelling c.args.at c.args.text.now items).0 e)

pub returns-clause-complete : goal.returns-clause-complete
returns-clause-complete c = λ items h.
    clause.only Fails (λ v. views v.items) c.read_all.result (outcome c.args.at c.args.text.now) c.read_all.ensures items ((outcome_is_spelling c.args.at c.args.text.now items).1 h)

pub returns-clause-error_sound : goal.returns-clause-error_sound
returns-clause-error_sound c =
    clause.fault Fails (λ v. views v.items) c.read_all.result (outcome c.args.at c.args.text.now) c.read_all.ensures or_memory
    (IsFirstFault c.args.at c.args.text.now) (λ f e. (outcome_is_fault c.args.at c.args.text.now f).0 e)

pub returns-clause-error_complete : goal.returns-clause-error_complete
returns-clause-error_complete c = λ f h.
    clause.named Fails (λ v. views v.items) c.read_all.result (outcome c.args.at c.args.text.now) c.read_all.ensures f ((outcome_is_fault c.args.at c.args.text.now f).1 h)

pub returns-clause-parts : goal.returns-clause-parts
returns-clause-parts c =
    clause.found Fails (λ v. views v.items) c.read_all.result (outcome c.args.at c.args.text.now) c.read_all.ensures
    (ArePartsOf c.args.at c.args.text.now) (λ items e. spelling_parts c.args.at c.args.text.now items ((outcome_is_spelling c.args.at c.args.text.now items).0 e))
