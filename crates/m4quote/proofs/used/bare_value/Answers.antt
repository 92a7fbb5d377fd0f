use Rattle.m4quote.specs.Faults.{IsBracketFault}
use Rattle.m4quote.specs.Used.{IsBareValue, UnquoteBreaks}
use Rattle.m4quote.specs.Gives.{Fails}
use Rattle.m4quote.specs.Scan.{bare_value_of}
use Rattle.m4quote.proofs.Laws.{bare_value_is_value, bare_value_is_fault, bare_fault_kind}
use Rattle.m4quote.proofs.Outcome.{or_memory}
use Rattle.fallible.proofs.Clauses as clause
use Rattle.m4quote.proofs.used.bare_value.Goals as goal

pub returns-clause-sound : goal.returns-clause-sound
returns-clause-sound c = clause.found Fails (λ v. v.items) c.value_of.result (bare_value_of c.args.text.now) c.value_of.ensures (IsBareValue c.args.text.now) (λ out e. (bare_value_is_value c.args.text.now out).0 e)

pub returns-clause-complete : goal.returns-clause-complete
returns-clause-complete c = λ out h. clause.only Fails (λ v. v.items) c.value_of.result (bare_value_of c.args.text.now) c.value_of.ensures out ((bare_value_is_value c.args.text.now out).1 h)

pub returns-clause-error_sound : goal.returns-clause-error_sound
returns-clause-error_sound c = clause.fault Fails (λ v. v.items) c.value_of.result (bare_value_of c.args.text.now) c.value_of.ensures or_memory (UnquoteBreaks 0 c.args.text.now) (λ f e. (bare_value_is_fault c.args.text.now f).0 e)

pub returns-clause-error_complete : goal.returns-clause-error_complete
returns-clause-error_complete c = λ f h. clause.named Fails (λ v. v.items) c.value_of.result (bare_value_of c.args.text.now) c.value_of.ensures f ((bare_value_is_fault c.args.text.now f).1 h)

pub returns-clause-kinds : goal.returns-clause-kinds
returns-clause-kinds c =
    clause.kinds Fails (λ v. v.items) c.value_of.result (bare_value_of c.args.text.now) c.value_of.ensures or_memory
    (IsBracketFault c.args.text.now) tt (λ f e. bare_fault_kind c.args.text.now f ((bare_value_is_fault c.args.text.now f).0 e))
