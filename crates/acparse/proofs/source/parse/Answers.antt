use Rattle.std.proofs.Common.{subst}
use Rattle.ac_statement.specs.Reading.{Gives}
use Rattle.ac_tree.specs.Script.{script_of}
use Rattle.acparse.proofs.ListLimits.{lists_fit, outputs_fit}
use Rattle.acparse.proofs.Owning.{commands_held}
use Rattle.acparse.proofs.TestNaming.{names_held}
use Rattle.acparse.proofs.Whole.{is_found, is_fault, source_only}
use Rattle.acparse.proofs.source.parse.Goals as goal

pub returns-clause-sound : goal.returns-clause-sound
returns-clause-sound c = is_found c.args.text.now c.read_source.result c.read_source.ensures

pub returns-clause-limits : goal.returns-clause-limits
returns-clause-limits c = lists_fit c.args.text.now c.read_source.result c.read_source.ensures

pub returns-clause-outputs : goal.returns-clause-outputs
returns-clause-outputs c = outputs_fit c.args.text.now c.read_source.result c.read_source.ensures

pub returns-clause-commands : goal.returns-clause-commands
returns-clause-commands c = commands_held c.args.text.now c.read_source.result c.read_source.ensures

pub returns-clause-names : goal.returns-clause-names
returns-clause-names c = names_held c.args.text.now c.read_source.result c.read_source.ensures

pub returns-clause-complete : goal.returns-clause-complete
returns-clause-complete c = λ s h. subst (Gives script_of c.read_source.result) (source_only c.args.text.now s h) c.read_source.ensures

pub returns-clause-error_sound : goal.returns-clause-error_sound
returns-clause-error_sound c = is_fault c.args.text.now c.read_source.result c.read_source.ensures
