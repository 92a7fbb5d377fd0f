use Rattle.plan.proofs.Defining.{defines_its_name, symbols_are_definitions}
use Rattle.plan.proofs.naming.tests_define_their_name.Goals as goal

pub returns-clause-law : goal.returns-clause-law
returns-clause-law c = defines_its_name

pub returns-clause-names : goal.returns-clause-names
returns-clause-names c = symbols_are_definitions
