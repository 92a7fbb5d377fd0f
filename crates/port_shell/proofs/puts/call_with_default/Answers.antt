use Rattle.std.proofs.Common.{[], ◌∷◌}
use Rattle.std.specs.Prelude.{codes}
use Rattle.port_compounds.specs.Defaults.{assignment, empty_test}
use Rattle.port_put.specs.Calls.{IsPut}
use Rattle.port_shell.specs.Formed as specs
use Rattle.port_shell.proofs.Steps.{of_some}
use Rattle.port_shell.proofs.puts.call_with_default.Goals as goal

pub returns-in-Some : goal.returns-in-Some
returns-in-Some c =
    let name = c.args.found.name.now in
    let word = c.args.found.word.now in
    specs.MayPut.defaulted name word c.requires
    (of_some (λ v. IsPut (codes "AS_IF") (empty_test name ∷ assignment name word ∷ []) v.items) c.in_ok-put.field-0 c.in-Some.put c.in-Some.is c.in_ok-put.ensures)
