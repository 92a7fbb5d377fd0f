use Rattle.std.proofs.Common.{map}
use Rattle.std.specs.Prelude.{codes}
use Rattle.port_put.specs.Calls.{IsPut}
use Rattle.port_shell.specs.Formed as specs
use Rattle.port_shell.proofs.Steps.{of_some}
use Rattle.port_shell.proofs.puts.call_of_case.Goals as goal

pub returns-in-Some : goal.returns-in-Some
returns-in-Some c =
    specs.MayPut.cased (map (λ p. p.now) c.args.parts.now) c.requires
    (of_some (λ v. IsPut (codes "AS_CASE") (map (λ p. p.now) c.args.parts.now) v.items) c.in_ok-put.field-0 c.in-Some.put c.in-Some.is c.in_ok-put.ensures)
