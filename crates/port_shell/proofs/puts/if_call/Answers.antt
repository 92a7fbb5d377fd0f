use Rattle.std.proofs.Common.{ap, ◌∙◌, map, subst}
use Rattle.std.specs.Prelude.{IfOk, IfSome, codes}
use Rattle.port_put.specs.Calls.{IsPut}
use Rattle.port_shell.proofs.puts.if_call.Goals as goal

pub returns : goal.returns
returns c =
    subst (λ t. IfOk c.accepted_call.result (λ o. IfSome o (λ v. IsPut (codes "AS_IF") t v.items))) (ap (map (λ p. p.now)) c.as_slice.ensures.value ∙ c.in_ok-parts.ensures) c.accepted_call.ensures
