use Rattle.std.proofs.Common.{[], ◌++◌, ap, sym, ◌∙◌}
use Rattle.std.specs.Prelude.{codes}
use Rattle.cmd_call.specs.Lines.{error_line}
use Rattle.fault_spots.specs.FaultLines.{fault_line}
use Rattle.fault_spots.proofs.ToldAs.{told_as}
use Rattle.fault_spots.proofs.telling.tell_fault.Goals as goal

pub returns-in-Parse-clause-told : goal.returns-in-Parse-clause-told
returns-in-Parse-clause-told g c =
    told_as _ _ _ _ _ _ (ap fault_line c.in-Parse.is ∙ ap (λ t. error_line (codes "parse " ++ t) []) (sym c.parse_spot.ensures)) c.tell_spot.ensures.told

pub returns-in-Plan-clause-told : goal.returns-in-Plan-clause-told
returns-in-Plan-clause-told g c =
    told_as _ _ _ _ _ _ (ap fault_line c.in-Plan.is ∙ ap (λ t. error_line (codes "plan " ++ t) []) (sym c.plan_spot.ensures)) c.tell_spot-in-Plan.ensures.told

pub returns-in-Option-clause-told : goal.returns-in-Option-clause-told
returns-in-Option-clause-told g c =
    told_as _ _ _ _ _ _ (ap fault_line c.in-Option.is ∙ ap (λ t. error_line (codes "option " ++ t) []) (sym c.option_spot.ensures)) c.tell_spot-in-Option.ensures.told

pub returns-in-Cache-clause-told : goal.returns-in-Cache-clause-told
returns-in-Cache-clause-told g c =
    told_as _ _ _ _ _ _ (ap fault_line c.in-Cache.is ∙ ap (λ t. error_line (codes "cache " ++ t) []) (sym c.cache_spot.ensures)) c.tell_spot-in-Cache.ensures.told

pub returns-in-Precious-clause-told : goal.returns-in-Precious-clause-told
returns-in-Precious-clause-told g c =
    told_as _ _ _ _ _ _ (ap fault_line c.in-Precious.is ∙ ap (λ t. error_line (codes "precious " ++ t) []) (sym c.precious_spot.ensures)) c.tell_spot-in-Precious.ensures.told

pub returns-in-NoTemplate-clause-told : goal.returns-in-NoTemplate-clause-told
returns-in-NoTemplate-clause-told g c = told_as _ _ _ _ _ _ (ap fault_line c.in-NoTemplate.is ∙ ap (λ n. error_line (codes "template") n) (sym c.as_slice.ensures)) c.tell_named.ensures.told

pub returns-in-PutRefused-clause-told : goal.returns-in-PutRefused-clause-told
returns-in-PutRefused-clause-told g c = told_as _ _ _ _ _ _ (ap fault_line c.in-PutRefused.is) c.tell_put.ensures.told

pub returns-in-OutOfMemory-clause-told : goal.returns-in-OutOfMemory-clause-told
returns-in-OutOfMemory-clause-told g c = told_as _ _ _ _ _ _ (ap fault_line c.in-OutOfMemory.is) c.tell_memory.ensures.told
