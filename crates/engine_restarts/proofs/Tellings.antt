-- The report of a run describes it.
use Rattle.std.proofs.Common.{length, Some, sym, ap, ◌∙◌}
use Rattle.std.specs.Prelude.{option_map}
use Rattle.engine.specs.Told.{outcome_of}
use Rattle.meaning.specs.Play.{all_jobs, first_refused}
use Rattle.proberun.specs.Ran.{outcome_from}
use Rattle.proberun.proofs.RunLemmas.{length-replies}
use Rattle.engine_restarts.specs.Calls.{replies_to, ReportsTell}

pub tells : ReportsTell
tells window script start before now report meant =
    let ran = meant.ran in
    let replies = replies_to before meant in
    record {
      enough = length-replies before.attempts (length (all_jobs ran.groups)) ran.since ∙ ap (λ p. length (all_jobs p.groups)) (sym ran.meaning);
      outcome = ap (λ p. option_map outcome_of (outcome_from p.how (first_refused replies))) ran.meaning ∙ ap (option_map outcome_of) ran.outcome ∙ ap (λ r. Some r.outcome) (sym meant.told);
      vars = ap (λ r. r.vars) meant.told ∙ sym (ap (λ p. p.state.vars) ran.meaning);
      defs = ap (λ r. r.defs) meant.told ∙ sym (ap (λ p. p.state.defs) ran.meaning);
    }
