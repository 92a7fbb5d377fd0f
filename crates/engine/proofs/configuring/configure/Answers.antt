use Rattle.std.proofs.Common.{ap}
use Rattle.engine.proofs.Headlines.{runs_so}
use Rattle.engine.proofs.Wholes.{is_answer, is_untouched, is_meant, is_handed, is_reported, is_remade, is_cut, holds_set, judged_forms, reads_back, is_remakable, has_run_part}
use Rattle.engine.proofs.configuring.configure.Goals as goal

pub returns-clause-accepted : goal.returns-clause-accepted
returns-clause-accepted g c = is_answer _ _ _ _ _ _ _ _ _ c.whole.ensures.whole

pub returns-clause-untouched : goal.returns-clause-untouched
returns-clause-untouched g c = is_untouched _ _ _ _ _ _ _ _ _ c.whole.ensures.whole

pub returns-clause-meaning : goal.returns-clause-meaning
returns-clause-meaning g c = is_meant _ _ _ _ _ _ _ _ _ c.whole.ensures.whole

pub returns-clause-artifacts : goal.returns-clause-artifacts
returns-clause-artifacts g c = is_handed _ _ _ _ _ _ _ _ _ c.whole.ensures.whole

pub returns-clause-reported : goal.returns-clause-reported
returns-clause-reported g c = is_reported _ _ _ _ _ _ _ _ _ c.whole.ensures.whole

pub returns-clause-remade : goal.returns-clause-remade
returns-clause-remade g c = is_remade _ _ _ _ _ _ _ _ _ c.whole.ensures.whole

pub returns-clause-cut : goal.returns-clause-cut
returns-clause-cut g c = is_cut _ _ _ _ _ _ _ _ _ c.whole.ensures.whole

pub returns-clause-kept : goal.returns-clause-kept
returns-clause-kept g c =
    holds_set _ _ _ _ _ _ _ _ _ (judged_forms _ _ _ _ _ (c.sources_have_forms.ensures.commands _) (c.sources_have_forms.ensures.names _)) c.whole.ensures.whole

pub returns-clause-reads_back : goal.returns-clause-reads_back
returns-clause-reads_back g c = reads_back _ _ _ _ _ _ _ _ _ c.whole.ensures.whole

pub returns-clause-remakes : goal.returns-clause-remakes
returns-clause-remakes g c = is_remakable _ _ _ _ _ _ _ _ _ c.whole.ensures.whole

pub returns-clause-begun : goal.returns-clause-begun
returns-clause-begun g c = has_run_part _ _ _ _ _ _ _ _ _ c.whole.ensures.whole (λ s. ap g.C.Crew.account s.0)

pub returns-clause-headline : goal.returns-clause-headline
returns-clause-headline g c =
    let whole = c.whole.ensures.whole in
    runs_so _ _ _ _ _ _ _ _ (is_meant _ _ _ _ _ _ _ _ _ whole) (is_handed _ _ _ _ _ _ _ _ _ whole) (is_remade _ _ _ _ _ _ _ _ _ whole) (is_reported _ _ _ _ _ _ _ _ _ whole) (is_cut _ _ _ _ _ _ _ _ _ whole)
    (holds_set _ _ _ _ _ _ _ _ _ (judged_forms _ _ _ _ _ (c.sources_have_forms.ensures.commands _) (c.sources_have_forms.ensures.names _)) whole) (reads_back _ _ _ _ _ _ _ _ _ whole) (is_remakable _ _ _ _ _ _ _ _ _ whole)
    (has_run_part _ _ _ _ _ _ _ _ _ whole (λ s. ap g.C.Crew.account s.0))
