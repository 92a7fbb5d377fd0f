use Rattle.std.proofs.Common.{refl, sym, ap, ◌∙◌}
use Rattle.crew_kept.specs.Records.{lacks}
use Rattle.crew_kept.specs.Offers.{reply_in, state_in}
use Rattle.crew_kept.proofs.Recorded.{passed, passed_closed}
use Rattle.crew_kept.proofs.supply.Supply.taken.Goals as goal

pub returns-in_default : goal.returns-in_default
returns-in_default c = record {
  taken = tt;
  same = tt;
  none = passed_closed c.args.self.now.records c.args.number c.args.job.now c.args.self.now.state (λ is. c.in_default.not-Open (ap (λ s. s.state) c.self.view_is ∙ is));
  kept = refl;
}

pub returns-in-Ok-Differs-clause-none : goal.returns-in-Ok-Differs-clause-none
returns-in-Ok-Differs-clause-none c =
    passed c.args.self.now.records c.as_slice.result.now c.args.number c.args.job.now c.in-Ok-Differs.field-0 c.args.self.now.state _ (c.as_slice.ensures.value ∙ ap (λ s. s.records) c.self.view_is) c.in-Ok-Differs.ensures
    (ap reply_in c.in-Ok-Differs.field-0-is) (sym (ap (λ s. s.state) c.self.view_is) ∙ c.in-Open.is) (sym (ap state_in c.in-Ok-Differs.field-0-is))

pub returns-in-Ok-Nothing-clause-none : goal.returns-in-Ok-Nothing-clause-none
returns-in-Ok-Nothing-clause-none c =
    passed c.args.self.now.records c.as_slice.result.now c.args.number c.args.job.now c.in-Ok-Nothing.field-0 c.args.self.now.state c.args.self.now.state (c.as_slice.ensures.value ∙ ap (λ s. s.records) c.self.view_is) c.in-Ok-Nothing.ensures
    (ap reply_in c.in-Ok-Nothing.field-0-is) (sym (ap (λ s. s.state) c.self.view_is) ∙ c.in-Open.is) (sym (ap (λ s. s.state) c.self.view_is) ∙ c.in-Open.is ∙ sym (ap state_in c.in-Ok-Nothing.field-0-is))

pub returns-in-Err-clause-none : goal.returns-in-Err-clause-none
returns-in-Err-clause-none c = lacks
