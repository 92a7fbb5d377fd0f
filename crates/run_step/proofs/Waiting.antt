-- What a machine waits for, and the only reply.
use Rattle.std.proofs.Common.{◌≡◌, ℕ, true, List, [], ◌∷◌, length, Option, Vec, Global, refl, sym, ap, ◌∙◌, subst}
use Rattle.std.specs.Prelude.{option_to_list}
use Rattle.crew_jobs.specs.declared.job.Job.{Job}
use Rattle.crew_trait.specs.declared.reply.Reply.{Reply}
use Rattle.meaning.specs.State.{State, Scope}
use Rattle.meaning.specs.Play.{refused_after}
use Rattle.run_test.specs.Batched.{at_once}
use Rattle.run_test.specs.Flows.{IsStep, Leads}
use Rattle.run_test.specs.Waits.{Suits, all_replies, is_single, resumed_one, waits_for}
use Rattle.run_test.specs.declared.flow.Flow.{Flow}
use Rattle.run_test.specs.declared.wait.Waiting as waiting
use Rattle.run_test.specs.declared.wait.Wait.{Wait}
use Rattle.run_test.specs.declared.wait.Wait.TheVariants as waits
use Rattle.run_test.proofs.Flows.{led, resumed_single}
use Rattle.run_step.specs.declared.replying.Replied.{Replied}
use Rattle.run_step.specs.Replies.{cut_by, one_run, replied_run}

pub batch_fits : (entries : Vec waiting.Waiting Global) (w : Wait) (jobs : List Job) → w ≡ waits.Batch entries → Suits w jobs → length jobs ≡ at_once entries.items
unfolding Suits
batch_fits entries w jobs is fit = subst (λ x. Suits x jobs) is fit

pub single_of : (w : Wait) → ((entries : Vec waiting.Waiting Global) → w ≡ waits.Batch entries → ⊥) → is_single w ≡ true
single_of waits.Nothing h = refl
single_of waits.Answer h = refl
single_of waits.Link h = refl
single_of (waits.Attempt trial ends_on value) h = refl
single_of (waits.Batch entries) h = absurd (h entries refl)

-- The only job and the only reply are all of them.
pub single_leads : (f : Flow) (r : Replied) (job : Option Job) (reply : Reply) (scope about : Scope) (st now : State) → is_single r.wait ≡ true → option_to_list job ≡ r.jobs.items → reply ∷ [] ≡ all_replies r.replies.items
    → Leads f (one_run r.wait job reply scope st) about now → Leads f (replied_run r scope st) about now
single_leads f r job reply scope about st now single j p h =
    led f about now _ _
    (λ tests next. ap (λ l. resumed_one tests r.wait l (reply ∷ []) (next 0) scope st) j ∙ ap (λ l. resumed_one tests r.wait r.jobs.items l (next 0) scope st) p
    ∙ sym (resumed_single tests r.wait r.jobs.items (all_replies r.replies.items) (next 0) scope st single))
    h

pub single_step : (f : Flow) (r : Replied) (reply : Reply) (before : ℕ) → reply ∷ [] ≡ all_replies r.replies.items → IsStep (waits_for r.wait) (refused_after before (reply ∷ [])) f → IsStep (waits_for r.wait) (cut_by before r) f
single_step f r reply before p h = subst (λ l. IsStep (waits_for r.wait) (refused_after before l) f) p h
