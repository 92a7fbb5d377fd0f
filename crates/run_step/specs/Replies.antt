-- What follows the replies to the jobs of a step.
use Rattle.std.specs.Prelude.{ℕ, Bool, [], ◌∷◌, Option, None, ◌+◌, option_map, option_to_list}
use Rattle.crew_jobs.specs.declared.job.Job.{Job}
use Rattle.crew_trait.specs.declared.reply.Reply.{Reply}
use Rattle.meaning.specs.State.{State, Scope}
use Rattle.meaning.specs.Asking.{after_child}
use Rattle.meaning.specs.Play.{refused_after, refused_here}
use Rattle.plan.specs.Broken.{broken_all}
use Rattle.run_test.specs.declared.wait.Wait.{Wait}
use Rattle.run_test.specs.Flows.{Inside}
use Rattle.run_test.specs.Waits.{after_reply, all_replies, names_around, resumed, resumed_one}
use Rattle.run_step.specs.declared.replying.Replied.{Replied}

-- What follows an answer. (own)
abbrev pub answer_run : Wait → Bool → Scope → State → Inside
answer_run wait b scope st tests next = after_reply tests wait b (next 0) scope st

-- What follows a reply, by whether the child succeeded, if it answered. (own)
abbrev pub heard_run : Wait → Option Bool → Scope → State → Inside
heard_run wait succeeded scope st tests next =
    after_child (broken_all (names_around wait tests)) succeeded st (λ b now. after_reply tests wait b (next 0) scope now)

-- What follows the reply to the only job. (own)
abbrev pub one_run : Wait → Option Job → Reply → Scope → State → Inside
one_run wait job reply scope st tests next = resumed_one tests wait (option_to_list job) (reply ∷ []) (next 0) scope st

-- What follows the replies. (own)
abbrev pub replied_run : Replied → Scope → State → Inside
replied_run r scope st tests next = resumed tests r.wait r.jobs.items (all_replies r.replies.items) (next 0) scope st

-- The number of the child, if this is no answer; so many were asked for before. (own)
abbrev pub refused_by : ℕ → Option Bool → Option ℕ
refused_by before after_child = option_map (λ k. before + k) (refused_here after_child None)

-- The number of the first refused child, if there is one; so many were asked for before. (own)
abbrev pub cut_by : ℕ → Replied → Option ℕ
cut_by before r = refused_after before (all_replies r.replies.items)
