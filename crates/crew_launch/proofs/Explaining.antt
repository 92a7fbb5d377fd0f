-- The cause of an end that is refused.
use Rattle.std.proofs.Common.{◌≡◌, ℕ, List, Option, Some, None, Result, Ok, Err, inl, inr, sym, subst}
use Rattle.std.specs.Prelude.{codes, option_map, IfErr, IfSome}
use Rattle.std.specs.Result.{result_ok}
use Rattle.std.specs.declared.process.status.ExitStatus.{ExitStatus}
use Rattle.crew_trait.specs.declared.reply.Reply.{Reply}
use Rattle.crew_trait.specs.declared.reply.Reply.TheVariants.{EndRefused}
use Rattle.crew_refusals.specs.Shown.{IsCauseOf}
use Rattle.crew_launch.specs.Ending.{IsCauseOfEnd, IsExplained, IsOfEnd, reply_of}

of_read : (cause : Option (List ℕ)) → IfSome cause (IsCauseOf (codes "read")) → IsOfEnd cause
of_read None is = is
of_read (Some line) is = inl is

of_wait : (cause : Option (List ℕ)) → IfSome cause (IsCauseOf (codes "wait")) → IsOfEnd cause
of_wait None is = is
of_wait (Some line) is = inr is

-- by how the wait and the read ended
of_each : {E V : Type 0} (waited : Result ExitStatus E) (text : Result V (Option (List ℕ))) (kept : V → List ℕ) (cause : Option (Option (List ℕ)))
    → IsCauseOfEnd waited text cause → IfErr text (λ c. IfSome c (IsCauseOf (codes "read")))
    → IsExplained (reply_of waited (option_map kept (result_ok text))) cause
of_each (Ok status) (Ok text) kept cause is read = is
of_each (Ok status) (Err why) kept cause is read = subst (IsExplained EndRefused) (sym is) (of_read why read)
of_each (Err e) text kept None is read = absurd is
of_each (Err e) text kept (Some cause) is read = of_wait cause is

pub explained : {E V : Type 0} (waited : Result ExitStatus E) (text : Result V (Option (List ℕ))) (kept : V → List ℕ) (reply : Reply) (cause : Option (Option (List ℕ)))
    → reply ≡ reply_of waited (option_map kept (result_ok text)) → IsCauseOfEnd waited text cause → IfErr text (λ c. IfSome c (IsCauseOf (codes "read")))
    → IsExplained reply cause
explained waited text kept reply cause is of_end read = subst (λ r. IsExplained r cause) (sym is) (of_each waited text kept cause of_end read)
