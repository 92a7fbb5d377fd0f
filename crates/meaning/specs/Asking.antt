-- The children that a run asks for, one at a time. `early` changes the state of a run that ends here;
-- the meaning always passes `as_is`, and a plan passes what its open tests do.
use Rattle.std.specs.Prelude.{◌==◌, Bool, true, false, not, List, [], ◌∷◌, Option, Some, None, ℕ, codes, if◌then◌else◌}
use Rattle.crew_jobs.specs.declared.job.Job.{Job}
use Rattle.crew_trait.specs.declared.reply.Reply.{Reply}
use Rattle.crew_trait.specs.declared.reply.Reply.TheVariants.{Answer, StartRefused, EndRefused}
use Rattle.deftable.specs.declared.note.Stream.TheVariants as streams
use Rattle.meaning.specs.State.{State, with_note, with_child, How, Run, Ends, Asks, Cut, Stopped}

-- Whether a child succeeded, if it answered. (own)
abbrev pub success : Reply → Option Bool
success (Answer status text) = Some (status == 0)
success StartRefused = None
success EndRefused = None

-- The reply to the only job of a group; a missing one counts as a refused start. (own)
abbrev pub only_reply : List Reply → Reply
only_reply [] = StartRefused
only_reply (reply ∷ more) = reply

-- The run continues with whether a child succeeded; a refused reply is no answer, and cuts the run short. (own)
abbrev pub after_child : (How → State → State) → Option Bool → State → (Bool → State → Run) → Run
after_child early None st go = Ends Cut (early Cut st)
after_child early (Some succeeded) st go = go succeeded st

-- The run asks for one child, which the log gets with its reply. (own)
abbrev pub child : (How → State → State) → Job → State → (Bool → State → Run) → Run
child early job st go = Asks (job ∷ []) (λ replies. after_child early (success (only_reply replies)) (with_child job (only_reply replies) st) go)

-- The line of a run that wants a compiler, and has none. (Autoconf's manual, "Running the Compiler")
abbrev pub no_compiler : List ℕ
no_compiler = codes "configure: error: no acceptable C compiler found in $PATH\n"

-- If a compiler is wanted and there is none, the run prints that line and stops with status 1. (Autoconf's manual,
-- "Running the Compiler")
abbrev pub without_compiler : (How → State → State) → State → Run
without_compiler early st = Ends (Stopped 1) (early (Stopped 1) (with_note streams.Err no_compiler st))

-- The run asks for one child that needs a compiler. (Autoconf's manual, "Running the Compiler")
abbrev pub compiled : (How → State → State) → Option Job → State → (Bool → State → Run) → Run
compiled early None st go = without_compiler early st
compiled early (Some job) st go = child early job st go

-- The two are equal. (own)
abbrev pub same : Bool → Bool → Bool
same true b = b
same false b = not b

-- A child that may end a test: if its success is `ends_on`, the test ends with the value. There is no job if there is no
-- compiler. (own)
pub record Attempt : Type 0 where
  pub job : Option Job
  pub ends_on : Bool
  pub value : Option (List ℕ)

-- Attempts, one after the other, up to the first that ends the test; the run continues with its value, or with
-- `otherwise` if none does. (Autoconf's manual, "Generic Programs" and "Running the Compiler")
abbrev pub attempted : (How → State → State) → List Attempt → Option (List ℕ) → State → (Option (List ℕ) → State → Run) → Run
attempted early [] otherwise st go = go otherwise st
attempted early (a ∷ more) otherwise st go =
    compiled early a.job st (λ b now. if same a.ends_on b then go a.value now else attempted early more otherwise now go)
