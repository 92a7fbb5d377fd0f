-- The law for whole runs, as they are played: a whole run that is cut has a line about it at its end.
use Rattle.std.specs.Prelude.{◌≡◌, ℕ, List, [], None}
use Rattle.crew_trait.specs.declared.reply.Reply.{Reply}
use Rattle.deftable.specs.Table.{value_of}
use Rattle.ac_tree.specs.Commands.{HasCommands}
use Rattle.ac_tree.specs.Resumable.{IsResumable}
use Rattle.ac_tree.specs.Script.{Script}
use Rattle.ac_tree.specs.TestNames.{HasTestNames}
use Rattle.meaning.specs.State.{State, Cut}
use Rattle.meaning.specs.Play.{Played, first_refused}
pub use Rattle.meaning_laws.specs.Refusals.{played, HasReplies}
use Rattle.meaning_resumption.specs.Poured.{Poured}
use Rattle.meaning_resumption.specs.Alone.{Alone}
use Rattle.meaning_resumption.specs.Joint.{joint, joint_replies}
use Rattle.meaning_resumption.specs.Same.{SameAgain}

-- A whole run was cut, and its cache was saved. A second one that begins with the saved values is not cut. The source can be
-- resumed, and has the form that the parser gives it. (own)
pub record StartedAgain (script : Script) (before second : State) (replies again : List Reply) : Type 0 where
  pub resumable : IsResumable script
  pub commands : HasCommands script
  pub names : HasTestNames script
  pub alone : Alone script []
  pub cut : (played script before replies).how ≡ Cut
  pub enough : HasReplies (played script before replies) replies
  pub poured : Poured (played script before replies).state before second
  pub uncut : (played script second again).how ≡ Cut → ⊥
  pub enough_again : HasReplies (played script second again) again
  pub same : SameAgain script (record { first = before; replies = replies; second = second; again = again })

-- Two whole runs end in the same way, with the same definitions in the same order, and with the same value of each variable.
-- (own)
pub record PlaysSo (a b : Played) : Type 0 where
  pub how : a.how ≡ b.how
  pub defs : a.state.defs ≡ b.state.defs
  pub value : (name : List ℕ) → value_of a.state.vars name ≡ value_of b.state.vars name

-- The second run ends as a run that begins like the first, under these replies. They are as many as its jobs, and none is
-- refused. (own)
pub record PlaysAgain (script : Script) (before second : State) (replies again : List Reply) : Type 0 where
  pub enough : HasReplies (played script before replies) replies
  pub answered : first_refused replies ≡ None
  pub ends : PlaysSo (played script before replies) (played script second again)

-- This holds of the joint replies. (own)
abbrev pub WholeRunsResume : Type 0
WholeRunsResume = (script : Script) (before second : State) (replies again : List Reply) → StartedAgain script before second replies again
    → PlaysAgain script before second (joint_replies (joint script (record { first = before; replies = replies; second = second; again = again }))) again
