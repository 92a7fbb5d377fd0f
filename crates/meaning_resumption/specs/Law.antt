-- The law of runs that are cut and started again.
use Rattle.std.specs.Prelude.{◌≡◌, ℕ, List, []}
use Rattle.crew_trait.specs.declared.reply.Reply.{Reply}
use Rattle.deftable.specs.Table.{value_of}
use Rattle.ac_tree.specs.Commands.{HasCommands}
use Rattle.ac_tree.specs.Resumable.{IsResumable}
use Rattle.ac_tree.specs.Script.{Script}
use Rattle.ac_tree.specs.TestNames.{HasTestNames}
use Rattle.meaning.specs.State.{State, Cut}
use Rattle.meaning.specs.Meaning.{meaning}
use Rattle.meaning_resumption.specs.Finished.{Finished, finish, Enough}
use Rattle.meaning_resumption.specs.Poured.{Poured}
use Rattle.meaning_resumption.specs.Alone.{Alone}
use Rattle.meaning_resumption.specs.Joint.{joint, joint_replies}
use Rattle.meaning_resumption.specs.Same.{SameAgain}

-- A run was cut, and its cache was saved. A second run that begins with the saved values is not cut. The source can be
-- resumed, and has the form that the parser gives it: its commands, and the names of its tests. (own)
pub record Begun (script : Script) (before second : State) (replies again : List Reply) : Type 0 where
  pub resumable : IsResumable script
  pub commands : HasCommands script
  pub names : HasTestNames script
  pub alone : Alone script []
  pub cut : (finish (meaning script before) replies).how ≡ Cut
  pub enough : Enough (meaning script before) replies
  pub poured : Poured (finish (meaning script before) replies).state before second
  pub uncut : (finish (meaning script second) again).how ≡ Cut → ⊥
  pub enough_again : Enough (meaning script second) again
  pub same : SameAgain script (record { first = before; replies = replies; second = second; again = again })

-- Two runs end in the same way, with the same definitions in the same order, and with the same value of each variable. They
-- leave the same replies. (own)
pub record EndsSo (a b : Finished) : Type 0 where
  pub how : a.how ≡ b.how
  pub defs : a.state.defs ≡ b.state.defs
  pub value : (name : List ℕ) → value_of a.state.vars name ≡ value_of b.state.vars name
  pub left : a.left ≡ b.left

-- The second run ends as a run that begins like the first, under the joint replies, of which there are enough. (own)
pub record EndsAgain (script : Script) (before second : State) (replies again : List Reply) : Type 0 where
  pub enough : Enough (meaning script before) (joint_replies (joint script (record { first = before; replies = replies; second = second; again = again })))
  pub ends : EndsSo
      (finish (meaning script before) (joint_replies (joint script (record { first = before; replies = replies; second = second; again = again }))))
      (finish (meaning script second) again)

-- This holds of all such runs. (own)
abbrev pub Resumes : Type 0
Resumes = (script : Script) (before second : State) (replies again : List Reply) → Begun script before second replies again
    → EndsAgain script before second replies again
