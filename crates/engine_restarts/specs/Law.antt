-- The law of two calls: one that was cut short, and a second one with the cache that it saved.
use Rattle.std.specs.Prelude.{◌≡◌, ℕ, List, [], Option, Some, None, Ok}
use Rattle.cachefile.specs.Text.{cache_text_of, saved_value}
use Rattle.crew_trait.specs.declared.reply.Reply.{Reply}
use Rattle.crew_trait.specs.Events.{Account}
use Rattle.deftable.specs.Table.{value_of}
use Rattle.engine.specs.Configured.{IsMeant, artifacts}
use Rattle.engine_frame.specs.Given.{Starts}
use Rattle.engine_frame.specs.declared.starting.Start.{Start}
use Rattle.engine_frame.specs.declared.report.Report.{Report}
use Rattle.meaning.specs.Play.{first_refused}
use Rattle.meaning.specs.State.{opened}
use Rattle.meaning_resumption.specs.Alone.{Alone}
use Rattle.meaning_resumption.specs.Asked.{tests_made}
use Rattle.meaning_resumption.specs.Joint.{joint, joint_replies}
use Rattle.meaning_resumption.specs.Same.{SameAgain}
use Rattle.ac_tree.specs.Resumable.{Among}
use Rattle.ac_tree.specs.Script.{Script}
use Rattle.engine_restarts.specs.Calls.{Given, follows, replies_to, IsCutShort, Saved, Tells}

-- A first call was cut short, and the names of some tests are tested once. (own)
pub record WasCut (given : Given) (cache : Option (List ℕ)) (window : ℕ) (script : Script) (start : Start) (before now : Account) (report : Report) : Type 0 where
  pub saved : Saved given cache window script start before now report
  -- What the report says.
  pub cut : IsCutShort report.outcome
  -- AC_CACHE_CHECK and the tests of programs; this is a matter of the source.
  pub alone : Alone script []

-- A second call is given the same, with the cache that was saved, and is not cut short. A test that
-- the first call completed, and whose value is not saved, gets the same replies again. `replies`
-- are those of the first call. (own)
pub record Again (given : Given) (window : ℕ) (script : Script) (start second : Start) (before now : Account) (first report : Report) (replies : List Reply) : Type 0 where
  -- There is such a start by the law on second calls.
  pub accepted : follows given (Some (cache_text_of first.vars)) ≡ Ok (Starts script second)
  pub meant : IsMeant window script second before now report
  -- What the report says.
  pub uncut : IsCutShort report.outcome → ⊥
  pub same : SameAgain script (record { first = opened start.vars; replies = replies; second = opened second.vars; again = replies_to before meant })

-- Two reports have the same outcome, the same definitions in the same order, and the same value of
-- each variable. (own)
pub record ReportsSo (one other : Report) : Type 0 where
  pub outcome : one.outcome ≡ other.outcome
  pub defs : one.defs ≡ other.defs
  pub value : (name : List ℕ) → value_of one.vars name ≡ value_of other.vars name

-- The second call ends as the one run that begins as the first call did, under these replies. None
-- of them is refused, so that run is not cut. Each report of it, also that of any call with these
-- replies, is like the second call's, and what is handed over is the same: the cache, the record,
-- files and headers. (own)
pub record EndsAsOne (given : Given) (script : Script) (start second : Start) (report : Report) (replies : List Reply) : Type 0 where
  pub uncut : first_refused replies ≡ None
  pub one : Report
  pub tells : Tells script start replies one
  pub like : (other : Report) → Tells script start replies other → ReportsSo other report
  pub hands : (other : Report) → Tells script start replies other → artifacts script start given.templates other ≡ artifacts script second given.templates report

-- A call under these replies makes no test of a name that the first one saved. (own)
abbrev pub AsksNoSavedName : Script → Report → Start → List Reply → Type 0
AsksNoSavedName script first second replies =
    (name value : List ℕ) → saved_value name (value_of first.vars name) ≡ Some value → Among name (tests_made script (opened second.vars) replies) → ⊥

-- The replies of both calls as those of one run. (own)
abbrev pub joined : Script → Start → List Reply → Start → List Reply → List Reply
joined script start replies second again =
    joint_replies (joint script (record { first = opened start.vars; replies = replies; second = opened second.vars; again = again }))

-- The second call ends as one run would under the joint replies, and asks for no saved name again.
-- The windows of both calls and the orders in which their children end are any. (own)
abbrev pub ConfiguresResume : Type 0
ConfiguresResume = (given : Given) (cache : Option (List ℕ)) (script : Script) (start second : Start) (window other_window : ℕ) (before now other_before other_now : Account) (first report : Report)
    → (cut : WasCut given cache window script start before now first)
    → (again : Again given other_window script start second other_before other_now first report (replies_to before cut.saved.meant))
    → EndsAsOne given script start second report (joined script start (replies_to before cut.saved.meant) second (replies_to other_before again.meant))
    × AsksNoSavedName script first second (replies_to other_before again.meant)
