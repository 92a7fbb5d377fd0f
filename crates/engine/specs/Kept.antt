-- What the cache that a run hands over holds.
use Rattle.std.specs.Prelude.{◌≡◌, ℕ, true, List, ◌++◌, length, Some, codes}
use Rattle.crew_trait.specs.declared.reply.Reply.{Reply}
use Rattle.crew_trait.specs.Events.{Account, replies_in}
use Rattle.deftable.specs.CacheName.{is_cache_name}
use Rattle.deftable.specs.Table.{value_of}
use Rattle.meaning_laws.specs.Deeds.{Tested, deeds, Among, ComesFrom}
use Rattle.meaning.specs.Play.{all_jobs}
use Rattle.meaning.specs.State.{opened}
use Rattle.ac_tree.specs.Script.{Script}
use Rattle.engine_frame.specs.Handing.{AreInOrder, lines_for, is_one_line, cache_text_of}
use Rattle.engine_frame.specs.declared.starting.Start.{Start}
use Rattle.engine_frame.specs.declared.report.Report.{Report}
use Rattle.engine.specs.Configured.{IsMeant}

-- The replies that the crew gave to the jobs of a run, in the order of the jobs. (own)
abbrev pub replies_of : {window : ℕ} {script : Script} {start : Start} {before now : Account} {report : Report} → IsMeant window script start before now report → List Reply
replies_of {window} {script} {start} {before} {now} {report} meant = replies_in before.attempts (length (all_jobs meant.ran.groups)) meant.ran.since

-- A test of this name came to its end, and left it set. An entry of a list that is tested at once was
-- answered. (Autoconf's manual, "Caching Results")
abbrev pub WasTested : Script → Start → List Reply → List ℕ → Type 0
WasTested script start replies name = Among (Tested name) (deeds script (opened start.vars) replies)

-- The name was set when the run began, or a statement assigned it, or a test that came to its end
-- left it set. What the commands of AC_CACHE_CHECK do is part of its test. (Autoconf's manual,
-- "Caching Results")
abbrev pub WasSet : Script → Start → List Reply → List ℕ → Type 0
WasSet script start replies name = ComesFrom name start.vars (deeds script (opened start.vars) replies)

-- The name has a value at the end, and an entry with it, unless that value has a newline. (Autoconf's
-- manual, "Cache Files")
abbrev pub IsThere : List (List ℕ × List ℕ) → List (List ℕ × List ℕ) → List ℕ → Type 0
IsThere vars entries name =
    (value : List ℕ) × (value_of vars name ≡ Some value) × (is_one_line value ≡ true → value_of entries name ≡ Some value)

-- The text is a comment, and a line for each entry, in the byte order of their names. Each entry
-- has a cache name that was set, and the value that the name has at the end, which has no newline.
-- Each cache name that was set is there. The name of a test that came to its end, and left it set,
-- is a cache name, and is there. (Autoconf's manual, "Cache Files")
pub record HoldsSet (script : Script) (start : Start) (replies : List Reply) (vars : List (List ℕ × List ℕ)) (text : List ℕ) : Type 0 where
  pub entries : List (List ℕ × List ℕ)
  pub in_order : AreInOrder entries
  pub lines : text ≡ codes "# config.cache of configure\n" ++ lines_for entries
  pub only : (name value : List ℕ) → value_of entries name ≡ Some value
      → WasSet script start replies name × (is_cache_name name ≡ true) × (value_of vars name ≡ Some value) × (is_one_line value ≡ true)
  pub all : (name : List ℕ) → WasSet script start replies name → is_cache_name name ≡ true → IsThere vars entries name
  pub tested : (name : List ℕ) → WasTested script start replies name → (is_cache_name name ≡ true) × IsThere vars entries name

-- The cache of a run that has this report holds what was set in that run, under the replies of the
-- crew. (own)
pub record IsKept (window : ℕ) (script : Script) (start : Start) (before now : Account) (report : Report) : Type 0 where
  pub meant : IsMeant window script start before now report
  pub holds : HoldsSet script start (replies_of meant) report.vars (cache_text_of report.vars)
