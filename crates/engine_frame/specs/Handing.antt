-- What a run hands over, in order.
use Rattle.std.specs.Prelude.{◌≡◌, ◌≤◌, ℕ, Bool, List, [], ◌∷◌, ◌++◌, Option, Some, None, Ok, codes, length, if◌then◌else◌}
use Rattle.cachefile.specs.Cache.{limit}
use Rattle.cachefile.specs.Text as cachefile
pub use Rattle.cachefile.specs.Text.{cache_text_of, AreInOrder, lines_for, is_one_line, saved_value}
use Rattle.output_make.specs.Making.{made, record_of_run}
use Rattle.output_put.specs.declared.artifact.Artifact.{Artifact}
use Rattle.output_put.specs.declared.artifact.Kind.TheVariants.{Cache, Record as Recorded}
use Rattle.status_record.specs.Reading.{record_in}
use Rattle.status_record.specs.RecordText.{record_text}
use Rattle.status_record.specs.declared.record.Record.{Record}
use Rattle.ac_tree.specs.Lists.{lists_of}
use Rattle.ac_tree.specs.Script.{Script}
use Rattle.engine_frame.specs.declared.report.Outcome.{Outcome}
use Rattle.engine_frame.specs.declared.report.Outcome.TheVariants.{Completed, Stopped, CutShort, Shown}

-- The cache, if one is named. (Autoconf's manual, "Cache Files")
abbrev pub cache_artifacts : Option (List ℕ) → List (List ℕ × List ℕ) → List Artifact
cache_artifacts None vars = []
cache_artifacts (Some name) vars = record { kind = Cache; name = name; text = cache_text_of vars } ∷ []

-- If a cache is named, this holds. (own)
abbrev pub IfNamed : Option (List ℕ) → Type 0 → Type 0
IfNamed None goes_on = Unit {0}
IfNamed (Some name) goes_on = goes_on

-- The cache text of variables is read, if it isn't too large. Its settings, made where nothing is
-- set, give each variable that is saved its value, and set nothing else. (Autoconf's manual, "Cache
-- Files")
abbrev pub CacheReadsBack : List (List ℕ × List ℕ) → Type 0
CacheReadsBack vars = length (cache_text_of vars) ≤ limit → cachefile.ReadsBack vars (cache_text_of vars)

-- The cache text of variables has a line for each variable that is saved, in order, and is read.
-- (Autoconf's manual, "Cache Files")
pub record IsCacheOf (vars : List (List ℕ × List ℕ)) : Type 0 where
  pub is_text : cachefile.IsCacheText vars (cache_text_of vars)
  pub reads_back : CacheReadsBack vars

-- The record of a run that keeps these arguments and leaves these variables and definitions. (own)
abbrev pub run_record : Script → List ℕ → List (List ℕ) → List (List ℕ × List ℕ) → List (List ℕ × List ℕ) → Record
run_record script srcdir args vars defs =
    record_of_run vars defs (lists_of script).substituted srcdir args (lists_of script).files (lists_of script).headers

-- The record. (Autoconf's manual, "config.status Invocation")
abbrev pub record_artifact : Record → Artifact
record_artifact r = record { kind = Recorded; name = codes "config.status"; text = record_text r }

-- The files and headers that are made of a record, if they are wanted. (Autoconf's manual, "config.status Invocation")
abbrev pub wanted_outputs : Bool → List (List ℕ × List ℕ) → Record → List Artifact
wanted_outputs no_create templates r = if no_create then [] else made r templates []

-- What a completed run hands over after its cache: its record, and the files and headers that are made of it.
-- (Autoconf's manual, "config.status Invocation")
abbrev pub completed_artifacts : Bool → List (List ℕ × List ℕ) → Record → List Artifact
completed_artifacts no_create templates r = record_artifact r ∷ wanted_outputs no_create templates r

-- What a run with this outcome, these variables and this record hands over. (own)
unfoldable pub artifacts_of : Option (List ℕ) → Bool → List (List ℕ × List ℕ) → Outcome → List (List ℕ × List ℕ) → Record → List Artifact
artifacts_of cache_name no_create templates Completed vars r = cache_artifacts cache_name vars ++ completed_artifacts no_create templates r
artifacts_of cache_name no_create templates outcome vars r = cache_artifacts cache_name vars

-- If the run is completed, this holds. (own)
abbrev pub IfCompleted : Outcome → Type 0 → Type 0
IfCompleted Completed goes_on = goes_on
IfCompleted outcome goes_on = Unit {0}

-- The text of the record is read as the record. (own)
abbrev pub ReadsBack : Record → Type 0
ReadsBack r = record_in (record_text r) ≡ Ok r
