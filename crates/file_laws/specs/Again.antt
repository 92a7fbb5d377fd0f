-- A run, and then `status`, on a disk that nobody else changes.
use Rattle.std.specs.Prelude.{◌≡◌, ◌≢◌, ℕ, false, List, [], ◌++◌, Option, Some, filter, All, codes}
use Rattle.cmd_status.specs.MadeAgain.{IsMadeAgain}
use Rattle.cmd_configure.specs.Configures.{IsRun}
use Rattle.crew_trait.specs.Events.{Account}
use Rattle.file_disk.specs.Known.{Known, Files}
use Rattle.file_texts.specs.Coherent.{after, IsCoherent}
use Rattle.file_texts.specs.Places.{place_under}
use Rattle.file_texts.specs.declared.places.FilePlace.{FilePlace}
use Rattle.engine.specs.Configured.{artifacts}
use Rattle.engine.specs.Remaking.{is_chosen}
use Rattle.file_laws.specs.Rerun.{AreNeverLinks, IsNeverLink}
use Rattle.engine_frame.specs.declared.report.Outcome.TheVariants.{Completed}
use Rattle.cmd_call.specs.Supplies.{path_of}
use Rattle.options.specs.declared.settings.Settings.{Settings}
use Rattle.output_put.specs.declared.artifact.Artifact.{Artifact}
use Rattle.ac_tree.specs.Script.{Script}

-- The files as the next program finds them, which has done nothing yet. (own)
abbrev pub handed_on : Known → Known
handed_on k = record {
  deeds = [];
  files = record {
    texts = λ deeds name. k.files.texts (k.deeds ++ deeds) name;
    kinds = λ deeds name. k.files.kinds (k.deeds ++ deeds) name;
    targets = λ deeds name. k.files.targets (k.deeds ++ deeds) name;
    directories = λ deeds name. k.files.directories (k.deeds ++ deeds) name;
  };
}

-- No link is ever under this name, and its place is another than that of the log. (own)
pub record IsApartFrom (files : Files) (log : FilePlace) (name : List ℕ) : Type 0 where
  pub never : IsNeverLink files name
  pub place : FilePlace
  pub at : place_under (after files []) name ≡ Some place
  pub other : place ≢ log

-- The same of these templates in a directory. (own)
abbrev pub AreApartFrom : Files → FilePlace → List ℕ → List (List ℕ × List ℕ) → Type 0
AreApartFrom files log srcdir templates = All (λ template. IsApartFrom files log (path_of srcdir template.0)) templates

-- No output of the run and no template is ever a link, nor is the log, and no template is at the place
-- of the log, whose directory is there. (own)
pub record HasPlainFiles (files : Files) (srcdir : List ℕ) (templates : List (List ℕ × List ℕ)) (handed : List Artifact) : Type 0 where
  pub outputs : AreNeverLinks files handed
  pub log : IsNeverLink files (codes "config.log")
  pub place : FilePlace
  pub at : place_under (after files []) (codes "config.log") ≡ Some place
  pub inputs : AreApartFrom files place srcdir templates

-- A run was completed, without `--no-create`, and then `status` makes outputs again, of all names or
-- of these, on the disk as the run left it. It makes the files and headers that the run handed over,
-- each with the same text, without those that the names leave out. (own)
unfoldable pub StatusMakesTheSame : Type 0
StatusMakesTheSame = (window : ℕ) (arguments : List (List ℕ)) (script : Script) (settings : Settings) (before now : Account)
    (files : Files) (left : Known) (out : List ℕ) (said : List (List ℕ)) (status : ℕ) (next : Option Known) (tags : List (List ℕ)) (printed : List ℕ)
    → IsCoherent files
    → (run : IsRun window arguments script settings before now (Some (after files [])) (Some left) out said status)
    → run.report.outcome ≡ Completed → settings.no_create ≡ false
    → HasPlainFiles files settings.srcdir run.templates (artifacts script run.start run.templates run.report)
    → (again : IsMadeAgain (Some (handed_on left)) next tags printed)
    → again.made ≡ filter (is_chosen tags) (artifacts script run.start run.templates run.report)
