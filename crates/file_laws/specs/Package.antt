-- A package that is configured, and whose outputs are then made again.
use Rattle.std.specs.Prelude.{◌≡◌, ℕ, false, List, [], ◌∷◌, Some, Ok, codes}
use Rattle.ac_tree.specs.Script.{Script, Done, Then}
use Rattle.ac_tree.specs.declared.statement.Declares.TheVariants as declares
use Rattle.ac_tree.specs.declared.statement.Effect.TheVariants.{Nothing, Package, Complete}
use Rattle.ac_tree.specs.declared.statement.OutputKind.TheVariants as kind
use Rattle.cmd_configure.specs.Configures.{IsRun}
use Rattle.cmd_status.specs.MadeAgain.{IsMadeAgain}
use Rattle.crew_trait.specs.Events.{Account}
use Rattle.engine.specs.Configured.{artifacts}
use Rattle.engine_frame.specs.Given.{source_settings}
use Rattle.engine_frame.specs.declared.report.Outcome.TheVariants.{Completed}
use Rattle.file_disk.specs.Known.{Known}
use Rattle.file_texts.specs.Coherent.{after, IsCoherent}
use Rattle.options.specs.declared.settings.Settings.{Settings}
use Rattle.output_list.specs.declared.output.Output.{Output}
use Rattle.output_put.specs.declared.artifact.Artifact.{Artifact}
use Rattle.output_put.specs.declared.artifact.Kind.TheVariants.{File, Header}
use Rattle.file_laws.specs.Again.{HasPlainFiles, handed_on}
use Rattle.file_laws.specs.Example.{disk}

abbrev pub makefile : Output
makefile = record { name = codes "src/Makefile"; template = codes "src/Makefile.in" }

abbrev pub header : Output
header = record { name = codes "config.h"; template = codes "config.h.in" }

-- AC_INIT([a],[1]), AC_CONFIG_FILES([src/Makefile]), AC_CONFIG_HEADERS([config.h]) and AC_OUTPUT.
abbrev pub source : Script
source =
    Then declares.Begin (Package (codes "a") (codes "1") [] (codes "a") [])
    (Then (declares.Outputs kind.File (makefile ∷ [])) Nothing
    (Then (declares.Outputs kind.Header (header ∷ [])) Nothing
    (Then declares.End Complete Done)))

-- The package is in `../pkg`, and the run has a cache.
abbrev pub arguments : List (List ℕ)
arguments = codes "--srcdir=../pkg" ∷ codes "-C" ∷ []

-- Nothing was started.
abbrev pub unused : Account
unused = record { events = []; attempts = 0; failures = 0 }

-- What is made of the templates on the disk.
abbrev pub outputs : List Artifact
outputs =
    record { kind = File; name = codes "src/Makefile"; text = codes "NAME = a\n" }
    ∷ record {
      kind = Header;
      name = codes "config.h";
      text = codes "/* config.h.  Generated from config.h.in by configure.  */\n#define PACKAGE_NAME \"a\"\n";
    }
    ∷ []

-- The package is configured on the disk, in an empty environment, and then `status` makes all outputs
-- again. Each premise of the law on both is a field. (own)
pub record IsMadeTwice : Type 0 where
  pub settings : Settings
  pub asked : source_settings arguments [] source ≡ Ok settings
  pub coherent : IsCoherent disk
  pub left : Known
  pub out : List ℕ
  pub run : IsRun 1 arguments source settings unused unused (Some (after disk [])) (Some left) out [] 0
  pub completed : run.report.outcome ≡ Completed
  pub wanted : settings.no_create ≡ false
  pub plain : HasPlainFiles disk settings.srcdir run.templates (artifacts source run.start run.templates run.report)
  pub next : Known
  pub printed : List ℕ
  pub again : IsMadeAgain (Some (handed_on left)) (Some next) [] printed
