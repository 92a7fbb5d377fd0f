-- A run that makes a directory, on a disk that lacks it.
use Rattle.std.specs.Prelude.{ℕ, true, List, [], ◌∷◌, ◌++◌, Some, None, bytes_eq, codes, if◌then◌else◌}
use Rattle.file_disk.specs.Known.{Files, Deed}
use Rattle.file_texts.specs.Steps.{directories_for, writing}
use Rattle.file_texts.specs.declared.places.Guard.{Guard}
use Rattle.file_texts.specs.declared.places.FilePlace.{FilePlace}
use Rattle.file_disk.specs.Clearing.{filling}
use Rattle.file_texts.specs.Coherent.{after}
use Rattle.output_put.specs.declared.artifact.Artifact.{Artifact}
use Rattle.output_put.specs.declared.artifact.Kind.TheVariants.{File, Header, Record}
use Rattle.file_laws.specs.Flat.{Texts}
use Rattle.file_laws.specs.Tree.{Link, State, tree}

-- A link in the directory of the run, to a header of the package.
abbrev pub link : Link
link = record { name = codes "old.h"; target = codes "../pkg/old.h" }

abbrev pub template : List ℕ
template = codes "../pkg/src/Makefile.in"

-- The text of a file in this list, which has a name and a text for each.
abbrev pub text_of : List (List ℕ × List ℕ) → Texts
text_of [] name = None
text_of (e ∷ es) name = if bytes_eq name e.0 then Some e.1 else text_of es name

-- On the disk are the sources of a package, in `../pkg`, and the directory of the run, in which there is
-- the link alone. There is no directory `src`.
abbrev pub start : State
start = record {
  texts = text_of (
      (template, codes "NAME = @PACKAGE_NAME@\n")
      ∷ (codes "../pkg/config.h.in", codes "#undef PACKAGE_NAME\n")
      ∷ (codes "../pkg/old.h", codes "o")
      ∷ []
      );
  homes = codes "." ∷ codes "../pkg/" ∷ codes "../pkg/src/" ∷ [];
  linked = true;
}

abbrev pub disk : Files
disk = tree link start

-- What the run hands over: a record, `src/Makefile` and a header.
abbrev pub record_put : Artifact
record_put = record { kind = Record; name = codes "config.status"; text = codes "r" }

abbrev pub file_put : Artifact
file_put = record { kind = File; name = codes "src/Makefile"; text = codes "m" }

abbrev pub header_put : Artifact
header_put = record { kind = Header; name = codes "config.h"; text = codes "h" }

abbrev pub handed : List Artifact
handed = (([] ++ record_put ∷ []) ++ file_put ∷ []) ++ header_put ∷ []

-- The log and the template are guarded.
abbrev pub log : List ℕ
log = codes "config.log"

abbrev pub log_place : FilePlace
log_place = record { device = 0; directory = 0; name = log }

abbrev pub template_place : FilePlace
template_place = record { device = 0; directory = 2; name = codes "Makefile.in" }

abbrev pub guards : List Guard
guards = record { name = log; place = Some log_place } ∷ record { name = template; place = Some template_place } ∷ []

-- What is done for each of these, and then for the log.
abbrev pub after_record : List Deed
after_record = [] ++ writing record_put.name None record_put.text 1

abbrev pub after_file : List Deed
after_file = after_record ++ (directories_for file_put.name ++ writing file_put.name None file_put.text 1)

abbrev pub after_header : List Deed
after_header = after_file ++ (directories_for header_put.name ++ writing header_put.name None header_put.text 1)

abbrev pub all_deeds : List Deed
all_deeds = after_header ++ filling log (codes "l") (after disk after_header)
