-- The record of a run, and the files and headers that are made of it.
use Rattle.std.specs.Prelude.{ℕ, ◌==◌, not, List, ◌++◌, length, map, Some, codes}
use Rattle.deftable.specs.Table.{with_entry}
use Rattle.output_list.specs.declared.output.Output.{Output}
use Rattle.output_make.specs.declared.filling.Made.{Made}
use Rattle.output_make.specs.declared.filling.Made.TheVariants.{File, Header}
use Rattle.output_put.specs.declared.artifact.Kind.TheVariants as kind
use Rattle.output_put.specs.declared.artifact.Artifact.{Artifact}
use Rattle.status_record.specs.declared.record.Record.{Record}
use Rattle.template.specs.Fill.{filled}
use Rattle.template.specs.Header.{headed}
use Rattle.template.specs.Place.{directories_of, configure_input_of, header_note_of}
use Rattle.template.specs.declared.paths.FileDirectories.{FileDirectories}
use Rattle.output_make.specs.Choice.{template_of, chosen}
use Rattle.output_make.specs.Variables.{output_variables}

-- The record of a run that is given these arguments and ends with these variables and definitions. The names are the source's
-- own output variables. (own)
unfoldable pub record_of_run : List (List ℕ × List ℕ) → List (List ℕ × List ℕ) → List (List ℕ) → List ℕ → List (List ℕ) → List Output → List Output → Record
record_of_run vars defs names srcdir args files headers = record {
  srcdir = srcdir;
  args = Some args;
  vars = output_variables vars (not (length headers == 0)) names;
  defs = defs;
  files = files;
  headers = headers;
}

-- The table with the variables for the directories of a file. (Autoconf's manual, "Preset Output Variables")
unfoldable pub with_place : List (List ℕ × List ℕ) → FileDirectories → List (List ℕ × List ℕ)
with_place table place =
    with_entry (with_entry (with_entry (with_entry table (codes "srcdir") place.srcdir) (codes "top_srcdir") place.top_srcdir)
    (codes "builddir") place.builddir) (codes "top_builddir") place.top_builddir

-- The table that the template of a file is filled from: the output variables, and the file's own, which override them.
-- (Autoconf's manual, "Preset Output Variables")
unfoldable pub file_table : Record → Output → List (List ℕ × List ℕ)
file_table r o =
    with_place (with_entry r.vars (codes "configure_input") (configure_input_of o.name o.template)) (directories_of o.name r.srcdir)

-- The file that is made of this template. (Autoconf's manual, "Configuration Files")
abbrev pub file_of : Record → List ℕ → Output → Artifact
file_of r template o = record { kind = kind.File; name = o.name; text = filled (file_table r o) template }

-- The file that is made of its template. (Autoconf's manual, "Configuration Files")
unfoldable pub made_file : Record → List (List ℕ × List ℕ) → Output → Artifact
made_file r templates o = file_of r (template_of templates o.template) o

-- The text of a header: a first line that says what it is made of, and then what is made of its template. (Autoconf's manual,
-- "Configuration Header Files")
abbrev pub header_text : Record → List (List ℕ × List ℕ) → Output → List ℕ
header_text r templates o = header_note_of o.name o.template ++ headed r.defs (template_of templates o.template)

-- The header that is made of its template. (Autoconf's manual, "Configuration Header Files")
unfoldable pub made_header : Record → List (List ℕ × List ℕ) → Output → Artifact
made_header r templates o = record { kind = kind.Header; name = o.name; text = header_text r templates o }

-- The file or header that is made of its template. (own)
abbrev pub made_of : Made → Record → List (List ℕ × List ℕ) → Output → Artifact
made_of File = made_file
made_of Header = made_header

-- What is made of a record with these templates: the files and then the headers, each in the record's order, without those
-- that the tags leave out. (own)
unfoldable pub made : Record → List (List ℕ × List ℕ) → List (List ℕ) → List Artifact
made r templates tags = map (made_file r templates) (chosen tags r.files) ++ map (made_header r templates) (chosen tags r.headers)
