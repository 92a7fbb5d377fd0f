-- The templates of a run, and which of its outputs are made.
use Rattle.std.specs.Prelude.{ℕ, Bool, not, ◌&&◌, ◌||◌, ◌==◌, List, [], length, Option, is_some, unwrap_or, filter, find, position}
use Rattle.deftable.specs.NameList.{has_name}
use Rattle.deftable.specs.Table.{value_of}
use Rattle.output_list.specs.declared.output.Output.{Output}
use Rattle.output_list.specs.Output.{has_output}
use Rattle.status_record.specs.declared.record.Record.{Record}

-- The first template of this name, and the empty text if there is none. A template is a name and a text. (own)
abbrev pub template_of : List (List ℕ × List ℕ) → List ℕ → List ℕ
template_of templates name = unwrap_or (value_of templates name) []

-- There is a template of this name. (own)
abbrev pub has_template : List (List ℕ × List ℕ) → List ℕ → Bool
has_template templates name = is_some (value_of templates name)

-- The output is to be made: there are no tags, or one of them is its name. (own)
abbrev pub is_chosen : List (List ℕ) → Output → Bool
is_chosen tags o = length tags == 0 || has_name tags o.name

-- The outputs that are to be made, in order. (own)
abbrev pub chosen : List (List ℕ) → List Output → List Output
chosen tags outputs = filter (is_chosen tags) outputs

-- The output is to be made, and its template is missing. (own)
abbrev pub is_missing : List (List ℕ × List ℕ) → List (List ℕ) → Output → Bool
is_missing templates tags o = is_chosen tags o && not (has_template templates o.template)

-- The first output that is to be made and whose template is missing. (own)
abbrev pub missing : List (List ℕ × List ℕ) → List Output → List (List ℕ) → Option Output
missing templates outputs tags = find (is_missing templates tags) outputs

-- A file or a header of the record has this name. (own)
abbrev pub is_output : Record → List ℕ → Bool
is_output r tag = has_output r.files tag || has_output r.headers tag

-- The index of the first tag that is the name of no file and of no header. (own)
abbrev pub unknown : Record → List (List ℕ) → Option ℕ
unknown r tags = position (λ tag. not (is_output r tag)) tags
