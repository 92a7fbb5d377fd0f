-- Lines of a record, their keywords and their fields.
use Rattle.std.specs.Prelude.{ℕ, ◌+◌, ◌==◌, ◌&&◌, List, [], ◌∷◌, ◌++◌, take, drop, Option, Some, None, option_map, option_and_then, position, if◌then◌else◌}
use Rattle.std.specs.List.{flat_map}
use Rattle.deftable.specs.ShellName.{is_shell_name_of}
use Rattle.output_list.specs.declared.output.Output.{Output}
use Rattle.status_record.specs.Escape.{escaped, unescaped}
use Rattle.output_list.specs.Path.{is_path}

-- The lines, each followed by a newline. (own)
abbrev pub ended : List (List ℕ) → List ℕ
ended lines = flat_map (λ l. l ++ 10 ∷ []) lines

-- Two fields, with one space between them. (own)
abbrev pub two_fields : List ℕ → List ℕ → List ℕ
two_fields first second = first ++ 32 ∷ second

-- The fields of a variable or a definition: NAME VALUE. (own)
abbrev pub entry_fields : (List ℕ × List ℕ) → List ℕ
entry_fields e = two_fields e.0 (escaped e.1)

-- The fields of an output: NAME TEMPLATE. (own)
abbrev pub output_fields : Output → List ℕ
output_fields o = two_fields (escaped o.name) (escaped o.template)

-- The text after the prefix, or none if the text doesn't begin with it. (own)
unfoldable pub after_prefix : List ℕ → List ℕ → Option (List ℕ)
after_prefix [] text = Some text
after_prefix (p ∷ prefix) [] = None
after_prefix (p ∷ prefix) (b ∷ bs) = if b == p then after_prefix prefix bs else None

-- The text before the first space and that after it, or none if there is no space. (own)
abbrev pub cut : List ℕ → Option (List ℕ × List ℕ)
cut fields = option_map (λ i. (take i fields, drop (i + 1) fields)) (position (λ b. b == 32) fields)

-- The name and the value of two fields, or none if they aren't a shell name and an escaped value. (own)
abbrev pub entry_of : (List ℕ × List ℕ) → Option (List ℕ × List ℕ)
entry_of f = if is_shell_name_of f.0 then option_map (λ v. (f.0, v)) (unescaped f.1) else None

-- The name and the value of a text NAME VALUE, and otherwise none. (own)
unfoldable pub entry_in : List ℕ → Option (List ℕ × List ℕ)
entry_in fields = option_and_then entry_of (cut fields)

-- The output of a name and a template, or none if one of them is no path. (own)
abbrev pub output_of : List ℕ → List ℕ → Option Output
output_of name template = if is_path name && is_path template then Some (record { name = name; template = template }) else None

-- The output of a text NAME TEMPLATE, and otherwise none. (own)
unfoldable pub output_in : List ℕ → Option Output
output_in fields =
    option_and_then (λ f. option_and_then (λ name. option_and_then (output_of name) (unescaped f.1)) (unescaped f.0)) (cut fields)
