-- What is said of a job. (own)
use Rattle.std.specs.Prelude.{ℕ, ◌+◌, ◌-◌, ◌==◌, ◌&&◌, Bool, List, [], ◌∷◌, ◌++◌, Option, Some, None, bytes_eq, codes, drop, flat_map, get_or, length, option_and_then, option_map, take, unwrap_or, if◌then◌else◌}
use Rattle.std.specs.List.{after_last}
use Rattle.std.specs.Option.{option_or}
use Rattle.crew_jobs.specs.declared.job.Job.{Job}

-- The text before this end, if it has this end. (own)
unfoldable pub before_end : List ℕ → List ℕ → Option (List ℕ)
before_end back text =
    if bytes_eq (drop (length text - length back) text) back then Some (take (length text - length back) text) else None

-- The text after this front, if it has this front. (own)
unfoldable pub after_front : List ℕ → List ℕ → Option (List ℕ)
after_front front text = if bytes_eq (take (length front) text) front then Some (drop (length front) text) else None

-- The last line of a text. (own)
unfoldable pub last_line : List ℕ → List ℕ
last_line text = after_last (λ b. b == 10) text

-- What a text has between this front of a line and its end. (own)
abbrev pub between : List ℕ → List ℕ → List ℕ → Option (List ℕ)
between front back text = option_and_then (λ before. after_front front (last_line before)) (before_end back text)

-- What is tested, after a word for its kind, if the text tests something between this front of a line and its end. (own)
unfoldable pub named : List ℕ → List ℕ → List ℕ → List ℕ → Option (List ℕ)
named kind front back text = option_map (λ name. kind ++ name) (between front back text)

-- The type whose size a text takes. In the second test of a type it is in parentheses. (own)
abbrev pub type_in : List ℕ → Option (List ℕ)
type_in text =
    option_or (named (codes " type ") (codes "if (sizeof ((") (codes "))) return 0;\n  ;\n  return 0;\n}\n") text)
    (named (codes " type ") (codes "if (sizeof (") (codes ")) return 0;\n  ;\n  return 0;\n}\n") text)

-- The function that a text calls. (own)
abbrev pub function_in : List ℕ → Option (List ℕ)
function_in text = named (codes " function ") (codes "return ") (codes " ();\n  ;\n  return 0;\n}\n") text

-- The name that a text uses if it is no macro. (own)
abbrev pub declaration_in : List ℕ → Option (List ℕ)
declaration_in text = named (codes " declaration ") (codes "  (void) ") (codes ";\n#endif\n  ;\n  return 0;\n}\n") text

-- What the text of a conftest tests: the header that it includes last, the function that it calls, the name that it uses if that is no
-- macro, or the type whose size it takes. (own)
abbrev pub subject_in : List ℕ → Option (List ℕ)
subject_in text =
    option_or (named (codes " header ") (codes "#include <") (codes ">\n") text)
    (option_or (function_in text) (option_or (declaration_in text) (type_in text)))

-- What the conftest of a job tests. (own)
abbrev pub subject_of_file : Option (List ℕ × List ℕ) → Option (List ℕ)
subject_of_file None = None
subject_of_file (Some file) = subject_in file.1

-- The words of a command, each after a blank. (own)
unfoldable pub words_of : List (List ℕ) → List ℕ
words_of words = flat_map (λ word. 32 ∷ word) words

-- The words are a shell command that looks whether a path is that of a program, as `path_words` of `crew_jobs` makes them. (own)
abbrev pub is_search : List (List ℕ) → Bool
is_search words =
    (length words == 5) && bytes_eq (get_or words 0 []) (codes "sh") && bytes_eq (get_or words 1 []) (codes "-c")
    && bytes_eq (get_or words 2 []) (codes "test -f \"$1\" && test -x \"$1\"") && bytes_eq (get_or words 3 []) (codes "sh")

-- The name of a file: what follows the last `/` of its path. (own)
unfoldable pub name_in : List ℕ → List ℕ
name_in path = after_last (λ b. b == 47) path

-- The directory of a file: what is before the last `/` of its path. (own)
unfoldable pub directory_in : List ℕ → List ℕ
directory_in path = take (length path - (length (name_in path) + 1)) path

-- What is said of the search for a program of this name in a directory. (own)
unfoldable pub search_text : List ℕ → List ℕ → List ℕ
search_text name directory = codes " looking for " ++ name ++ codes " in " ++ directory

-- What is said of a command that looks for a program at a path. (own)
unfoldable pub search_of : List (List ℕ) → Option (List ℕ)
search_of words =
    if is_search words then Some (search_text (name_in (get_or words 4 [])) (directory_in (get_or words 4 []))) else None

-- What is said of a command: which program it looks for, if it does that, and otherwise its words. (own)
unfoldable pub command_text : List (List ℕ) → List ℕ
command_text words = unwrap_or (search_of words) (words_of words)

-- As much of a text as the line of a terminal can show. (own)
abbrev pub line_front : List ℕ → List ℕ
line_front text = take 79 text

-- What the line of a terminal says of a job: what its conftest tests if the text shows that, and otherwise its command. (own)
unfoldable pub subject_of : Job → List ℕ
subject_of job = line_front (unwrap_or (subject_of_file job.file) (command_text job.words))
