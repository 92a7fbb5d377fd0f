-- Reading a record: its lines from the first to the last, up to the first fault.
use Rattle.std.specs.Prelude.{◌≡◌, ℕ, ◌+◌, ◌==◌, ◌&&◌, not, Bool, false, List, [], ◌∷◌, ◌++◌, length, Result, Ok, Err, Option, Some, None, codes, if◌then◌else◌}
use Rattle.std.specs.List.{list_all}
use Rattle.std.specs.Char.{is_ascii_digit}
use Rattle.std.specs.Str.{bytes_eq}
use Rattle.fallible.specs.Reading.{◌>>=◌, GivesBy}
use Rattle.deftable.specs.NameList.{has_name}
use Rattle.deftable.specs.Table.{names_of}
use Rattle.text_cut.specs.Cuts.{parts}
use Rattle.status_record.specs.declared.fault.RecordFault.{RecordFault}
use Rattle.status_record.specs.declared.fault.RecordFault.TheVariants.{BadMagic, BadLine, Truncated, UnknownVersion, DuplicateName, OutOfMemory}
use Rattle.status_record.specs.declared.record.Record.{Record}
use Rattle.status_record.specs.declared.read.Version.{Version}
use Rattle.status_record.specs.declared.read.Version.TheVariants.{First, Second}
use Rattle.output_list.specs.declared.output.Output.{Output}
use Rattle.output_list.specs.Output.{output_names}
use Rattle.status_record.specs.Escape.{unescaped}
use Rattle.status_record.specs.Line.{after_prefix, entry_in, output_in}
use Rattle.status_record.specs.RecordText.{record_lines, IsRecord}

-- The reading has this fault. Out of memory is no fault of a text, so it says nothing. (own)
abbrev pub Fails : {Y : Type 0} → RecordFault → Result Y RecordFault → Type 0
Fails OutOfMemory read = Unit {0}
Fails f read = read ≡ Err f

-- The function returned what the reading gives, by this view of it, or ran out of memory. (own)
abbrev pub Gives : {X Y : Type 0} → (X → Y) → Result X RecordFault → Result Y RecordFault → Type 0
Gives view given read = GivesBy Fails view given read

-- The value, or a bad line of this number if there is none. (own)
abbrev pub or_bad : {A : Type 0} → ℕ → Option A → Result A RecordFault
or_bad n None = Err (BadLine n)
or_bad n (Some x) = Ok x

-- The function of the text, or the other value if there is no text. (own)
abbrev pub either : {X : Type 0} → Option (List ℕ) → (List ℕ → X) → X → X
either None f other = other
either (Some t) f other = f t

-- What was read, the number of lines before those that are left, and the lines that are left. (own)
abbrev pub Read : Type 0 → Type 0
Read A = A × (ℕ × List (List ℕ))

-- ---- lines of one kind

-- The items and that of the fields of line n, unless it has the name of one before. (own)
abbrev pub with_item : {A : Type 0} → (List ℕ → Option A) → (List A → A → Bool) → List A → ℕ → List ℕ → Result (List A) RecordFault
with_item read is_given items n fields =
    or_bad n (read fields) >>= λ x. (if is_given items x then Err (DuplicateName n) else Ok (items ++ x ∷ []))

-- The items and those of the lines at the front that begin with the keyword, after n lines. (own)
unfoldable pub several : {A : Type 0} → List ℕ → (List ℕ → Option A) → (List A → A → Bool) → List A → ℕ → List (List ℕ) → Result (Read (List A)) RecordFault
several keyword read is_given items n [] = Ok (items, (n, []))
several keyword read is_given items n (line ∷ more) =
    either (after_prefix keyword line)
    (λ fields. with_item read is_given items (n + 1) fields >>= λ now. several keyword read is_given now (n + 1) more)
    (Ok (items, (n, line ∷ more)))

-- Whether an entry has the name. (own)
abbrev pub is_entry : List (List ℕ × List ℕ) → (List ℕ × List ℕ) → Bool
is_entry entries e = has_name (names_of entries) e.0

-- Whether an output has the name, or it is one of the names before. (own)
abbrev pub is_output : List (List ℕ) → List Output → Output → Bool
is_output before outputs o = has_name (before ++ output_names outputs) o.name

-- The variables or the definitions, after n lines. (own)
abbrev pub entries_in : List ℕ → ℕ → List (List ℕ) → Result (Read (List (List ℕ × List ℕ))) RecordFault
entries_in keyword n lines = several keyword entry_in is_entry [] n lines

-- The files or the headers, after n lines and outputs with the names before. (own)
abbrev pub outputs_in : List ℕ → List (List ℕ) → ℕ → List (List ℕ) → Result (Read (List Output)) RecordFault
outputs_in keyword before n lines = several keyword output_in (is_output before) [] n lines

-- No argument repeats another one. (own)
abbrev pub is_repeated : List (List ℕ) → List ℕ → Bool
is_repeated args arg = false

-- The arguments, after the first two lines. (own)
abbrev pub texts_in : List (List ℕ) → Result (Read (List (List ℕ))) RecordFault
texts_in lines = several (codes "arg ") unescaped is_repeated [] 2 lines

-- The arguments after the first two lines, if the version has them. (own)
abbrev pub args_in : Version → List (List ℕ) → Result (Read (Option (List (List ℕ)))) RecordFault
args_in First lines = Ok (None, (2, lines))
args_in Second lines = texts_in lines >>= λ args. Ok (Some args.0, args.1)

-- ---- a whole text

-- Whether the text is a decimal number without leading zeros. (own)
abbrev pub is_number : List ℕ → Bool
is_number [] = false
is_number (b ∷ []) = is_ascii_digit b
is_number (b ∷ c ∷ more) = not (b == 48) && list_all is_ascii_digit (b ∷ c ∷ more)

-- Whether the line is `acrun-record` and a number, with one space between them. (own)
abbrev pub is_magic : List ℕ → Bool
is_magic line = either (after_prefix (codes "acrun-record ") line) is_number false

-- The version of the first line. (own)
unfoldable pub version_in : List ℕ → Result Version RecordFault
version_in line =
    if bytes_eq line (codes "acrun-record 1") then Ok First
    else (if bytes_eq line (codes "acrun-record 2") then Ok Second
    else (if is_magic line then Err UnknownVersion else Err BadMagic))

-- The source directory of the second line. (own)
unfoldable pub srcdir_in : List ℕ → Result (List ℕ) RecordFault
srcdir_in line = either (after_prefix (codes "srcdir ") line) (λ value. or_bad 2 (unescaped value)) (Err (BadLine 2))

-- The lines after the first n, and the text after the last newline: `end`, and then no line and no part of one. (own)
unfoldable pub ending : List ℕ → ℕ → List (List ℕ) → Result (Unit {0}) RecordFault
ending rest n [] = Err Truncated
ending rest n (line ∷ []) =
    if bytes_eq line (codes "end") then (if length rest == 0 then Ok tt else Err (BadLine (n + 2))) else Err (BadLine (n + 1))
ending rest n (line ∷ next ∷ more) = if bytes_eq line (codes "end") then Err (BadLine (n + 2)) else Err (BadLine (n + 1))

-- The lines after the second, and the text after the last newline. (own)
unfoldable pub body_in : List ℕ → Version → List ℕ → List (List ℕ) → Result Record RecordFault
body_in rest version srcdir lines = do
  args ← args_in version lines
  vars ← entries_in (codes "var ") args.1.0 args.1.1
  defs ← entries_in (codes "def ") vars.1.0 vars.1.1
  files ← outputs_in (codes "file ") [] defs.1.0 defs.1.1
  headers ← outputs_in (codes "header ") (output_names files.0) files.1.0 files.1.1
  _ ← ending rest headers.1.0 headers.1.1
  Ok (record { srcdir = srcdir; args = args.0; vars = vars.0; defs = defs.0; files = files.0; headers = headers.0 })

-- The lines that a newline ends, and the text after the last newline. (own)
unfoldable pub lines_in : List ℕ → List (List ℕ) → Result Record RecordFault
lines_in rest [] = Err BadMagic
lines_in rest (first ∷ []) = version_in first >>= λ _. Err Truncated
lines_in rest (first ∷ second ∷ more) = do
  version ← version_in first
  srcdir ← srcdir_in second
  body_in rest version srcdir more

-- The last of several texts. (own)
unfoldable pub last_of : List (List ℕ) → List ℕ
last_of [] = []
last_of (x ∷ []) = x
last_of (x ∷ y ∷ more) = last_of (y ∷ more)

-- The texts before the last. (own)
unfoldable pub front_of : List (List ℕ) → List (List ℕ)
front_of [] = []
front_of (x ∷ []) = []
front_of (x ∷ y ∷ more) = x ∷ front_of (y ∷ more)

-- The record of a text, or the text's first fault. (own)
unfoldable pub record_in : List ℕ → Result Record RecordFault
record_in text = lines_in (last_of (parts 10 text)) (front_of (parts 10 text))

-- The lines are the first of a record that has more. (own)
pub record IsTruncated (lines : List (List ℕ)) : Type 0 where
  pub whole : Record
  pub next : List ℕ
  pub more : List (List ℕ)
  pub holds : IsRecord whole
  pub begins : record_lines whole ≡ lines ++ next ∷ more
