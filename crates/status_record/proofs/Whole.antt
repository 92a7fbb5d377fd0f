-- Whole texts: a record's text is read as the record, and what is read is a record's text.
use Rattle.std.proofs.Common.{◌≡◌, ℕ, ◌+◌, true, false, List, [], ◌∷◌, ◌++◌, length, Option, Some, None, Ok, Err, refl, ap, ◌∙◌}
use Rattle.std.specs.Prelude.{codes, bytes_eq, ⊤}
use Rattle.std.specs.List.{AllByRecursion, IsDistinct}
use Rattle.deftable.specs.ShellName.{IsShellName}
use Rattle.deftable.specs.NameList.{AreDistinct}
use Rattle.deftable.specs.Table.{HasShellNames, HasDistinctNames}
use Rattle.status_record.specs.declared.fault.RecordFault.TheVariants.{BadLine}
use Rattle.status_record.specs.declared.record.Record.{Record}
use Rattle.status_record.specs.declared.read.Version.{Version}
use Rattle.status_record.specs.declared.read.Version.TheVariants.{First, Second}
use Rattle.output_list.specs.declared.output.Output.{Output}
use Rattle.output_list.specs.Output.{output_names, IsOutput}
use Rattle.status_record.specs.Escape.{escaped, unescaped}
use Rattle.status_record.specs.Line.{after_prefix, entry_in, entry_fields, output_in, output_fields, two_fields}
use Rattle.status_record.specs.RecordText.{version_line, arg_lines, lines_of, body_lines, record_lines, record_text, IsRecord}
use Rattle.status_record.specs.Reading.{either, or_bad, is_entry, is_output, entries_in, outputs_in, is_repeated, texts_in, args_in, version_in, srcdir_in, ending, body_in, lines_in, last_of, front_of, record_in}
use Rattle.status_record.proofs.Escapes.{unescaped-escaped}
use Rattle.status_record.proofs.Fields.{entry_back, output_back}
use Rattle.status_record.proofs.Lines.{after_prefix-append}
use Rattle.status_record.proofs.Loops.{last_of-end, front_of-end}
use Rattle.status_record.proofs.Sections.{Apart, May, several_back, May-from}
use Rattle.fallible.proofs.Binds.{then_ok}
use Rattle.status_record.proofs.Texts.{lacks, lacks-append, shell_lacks_newline, escaped_lacks_newline, AreLines, parts_ended}

-- ---- the sections of a record

pub named_all : (es : List (List ℕ × List ℕ)) → HasShellNames es → AllByRecursion (λ e. IsShellName e.0) es
named_all [] h = tt
named_all (e ∷ es) h = (h.0, named_all es h.1)

pub all_named : (es : List (List ℕ × List ℕ)) → AllByRecursion (λ e. IsShellName e.0) es → HasShellNames es
all_named [] h = tt
all_named (e ∷ es) h = (h.0, all_named es h.1)

entries_back : (keyword : List ℕ) (es : List (List ℕ × List ℕ)) (n : ℕ) (rest : List (List ℕ)) → HasShellNames es × HasDistinctNames es → Apart keyword rest
    → entries_in keyword n (lines_of keyword entry_fields es ++ rest) ≡ Ok (es, (n + length es, rest))
entries_back keyword es n rest h apart =
    several_back keyword entry_fields entry_in is_entry (λ e. IsShellName e.0) entry_back [] es n rest
    (May-from keyword entry_fields entry_in (λ e. e.0) [] (λ e. IsShellName e.0) [] es (named_all es h.0) h.1) apart

outputs_back : (keyword : List ℕ) (before : List (List ℕ)) (os : List Output) (n : ℕ) (rest : List (List ℕ)) → AllByRecursion IsOutput os → AreDistinct (before ++ output_names os)
    → Apart keyword rest → outputs_in keyword before n (lines_of keyword output_fields os ++ rest) ≡ Ok (os, (n + length os, rest))
outputs_back keyword before os n rest all distinct apart =
    several_back keyword output_fields output_in (is_output before) IsOutput output_back [] os n rest
    (May-from keyword output_fields output_in (λ o. o.name) before IsOutput [] os all distinct) apart

-- lines of another kind
pub apart_lines : {A : Type 0} (keyword other : List ℕ) (fields : A → List ℕ) (items : List A) (rest : List (List ℕ)) → ((t : List ℕ) → after_prefix keyword (other ++ t) ≡ None)
    → Apart keyword rest → Apart keyword (lines_of other fields items ++ rest)
apart_lines keyword other fields [] rest none h = h
apart_lines keyword other fields (x ∷ items) rest none h = none (fields x)

distinct-front : (ms ns : List (List ℕ)) → AreDistinct (ms ++ ns) → AreDistinct ms
unfolding IsDistinct
distinct-front [] ns h = tt
distinct-front (m ∷ ms) ns h = (front ms h.0, distinct-front ms ns h.1)
  where
    front : (xs : List (List ℕ)) → AllByRecursion (λ y. bytes_eq m y ≡ false) (xs ++ ns) → AllByRecursion (λ y. bytes_eq m y ≡ false) xs
    front [] all = tt
    front (x ∷ xs) all = (all.0, front xs all.1)

end_back : (n : ℕ) → ending [] n (codes "end" ∷ []) ≡ Ok tt
unfolding ending
end_back n = refl

-- ---- the arguments

-- the version of a record with these arguments
abbrev pub version_of : Option (List (List ℕ)) → Version
version_of None = First
version_of (Some args) = Second

abbrev pub IsAny : List ℕ → Type 0
IsAny arg = ⊤

-- arguments may come after any others
may_follow : (before args : List (List ℕ)) → May (codes "arg ") escaped unescaped is_repeated IsAny before args
may_follow before [] = tt
may_follow before (arg ∷ args) = (tt, refl, may_follow (before ++ arg ∷ []) args)

-- the number of lines up to the end of the arguments
abbrev args_end : Option (List (List ℕ)) → ℕ
args_end None = 2
args_end (Some args) = 2 + length args

args_back : (args : Option (List (List ℕ))) (rest : List (List ℕ)) → Apart (codes "arg ") rest → args_in (version_of args) (arg_lines args ++ rest) ≡ Ok (args, (args_end args, rest))
args_back None rest apart = refl
args_back (Some args) rest apart =
    then_ok (texts_in (arg_lines (Some args) ++ rest)) _ (args, (2 + length args, rest)) _
    (several_back (codes "arg ") escaped unescaped is_repeated IsAny (λ arg any. unescaped-escaped arg) [] args 2 rest (may_follow [] args) apart) refl

-- the lines after the second are read
body_back : (r : Record) → IsRecord r → body_in [] (version_of r.args) r.srcdir (arg_lines r.args ++ body_lines r) ≡ Ok r
unfolding body_in after_prefix
body_back r is =
    let l5 = codes "end" ∷ [] in
    let l4 = lines_of (codes "header ") output_fields r.headers ++ l5 in
    let l3 = lines_of (codes "file ") output_fields r.files ++ l4 in
    let l2 = lines_of (codes "def ") entry_fields r.defs ++ l3 in
    let l1 = lines_of (codes "var ") entry_fields r.vars ++ l2 in
    let headers_apart : (keyword : List ℕ) → after_prefix keyword (codes "end") ≡ None → ((t : List ℕ) → after_prefix keyword (codes "header " ++ t) ≡ None) → Apart keyword l4 = λ keyword e h.
    apart_lines keyword (codes "header ") output_fields r.headers l5 h e in
    let apart_args : Apart (codes "arg ") l1 =
    apart_lines (codes "arg ") (codes "var ") entry_fields r.vars l2 (λ t. refl)
    (apart_lines (codes "arg ") (codes "def ") entry_fields r.defs l3 (λ t. refl)
    (apart_lines (codes "arg ") (codes "file ") output_fields r.files l4 (λ t. refl) (headers_apart (codes "arg ") refl (λ t. refl)))) in
    let apart_vars : Apart (codes "var ") l2 =
    apart_lines (codes "var ") (codes "def ") entry_fields r.defs l3 (λ t. refl)
    (apart_lines (codes "var ") (codes "file ") output_fields r.files l4 (λ t. refl) (headers_apart (codes "var ") refl (λ t. refl))) in
    let apart_defs : Apart (codes "def ") l3 =
    apart_lines (codes "def ") (codes "file ") output_fields r.files l4 (λ t. refl) (headers_apart (codes "def ") refl (λ t. refl)) in
    let apart_files : Apart (codes "file ") l4 = headers_apart (codes "file ") refl (λ t. refl) in
    let m1 = args_end r.args in
    let m2 = m1 + length r.vars in
    let m3 = m2 + length r.defs in
    let m4 = m3 + length r.files in
    let m5 = m4 + length r.headers in
    let o = is.outputs in
    then_ok _ _ (r.args, (m1, l1)) _ (args_back r.args l1 apart_args)
    (then_ok _ _ (r.vars, (m2, l2)) _ (entries_back (codes "var ") r.vars m1 l2 is.vars apart_vars)
    (then_ok _ _ (r.defs, (m3, l3)) _ (entries_back (codes "def ") r.defs m2 l3 is.defs apart_defs)
    (then_ok _ _ (r.files, (m4, l4)) _ (outputs_back (codes "file ") [] r.files m3 l4 o.file_paths (distinct-front (output_names r.files) (output_names r.headers) o.names) apart_files)
    (then_ok _ _ (r.headers, (m5, l5)) _ (outputs_back (codes "header ") (output_names r.files) r.headers m4 l5 o.header_paths o.names refl)
    (then_ok _ _ tt _ (end_back m5) refl)))))

-- the second line
pub srcdir_back : (v : List ℕ) → srcdir_in (codes "srcdir " ++ escaped v) ≡ Ok v
unfolding srcdir_in
srcdir_back v =
    ap (λ o. either o (λ value. or_bad 2 (unescaped value)) (Err (BadLine 2))) (after_prefix-append (codes "srcdir ") (escaped v)) ∙ ap (or_bad 2) (unescaped-escaped v)

pub version_back : (args : Option (List (List ℕ))) → version_in (version_line args) ≡ Ok (version_of args)
unfolding version_in
version_back None = refl
version_back (Some args) = refl

pub lines_back : (r : Record) → IsRecord r → lines_in [] (record_lines r) ≡ Ok r
unfolding lines_in
lines_back r is =
    then_ok _ _ (version_of r.args) _ (version_back r.args) (then_ok _ _ r.srcdir _ (srcdir_back r.srcdir) (body_back r is))

-- ---- no line of a record has a newline

all_append : (a b : List (List ℕ)) → AreLines a → AreLines b → AreLines (a ++ b)
all_append [] b h k = k
all_append (x ∷ a) b h k = (h.0, all_append a b h.1 k)

all_lines : {A : Type 0} (keyword : List ℕ) (fields : A → List ℕ) (Is : A → Type 0) → lacks 10 keyword ≡ true → ((x : A) → Is x → lacks 10 (fields x) ≡ true)
    → (items : List A) → AllByRecursion Is items → AreLines (lines_of keyword fields items)
all_lines keyword fields Is k each [] all = tt
all_lines keyword fields Is k each (x ∷ items) all = (lacks-append 10 keyword (fields x) k (each x all.0), all_lines keyword fields Is k each items all.1)

two_lack : (a b : List ℕ) → lacks 10 a ≡ true → lacks 10 b ≡ true → lacks 10 (two_fields a b) ≡ true
two_lack a b h k = lacks-append 10 a (32 ∷ b) h k

output_lacks : (o : Output) → IsOutput o → lacks 10 (output_fields o) ≡ true
output_lacks o is = two_lack (escaped o.name) (escaped o.template) (escaped_lacks_newline o.name) (escaped_lacks_newline o.template)

entry_lacks : (e : List ℕ × List ℕ) → IsShellName e.0 → lacks 10 (entry_fields e) ≡ true
entry_lacks e is = two_lack e.0 (escaped e.1) (shell_lacks_newline e.0 is) (escaped_lacks_newline e.1)

version_lacks : (args : Option (List (List ℕ))) → lacks 10 (version_line args) ≡ true
version_lacks None = refl
version_lacks (Some args) = refl

pub any_all : (args : List (List ℕ)) → AllByRecursion IsAny args
any_all [] = tt
any_all (arg ∷ args) = (tt, any_all args)

args_are_lines : (args : Option (List (List ℕ))) → AreLines (arg_lines args)
args_are_lines None = tt
args_are_lines (Some args) = all_lines (codes "arg ") escaped IsAny refl (λ arg any. escaped_lacks_newline arg) args (any_all args)

pub are_lines : (r : Record) → IsRecord r → AreLines (record_lines r)
are_lines r is = (
  version_lacks r.args,
  (
    lacks-append 10 (codes "srcdir ") (escaped r.srcdir) refl (escaped_lacks_newline r.srcdir),
    all_append (arg_lines r.args) _ (args_are_lines r.args)
        (all_append (lines_of (codes "var ") entry_fields r.vars) _ (all_lines (codes "var ") entry_fields (λ e. IsShellName e.0) refl entry_lacks r.vars (named_all r.vars is.vars.0))
        (all_append (lines_of (codes "def ") entry_fields r.defs) _ (all_lines (codes "def ") entry_fields (λ e. IsShellName e.0) refl entry_lacks r.defs (named_all r.defs is.defs.0))
        (all_append (lines_of (codes "file ") output_fields r.files) _ (all_lines (codes "file ") output_fields IsOutput refl output_lacks r.files is.outputs.file_paths)
        (all_append (lines_of (codes "header ") output_fields r.headers) _ (all_lines (codes "header ") output_fields IsOutput refl output_lacks r.headers is.outputs.header_paths)
        (refl, tt))))),
  ),
)

-- A record's text is read as the record.
pub reads_back : (r : Record) → IsRecord r → record_in (record_text r) ≡ Ok r
unfolding record_in record_text
reads_back r is =
    let ps = parts_ended (record_lines r) (are_lines r is) in
    ap (λ p. lines_in (last_of p) (front_of p)) ps
    ∙ ap (λ l. lines_in l (front_of (record_lines r ++ [] ∷ []))) (last_of-end (record_lines r) [])
    ∙ ap (lines_in []) (front_of-end (record_lines r) []) ∙ lines_back r is
