-- The fault that reading a text gives is its first fault.
use Rattle.std.proofs.Common.{◌≡◌, ◌≢◌, ℕ, ◌+◌, Bool, true, false, cond, List, [], ◌∷◌, ◌++◌, length, Option, Some, None, Result, Ok, Err, refl, ap, ◌∙◌, sym, subst, ◌⊎◌, inl, inr, ⊎_elim, append_assoc, arith, not}
use Rattle.std.specs.Prelude.{codes, ◌==◌, bytes_eq}
use Rattle.std.specs.List.{AllByRecursion, list_all}
use Rattle.std.specs.Char.{is_ascii_digit}
use Rattle.std.proofs.lemmas.List.{append-nil}
use Rattle.std.proofs.lemmas.Bool.Decides.{Decides-eqb}
use Rattle.std.proofs.lemmas.Slice.Eq.{bytes_eq-Decides}
use Rattle.deftable.specs.ShellName.{IsShellName}
use Rattle.output_list.specs.declared.output.Output.{Output}
use Rattle.output_list.specs.Output.{output_names, IsOutput}
use Rattle.std.proofs.lemmas.Bool.{and_from}
use Rattle.status_record.specs.declared.fault.RecordFault.{RecordFault}
use Rattle.status_record.specs.declared.fault.RecordFault.TheVariants.{BadMagic, BadLine, Truncated, UnknownVersion, DuplicateName, OutOfMemory}
use Rattle.status_record.specs.declared.record.Record.{Record}
use Rattle.status_record.specs.declared.read.Version.{Version}
use Rattle.status_record.specs.declared.read.Version.TheVariants.{First, Second}
use Rattle.status_record.specs.Escape.{escaped, unescaped}
use Rattle.status_record.specs.Line.{after_prefix, entry_in, entry_fields, output_in, output_fields}
use Rattle.status_record.specs.RecordText.{version_line, arg_lines, lines_of, body_lines, record_lines}
use Rattle.status_record.specs.Reading.{either, or_bad, several, is_entry, is_output, is_magic, is_number, entries_in, outputs_in, is_repeated, texts_in, version_in, srcdir_in, ending, body_in, lines_in, record_in, Read}
use Rattle.fallible.specs.Reading.{◌>>=◌}
use Rattle.status_record.specs.Faults as forms
use Rattle.status_record.specs.Faults.{whole_lines, rest_of, IsNumber, IsVersion, HasBadMagic, HasUnknownVersion, BeginRecord, HasForms, BeginButForNames, IsAtFault, IsDuplicateName, IsBadLine, HasMore, EndsEarly, IsRecordFault}
use Rattle.status_record.proofs.Escapes.{unescaped-escaped, escaped-unescaped}
use Rattle.status_record.proofs.Fields.{entry_back, entry_only, output_back, output_only}
use Rattle.status_record.proofs.Fronts.{failed, err_is, bind_err, joined_up, lines_truncated, truncated_texts}
use Rattle.status_record.proofs.Lines.{after_prefix-append, after_prefix-some}
use Rattle.status_record.proofs.Only.{line_of, version_only, srcdir_only, lines_only}
use Rattle.status_record.proofs.Sections.{Apart}
use Rattle.fallible.proofs.Binds.{then_ok}
use Rattle.status_record.proofs.Stops.{Reader, IsAt, IsDouble, Stops, Beyond, Faults, PartOf, HasNoBadLine, section_faults, section_loose, at_number}
use Rattle.status_record.proofs.Texts.{first_of, second_of}
use Rattle.status_record.proofs.Whole.{all_named, version_of, IsAny, any_all, named_all, apart_lines, srcdir_back, version_back, lines_back}

abbrev Entries : Type 0
Entries = List (List ℕ × List ℕ)

abbrev Named : (List ℕ × List ℕ) → Type 0
Named e = IsShellName e.0

abbrev reads_as : {A : Type 0} → A → Result A RecordFault
reads_as x = Ok x

abbrev over : Result (Unit {0}) RecordFault
over = Ok tt

ok_err : {A : Type 0} (x : A) (f : RecordFault) → reads_as x ≡ Err f → ⊥
ok_err x f e = cc

-- ---- the last line

abbrev closing : Record → ℕ → Reader Record
closing r n rest lines = ending rest n lines >>= λ _. Ok r

abbrev IsEmpty : List (List ℕ) → Type 0
IsEmpty lines = lines ≡ []

other_stays : (r : Record) (n : ℕ) (line rest : List ℕ) (more : List (List ℕ)) → bytes_eq line (codes "end") ≡ false → closing r n rest (line ∷ more) ≡ Err (BadLine (n + 1))
unfolding ending
other_stays r n line rest [] is = ap (λ t. cond t (cond (length rest == 0) over (Err (BadLine (n + 2)))) (Err (BadLine (n + 1))) >>= λ _. reads_as r) is
other_stays r n line rest (next ∷ more) is = ap (λ t. cond t (failed {A = Unit {0}} (BadLine (n + 2))) (Err (BadLine (n + 1))) >>= λ _. reads_as r) is

other_line : (r : Record) (n : ℕ) (line : List ℕ) (after : List (List ℕ)) (f : RecordFault) → bytes_eq line (codes "end") ≡ false → f ≡ BadLine (n + 1)
    → Stops (closing r n) IsEmpty n (line ∷ after) f
unfolding ending
other_line r n line after f is e =
    let sum : n + 1 ≡ n + 0 + 1 = omega arith in
    record {
      before = [];
      at = line;
      after = after;
      lines_are = refl;
      number = subst (λ g. IsAt g (n + 0 + 1)) (sym e) sum;
      right = inl (λ rest. refl);
      stays = λ rest more. other_stays r n line rest more is ∙ ap failed (sym e);
      loose = λ d. absurd (subst IsDouble e d);
    }

line_after : (r : Record) (n : ℕ) (line next : List ℕ) (after : List (List ℕ)) (f : RecordFault) → bytes_eq line (codes "end") ≡ true → f ≡ BadLine (n + 2)
    → Stops (closing r n) IsEmpty n (line ∷ next ∷ after) f
unfolding ending
line_after r n line next after f is e =
    let sum : n + 2 ≡ n + 1 + 1 = omega arith in
    record {
      before = line ∷ [];
      at = next;
      after = after;
      lines_are = refl;
      number = subst (λ g. IsAt g (n + 1 + 1)) (sym e) sum;
      right = inr (r, ap (λ t. cond t over (Err (BadLine (n + 1))) >>= λ _. reads_as r) is);
      stays = λ rest more. ap (λ t. cond t (failed {A = Unit {0}} (BadLine (n + 2))) (Err (BadLine (n + 1))) >>= λ _. reads_as r) is ∙ ap failed (sym e);
      loose = λ d. absurd (subst IsDouble e d);
    }

rest_after : (r : Record) (n : ℕ) (line rest : List ℕ) (f : RecordFault) (b : Bool) → length rest == 0 ≡ b → bytes_eq line (codes "end") ≡ true
    → (cond b over (Err (BadLine (n + 2))) >>= λ _. reads_as r) ≡ Err f → Beyond (closing r n) n rest (line ∷ []) f
unfolding ending
rest_after r n line rest f true empty is e = absurd (ok_err r f e)
rest_after r n line rest f false some is e =
    let sum : n + 2 ≡ n + 1 + 1 = omega arith in
    record {
      fault_is = sym (err_is (BadLine (n + 2)) f e) ∙ ap BadLine sum;
      has_more = λ none. let all : length rest == 0 ≡ true = ap (λ t. length t == 0) none in absurd cc;
      whole = r;
      reads = ap (λ t. cond t over (Err (BadLine (n + 1))) >>= λ _. reads_as r) is;
    }

end_faults : (r : Record) (n : ℕ) (rest : List ℕ) (lines : List (List ℕ)) (f : RecordFault) → closing r n rest lines ≡ Err f → Faults (closing r n) IsEmpty n rest lines f
unfolding ending
end_faults r n rest [] f e = inl (sym (err_is Truncated f e))
end_faults r n rest (line ∷ []) f e = at (bytes_eq line (codes "end")) refl e
  where
    at : (t : Bool) → bytes_eq line (codes "end") ≡ t → (cond t (cond (length rest == 0) over (Err (BadLine (n + 2)))) (Err (BadLine (n + 1))) >>= λ _. reads_as r) ≡ Err f
        → Faults (closing r n) IsEmpty n rest (line ∷ []) f
    at true is h = inr (inr (rest_after r n line rest f (length rest == 0) refl is h))
    at false is h = inr (inl (other_line r n line [] f is (sym (err_is (BadLine (n + 1)) f h))))
end_faults r n rest (line ∷ next ∷ more) f e = at (bytes_eq line (codes "end")) refl e
  where
    at : (t : Bool) → bytes_eq line (codes "end") ≡ t → (cond t (failed {A = Unit {0}} (BadLine (n + 2))) (Err (BadLine (n + 1))) >>= λ _. reads_as r) ≡ Err f
        → Faults (closing r n) IsEmpty n rest (line ∷ next ∷ more) f
    at true is h = inr (inl (line_after r n line next more f is (sym (err_is (BadLine (n + 2)) f h))))
    at false is h = inr (inl (other_line r n line (next ∷ more) f is (sym (err_is (BadLine (n + 1)) f h))))

-- ---- the lines after the second, kind by kind

abbrev after_headers : List ℕ → Option (List (List ℕ)) → Entries → Entries → List Output → List Output → ℕ → Reader Record
after_headers srcdir args vars defs files headers n rest lines = closing (record { srcdir = srcdir; args = args; vars = vars; defs = defs; files = files; headers = headers }) n rest lines

abbrev after_files : List ℕ → Option (List (List ℕ)) → Entries → Entries → List Output → ℕ → Reader Record
after_files srcdir args vars defs files n rest lines = outputs_in (codes "header ") (output_names files) n lines >>= λ hs. after_headers srcdir args vars defs files hs.0 hs.1.0 rest hs.1.1

abbrev after_defs : List ℕ → Option (List (List ℕ)) → Entries → Entries → ℕ → Reader Record
after_defs srcdir args vars defs n rest lines = outputs_in (codes "file ") [] n lines >>= λ fs. after_files srcdir args vars defs fs.0 fs.1.0 rest fs.1.1

abbrev after_vars : List ℕ → Option (List (List ℕ)) → Entries → ℕ → Reader Record
after_vars srcdir args vars n rest lines = entries_in (codes "def ") n lines >>= λ ds. after_defs srcdir args vars ds.0 ds.1.0 rest ds.1.1

abbrev after_texts : List ℕ → Option (List (List ℕ)) → ℕ → Reader Record
after_texts srcdir args n rest lines = entries_in (codes "var ") n lines >>= λ vs. after_vars srcdir args vs.0 vs.1.0 rest vs.1.1

abbrev after_srcdir : List ℕ → ℕ → Reader Record
after_srcdir srcdir n rest lines = several (codes "arg ") unescaped is_repeated [] n lines >>= λ ts. after_texts srcdir (Some ts.0) ts.1.0 rest ts.1.1

abbrev HeaderLines : List (List ℕ) → Type 0
HeaderLines = PartOf (codes "header ") output_fields IsOutput IsEmpty

abbrev FileLines : List (List ℕ) → Type 0
FileLines = PartOf (codes "file ") output_fields IsOutput HeaderLines

abbrev DefLines : List (List ℕ) → Type 0
DefLines = PartOf (codes "def ") entry_fields Named FileLines

abbrev VarLines : List (List ℕ) → Type 0
VarLines = PartOf (codes "var ") entry_fields Named DefLines

abbrev ArgLines : List (List ℕ) → Type 0
ArgLines = PartOf (codes "arg ") escaped IsAny VarLines

no_headers : HeaderLines []
no_headers = ([], tt, ([], refl, refl))

no_files : FileLines []
no_files = ([], tt, ([], refl, no_headers))

no_defs : DefLines []
no_defs = ([], tt, ([], refl, no_files))

no_vars : VarLines []
no_vars = ([], tt, ([], refl, no_defs))

arg_only : (f arg : List ℕ) → unescaped f ≡ Some arg → IsAny arg × (f ≡ escaped arg)
arg_only f arg e = (tt, escaped-unescaped f arg e)

arg_back : (arg : List ℕ) → IsAny arg → unescaped (escaped arg) ≡ Some arg
arg_back arg any = unescaped-escaped arg

module _ (srcdir : List ℕ) where
  headers_faults : (args : Option (List (List ℕ))) (vars defs : Entries) (files : List Output) (n : ℕ) (rest : List ℕ) (lines : List (List ℕ)) (f : RecordFault) → after_files srcdir args vars defs files n rest lines ≡ Err f
      → Faults (after_files srcdir args vars defs files n) HeaderLines n rest lines f
  unfolding ending
  headers_faults args vars defs files =
      section_faults (codes "header ") output_fields output_in (is_output (output_names files)) IsOutput output_back output_only (after_headers srcdir args vars defs files) IsEmpty (λ xs n rest. refl) refl
      (λ xs m rest lines f. end_faults (record { srcdir = srcdir; args = args; vars = vars; defs = defs; files = files; headers = xs }) m rest lines f)

  files_faults : (args : Option (List (List ℕ))) (vars defs : Entries) (n : ℕ) (rest : List ℕ) (lines : List (List ℕ)) (f : RecordFault) → after_defs srcdir args vars defs n rest lines ≡ Err f
      → Faults (after_defs srcdir args vars defs n) FileLines n rest lines f
  unfolding ending several
  files_faults args vars defs =
      section_faults (codes "file ") output_fields output_in (is_output []) IsOutput output_back output_only (after_files srcdir args vars defs) HeaderLines (λ xs n rest. refl) no_headers
      (headers_faults args vars defs)

  defs_faults : (args : Option (List (List ℕ))) (vars : Entries) (n : ℕ) (rest : List ℕ) (lines : List (List ℕ)) (f : RecordFault) → after_vars srcdir args vars n rest lines ≡ Err f
      → Faults (after_vars srcdir args vars n) DefLines n rest lines f
  unfolding ending several
  defs_faults args vars =
      section_faults (codes "def ") entry_fields entry_in is_entry Named entry_back entry_only (after_defs srcdir args vars) FileLines (λ xs n rest. refl) no_files
      (files_faults args vars)

  vars_faults : (args : Option (List (List ℕ))) (n : ℕ) (rest : List ℕ) (lines : List (List ℕ)) (f : RecordFault) → after_texts srcdir args n rest lines ≡ Err f
      → Faults (after_texts srcdir args n) VarLines n rest lines f
  unfolding ending several
  vars_faults args =
      section_faults (codes "var ") entry_fields entry_in is_entry Named entry_back entry_only (after_vars srcdir args) DefLines (λ xs n rest. refl) no_defs (defs_faults args)

  args_faults : (n : ℕ) (rest : List ℕ) (lines : List (List ℕ)) (f : RecordFault) → after_srcdir srcdir n rest lines ≡ Err f → Faults (after_srcdir srcdir n) ArgLines n rest lines f
  unfolding ending several
  args_faults =
      section_faults (codes "arg ") escaped unescaped is_repeated IsAny arg_back arg_only (λ ts. after_texts srcdir (Some ts)) VarLines (λ xs n rest. refl) no_vars (λ ts. vars_faults (Some ts))

first_body : (rest srcdir : List ℕ) (lines : List (List ℕ)) → body_in rest First srcdir lines ≡ after_texts srcdir None 2 rest lines
unfolding body_in
first_body rest srcdir lines = refl

abbrev with_texts : Read (List (List ℕ)) → Result (Read (Option (List (List ℕ)))) RecordFault
with_texts args = Ok (Some args.0, args.1)

second_body : (rest srcdir : List ℕ) (lines : List (List ℕ)) → body_in rest Second srcdir lines ≡ after_srcdir srcdir 2 rest lines
unfolding body_in
second_body rest srcdir lines = at (texts_in lines)
  where
    at : (r : Result (Read (List (List ℕ))) RecordFault) → ((r >>= with_texts) >>= λ a. after_texts srcdir a.0 a.1.0 rest a.1.1) ≡ r >>= λ ts. after_texts srcdir (Some ts.0) ts.1.0 rest ts.1.1
    at (Ok args) = refl
    at (Err f) = refl

-- ---- lines of the right form are no bad lines

module _ (srcdir : List ℕ) (args : Option (List (List ℕ))) (vars defs : Entries) (files headers : List Output) where
  abbrev l5 : List (List ℕ)
  l5 = codes "end" ∷ []

  abbrev l4 : List (List ℕ)
  l4 = lines_of (codes "header ") output_fields headers ++ l5

  abbrev l3 : List (List ℕ)
  l3 = lines_of (codes "file ") output_fields files ++ l4

  abbrev l2 : List (List ℕ)
  l2 = lines_of (codes "def ") entry_fields defs ++ l3

  abbrev l1 : List (List ℕ)
  l1 = lines_of (codes "var ") entry_fields vars ++ l2

  headers_apart : (keyword : List ℕ) → after_prefix keyword (codes "end") ≡ None → ((t : List ℕ) → after_prefix keyword (codes "header " ++ t) ≡ None) → Apart keyword l4
  headers_apart keyword e h = apart_lines keyword (codes "header ") output_fields headers l5 h e

  files_apart : (keyword : List ℕ) → after_prefix keyword (codes "end") ≡ None → ((t : List ℕ) → after_prefix keyword (codes "header " ++ t) ≡ None)
      → ((t : List ℕ) → after_prefix keyword (codes "file " ++ t) ≡ None) → Apart keyword l3
  files_apart keyword e h f = apart_lines keyword (codes "file ") output_fields files l4 f (headers_apart keyword e h)

  defs_apart : (keyword : List ℕ) → after_prefix keyword (codes "end") ≡ None → ((t : List ℕ) → after_prefix keyword (codes "header " ++ t) ≡ None)
      → ((t : List ℕ) → after_prefix keyword (codes "file " ++ t) ≡ None) → ((t : List ℕ) → after_prefix keyword (codes "def " ++ t) ≡ None) → Apart keyword l2
  defs_apart keyword e h f d = apart_lines keyword (codes "def ") entry_fields defs l3 d (files_apart keyword e h f)

  texts_apart : Apart (codes "arg ") l1
  unfolding after_prefix
  texts_apart = apart_lines (codes "arg ") (codes "var ") entry_fields vars l2 (λ t. refl) (defs_apart (codes "arg ") refl (λ t. refl) (λ t. refl) (λ t. refl))

  texts_loose : (n : ℕ) → AllByRecursion Named vars → AllByRecursion Named defs → AllByRecursion IsOutput files → AllByRecursion IsOutput headers → HasNoBadLine (after_texts srcdir args n [] l1)
  unfolding after_prefix ending
  texts_loose n v d f h =
      section_loose (codes "var ") entry_fields entry_in is_entry Named entry_back entry_only (after_vars srcdir args) DefLines n vars l2 [] v
      (defs_apart (codes "var ") refl (λ t. refl) (λ t. refl) (λ t. refl))
      (section_loose (codes "def ") entry_fields entry_in is_entry Named entry_back entry_only (after_defs srcdir args vars) FileLines (n + length vars) defs l3 [] d
      (files_apart (codes "def ") refl (λ t. refl) (λ t. refl))
      (section_loose (codes "file ") output_fields output_in (is_output []) IsOutput output_back output_only (after_files srcdir args vars defs) HeaderLines (n + length vars + length defs) files l4 [] f
      (headers_apart (codes "file ") refl (λ t. refl))
      (section_loose (codes "header ") output_fields output_in (is_output (output_names files)) IsOutput output_back output_only (after_headers srcdir args vars defs files) IsEmpty
      (n + length vars + length defs + length files) headers l5 [] h refl
      (λ m e. absurd (ok_err _ (BadLine m) e)))))

-- the second line leads to those after it
after_two : (rest first second srcdir : List ℕ) (version : Version) (lines : List (List ℕ)) → version_in first ≡ Ok version → srcdir_in second ≡ Ok srcdir
    → lines_in rest (first ∷ second ∷ lines) ≡ body_in rest version srcdir lines
unfolding lines_in
after_two rest first second srcdir version lines v s = then_ok _ _ version _ v (then_ok _ _ srcdir _ s refl)

body_loose : (args : Option (List (List ℕ))) (r : Record) → r.args ≡ args → HasForms r → HasNoBadLine (body_in [] (version_of args) r.srcdir (arg_lines args ++ body_lines r))
body_loose None r has is m e =
    texts_loose r.srcdir None r.vars r.defs r.files r.headers 2 (named_all r.vars is.vars) (named_all r.defs is.defs) is.files is.headers m
    (sym (first_body [] r.srcdir (body_lines r)) ∙ e)
body_loose (Some args) r has is m e =
    section_loose (codes "arg ") escaped unescaped is_repeated IsAny arg_back arg_only (λ ts. after_texts r.srcdir (Some ts)) VarLines 2 args (body_lines r) [] (any_all args)
    (texts_apart r.srcdir None r.vars r.defs r.files r.headers)
    (texts_loose r.srcdir (Some args) r.vars r.defs r.files r.headers (2 + length args) (named_all r.vars is.vars) (named_all r.defs is.defs) is.files is.headers) m
    (sym (second_body [] r.srcdir (arg_lines (Some args) ++ body_lines r)) ∙ e)

lines_loose : (r : Record) → HasForms r → HasNoBadLine (lines_in [] (record_lines r))
lines_loose r is m e =
    body_loose r.args r refl is m
    (sym (after_two [] (version_line r.args) (codes "srcdir " ++ escaped r.srcdir) r.srcdir (version_of r.args) (arg_lines r.args ++ body_lines r) (version_back r.args) (srcdir_back r.srcdir)) ∙ e)

-- ---- lines that begin a record but for names

loose_lines : (first second srcdir : List ℕ) (args : Option (List (List ℕ))) (lines more : List (List ℕ)) → first ≡ version_line args → second ≡ codes "srcdir " ++ escaped srcdir
    → lines ≡ arg_lines args ++ more → VarLines more → BeginButForNames (first ∷ second ∷ lines)
loose_lines first second srcdir args lines more one two are v =
    let d = v.2.2 in
    let f = d.2.2 in
    let h = f.2.2 in
    let whole : Record = record { srcdir = srcdir; args = args; vars = v.0; defs = d.0; files = f.0; headers = h.0 } in
    let body : body_lines whole ≡ more ++ codes "end" ∷ [] =
    joined_up more v.2.0 d.2.0 f.2.0 h.2.0 (lines_of (codes "var ") entry_fields v.0) (lines_of (codes "def ") entry_fields d.0) (lines_of (codes "file ") output_fields f.0)
    (lines_of (codes "header ") output_fields h.0) (codes "end" ∷ []) v.2.1 d.2.1 f.2.1 h.2.1 h.2.2 in
    let all : arg_lines args ++ body_lines whole ≡ lines ++ codes "end" ∷ [] =
    ap (λ t. arg_lines args ++ t) body ∙ sym (append_assoc (arg_lines args) more (codes "end" ∷ [])) ∙ ap (λ t. t ++ codes "end" ∷ []) (sym are) in
    let forms_are : HasForms whole = record { vars = all_named v.0 v.1; defs = all_named d.0 d.1; files = f.1; headers = h.1 } in
    record {
      whole = whole;
      more = codes "end" ∷ [];
      holds = forms_are;
      begins = ap (λ t. version_line args ∷ (codes "srcdir " ++ escaped srcdir) ∷ t) all ∙ ap (λ l. l ∷ (codes "srcdir " ++ escaped srcdir) ∷ (lines ++ codes "end" ∷ [])) (sym one)
          ∙ ap (λ l. first ∷ l ∷ (lines ++ codes "end" ∷ [])) (sym two);
    }

loose_first : (first second srcdir : List ℕ) → first ≡ line_of First → second ≡ codes "srcdir " ++ escaped srcdir → (lines : List (List ℕ)) → VarLines lines → BeginButForNames (first ∷ second ∷ lines)
loose_first first second srcdir one two lines v = loose_lines first second srcdir None lines lines one two refl v

loose_second : (first second srcdir : List ℕ) → first ≡ line_of Second → second ≡ codes "srcdir " ++ escaped srcdir → (lines : List (List ℕ)) → ArgLines lines → BeginButForNames (first ∷ second ∷ lines)
loose_second first second srcdir one two lines a = loose_lines first second srcdir (Some a.0) lines a.2.0 one two a.2.1 a.2.2

-- ---- the line at fault

begun : (before : List (List ℕ)) → ((rest : List ℕ) → lines_in rest before ≡ Err Truncated) ⊎ ((r : Record) × (lines_in [] before ≡ Ok r)) → BeginRecord before
begun before (inl h) = let t = lines_truncated [] before (h []) in record { whole = t.whole; more = t.next ∷ t.more; holds = t.holds; begins = t.begins }
begun before (inr p) = let o = lines_only [] before p.0 p.1 in record { whole = p.0; more = []; holds = o.2; begins = sym o.1 ∙ sym (append-nil before) }

not_begun : (before : List (List ℕ)) (at : List ℕ) (f : RecordFault) → ((rest : List ℕ) (more : List (List ℕ)) → lines_in rest (before ++ at ∷ more) ≡ Err f) → BeginRecord (before ++ at ∷ []) → ⊥
not_begun before at f stays b =
    ok_err b.whole f (sym (lines_back b.whole b.holds) ∙ ap (lines_in []) (b.begins ∙ append_assoc before (at ∷ []) b.more) ∙ stays [] b.more)

not_loose : (before : List (List ℕ)) (at : List ℕ) (n : ℕ) → ((rest : List ℕ) (more : List (List ℕ)) → lines_in rest (before ++ at ∷ more) ≡ Err (BadLine n)) → BeginButForNames (before ++ at ∷ []) → ⊥
not_loose before at n stays b =
    lines_loose b.whole b.holds n (ap (lines_in []) (b.begins ∙ append_assoc before (at ∷ []) b.more) ∙ stays [] b.more)

-- a fault of a line, as the rule has it
abbrev FaultOf : List (List ℕ) → RecordFault → Type 0
FaultOf lines (BadLine n) = IsBadLine lines n
FaultOf lines (DuplicateName n) = IsDuplicateName lines n
FaultOf lines f = ⊥

plain_number : (n k : ℕ) → n ≡ 0 + k + 1 → n ≡ k + 1
plain_number n k h = let none : 0 + k + 1 ≡ k + 1 = omega arith in h ∙ none

line_fault : (lines : List (List ℕ)) (f : RecordFault) (s : Stops lines_in BeginButForNames 0 lines f) → s.before ≢ [] → FaultOf lines f
line_fault lines (BadLine n) s some =
    record {
      before = s.before;
      at = s.at;
      at_fault = record { after = s.after; lines_are = s.lines_are; number = plain_number n (length s.before) s.number; has_first = some; right = begun s.before s.right; wrong = not_begun s.before s.at (BadLine n) s.stays };
      no_form = not_loose s.before s.at n s.stays;
    }
line_fault lines (DuplicateName n) s some =
    record {
      before = s.before;
      at = s.at;
      at_fault = record { after = s.after; lines_are = s.lines_are; number = plain_number n (length s.before) s.number; has_first = some; right = begun s.before s.right; wrong = not_begun s.before s.at (DuplicateName n) s.stays };
      but_for_names = s.loose tt;
    }
line_fault lines BadMagic s some = absurd s.number
line_fault lines Truncated s some = absurd s.number
line_fault lines UnknownVersion s some = absurd s.number
line_fault lines OutOfMemory s some = absurd s.number

raised : (first second : List ℕ) (P : Reader Record) (T : List (List ℕ) → Type 0) → ((rest : List ℕ) (lines : List (List ℕ)) → lines_in rest (first ∷ second ∷ lines) ≡ P rest lines)
    → ((lines : List (List ℕ)) → T lines → BeginButForNames (first ∷ second ∷ lines)) → (lines : List (List ℕ)) (f : RecordFault) → Stops P T 2 lines f → FaultOf (first ∷ second ∷ lines) f
raised first second P T same loose lines f s =
    let sum : 2 + length s.before + 1 ≡ 0 + length (first ∷ second ∷ s.before) + 1 = omega arith in
    let up : Stops lines_in BeginButForNames 0 (first ∷ second ∷ lines) f =
    record {
      before = first ∷ second ∷ s.before;
      at = s.at;
      after = s.after;
      lines_are = ap (λ l. first ∷ second ∷ l) s.lines_are;
      number = at_number f _ _ sum s.number;
      right = ⊎_elim (λ h. inl (λ rest. same rest s.before ∙ h rest)) (λ p. inr (p.0, same [] s.before ∙ p.1)) s.right;
      stays = λ rest more. same rest (s.before ++ s.at ∷ more) ∙ s.stays rest more;
      loose = λ d. loose (s.before ++ s.at ∷ []) (s.loose d);
    } in
    line_fault (first ∷ second ∷ lines) f up (λ e. absurd cc)

named_fault : (text : List ℕ) (f : RecordFault) → FaultOf (whole_lines text) f → IsRecordFault text f
named_fault text (BadLine n) h = forms.bad_line n h
named_fault text (DuplicateName n) h = forms.duplicate_name n h
named_fault text BadMagic h = absurd h
named_fault text Truncated h = absurd h
named_fault text UnknownVersion h = absurd h
named_fault text OutOfMemory h = absurd h

-- the faults of the lines after the second, as the rule has them
after_two_fault : (text first second : List ℕ) (more : List (List ℕ)) (P : Reader Record) (T : List (List ℕ) → Type 0) (f : RecordFault) → whole_lines text ≡ first ∷ second ∷ more
    → record_in text ≡ Err f → ((rest : List ℕ) (lines : List (List ℕ)) → lines_in rest (first ∷ second ∷ lines) ≡ P rest lines)
    → ((lines : List (List ℕ)) → T lines → BeginButForNames (first ∷ second ∷ lines)) → Faults P T 2 (rest_of text) more f → IsRecordFault text f
after_two_fault text first second more P T f are e same loose (inl is) =
    let some : whole_lines text ≢ [] = λ none. let h : first ∷ second ∷ more ≡ [] = sym are ∙ none in absurd cc in
    subst (IsRecordFault text) (sym is) (forms.ends_early (record { has_first = some; truncated = truncated_texts text (e ∙ ap failed is) }))
after_two_fault text first second more P T f are e same loose (inr (inl s)) =
    named_fault text f (subst (λ l. FaultOf l f) (sym are) (raised first second P T same loose more f s))
after_two_fault text first second more P T f are e same loose (inr (inr b)) =
    let o = lines_only [] (first ∷ second ∷ more) b.whole (same [] more ∙ b.reads) in
    let long : length (whole_lines text) ≡ length (first ∷ second ∷ more) = ap length are in
    let number : 2 + length more + 1 ≡ length (whole_lines text) + 1 = omega (arith, long) in
    subst (IsRecordFault text) (sym b.fault_is)
    (forms.has_more (2 + length more + 1) (record { whole = b.whole; holds = o.2; lines_are = are ∙ o.1; number = number; more = b.has_more }))

-- ---- the first line

pub number_is : (text : List ℕ) → is_number text ≡ true → IsNumber text
number_is [] e = absurd cc
number_is (b ∷ []) e = record { has_digits = λ h. absurd cc; digits = and_from (is_ascii_digit b) true e refl; no_zeros = λ more h. sym (tail_is b 48 [] more h) }
  where
    tail_is : (x y : ℕ) (xs ys : List ℕ) → x ∷ xs ≡ y ∷ ys → xs ≡ ys
    tail_is x y xs ys h = cc
number_is (b ∷ c ∷ more) e =
    record {
      has_digits = λ h. absurd cc;
      digits = second_of (not (b == 48)) (list_all is_ascii_digit (b ∷ c ∷ more)) e;
      no_zeros = λ rest h. absurd (zero_front (head_is b 48 (c ∷ more) rest h) (first_of (not (b == 48)) (list_all is_ascii_digit (b ∷ c ∷ more)) e));
    }
  where
    head_is : (x y : ℕ) (xs ys : List ℕ) → x ∷ xs ≡ y ∷ ys → x ≡ y
    head_is x y xs ys h = cc

    zero_front : b ≡ 48 → not (b == 48) ≡ true → ⊥
    zero_front is h = let same : not (48 == 48) ≡ true = sym (ap (λ n. not (n == 48)) is) ∙ h in absurd cc

number_as : (text : List ℕ) → IsNumber text → is_number text ≡ true
number_as [] is = absurd (is.has_digits refl)
number_as (b ∷ []) is = first_of (is_ascii_digit b) true is.digits
number_as (b ∷ c ∷ more) is = and_from (not (b == 48)) (list_all is_ascii_digit (b ∷ c ∷ more)) (at (b == 48) refl) is.digits
  where
    at : (t : Bool) → b == 48 ≡ t → not t ≡ true
    at true e =
        let none : c ∷ more ≡ [] = is.no_zeros (c ∷ more) (ap (λ n. n ∷ c ∷ more) ((Decides-eqb b 48).0 e)) in absurd cc
    at false e = refl

magic_is : (line : List ℕ) → is_magic line ≡ true → (number : List ℕ) × IsVersion line number
magic_is line e = at (after_prefix (codes "acrun-record ") line) refl e
  where
    at : (o : Option (List ℕ)) → after_prefix (codes "acrun-record ") line ≡ o → either o is_number false ≡ true → (number : List ℕ) × IsVersion line number
    at None is h = absurd cc
    at (Some number) is h = (number, record { line_is = after_prefix-some (codes "acrun-record ") line number is; is_number = number_is number h })

pub magic_as : (line number : List ℕ) → IsVersion line number → is_magic line ≡ true
magic_as line number is =
    ap is_magic is.line_is ∙ ap (λ o. either o is_number false) (after_prefix-append (codes "acrun-record ") number) ∙ number_as number is.is_number

not_version : (line number which : List ℕ) → IsVersion line number → bytes_eq line (codes "acrun-record " ++ which) ≡ false → number ≢ which
not_version line number which is e same =
    let h : bytes_eq line (codes "acrun-record " ++ which) ≡ true = (bytes_eq-Decides line (codes "acrun-record " ++ which)).1 (is.line_is ∙ ap (λ t. codes "acrun-record " ++ t) same) in absurd cc

first_fault : (text first : List ℕ) (more : List (List ℕ)) (f : RecordFault) → whole_lines text ≡ first ∷ more → version_in first ≡ Err f → IsRecordFault text f
unfolding version_in
first_fault text first more f are e = at_first (bytes_eq first (codes "acrun-record 1")) refl e
  where
    head_is : (x y : List ℕ) (xs ys : List (List ℕ)) → x ∷ xs ≡ y ∷ ys → x ≡ y
    head_is x y xs ys h = cc

    neither : bytes_eq first (codes "acrun-record 1") ≡ false → bytes_eq first (codes "acrun-record 2") ≡ false → (m : Bool) → is_magic first ≡ m
        → cond m (Err UnknownVersion) (failed {A = Version} BadMagic) ≡ Err f → IsRecordFault text f
    neither one two true is h =
        let v = magic_is first is in
        subst (IsRecordFault text) (err_is UnknownVersion f h)
        (forms.unknown_version (record { first = first; number = v.0; more = more; lines_are = are; version = v.1; not_first = not_version first v.0 (codes "1") v.1 one; not_second = not_version first v.0 (codes "2") v.1 two }))
    neither one two false is h =
        subst (IsRecordFault text) (err_is BadMagic f h)
        (forms.bad_magic (record { no_version = λ line number rest lines_are v. let m : is_magic first ≡ true = ap is_magic (head_is first line more rest (sym are ∙ lines_are)) ∙ magic_as line number v in absurd cc }))

    at_second : bytes_eq first (codes "acrun-record 1") ≡ false → (t : Bool) → bytes_eq first (codes "acrun-record 2") ≡ t
        → cond t (Ok Second) (cond (is_magic first) (Err UnknownVersion) (failed BadMagic)) ≡ Err f → IsRecordFault text f
    at_second one true is h = absurd (ok_err Second f h)
    at_second one false is h = neither one is (is_magic first) refl h

    at_first : (t : Bool) → bytes_eq first (codes "acrun-record 1") ≡ t
        → cond t (Ok First) (cond (bytes_eq first (codes "acrun-record 2")) (Ok Second) (cond (is_magic first) (Err UnknownVersion) (failed BadMagic))) ≡ Err f → IsRecordFault text f
    at_first true is h = absurd (ok_err First f h)
    at_first false is h = at_second is (bytes_eq first (codes "acrun-record 2")) refl h

-- ---- the second line

abbrev IsBadSecond : RecordFault → Type 0
IsBadSecond f = f ≡ BadLine 2

srcdir_fault : (line : List ℕ) (f : RecordFault) → srcdir_in line ≡ Err f → f ≡ BadLine 2
unfolding srcdir_in
srcdir_fault line f e = at (after_prefix (codes "srcdir ") line) e
  where
    value : (o : Option (List ℕ)) → or_bad 2 o ≡ Err f → f ≡ BadLine 2
    value None h = sym (err_is (BadLine 2) f h)
    value (Some v) h = absurd (ok_err v f h)

    at : (o : Option (List ℕ)) → either o (λ v. or_bad 2 (unescaped v)) (Err (BadLine 2)) ≡ Err f → f ≡ BadLine 2
    at None h = sym (err_is (BadLine 2) f h)
    at (Some t) h = value (unescaped t) h

second_fault : (first second : List ℕ) (more : List (List ℕ)) (version : Version) (f : RecordFault) → version_in first ≡ Ok version → srcdir_in second ≡ Err f
    → FaultOf (first ∷ second ∷ more) f
unfolding lines_in
second_fault first second more version f v e =
    let is = srcdir_fault second f e in
    let s : Stops lines_in BeginButForNames 0 (first ∷ second ∷ more) f =
    record {
      before = first ∷ [];
      at = second;
      after = more;
      lines_are = refl;
      number = subst (λ g. IsAt g 2) (sym is) refl;
      right = inl (λ rest. then_ok _ _ version _ v refl);
      stays = λ rest later. then_ok _ _ version _ v (ap (λ q. q >>= λ srcdir. body_in rest version srcdir later) e);
      loose = λ d. absurd (subst IsDouble is d);
    } in
    line_fault (first ∷ second ∷ more) f s (λ h. absurd cc)

-- ---- a whole text

lines_fault : (text : List ℕ) (f : RecordFault) (lines : List (List ℕ)) → whole_lines text ≡ lines → record_in text ≡ Err f → lines_in (rest_of text) lines ≡ Err f → IsRecordFault text f
unfolding lines_in
lines_fault text f [] are whole e =
    subst (IsRecordFault text) (err_is BadMagic f e)
    (forms.bad_magic (record { no_version = λ line number rest lines_are v. let h : line ∷ rest ≡ [] = sym lines_are ∙ are in absurd cc }))
lines_fault text f (first ∷ []) are whole e =
    ⊎_elim (λ h. first_fault text first [] f are h) (λ p.
    let is : Truncated ≡ f = err_is Truncated f p.2 in
    let some : whole_lines text ≢ [] = λ none. let h : first ∷ [] ≡ [] = sym are ∙ none in absurd cc in
    subst (IsRecordFault text) is (forms.ends_early (record { has_first = some; truncated = truncated_texts text (whole ∙ ap failed (sym is)) })))
    (bind_err (version_in first) (λ _. Err Truncated) f e)
lines_fault text f (first ∷ second ∷ more) are whole e =
    ⊎_elim (λ h. first_fault text first (second ∷ more) f are h) (λ p.
    ⊎_elim (λ h. named_fault text f (subst (λ l. FaultOf l f) (sym are) (second_fault first second more p.0 f p.1 h)))
    (λ q. body p.0 q.0 p.1 q.1 q.2)
    (bind_err (srcdir_in second) (λ srcdir. body_in (rest_of text) p.0 srcdir more) f p.2))
    (bind_err (version_in first) (λ version. srcdir_in second >>= λ srcdir. body_in (rest_of text) version srcdir more) f e)
  where
    body : (version : Version) (srcdir : List ℕ) → version_in first ≡ Ok version → srcdir_in second ≡ Ok srcdir → body_in (rest_of text) version srcdir more ≡ Err f → IsRecordFault text f
    body First srcdir v s h =
        after_two_fault text first second more (after_texts srcdir None 2) VarLines f are whole
        (λ rest lines. after_two rest first second srcdir First lines v s ∙ first_body rest srcdir lines)
        (loose_first first second srcdir (version_only first First v) (srcdir_only second srcdir s))
        (vars_faults srcdir None 2 (rest_of text) more f (sym (first_body (rest_of text) srcdir more) ∙ h))
    body Second srcdir v s h =
        after_two_fault text first second more (after_srcdir srcdir 2) ArgLines f are whole
        (λ rest lines. after_two rest first second srcdir Second lines v s ∙ second_body rest srcdir lines)
        (loose_second first second srcdir (version_only first Second v) (srcdir_only second srcdir s))
        (args_faults srcdir 2 (rest_of text) more f (sym (second_body (rest_of text) srcdir more) ∙ h))

-- If reading a text gives a fault, it is the text's first fault.
pub fault_in-sound : (text : List ℕ) (f : RecordFault) → record_in text ≡ Err f → IsRecordFault text f
unfolding record_in
fault_in-sound text f e = lines_fault text f (whole_lines text) refl e e
