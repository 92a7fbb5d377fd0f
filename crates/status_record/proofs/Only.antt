-- What is read is a record's text.
use Rattle.std.proofs.Common.{◌≡◌, ℕ, ◌+◌, Bool, true, false, cond, List, [], ◌∷◌, ◌++◌, length, Option, Some, None, Result, Ok, Err, refl, ap, ◌∙◌, sym, subst}
use Rattle.std.specs.Prelude.{codes, bytes_eq, ◌==◌, IfOk}
use Rattle.std.specs.List.{AllByRecursion}
use Rattle.std.proofs.lemmas.List.{append-nil}
use Rattle.std.proofs.lemmas.Bool.Decides.{Decides-eqb}
use Rattle.std.proofs.lemmas.Slice.Eq.{bytes_eq-Decides}
use Rattle.deftable.specs.ShellName.{IsShellName}
use Rattle.deftable.specs.NameList.{AreDistinct}
use Rattle.deftable.specs.Table.{HasShellNames, HasDistinctNames}
use Rattle.status_record.proofs.Names.{AreDistinct-[]}
use Rattle.text_cut.specs.Cuts.{parts}
use Rattle.status_record.specs.declared.fault.RecordFault.{RecordFault}
use Rattle.status_record.specs.declared.fault.RecordFault.TheVariants.{BadMagic, BadLine, Truncated, UnknownVersion}
use Rattle.status_record.specs.declared.record.Record.{Record}
use Rattle.status_record.specs.declared.read.Version.{Version}
use Rattle.status_record.specs.declared.read.Version.TheVariants.{First, Second}
use Rattle.output_list.specs.declared.output.Output.{Output}
use Rattle.output_list.specs.Output.{output_names, IsOutput}
use Rattle.status_record.specs.Escape.{escaped, unescaped}
use Rattle.status_record.specs.Line.{ended, after_prefix, entry_in, entry_fields, output_in, output_fields}
use Rattle.status_record.specs.RecordText as forms
use Rattle.status_record.specs.RecordText.{version_line, arg_lines, lines_of, body_lines, record_lines, record_text, IsRecord, IsFirstText, IsSecondText, IsRecordText}
use Rattle.status_record.specs.Reading.{either, or_bad, is_entry, is_output, is_magic, entries_in, outputs_in, is_repeated, texts_in, args_in, version_in, srcdir_in, ending, body_in, lines_in, last_of, front_of, record_in, Read, Gives}
use Rattle.status_record.proofs.Escapes.{escaped-unescaped}
use Rattle.status_record.proofs.Fields.{entry_only, output_only}
use Rattle.status_record.proofs.Lines.{after_prefix-some}
use Rattle.status_record.proofs.Loops.{none_of}
use Rattle.status_record.proofs.Sections.{or_bad_ok, several_only, May-all, May-distinct}
use Rattle.fallible.proofs.Binds.{bind_ok, ok_is}
use Rattle.status_record.proofs.Texts.{parts_joined}
use Rattle.status_record.proofs.Whole.{all_named, version_of, IsAny, reads_back}

abbrev read_ok : {A : Type 0} → A → Result A RecordFault
read_ok x = Ok x

-- the first line of a version
abbrev pub line_of : Version → List ℕ
line_of First = codes "acrun-record 1"
line_of Second = codes "acrun-record 2"

pub line_of_version : (args : Option (List (List ℕ))) → line_of (version_of args) ≡ version_line args
line_of_version None = refl
line_of_version (Some args) = refl

version_is : (line : List ℕ) (a v : Version) → bytes_eq line (line_of a) ≡ true → read_ok a ≡ Ok v → line ≡ line_of v
version_is line a v is e = (bytes_eq-Decides line (line_of a)).0 is ∙ ap line_of (ok_is a v e)

pub version_only : (line : List ℕ) (v : Version) → version_in line ≡ Ok v → line ≡ line_of v
unfolding version_in
version_only line v e = first_at (bytes_eq line (codes "acrun-record 1")) refl e
  where
    neither : (m : Bool) → cond m (Err UnknownVersion) (Err BadMagic) ≡ read_ok v → ⊥
    neither true h = cc
    neither false h = cc

    second_at : (t : Bool) → bytes_eq line (codes "acrun-record 2") ≡ t → cond t (Ok Second) (cond (is_magic line) (Err UnknownVersion) (Err BadMagic)) ≡ read_ok v → line ≡ line_of v
    second_at true is h = version_is line Second v is h
    second_at false is h = absurd (neither (is_magic line) h)

    first_at : (t : Bool) → bytes_eq line (codes "acrun-record 1") ≡ t
        → cond t (Ok First) (cond (bytes_eq line (codes "acrun-record 2")) (Ok Second) (cond (is_magic line) (Err UnknownVersion) (Err BadMagic))) ≡ read_ok v → line ≡ line_of v
    first_at true is h = version_is line First v is h
    first_at false is h = second_at (bytes_eq line (codes "acrun-record 2")) refl h

either_ok : {A : Type 0} (o : Option (List ℕ)) (f : List ℕ → Result A RecordFault) (d : RecordFault) (x : A) → either o f (Err d) ≡ Ok x → (t : List ℕ) × (o ≡ Some t) × (f t ≡ Ok x)
either_ok None f d x e = absurd cc
either_ok (Some t) f d x e = (t, refl, e)

pub srcdir_only : (line v : List ℕ) → srcdir_in line ≡ Ok v → line ≡ codes "srcdir " ++ escaped v
unfolding srcdir_in
srcdir_only line v e =
    let p = either_ok (after_prefix (codes "srcdir ") line) (λ value. or_bad 2 (unescaped value)) (BadLine 2) v e in
    after_prefix-some (codes "srcdir ") line p.0 p.1 ∙ ap (λ t. codes "srcdir " ++ t) (escaped-unescaped p.0 v (or_bad_ok 2 (unescaped p.0) v p.2))

-- the version of the arguments, and their lines
pub args_only : (version : Version) (lines : List (List ℕ)) (r : Read (Option (List (List ℕ)))) → args_in version lines ≡ Ok r
    → (version ≡ version_of r.0) × (lines ≡ arg_lines r.0 ++ r.1.1)
args_only First lines r e =
    let same = ok_is (None, (2, lines)) r e in
    (ap (λ q. version_of q.0) same, ap (λ q. arg_lines q.0 ++ q.1.1) same)
args_only Second lines r e =
    let p = bind_ok (texts_in lines) (λ args. Ok (Some args.0, args.1)) r e in
    let same = ok_is (Some p.0.0, p.0.1) r p.2 in
    let got = several_only (codes "arg ") escaped unescaped is_repeated IsAny (λ f x h. (tt, escaped-unescaped f x h)) [] 2 lines p.0 p.1 in
    let text : lines ≡ arg_lines (Some p.0.0) ++ p.0.1.1 = got.2 ∙ ap (λ a. lines_of (codes "arg ") escaped a ++ p.0.1.1) (sym got.1) in
    (ap (λ q. version_of q.0) same, text ∙ ap (λ q. arg_lines q.0 ++ q.1.1) same)

pub entries_only : (keyword : List ℕ) (n : ℕ) (lines : List (List ℕ)) (r : Read (List (List ℕ × List ℕ))) → entries_in keyword n lines ≡ Ok r
    → (lines ≡ lines_of keyword entry_fields r.0 ++ r.1.1) × (HasShellNames r.0 × HasDistinctNames r.0)
entries_only keyword n lines r e =
    let got = several_only keyword entry_fields entry_in is_entry (λ e. IsShellName e.0) entry_only [] n lines r e in
    let all = May-all keyword entry_fields entry_in (λ e. e.0) [] (λ e. IsShellName e.0) [] got.0 got.3 in
    let distinct = May-distinct keyword entry_fields entry_in (λ e. e.0) [] (λ e. IsShellName e.0) [] got.0 AreDistinct-[] got.3 in
    (got.2 ∙ ap (λ a. lines_of keyword entry_fields a ++ r.1.1) (sym got.1), subst (λ a. HasShellNames a × HasDistinctNames a) (sym got.1) (all_named got.0 all, distinct))

pub outputs_only : (keyword : List ℕ) (before : List (List ℕ)) (n : ℕ) (lines : List (List ℕ)) (r : Read (List Output)) → outputs_in keyword before n lines ≡ Ok r
    → AreDistinct before → (lines ≡ lines_of keyword output_fields r.0 ++ r.1.1) × AllByRecursion IsOutput r.0 × AreDistinct (before ++ output_names r.0)
outputs_only keyword before n lines r e distinct =
    let got = several_only keyword output_fields output_in (is_output before) IsOutput output_only [] n lines r e in
    let all = May-all keyword output_fields output_in (λ o. o.name) before IsOutput [] got.0 got.3 in
    let names = May-distinct keyword output_fields output_in (λ o. o.name) before IsOutput [] got.0 (subst AreDistinct (sym (append-nil before)) distinct) got.3 in (
      got.2 ∙ ap (λ a. lines_of keyword output_fields a ++ r.1.1) (sym got.1),
      subst (AllByRecursion IsOutput) (sym got.1) all,
      subst (λ a. AreDistinct (before ++ output_names a)) (sym got.1) names,
    )

end_only : (rest line : List ℕ) (n : ℕ) (u : Unit {0}) (more : List (List ℕ)) → ending rest n (line ∷ more) ≡ Ok u → (rest ≡ []) × (line ∷ more ≡ codes "end" ∷ [])
unfolding ending
end_only rest line n u [] e =
    elim (bytes_eq line (codes "end")) as (λ t. bytes_eq line (codes "end") ≡ t → cond t (cond (length rest == 0) (Ok tt) (Err (BadLine (n + 2)))) (Err (BadLine (n + 1))) ≡ Ok u
    → (rest ≡ []) × (line ∷ [] ≡ codes "end" ∷ [])) [
      | true ↦ λ is h. (none_of rest (empty (length rest) h), ap (λ l. l ∷ []) ((bytes_eq-Decides line (codes "end")).0 is))
      | false ↦ λ _ h. absurd cc
    ] refl e
  where
    empty : (k : ℕ) → cond (k == 0) (read_ok tt) (Err (BadLine (n + 2))) ≡ Ok u → k ≡ 0
    empty k h = elim (k == 0) as (λ t. k == 0 ≡ t → cond t (read_ok tt) (Err (BadLine (n + 2))) ≡ Ok u → k ≡ 0) [
      | true ↦ λ is _. (Decides-eqb k 0).0 is
      | false ↦ λ _ g. absurd cc
    ] refl h
end_only rest line n u (next ∷ more) e = absurd (two (bytes_eq line (codes "end")) e)
  where
    two : (t : Bool) → cond t (Err (BadLine (n + 2))) (Err (BadLine (n + 1))) ≡ read_ok u → ⊥
    two true h = cc
    two false h = cc

ending_only : (rest : List ℕ) (n : ℕ) (u : Unit {0}) (lines : List (List ℕ)) → ending rest n lines ≡ Ok u → (rest ≡ []) × (lines ≡ codes "end" ∷ [])
unfolding ending
ending_only rest n u [] e = absurd cc
ending_only rest n u (line ∷ more) e = end_only rest line n u more e

abbrev Body : List ℕ → Version → List ℕ → List (List ℕ) → Record → Type 0
Body rest version srcdir lines r = (rest ≡ []) × (version ≡ version_of r.args) × (srcdir ≡ r.srcdir) × (lines ≡ arg_lines r.args ++ body_lines r) × IsRecord r

body_only : (rest : List ℕ) (version : Version) (srcdir : List ℕ) (lines : List (List ℕ)) (r : Record) → body_in rest version srcdir lines ≡ Ok r → Body rest version srcdir lines r
unfolding body_in
body_only rest version srcdir lines r e =
    let p0 = bind_ok (args_in version lines) _ r e in
    let p1 = bind_ok (entries_in (codes "var ") p0.0.1.0 p0.0.1.1) _ r p0.2 in
    let p2 = bind_ok (entries_in (codes "def ") p1.0.1.0 p1.0.1.1) _ r p1.2 in
    let p3 = bind_ok (outputs_in (codes "file ") [] p2.0.1.0 p2.0.1.1) _ r p2.2 in
    let p4 = bind_ok (outputs_in (codes "header ") (output_names p3.0.0) p3.0.1.0 p3.0.1.1) _ r p3.2 in
    let p5 = bind_ok (ending rest p4.0.1.0 p4.0.1.1) _ r p4.2 in
    let made : Record = record { srcdir = srcdir; args = p0.0.0; vars = p1.0.0; defs = p2.0.0; files = p3.0.0; headers = p4.0.0 } in
    let same : made ≡ r = ok_is made r p5.2 in
    let a = args_only version lines p0.0 p0.1 in
    let v = entries_only (codes "var ") p0.0.1.0 p0.0.1.1 p1.0 p1.1 in
    let d = entries_only (codes "def ") p1.0.1.0 p1.0.1.1 p2.0 p2.1 in
    let f = outputs_only (codes "file ") [] p2.0.1.0 p2.0.1.1 p3.0 p3.1 AreDistinct-[] in
    let h = outputs_only (codes "header ") (output_names p3.0.0) p3.0.1.0 p3.0.1.1 p4.0 p4.1 f.2 in
    let z = ending_only rest p4.0.1.0 p5.0 p4.0.1.1 p5.1 in
    let text : p0.0.1.1 ≡ body_lines made =
    v.0 ∙ ap (λ t. lines_of (codes "var ") entry_fields p1.0.0 ++ t) (d.0 ∙ ap (λ t. lines_of (codes "def ") entry_fields p2.0.0 ++ t)
    (f.0 ∙ ap (λ t. lines_of (codes "file ") output_fields p3.0.0 ++ t) (h.0 ∙ ap (λ t. lines_of (codes "header ") output_fields p4.0.0 ++ t) z.1))) in
    let is : IsRecord made = record { vars = v.1; defs = d.1; outputs = record { file_paths = f.1; header_paths = h.1; names = h.2 } } in
    subst (λ q. Body rest version srcdir lines q) same (z.0, a.0, refl, a.1 ∙ ap (λ t. arg_lines p0.0.0 ++ t) text, is)

pub lines_only : (rest : List ℕ) (lines : List (List ℕ)) (r : Record) → lines_in rest lines ≡ Ok r → (rest ≡ []) × (lines ≡ record_lines r) × IsRecord r
unfolding lines_in
lines_only rest [] r e = absurd cc
lines_only rest (first ∷ []) r e = let p = bind_ok (version_in first) (λ _. Err Truncated) r e in let h : Err Truncated ≡ read_ok r = p.2 in absurd cc
lines_only rest (first ∷ second ∷ more) r e =
    let p = bind_ok (version_in first) _ r e in
    let q = bind_ok (srcdir_in second) _ r p.2 in
    let b = body_only rest p.0 q.0 more r q.2 in (
      b.0,
      ap (λ l. l ∷ second ∷ more) (version_only first p.0 p.1 ∙ ap line_of b.1 ∙ line_of_version r.args)
          ∙ ap (λ l. version_line r.args ∷ l ∷ more) (srcdir_only second q.0 q.1 ∙ ap (λ s. codes "srcdir " ++ escaped s) b.2)
          ∙ ap (λ l. version_line r.args ∷ (codes "srcdir " ++ escaped r.srcdir) ∷ l) b.3,
      b.4,
    )

-- The text of a record as a function, and in its version.
pub text_of : (text : List ℕ) (r : Record) → IsRecordText text r → text ≡ record_text r
unfolding record_text
text_of text r (forms.first h) = h.text_is ∙ ap (λ a. ended (version_line a ∷ (codes "srcdir " ++ escaped r.srcdir) ∷ (arg_lines a ++ body_lines r))) (sym h.has_none)
text_of text r (forms.second h) = h.text_is ∙ ap (λ a. ended (version_line a ∷ (codes "srcdir " ++ escaped r.srcdir) ∷ (arg_lines a ++ body_lines r))) (sym h.has_args)

pub holds_of : (text : List ℕ) (r : Record) → IsRecordText text r → IsRecord r
holds_of text r (forms.first h) = h.holds
holds_of text r (forms.second h) = h.holds

pub text_written : (r : Record) (text : List ℕ) → IsRecord r → text ≡ record_text r → IsRecordText text r
unfolding record_text
text_written r text is e = at r.args refl where
  at : (args : Option (List (List ℕ))) → r.args ≡ args → IsRecordText text r
  at None has = forms.first (record { holds = is; has_none = has; text_is = e ∙ ap (λ a. ended (version_line a ∷ (codes "srcdir " ++ escaped r.srcdir) ∷ (arg_lines a ++ body_lines r))) has })
  at (Some args) has =
      forms.second (record { holds = is; args = args; has_args = has; text_is = e ∙ ap (λ a. ended (version_line a ∷ (codes "srcdir " ++ escaped r.srcdir) ∷ (arg_lines a ++ body_lines r))) has })

-- A text that is read is the record's.
pub record_in-sound : (text : List ℕ) (r : Record) → record_in text ≡ Ok r → IsRecordText text r
unfolding record_in record_text
record_in-sound text r e =
    let ps = parts 10 text in
    let p = lines_only (last_of ps) (front_of ps) r e in
    text_written r text p.2 (parts_joined text ∙ ap (λ l. ended (front_of ps) ++ l) p.0 ∙ append-nil (ended (front_of ps)) ∙ ap ended p.1)

-- A record's text is read as it.
pub record_in-complete : (text : List ℕ) (r : Record) → IsRecordText text r → record_in text ≡ Ok r
record_in-complete text r is = ap record_in (text_of text r is) ∙ reads_back r (holds_of text r is)

-- A text is the text of one record.
pub one_record : (text : List ℕ) (r s : Record) → IsRecordText text r → IsRecordText text s → r ≡ s
one_record text r s a b = ok_is r s (sym (record_in-complete text r a) ∙ record_in-complete text s b)

-- A record has one text.
pub one_text : (a b : List ℕ) (r : Record) → IsRecordText a r → IsRecordText b r → a ≡ b
one_text a b r p q = text_of a r p ∙ sym (text_of b r q)

-- No text is of both versions.
pub one_version : (text : List ℕ) (r s : Record) → IsFirstText text r → IsSecondText text s → ⊥
one_version text r s a b =
    let same : r ≡ s = one_record text r s (forms.first a) (forms.second b) in
    let args : r.args ≡ s.args = ap (λ q. q.args) same in
    none_some s.args (sym args ∙ a.has_none) b.has_args
  where
    none_some : (o : Option (List (List ℕ))) → o ≡ None → o ≡ Some b.args → ⊥
    none_some o e h = cc

-- ---- what the calls answer

pub answer_sound : (text : List ℕ) (answer : Result Record RecordFault) → Gives (λ r. r) answer (record_in text) → IfOk answer (λ r. IsRecordText text r)
answer_sound text (Ok r) h = record_in-sound text r h
answer_sound text (Err f) h = tt

pub answer_complete : (text : List ℕ) (answer : Result Record RecordFault) → Gives (λ r. r) answer (record_in text) → (r : Record) → IsRecordText text r → Gives (λ r. r) answer (Ok r)
answer_complete text answer h r is = subst (Gives (λ r. r) answer) (record_in-complete text r is) h

pub written_read : (r : Record) (text : List ℕ) → IsRecord r → text ≡ record_text r → record_in text ≡ Ok r
written_read r text is e = record_in-complete text r (text_written r text is e)

pub if_ok : {T E : Type 0} (r : Result T E) (P Q : T → Type 0) → ((x : T) → P x → Q x) → IfOk r P → IfOk r Q
if_ok (Ok x) P Q f h = f x h
if_ok (Err e) P Q f h = tt
