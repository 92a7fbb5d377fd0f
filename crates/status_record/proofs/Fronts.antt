-- A text that ends too early: its whole lines are the first ones of a record, and more are wanted.
use Rattle.std.proofs.Common.{◌≡◌, ℕ, ◌+◌, Bool, true, false, cond, List, [], ◌∷◌, ◌++◌, length, Option, Some, None, Result, Ok, Err, refl, ap, ◌∙◌, sym, subst, ◌⊎◌, inl, inr, ⊎_elim, append_assoc}
use Rattle.std.specs.Prelude.{codes, ⊤, ◌==◌, bytes_eq}
use Rattle.std.proofs.lemmas.List.{append-nil}
use Rattle.status_record.proofs.Names.{AreDistinct-[]}
use Rattle.text_cut.specs.Cuts.{parts}
use Rattle.output_list.specs.Output.{output_names}
use Rattle.status_record.specs.declared.fault.RecordFault.{RecordFault}
use Rattle.status_record.specs.declared.fault.RecordFault.TheVariants.{BadMagic, BadLine, Truncated, UnknownVersion, DuplicateName}
use Rattle.status_record.specs.declared.record.Record.{Record}
use Rattle.status_record.specs.declared.read.Version.{Version}
use Rattle.status_record.specs.declared.read.Version.TheVariants.{First, Second}
use Rattle.status_record.specs.Escape.{escaped, unescaped}
use Rattle.status_record.specs.Line.{after_prefix, entry_in, entry_fields, output_in, output_fields}
use Rattle.status_record.specs.RecordText.{version_line, arg_lines, lines_of, body_lines, record_lines, IsRecord}
use Rattle.status_record.specs.Reading.{either, or_bad, with_item, several, is_entry, is_output, is_magic, entries_in, outputs_in, is_repeated, texts_in, args_in, version_in, srcdir_in, ending, body_in, lines_in, last_of, front_of, record_in, IsTruncated, Read}
use Rattle.fallible.specs.Reading.{◌>>=◌}
use Rattle.status_record.proofs.Only.{line_of, line_of_version, version_only, srcdir_only, args_only, entries_only, outputs_only}
use Rattle.status_record.proofs.Whole.{version_of}

abbrev pub failed : {A : Type 0} → RecordFault → Result A RecordFault
failed f = Err f

pub err_is : {A : Type 0} (f g : RecordFault) → failed {A = A} f ≡ failed {A = A} g → f ≡ g
err_is f g e = cc

pub bind_err : {A B : Type 0} (r : Result A RecordFault) (f : A → Result B RecordFault) (d : RecordFault) → (r >>= f) ≡ Err d → (r ≡ Err d) ⊎ ((x : A) × (r ≡ Ok x) × (f x ≡ Err d))
bind_err (Ok x) f d e = inr (x, refl, e)
bind_err (Err g) f d e = inl (ap failed (err_is g d e))

-- a fault of a line
abbrev IsOfLine : RecordFault → Type 0
IsOfLine (BadLine n) = ⊤
IsOfLine (DuplicateName n) = ⊤
IsOfLine f = ⊥

or_bad_of_line : {A : Type 0} (n : ℕ) (o : Option A) (f : RecordFault) → or_bad n o ≡ Err f → IsOfLine f
or_bad_of_line n None f e = subst IsOfLine (err_is (BadLine n) f e) tt
or_bad_of_line n (Some x) f e = absurd cc

module _ {A : Type 0} (keyword : List ℕ) (read : List ℕ → Option A) (given : List A → A → Bool) where
  given_of_line : (items : List A) (n : ℕ) (x : A) (b : Bool) (f : RecordFault) → cond b (failed (DuplicateName n)) (Ok (items ++ x ∷ [])) ≡ Err f → IsOfLine f
  given_of_line items n x true f e = subst IsOfLine (err_is (DuplicateName n) f e) tt
  given_of_line items n x false f e = absurd cc

  item_of_line : (items : List A) (n : ℕ) (fields : List ℕ) (f : RecordFault) → with_item read given items n fields ≡ Err f → IsOfLine f
  item_of_line items n fields f e =
      ⊎_elim (λ h. or_bad_of_line n (read fields) f h) (λ p. given_of_line items n p.0 (given items p.0) f p.2)
      (bind_err (or_bad n (read fields)) (λ x. cond (given items x) (Err (DuplicateName n)) (Ok (items ++ x ∷ []))) f e)

  pub several_of_line : (items : List A) (n : ℕ) (lines : List (List ℕ)) (f : RecordFault) → several keyword read given items n lines ≡ Err f → IsOfLine f
  unfolding several
  several_of_line items n [] f e = absurd cc
  several_of_line items n (line ∷ more) f e =
      elim (after_prefix keyword line) as (λ o. either o (λ fields. with_item read given items (n + 1) fields >>= λ now. several keyword read given now (n + 1) more) (Ok (items, (n, line ∷ more))) ≡ Err f → IsOfLine f) [
        | None ↦ λ h. absurd cc
        | Some fields ↦ λ h. ⊎_elim (λ g. item_of_line items (n + 1) fields f g) (λ p. several_of_line p.0 (n + 1) more f p.2)
            (bind_err (with_item read given items (n + 1) fields) (λ now. several keyword read given now (n + 1) more) f h)
      ] e

abbrev over : Result (Unit {0}) RecordFault
over = Ok tt

-- only a text without more lines ends too early
ending_truncated : (rest : List ℕ) (n : ℕ) (lines : List (List ℕ)) → ending rest n lines ≡ Err Truncated → lines ≡ []
unfolding ending
ending_truncated rest n [] e = refl
ending_truncated rest n (line ∷ []) e = absurd (choice (bytes_eq line (codes "end")) (length rest == 0) e)
  where
    choice : (a b : Bool) → cond a (cond b over (failed (BadLine (n + 2)))) (Err (BadLine (n + 1))) ≡ Err Truncated → ⊥
    choice true true h = cc
    choice true false h = cc
    choice false b h = cc
ending_truncated rest n (line ∷ next ∷ more) e = absurd (choice (bytes_eq line (codes "end")) e)
  where
    choice : (a : Bool) → cond a (failed {A = Unit {0}} (BadLine (n + 2))) (Err (BadLine (n + 1))) ≡ Err Truncated → ⊥
    choice true h = cc
    choice false h = cc

-- the arguments have no end that is too early
args_truncated : (version : Version) (lines : List (List ℕ)) → args_in version lines ≡ Err Truncated → ⊥
args_truncated First lines e = cc
args_truncated Second lines e =
    ⊎_elim (λ h. several_of_line (codes "arg ") unescaped is_repeated [] 2 lines Truncated h) (λ p. done_some p.0 p.2)
    (bind_err (texts_in lines) (λ args. Ok (Some args.0, args.1)) Truncated e)
  where
    done_some : (args : List (List ℕ) × (ℕ × List (List ℕ))) → Ok (Some args.0, args.1) ≡ failed {A = Option (List (List ℕ)) × (ℕ × List (List ℕ))} Truncated → ⊥
    done_some args h = cc

-- the record that has been read so far
abbrev SoFar : Version → List ℕ → List (List ℕ) → Type 0
SoFar version srcdir lines = (r : Record) × (version ≡ version_of r.args) × (srcdir ≡ r.srcdir) × (arg_lines r.args ++ body_lines r ≡ lines ++ codes "end" ∷ []) × IsRecord r

pub four : {X : Type 0} (a b c d e : List X) → a ++ (b ++ (c ++ (d ++ e))) ≡ (a ++ (b ++ (c ++ d))) ++ e
four a b c d e =
    ap (λ t. a ++ (b ++ t)) (sym (append_assoc c d e)) ∙ ap (λ t. a ++ t) (sym (append_assoc b (c ++ d) e)) ∙ sym (append_assoc a (b ++ (c ++ d)) e)

pub joined_up : {X : Type 0} (lines l1 l2 l3 l4 v d f h e : List X) → lines ≡ v ++ l1 → l1 ≡ d ++ l2 → l2 ≡ f ++ l3 → l3 ≡ h ++ l4 → l4 ≡ [] → v ++ (d ++ (f ++ (h ++ e))) ≡ lines ++ e
joined_up lines l1 l2 l3 l4 v d f h e e1 e2 e3 e4 e5 =
    let h4 : l3 ≡ h = e4 ∙ ap (λ t. h ++ t) e5 ∙ append-nil h in
    let h3 : l2 ≡ f ++ h = e3 ∙ ap (λ t. f ++ t) h4 in
    let h2 : l1 ≡ d ++ (f ++ h) = e2 ∙ ap (λ t. d ++ t) h3 in
    let h1 : lines ≡ v ++ (d ++ (f ++ h)) = e1 ∙ ap (λ t. v ++ t) h2 in
    four v d f h e ∙ ap (λ t. t ++ e) (sym h1)

-- the lines after the arguments, which are before line n + 1
abbrev pub after_args : List ℕ → List ℕ → Option (List (List ℕ)) → ℕ → List (List ℕ) → Result Record RecordFault
after_args rest srcdir args n lines = do
  vars ← entries_in (codes "var ") n lines
  defs ← entries_in (codes "def ") vars.1.0 vars.1.1
  files ← outputs_in (codes "file ") [] defs.1.0 defs.1.1
  headers ← outputs_in (codes "header ") (output_names files.0) files.1.0 files.1.1
  _ ← ending rest headers.1.0 headers.1.1
  Ok (record { srcdir = srcdir; args = args; vars = vars.0; defs = defs.0; files = files.0; headers = headers.0 })

-- the record that has been read after its arguments
abbrev AfterArgs : List ℕ → Option (List (List ℕ)) → List (List ℕ) → Type 0
AfterArgs srcdir args lines = (r : Record) × (args ≡ r.args) × (srcdir ≡ r.srcdir) × (body_lines r ≡ lines ++ codes "end" ∷ []) × IsRecord r

after_args_truncated : (rest srcdir : List ℕ) (args : Option (List (List ℕ))) (n : ℕ) (lines : List (List ℕ)) → after_args rest srcdir args n lines ≡ Err Truncated → AfterArgs srcdir args lines
after_args_truncated rest srcdir args n lines e =
    ⊎_elim (λ h. absurd (several_of_line (codes "var ") entry_in is_entry [] n lines Truncated h)) (λ p1.
    ⊎_elim (λ h. absurd (several_of_line (codes "def ") entry_in is_entry [] p1.0.1.0 p1.0.1.1 Truncated h)) (λ p2.
    ⊎_elim (λ h. absurd (several_of_line (codes "file ") output_in (is_output []) [] p2.0.1.0 p2.0.1.1 Truncated h)) (λ p3.
    ⊎_elim (λ h. absurd (several_of_line (codes "header ") output_in (is_output (output_names p3.0.0)) [] p3.0.1.0 p3.0.1.1 Truncated h)) (λ p4.
    ⊎_elim (λ h.
    let made : Record = record { srcdir = srcdir; args = args; vars = p1.0.0; defs = p2.0.0; files = p3.0.0; headers = p4.0.0 } in
    let v = entries_only (codes "var ") n lines p1.0 p1.1 in
    let d = entries_only (codes "def ") p1.0.1.0 p1.0.1.1 p2.0 p2.1 in
    let f = outputs_only (codes "file ") [] p2.0.1.0 p2.0.1.1 p3.0 p3.1 AreDistinct-[] in
    let k = outputs_only (codes "header ") (output_names p3.0.0) p3.0.1.0 p3.0.1.1 p4.0 p4.1 f.2 in
    let z = ending_truncated rest p4.0.1.0 p4.0.1.1 h in
    let hv = lines_of (codes "var ") entry_fields p1.0.0 in
    let hd = lines_of (codes "def ") entry_fields p2.0.0 in
    let hf = lines_of (codes "file ") output_fields p3.0.0 in
    let hh = lines_of (codes "header ") output_fields p4.0.0 in
    let is : IsRecord made = record { vars = v.1; defs = d.1; outputs = record { file_paths = f.1; header_paths = k.1; names = k.2 } } in
    (made, refl, refl, joined_up lines _ _ _ _ hv hd hf hh (codes "end" ∷ []) v.0 d.0 f.0 k.0 z, is))
    (λ p5. absurd (done_err p5.2))
    (bind_err (ending rest p4.0.1.0 p4.0.1.1) _ Truncated p4.2))
    (bind_err (outputs_in (codes "header ") (output_names p3.0.0) p3.0.1.0 p3.0.1.1) _ Truncated p3.2))
    (bind_err (outputs_in (codes "file ") [] p2.0.1.0 p2.0.1.1) _ Truncated p2.2))
    (bind_err (entries_in (codes "def ") p1.0.1.0 p1.0.1.1) _ Truncated p1.2))
    (bind_err (entries_in (codes "var ") n lines) _ Truncated e)
  where
    done_err : {r : Record} → Ok r ≡ failed {A = Record} Truncated → ⊥
    done_err h = cc

so_far : (version : Version) (srcdir : List ℕ) (lines : List (List ℕ)) (args : Read (Option (List (List ℕ)))) → args_in version lines ≡ Ok args
    → AfterArgs srcdir args.0 args.1.1 → SoFar version srcdir lines
so_far version srcdir lines args e s =
    let a = args_only version lines args e in
    let r = s.0 in
    let text : arg_lines args.0 ++ body_lines r ≡ lines ++ codes "end" ∷ [] =
    ap (λ t. arg_lines args.0 ++ t) s.3 ∙ sym (append_assoc (arg_lines args.0) args.1.1 (codes "end" ∷ [])) ∙ ap (λ t. t ++ codes "end" ∷ []) (sym a.1) in
    (r, a.0 ∙ ap version_of s.1, s.2, ap (λ t. arg_lines t ++ body_lines r) (sym s.1) ∙ text, s.4)

body_truncated : (rest : List ℕ) (version : Version) (srcdir : List ℕ) (lines : List (List ℕ)) → body_in rest version srcdir lines ≡ Err Truncated → SoFar version srcdir lines
unfolding body_in
body_truncated rest version srcdir lines e =
    ⊎_elim (λ h. absurd (args_truncated version lines h)) (λ p. so_far version srcdir lines p.0 p.1 (after_args_truncated rest srcdir p.0.0 p.0.1.0 p.0.1.1 p.2))
    (bind_err (args_in version lines) (λ args. after_args rest srcdir args.0 args.1.0 args.1.1) Truncated e)

version_truncated : (line : List ℕ) → version_in line ≡ Err Truncated → ⊥
unfolding version_in
version_truncated line e = choice (bytes_eq line (codes "acrun-record 1")) (bytes_eq line (codes "acrun-record 2")) (is_magic line) e
  where
    choice : (a b m : Bool) → cond a (Ok First) (cond b (Ok Second) (cond m (Err UnknownVersion) (failed BadMagic))) ≡ failed Truncated → ⊥
    choice true b m h = cc
    choice false true m h = cc
    choice false false true h = cc
    choice false false false h = cc

srcdir_truncated : (line : List ℕ) → srcdir_in line ≡ Err Truncated → ⊥
unfolding srcdir_in
srcdir_truncated line e = choice (after_prefix (codes "srcdir ") line) e
  where
    choice : (o : Option (List ℕ)) → either o (λ value. or_bad 2 (unescaped value)) (Err (BadLine 2)) ≡ Err Truncated → ⊥
    choice None h = cc
    choice (Some t) h = or_bad_of_line 2 (unescaped t) Truncated h

-- a record of nothing
abbrev bare : Version → Record
bare First = record { srcdir = []; args = None; vars = []; defs = []; files = []; headers = [] }
bare Second = record { srcdir = []; args = Some []; vars = []; defs = []; files = []; headers = [] }

bare_is : (version : Version) → IsRecord (bare version)
bare_is First = record { vars = (tt, AreDistinct-[]); defs = (tt, AreDistinct-[]); outputs = record { file_paths = tt; header_paths = tt; names = AreDistinct-[] } }
bare_is Second = record { vars = (tt, AreDistinct-[]); defs = (tt, AreDistinct-[]); outputs = record { file_paths = tt; header_paths = tt; names = AreDistinct-[] } }

bare_lines : (version : Version) → record_lines (bare version) ≡ line_of version ∷ codes "srcdir " ∷ codes "end" ∷ []
bare_lines First = refl
bare_lines Second = refl

pub lines_truncated : (rest : List ℕ) (lines : List (List ℕ)) → lines_in rest lines ≡ Err Truncated → IsTruncated lines
unfolding lines_in
lines_truncated rest [] e = absurd cc
lines_truncated rest (first ∷ []) e =
    ⊎_elim (λ h. absurd (version_truncated first h))
    (λ p. record {
      whole = bare p.0;
      next = codes "srcdir ";
      more = codes "end" ∷ [];
      holds = bare_is p.0;
      begins = bare_lines p.0 ∙ ap (λ l. l ∷ codes "srcdir " ∷ codes "end" ∷ []) (sym (version_only first p.0 p.1));
    })
    (bind_err (version_in first) (λ _. Err Truncated) Truncated e)
lines_truncated rest (first ∷ second ∷ more) e =
    ⊎_elim (λ h. absurd (version_truncated first h)) (λ p.
    ⊎_elim (λ h. absurd (srcdir_truncated second h)) (λ q.
    let s = body_truncated rest p.0 q.0 more q.2 in
    let r = s.0 in
    let one : first ≡ version_line r.args = version_only first p.0 p.1 ∙ ap line_of s.1 ∙ line_of_version r.args in
    let two : second ≡ codes "srcdir " ++ escaped r.srcdir = srcdir_only second q.0 q.1 ∙ ap (λ v. codes "srcdir " ++ escaped v) s.2 in
    record {
      whole = r;
      next = codes "end";
      more = [];
      holds = s.4;
      begins = ap (λ l. version_line r.args ∷ (codes "srcdir " ++ escaped r.srcdir) ∷ l) s.3 ∙ ap (λ l. l ∷ (codes "srcdir " ++ escaped r.srcdir) ∷ (more ++ codes "end" ∷ [])) (sym one)
          ∙ ap (λ l. first ∷ l ∷ (more ++ codes "end" ∷ [])) (sym two);
    })
    (bind_err (srcdir_in second) _ Truncated p.2))
    (bind_err (version_in first) _ Truncated e)

pub truncated_texts : (text : List ℕ) → record_in text ≡ Err Truncated → IsTruncated (front_of (parts 10 text))
unfolding record_in
truncated_texts text e = lines_truncated (last_of (parts 10 text)) (front_of (parts 10 text)) e
