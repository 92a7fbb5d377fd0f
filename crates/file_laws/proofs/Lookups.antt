-- What is read twice, and what is made of templates with the same texts.
use Rattle.std.proofs.Common.{◌≡◌, ℕ, Bool, true, false, List, [], ◌∷◌, ◌++◌, Option, Some, None, Result, Ok, Err, refl, sym, ap, subst, ◌∙◌, length, map}
use Rattle.std.specs.Prelude.{◌&&◌, ◌^◌, All, codes, IfSome, is_some, unwrap_or, not, filter, find, bytes_eq, nat_le, if◌then◌else◌, cond}
use Rattle.std.specs.List.{Contains}
use Rattle.std.specs.Str.{IsUtf8, is_utf8}
use Rattle.std.proofs.lemmas.Bool.{true≢false}
use Rattle.std.proofs.lemmas.List.Elements.{All-nil, All-cons, All-head, All-tail, All-contains, All-weaker, All-append}
use Rattle.std.proofs.lemmas.Slice.Eq.{bytes_eq-Decides}
use Rattle.std.proofs.lemmas.Str.{IsUtf8-from_is_utf8, is_utf8-from_IsUtf8}
use Rattle.deftable.specs.Table.{value_of}
use Rattle.file_disk.specs.Known.{Known, directory_under, text_under}
use Rattle.file_texts.specs.Names.{IsFileName, has_nul, home_of}
use Rattle.file_texts.specs.Places.{is_own_part, is_one, is_own}
use Rattle.file_texts.specs.Reading.{IsReadWhole, whole}
use Rattle.engine_frame.specs.Faults.{◌>>=◌}
use Rattle.engine_frame.specs.Given.{none_missing, present}
use Rattle.fallible.proofs.Binds.{bind_ok}
use Rattle.engine_frame.specs.Handing.{artifacts_of, cache_artifacts, record_artifact}
use Rattle.engine_frame.specs.declared.fault.Fault.{Fault}
use Rattle.engine_frame.specs.declared.report.Outcome.{Outcome}
use Rattle.engine_frame.specs.declared.report.Outcome.TheVariants.{Completed, Stopped, CutShort, Shown}
use Rattle.cmd_call.specs.Supplies.{AreTemplates, HasTemplate, IsTemplateRead, ReadsTemplate, path_of}
use Rattle.output_make.specs.Choice.{chosen, is_missing, missing, has_template, template_of}
use Rattle.output_make.specs.Making.{file_table, made, made_file, made_header}
use Rattle.output_list.specs.declared.output.Output.{Output}
use Rattle.output_put.specs.declared.artifact.Artifact.{Artifact}
use Rattle.output_put.specs.declared.artifact.Kind.TheVariants as kind
use Rattle.status_record.specs.declared.record.Record.{Record}
use Rattle.template.specs.Fill.{filled}
use Rattle.template.specs.Header.{headed}
use Rattle.template.specs.Place.{header_note_of}

-- ---- names of files

by_test : (name : List ℕ) (u n : Bool) → is_utf8 name ≡ u → has_nul name ≡ n → ((IsFileName name → ⊥) → ⊥) → IsFileName name
by_test name true false text nul h = record { text = IsUtf8-from_is_utf8 name text; whole = nul }
by_test name true true text nul h = absurd (h (λ f. true≢false (sym nul ∙ f.whole)))
by_test name false n text nul h = absurd (h (λ f. true≢false (sym (is_utf8-from_IsUtf8 name f.text) ∙ text)))

is_name : (name : List ℕ) → ((IsFileName name → ⊥) → ⊥) → IsFileName name
is_name name h = by_test name (is_utf8 name) (has_nul name) refl refl h

-- A name under which a text was read can be that of a file.
pub read_name : (k : Known) (name text : List ℕ) → IsReadWhole k name (Some text) → IsFileName name
read_name k name text r = is_name name (λ no_file. let none : Some text ≡ None = r.unnamed no_file in absurd cc)

by_length : (b : Bool) (text read : List ℕ) → Some read ≡ (if b then Some text else None) → text ≡ read
by_length true text read e = cc
by_length false text read e = absurd cc

pub whole_is : (there : Option (List ℕ)) (read : List ℕ) → Some read ≡ whole there → there ≡ Some read
whole_is None read e = absurd cc
whole_is (Some text) read e = ap Some (by_length (nat_le (length text) (2 ^ 26)) text read e)

-- A text that was read is there.
pub read_there : (k : Known) (name text : List ℕ) → IsReadWhole k name (Some text) → text_under k name ≡ Some text
read_there k name text r = whole_is (text_under k name) text (r.named (read_name k name text r))

-- It is read again, as long as it is there.
pub read_again : (k other : Known) (name text : List ℕ) (read : Option (List ℕ)) → IsReadWhole k name (Some text) → text_under other name ≡ Some text
    → IsReadWhole other name read → read ≡ Some text
read_again k other name text read first there r =
    let file = read_name k name text first in
    r.named file ∙ ap whole (there ∙ sym (read_there k name text first)) ∙ sym (first.named file)

-- ---- templates

-- A name stays none that a run has for itself, while its directory and the current one stay.
pub same_own : (k other : Known) (name : List ℕ) → directory_under k (home_of name) ≡ directory_under other (home_of name)
    → directory_under k (codes ".") ≡ directory_under other (codes ".") → is_own k name ≡ is_own other name
same_own k other name home here =
    ap (λ o. is_own_part name && is_one o (directory_under k (codes "."))) home
    ∙ ap (λ o. is_own_part name && is_one (directory_under other (home_of name)) o) here

-- The path of a template that was read is none that a run has for itself.
pub read_free : (k : Known) (path text : List ℕ) (own : Bool) → IsTemplateRead k path own (Some text) → own ≡ false
read_free k path text true is = absurd cc
read_free k path text false is = refl

-- What is read under such a path is the whole text.
pub read_whole : (k : Known) (path : List ℕ) (read : Option (List ℕ)) (own : Bool) → own ≡ false → IsTemplateRead k path own read → IsReadWhole k path read
read_whole k path read true free is = absurd (true≢false free)
read_whole k path read false free is = is

value_by : (P : List ℕ × List ℕ → Type 0) (e : List ℕ × List ℕ) (rest : Option (List ℕ)) (q t : List ℕ) (b : Bool) → bytes_eq q e.0 ≡ b → P e → (rest ≡ Some t → P (q, t))
    → cond b (Some e.1) rest ≡ Some t → P (q, t)
value_by P e rest q t true same p more is =
    let text : e.1 ≡ t = cc in
    subst (λ n. P (n, t)) (sym ((bytes_eq-Decides q e.0).0 same)) (subst (λ x. P (e.0, x)) text p)
value_by P e rest q t false same p more is = more is

-- What holds of all entries holds of the one that is found.
pub value_has : (P : List ℕ × List ℕ → Type 0) (es : List (List ℕ × List ℕ)) (q t : List ℕ) → All P es → value_of es q ≡ Some t → P (q, t)
unfolding value_of
value_has P [] q t all is = absurd cc
value_has P (e ∷ es) q t all is =
    value_by P e (value_of es q) q t (bytes_eq q e.0) refl (All-head P e es all) (value_has P es q t (All-tail P e es all)) is

none_by : (e : List ℕ × List ℕ) (es : List (List ℕ × List ℕ)) (q : List ℕ) (b : Bool) → bytes_eq q e.0 ≡ b → (value_of es q ≡ None → All (λ x. bytes_eq q x.0 ≡ false) es)
    → cond b (Some e.1) (value_of es q) ≡ None → All (λ x. bytes_eq q x.0 ≡ false) (e ∷ es)
none_by e es q true same more is = absurd cc
none_by e es q false same more is = All-cons (λ x. bytes_eq q x.0 ≡ false) e es same (more is)

none_has : (es : List (List ℕ × List ℕ)) (q : List ℕ) → value_of es q ≡ None → All (λ e. bytes_eq q e.0 ≡ false) es
unfolding value_of
none_has [] q is = All-nil (λ e. bytes_eq q e.0 ≡ false)
none_has (e ∷ es) q is = none_by e es q (bytes_eq q e.0) refl (none_has es q) is

found_by : (es : List (List ℕ × List ℕ)) (q t : List ℕ) (o : Option (List ℕ)) → value_of es q ≡ o → Contains es (q, t) → (v : List ℕ) × (value_of es q ≡ Some v)
found_by es q t (Some v) is there = (v, is)
found_by es q t None is there =
    absurd (true≢false (sym ((bytes_eq-Decides q q).1 refl) ∙ All-contains (λ e. bytes_eq q e.0 ≡ false) es (q, t) (none_has es q is) there))

-- An entry that is there is found, or one before it.
value_there : (es : List (List ℕ × List ℕ)) (q t : List ℕ) → Contains es (q, t) → (v : List ℕ) × (value_of es q ≡ Some v)
value_there es q t there = found_by es q t (value_of es q) refl there

-- If a template that was read once is still there, the templates that are read again have it.
pub found_again : (k next : Known) (srcdir : List ℕ) (templates : List (List ℕ × List ℕ)) (name text : List ℕ)
    → IsReadWhole k (path_of srcdir name) (Some text) → text_under next (path_of srcdir name) ≡ Some text
    → is_own next (path_of srcdir name) ≡ false → All (λ t. ReadsTemplate (Some next) srcdir t.0 (Some t.1)) templates → HasTemplate (Some next) srcdir templates name
    → value_of templates name ≡ Some text
found_again k next srcdir templates name text first there free sound has =
    let path = path_of srcdir name in
    let read : has.0 ≡ Some text = read_again k next path text has.0 first there (read_whole next path has.0 (is_own next path) free has.1) in
    let among : Contains templates (name, text) = subst (λ o. IfSome o (λ t. Contains templates (name, t))) read has.2 in
    let found = value_there templates name text among in
    let reads : ReadsTemplate (Some next) srcdir name (Some found.0) = value_has (λ t. ReadsTemplate (Some next) srcdir t.0 (Some t.1)) templates name found.0 sound found.1 in
    let again : IsReadWhole next path (Some found.0) = read_whole next path (Some found.0) (is_own next path) free reads in
    let same : Some found.0 ≡ Some text = read_again k next path text (Some found.0) first there again in
    found.1 ∙ same

-- ---- no template is missing

none_found_by : {X : Type 0} (p : X → Bool) (x : X) (xs : List X) (b : Bool) → p x ≡ b → (find p xs ≡ None → All (λ y. p y ≡ false) xs) → cond b (Some x) (find p xs) ≡ None → All (λ y. p y ≡ false) (x ∷ xs)
none_found_by p x xs true is more e = absurd cc
none_found_by p x xs false is more e = All-cons (λ y. p y ≡ false) x xs is (more e)

none_found : {X : Type 0} (p : X → Bool) (xs : List X) → find p xs ≡ None → All (λ x. p x ≡ false) xs
none_found p [] e = All-nil (λ x. p x ≡ false)
none_found p (x ∷ xs) e = none_found_by p x xs (p x) refl (none_found p xs) e

is_none : (o : Option Output) → none_missing o ≡ Ok tt → o ≡ None
is_none None e = refl
is_none (Some output) e = absurd cc

there_by : (o : Option (List ℕ)) → not (is_some o) ≡ false → (t : List ℕ) × (o ≡ Some t)
there_by None e = absurd cc
there_by (Some t) e = (t, refl)

-- The output has a template.
abbrev pub HasText : List (List ℕ × List ℕ) → Output → Type 0
HasText templates output = (text : List ℕ) × (value_of templates output.template ≡ Some text)

all_there : (templates : List (List ℕ × List ℕ)) (outputs : List Output) → none_missing (missing templates outputs []) ≡ Ok tt → All (HasText templates) outputs
all_there templates outputs e =
    All-weaker (λ o. is_missing templates [] o ≡ false) (HasText templates) (λ o no_more. there_by (value_of templates o.template) no_more) outputs
    (none_found (is_missing templates []) outputs (is_none (missing templates outputs []) e))

-- A run that was started has all templates, unless no output is wanted.
pub have_texts : (no_create : Bool) (templates : List (List ℕ × List ℕ)) (files headers : List Output) → no_create ≡ false → present no_create templates files headers ≡ Ok tt
    → All (HasText templates) (files ++ headers)
unfolding present
have_texts true templates files headers wanted e = absurd cc
have_texts false templates files headers wanted e =
    let two = bind_ok (none_missing (missing templates files [])) (λ u. none_missing (missing templates headers [])) tt e in
    All-append (HasText templates) files headers (all_there templates files two.1) (all_there templates headers two.2)

-- ---- what is made

-- The output has the same template in both.
abbrev pub HasSame : List (List ℕ × List ℕ) → List (List ℕ × List ℕ) → Output → Type 0
HasSame others templates output = value_of others output.template ≡ value_of templates output.template

files_same : (r : Record) (others templates : List (List ℕ × List ℕ)) (outputs : List Output) → All (HasSame others templates) outputs
    → map (made_file r others) (chosen [] outputs) ≡ map (made_file r templates) (chosen [] outputs)
unfolding made_file
files_same r others templates [] all = refl
files_same r others templates (o ∷ os) all =
    ap (λ (t : Option (List ℕ)). record { kind = kind.File; name = o.name; text = filled (file_table r o) (unwrap_or t []) } ∷ map (made_file r others) (chosen [] os)) (All-head (HasSame others templates) o os all)
    ∙ ap (λ l. made_file r templates o ∷ l) (files_same r others templates os (All-tail (HasSame others templates) o os all))

headers_same : (r : Record) (others templates : List (List ℕ × List ℕ)) (outputs : List Output) → All (HasSame others templates) outputs
    → map (made_header r others) (chosen [] outputs) ≡ map (made_header r templates) (chosen [] outputs)
unfolding made_header
headers_same r others templates [] all = refl
headers_same r others templates (o ∷ os) all =
    ap (λ (t : Option (List ℕ)). record { kind = kind.Header; name = o.name; text = header_note_of o.name o.template ++ headed r.defs (unwrap_or t []) } ∷ map (made_header r others) (chosen [] os)) (All-head (HasSame others templates) o os all)
    ∙ ap (λ l. made_header r templates o ∷ l) (headers_same r others templates os (All-tail (HasSame others templates) o os all))

all_split : {X : Type 0} (P : X → Type 0) (xs ys : List X) → All P (xs ++ ys) → All P xs × All P ys
all_split P [] ys all = (All-nil P, all)
all_split P (x ∷ xs) ys all =
    let rest = all_split P xs ys (All-tail P x (xs ++ ys) all) in (All-cons P x xs (All-head P x (xs ++ ys) all) rest.0, rest.1)

made_same : (r : Record) (others templates : List (List ℕ × List ℕ)) → All (HasSame others templates) (r.files ++ r.headers) → made r others [] ≡ made r templates []
unfolding made
made_same r others templates all =
    let split = all_split (HasSame others templates) r.files r.headers all in
    ap (λ l. l ++ map (made_header r others) (chosen [] r.headers)) (files_same r others templates r.files split.0)
    ∙ ap (λ l. map (made_file r templates) (chosen [] r.files) ++ l) (headers_same r others templates r.headers split.1)

-- What a completed run hands over with other templates that have the same texts.
pub handed_same : (name : Option (List ℕ)) (no_create : Bool) (o : Outcome) (vars others templates : List (List ℕ × List ℕ)) (r : Record) → o ≡ Completed → no_create ≡ false
    → All (HasSame others templates) (r.files ++ r.headers) → artifacts_of name false others o vars r ≡ artifacts_of name no_create templates o vars r
unfolding artifacts_of
handed_same name false Completed vars others templates r completed wanted all =
    ap (λ l. cache_artifacts name vars ++ record_artifact r ∷ l) (made_same r others templates all)
handed_same name true Completed vars others templates r completed wanted all = absurd cc
handed_same name no_create (Stopped status) vars others templates r completed wanted all = absurd cc
handed_same name no_create (CutShort number) vars others templates r completed wanted all = absurd cc
handed_same name no_create Shown vars others templates r completed wanted all = absurd cc
