-- That `status` makes what the run made.
use Rattle.std.proofs.Common.{◌≡◌, ◌≢◌, ℕ, Bool, true, false, List, [], ◌∷◌, ◌++◌, Option, Some, None, Result, Ok, Err, refl, sym, ap, subst, ◌∙◌, get_or}
use Rattle.std.specs.Prelude.{All, IfSome, filter, codes, map, bytes_eq}
use Rattle.std.specs.List.{Contains, list_all, list_any}
use Rattle.std.specs.Prelude.{◌==◌, ◌&&◌, ◌<◌, nat_lt}
use Rattle.std.proofs.lemmas.Bool.{and_from, and_parts, eq-eqb}
use Rattle.std.proofs.lemmas.Slice.Eq.{bytes_eq-Decides}
use Rattle.std.proofs.lemmas.List.{append-nil}
use Rattle.std.proofs.lemmas.List.Elements.{All-nil, All-cons, All-filter, All-head, All-tail}
use Rattle.std.proofs.lemmas.List.Folds.{list_any-from_Any}
use Rattle.std.proofs.lemmas.Str.{IsUtf8-from_ascii}
use Rattle.std.proofs.lemmas.Str.Ascii.{IsAscii-from_all}
use Rattle.std.proofs.lemmas.Bool.Decides.{Decides-ltb}
use Rattle.cfglog.specs.Texts.{log_of}
use Rattle.options_line.specs.Kept.{kept_args}
use Rattle.cmd_status.specs.Left.{IsLeft}
use Rattle.cmd_status.specs.MadeAgain.{IsMadeAgain}
use Rattle.cmd_configure.specs.Configures.{IsRun}
use Rattle.crew_trait.specs.Events.{Account}
use Rattle.file_disk.specs.Known.{Known, Files, Deed, directory_under, kind_under, text_under}
use Rattle.file_texts.specs.Coherent.{after, IsCoherent, ReadsAt}
use Rattle.file_texts.specs.Done.{AreDone}
use Rattle.file_texts.specs.Links.{itself}
use Rattle.file_texts.specs.Names.{IsFileName, has_nul, home_of}
use Rattle.file_texts.specs.Places.{is_at, is_own, is_place, is_place_guarded, place_under}
use Rattle.file_texts.specs.Reading.{IsReadWhole}
use Rattle.file_texts.specs.Steps.{IsReplaced}
use Rattle.file_texts.specs.declared.places.Guard.{Guard}
use Rattle.file_texts.specs.declared.places.FilePlace.{FilePlace}
use Rattle.engine.specs.Configured.{artifacts, record_after}
use Rattle.engine.specs.Remaking.{Remakes, is_chosen, is_record, outputs_with}
use Rattle.fallible.proofs.Binds.{bind_ok, ok_is}
use Rattle.file_laws.specs.Rerun.{no_deeds, AreNeverLinks, InputsAreKept, IsNeverLink, IsOver, OutputsAreRead}
use Rattle.engine_frame.specs.Faults.{of_precious, named, ◌>>=◌}
use Rattle.engine_frame.specs.Given as given
use Rattle.engine_frame.specs.Handing.{IfCompleted}
use Rattle.engine_frame.specs.Remade.{none_unknown, present, remade, unknown}
use Rattle.engine_frame.specs.declared.fault.Fault.{Fault}
use Rattle.engine_frame.specs.declared.fault.RemakeFault.{RemakeFault}
use Rattle.engine_frame.specs.declared.report.Outcome.{Outcome}
use Rattle.engine_frame.specs.declared.report.Outcome.TheVariants.{Completed, Stopped, CutShort, Shown}
use Rattle.engine_frame.specs.declared.report.Report.{Report}
use Rattle.engine_frame.specs.declared.starting.Start.{Start}
use Rattle.output_make.specs.Making.{record_of_run}
use Rattle.cmd_call.specs.Guarded.{AreGuarded, HasGuard, inputs_of, paths_of}
use Rattle.cmd_call.specs.Supplies.{AreTemplates, GivenAgain, HasTemplate, ReadsTemplate, path_of}
use Rattle.options.specs.Precious.{checked}
use Rattle.options.specs.declared.settings.Settings.{Settings}
use Rattle.output_list.specs.declared.output.Output.{Output}
use Rattle.output_put.specs.declared.artifact.Artifact.{Artifact}
use Rattle.output_put.specs.declared.artifact.Kind.TheVariants.{Record as Recorded}
use Rattle.status_record.specs.Reading.{record_in}
use Rattle.status_record.specs.declared.record.Record.{Record}
use Rattle.ac_tree.specs.Lists.{lists_of}
use Rattle.ac_tree.specs.Script.{Script}
use Rattle.file_laws.specs.Again.{AreApartFrom, HasPlainFiles, IsApartFrom, StatusMakesTheSame, handed_on}
use Rattle.file_laws.proofs.Lookups.{HasSame, HasText, found_again, handed_same, have_texts, read_free, read_name, read_there, read_whole, same_own, value_has, whole_is}
use Rattle.file_laws.proofs.Places.{directory_of_place}
use Rattle.file_laws.proofs.Reruns.{in_after_run}

-- ---- what was started

-- What a start keeps of the settings, and that the templates were there.
record IsStarted (templates : List (List ℕ × List ℕ)) (script : Script) (settings : Settings) (start : Start) : Type 0 where
  srcdir : start.srcdir ≡ settings.srcdir
  wanted : start.no_create ≡ settings.no_create
  there : given.present settings.no_create templates (lists_of script).files (lists_of script).headers ≡ Ok tt

is_started : (a : List (List ℕ)) (cache : Option (List ℕ)) (templates : List (List ℕ × List ℕ)) (script : Script) (settings : Settings) (start : Start)
    → given.started a cache templates script settings ≡ Ok start → IsStarted templates script settings start
unfolding given.started
is_started a cache templates script settings start e =
    let first = bind_ok (given.old_of settings.cache_name cache) _ start e in
    let second = bind_ok (named of_precious (checked (lists_of script).precious settings.vars first.0)) _ start first.2 in
    let third = bind_ok (given.present settings.no_create templates (lists_of script).files (lists_of script).headers) _ start second.2 in
    record {
      srcdir = let is : start.srcdir ≡ settings.srcdir = cc in is;
      wanted = let is : start.no_create ≡ settings.no_create = cc in is;
      there = third.1;
    }

-- ---- places that are guarded

is_itself : (p : FilePlace) → is_place p p ≡ true
is_itself p = and_from (p.directory == p.directory) ((p.device == p.device) && bytes_eq p.name p.name) (eq-eqb p.directory p.directory refl)
    (and_from (p.device == p.device) (bytes_eq p.name p.name) (eq-eqb p.device p.device refl) ((bytes_eq-Decides p.name p.name).1 refl))

guarded_by : (guards : List Guard) (name : List ℕ) (place : FilePlace) → Contains guards (record { name = name; place = Some place }) → is_place_guarded place guards ≡ true
guarded_by guards name place there =
    list_any-from_Any (λ guard. is_at place guard.place) guards (there.0, record { name = name; place = Some place }, there.1, there.2, is_itself place)

-- A name that is guarded, with the place that it has.
guarded_at : (k : Known) (guards : List Guard) (name : List ℕ) (place : FilePlace) → HasGuard (Some k) guards name → place_under k name ≡ Some place → is_place_guarded place guards ≡ true
guarded_at k guards name place has at =
    guarded_by guards name place (subst (λ o. Contains guards (record { name = name; place = o })) (has.at ∙ at) has.guarded)

-- ---- the names that the program uses

-- A text of bytes below 128 alone can be a name, if none of them is NUL.
below : (bs : List ℕ) → list_all (λ b. nat_lt b 128) bs ≡ true → All (λ b. b < 128) bs
below [] e = All-nil (λ b. b < 128)
below (b ∷ bs) e =
    let p = and_parts (nat_lt b 128) (list_all (λ x. nat_lt x 128) bs) e in All-cons (λ x. x < 128) b bs ((Decides-ltb b 128).0 p.0) (below bs p.1)

pub plain_name : (name : List ℕ) → list_all (λ b. nat_lt b 128) name ≡ true → has_nul name ≡ false → IsFileName name
plain_name name ascii whole = record { text = IsUtf8-from_ascii name (IsAscii-from_all name (below name ascii)); whole = whole }

log_name : IsFileName (codes "config.log")
log_name = plain_name (codes "config.log") refl refl

status_name : IsFileName (codes "config.status")
status_name = plain_name (codes "config.status") refl refl

-- ---- guards of a run

from_map : {X Y : Type 0} (P : X → Type 0) (f : Y → X) (ys : List Y) → All P (map f ys) → All (λ y. P (f y)) ys
from_map P f [] all = All-nil (λ y. P (f y))
from_map P f (y ∷ ys) all = All-cons (λ y. P (f y)) y ys (All-head P (f y) (map f ys) all) (from_map P f ys (All-tail P (f y) (map f ys) all))

guards_log : (k : Known) (guards : List Guard) (srcdir : List ℕ) (templates : List (List ℕ × List ℕ)) → AreGuarded (Some k) guards (inputs_of srcdir templates) → HasGuard (Some k) guards (codes "config.log")
unfolding AreGuarded
guards_log k guards srcdir templates all = All-head (λ name. IsFileName name → HasGuard (Some k) guards name) (codes "config.log") (path_of srcdir (codes "configure.ac") ∷ paths_of srcdir templates) all log_name

guards_templates : (k : Known) (guards : List Guard) (srcdir : List ℕ) (templates : List (List ℕ × List ℕ)) → AreGuarded (Some k) guards (inputs_of srcdir templates)
    → All (λ t. IsFileName (path_of srcdir t.0) → HasGuard (Some k) guards (path_of srcdir t.0)) templates
unfolding AreGuarded
guards_templates k guards srcdir templates all =
    let guards_it : List ℕ → Type 0 = λ name. IsFileName name → HasGuard (Some k) guards name in
    from_map guards_it (λ t. path_of srcdir t.0) templates
    (All-tail guards_it (path_of srcdir (codes "configure.ac")) (paths_of srcdir templates)
    (All-tail guards_it (codes "config.log") (path_of srcdir (codes "configure.ac") ∷ paths_of srcdir templates) all))

-- ---- the record of a run

srcdir_is : (script : Script) (start : Start) (report : Report) → (record_after script start report).srcdir ≡ start.srcdir
unfolding record_of_run
srcdir_is script start report = refl

files_are : (script : Script) (start : Start) (report : Report) → (record_after script start report).files ≡ (lists_of script).files
unfolding record_of_run
files_are script start report = refl

headers_are : (script : Script) (start : Start) (report : Report) → (record_after script start report).headers ≡ (lists_of script).headers
unfolding record_of_run
headers_are script start report = refl

when_completed : {P : Type 0} (o : Outcome) → o ≡ Completed → IfCompleted o P → P
when_completed Completed is p = p
when_completed (Stopped status) is p = absurd cc
when_completed (CutShort number) is p = absurd cc
when_completed Shown is p = absurd cc

some_is : (x y : List ℕ) → Some x ≡ Some y → x ≡ y
some_is x y e = cc

-- ---- what is there after a run

module _ (window : ℕ) (arguments : List (List ℕ)) (script : Script) (settings : Settings) (before now : Account)
    (files : Files) (left : Known) (out : List ℕ) (said : List (List ℕ)) (status : ℕ)
    (c : IsCoherent files)
    (run : IsRun window arguments script settings before now (Some (after files [])) (Some left) out said status)
    (plain : HasPlainFiles files settings.srcdir run.templates (artifacts script run.start run.templates run.report)) where
  abbrev handed : List Artifact
  handed = artifacts script run.start run.templates run.report

  over : IsOver files run.guards handed (codes "config.log") (log_of run.report.log) plain.place left.deeds
  over = record {
    lines = run.lines;
    places = run.left.places;
    before = run.left.before;
    logged = run.left.logged;
    are = run.left.deeds;
    done = subst (λ f. AreDone f run.guards handed 0 run.lines run.left.places run.left.before) run.same run.left.done;
    written = subst (λ f. IsReplaced (after f run.left.before) (codes "config.log") (log_of run.report.log) run.left.logged) run.same run.left.written;
    at = plain.at;
    guarded = guarded_at (after files []) run.guards (codes "config.log") plain.place (guards_log (after files []) run.guards settings.srcdir run.templates run.guarded) plain.at;
  }

  -- A template is there as it was.
  template_there : InputsAreKept → (name text : List ℕ) → IsReadWhole (after files []) (path_of settings.srcdir name) (Some text)
      → IsApartFrom files plain.place (path_of settings.srcdir name) → (IsFileName (path_of settings.srcdir name) → HasGuard (Some (after files [])) run.guards (path_of settings.srcdir name))
      → text_under (after files left.deeds) (path_of settings.srcdir name) ≡ Some text
  unfolding InputsAreKept
  template_there law name text read apart guards =
      let path = path_of settings.srcdir name in
      let held = guarded_at (after files []) run.guards path apart.place (guards (read_name (after files []) path text read)) apart.at in
      law files run.guards handed (codes "config.log") (log_of run.report.log) plain.place left.deeds path apart.place text c plain.outputs plain.log over held apart.other
      (record { end = path; leads = itself (apart.never [] no_deeds); at = apart.at; read = read_there (after files []) path text read })

  -- What is there next is what is there after the run.
  next_is : (name : List ℕ) → text_under (handed_on left) name ≡ text_under (after files left.deeds) name
  next_is name = ap (λ d. left.files.texts d name) (append-nil left.deeds) ∙ ap (λ (f : Files). f.texts left.deeds name) run.same

  -- A directory is there next as it was.
  stays_next : (name : List ℕ) (x : ℕ × ℕ) → directory_under (after files []) name ≡ Some x → directory_under (handed_on left) name ≡ Some x
  stays_next name x at =
      ap (λ d. left.files.directories d name) (append-nil left.deeds) ∙ ap (λ (f : Files). f.directories left.deeds name) run.same
      ∙ in_after_run files c run.guards handed (codes "config.log") (log_of run.report.log) plain.place left.deeds plain.outputs plain.log over name x at

  -- A name that a run doesn't have for itself is none next.
  free_next : (name : List ℕ) → IsApartFrom files plain.place name → is_own (after files []) name ≡ false → is_own (handed_on left) name ≡ false
  free_next name apart free =
      let home = directory_of_place name (files.directories [] (home_of name)) apart.place apart.at in
      let here = directory_of_place (codes "config.log") (files.directories [] (codes ".")) plain.place plain.at in
      same_own (handed_on left) (after files []) name (stays_next (home_of name) home.0 home.1 ∙ sym home.1) (stays_next (codes ".") here.0 here.1 ∙ sym here.1)
      ∙ free

  status_there : OutputsAreRead → (text : List ℕ) → filter (λ artifact. is_record artifact.kind) handed ≡ record { kind = Recorded; name = codes "config.status"; text = text } ∷ []
      → text_under (after files left.deeds) (codes "config.status") ≡ Some text
  unfolding OutputsAreRead
  status_there law text is =
      let read : Artifact → Type 0 = λ artifact. text_under (after files left.deeds) artifact.name ≡ Some artifact.text in
      let all : All read handed = law files run.guards handed (codes "config.log") (log_of run.report.log) plain.place left.deeds c plain.outputs plain.log over in
      All-head read (record { kind = Recorded; name = codes "config.status"; text = text }) []
      (subst (All read) is (All-filter (λ artifact. is_record artifact.kind) read handed all))

  -- Each output has the template that it had.
  same_template : InputsAreKept → (others : List (List ℕ × List ℕ)) → All (λ t. ReadsTemplate (Some (handed_on left)) settings.srcdir t.0 (Some t.1)) others
      → (output : Output) → HasText run.templates output → HasTemplate (Some (handed_on left)) settings.srcdir others output.template → HasSame others run.templates output
  same_template law others sound output has again =
      let k = after files [] in
      let path = path_of settings.srcdir output.template in
      let reads : ReadsTemplate (Some k) settings.srcdir output.template (Some has.0) =
      value_has (λ t. ReadsTemplate (Some k) settings.srcdir t.0 (Some t.1)) run.templates output.template has.0 run.given.filled.sound has.1 in
      let free : is_own k path ≡ false = read_free k path has.0 (is_own k path) reads in
      let read : IsReadWhole k path (Some has.0) = read_whole k path (Some has.0) (is_own k path) free reads in
      let apart : IsApartFrom files plain.place path =
      value_has (λ t. IsApartFrom files plain.place (path_of settings.srcdir t.0)) run.templates output.template has.0 plain.inputs has.1 in
      let guards : IsFileName path → HasGuard (Some k) run.guards path =
      value_has (λ t. IsFileName (path_of settings.srcdir t.0) → HasGuard (Some k) run.guards (path_of settings.srcdir t.0)) run.templates output.template has.0
      (guards_templates k run.guards settings.srcdir run.templates run.guarded) has.1 in
      found_again k (handed_on left) settings.srcdir others output.template has.0 read
      (next_is path ∙ template_there law output.template has.0 read apart guards) (free_next path apart free) sound again
      ∙ sym has.1

-- ---- both together

pub makes_same : OutputsAreRead → InputsAreKept → StatusMakesTheSame
unfolding StatusMakesTheSame
makes_same outputs inputs window arguments script settings before now files left out said status next tags printed c run completed wanted plain again =
    let k2 = handed_on left in
    let start = run.start in
    let report = run.report in
    let rec = record_after script start report in
    let begins = is_started arguments run.cache run.templates script settings start run.starts in
    let gives : Remakes script start run.templates report = when_completed report.outcome completed run.remakes in
    let there : text_under k2 (codes "config.status") ≡ Some gives.text =
    next_is window arguments script settings before now files left out said status c run plain (codes "config.status")
    ∙ status_there window arguments script settings before now files left out said status c run plain outputs gives.text gives.handed in
    let text : again.text ≡ gives.text =
    some_is again.text gives.text (sym (whole_is (text_under k2 (codes "config.status")) again.text (again.found.named status_name)) ∙ there) in
    let is : record_in again.text ≡ Ok rec = ap record_in text ∙ gives.read in
    let filled : AreTemplates (Some k2) rec.srcdir (rec.files ++ rec.headers) again.templates = subst (λ r. GivenAgain (Some k2) r again.templates) is again.given in
    let place : rec.srcdir ≡ settings.srcdir = srcdir_is script start report ∙ begins.srcdir in
    let lists : rec.files ++ rec.headers ≡ (lists_of script).files ++ (lists_of script).headers =
    ap (λ l. l ++ rec.headers) (files_are script start report) ∙ ap (λ l. (lists_of script).files ++ l) (headers_are script start report) in
    let same_filled : AreTemplates (Some k2) settings.srcdir ((lists_of script).files ++ (lists_of script).headers) again.templates =
    subst (λ l. AreTemplates (Some k2) settings.srcdir l again.templates) lists (subst (λ d. AreTemplates (Some k2) d (rec.files ++ rec.headers) again.templates) place filled) in
    let had : All (HasText run.templates) ((lists_of script).files ++ (lists_of script).headers) =
    have_texts settings.no_create run.templates (lists_of script).files (lists_of script).headers wanted begins.there in
    let all : All (HasSame again.templates run.templates) ((lists_of script).files ++ (lists_of script).headers) =
    λ i d lt. same_template window arguments script settings before now files left out said status c run plain inputs again.templates same_filled.sound (get_or ((lists_of script).files ++ (lists_of script).headers) i d) (had i d lt) (same_filled.complete i d lt) in
    let made_is = sym (gives.again again.templates tags) ∙ ap (λ t. remade t again.templates tags) (sym text) ∙ again.remakes in
    let first = bind_ok (none_unknown (unknown rec tags)) _ again.made made_is in
    let second = bind_ok (present rec again.templates tags) _ again.made first.2 in
    let made : outputs_with script start report again.templates tags ≡ again.made = ok_is _ _ second.2 in
    sym made
    ∙ ap (filter (is_chosen tags)) (handed_same start.cache_name start.no_create report.outcome report.vars again.templates run.templates rec completed (begins.wanted ∙ wanted)
    (subst (λ l. All (HasSame again.templates run.templates) l) (sym lists) all))
