-- The package is configured, and its outputs are made again: all premises of the law hold together.
use Rattle.std.proofs.Common.{◌≡◌, ◌≢◌, ℕ, length, map, true, false, List, [], ◌∷◌, ◌++◌, Some, None, Ok, refl, sym, ap, subst, ◌∙◌, arith}
use Rattle.std.specs.Prelude.{◌^◌, All, codes, filter, nat_le, if◌then◌else◌}
use Rattle.std.specs.List.{Contains}
use Rattle.std.proofs.lemmas.List.Elements.{All-nil, All-cons, All-head, All-tail, All-contains_itself}
use Rattle.ac_tree.specs.Lists.{after as declared_after}
use Rattle.bstr.specs.Text.{line_len, lines_from}
use Rattle.cfglog.specs.Texts.{log_of}
use Rattle.cmd_call.specs.Guarded.{AreGuarded, HasGuard, inputs_of}
use Rattle.cmd_call.specs.Supplies.{AreGiven, AreTemplates, GivenAgain, HasTemplate, ReadsTemplate, path_of}
use Rattle.cmd_configure.specs.Configures.{IsRun}
use Rattle.cmd_status.specs.Left.{IsLeft}
use Rattle.cmd_status.specs.Printed.{printed}
use Rattle.cmd_call.specs.Errors.{errors_of}
use Rattle.cmd_status.specs.MadeAgain.{GuardsAgain, IsMadeAgain}
use Rattle.deftable.specs.NameList.{has_name, with_name}
use Rattle.deftable.specs.Table.{value_of, with_entry}
use Rattle.engine.specs.Configured.{artifacts, report_of, record_after, IsMeant}
use Rattle.engine.specs.Remaking.{Remakes, RemakesAgree, is_chosen}
use Rattle.engine_frame.specs.Faults.{named, of_record, ◌>>=◌}
use Rattle.engine_frame.specs.Given as given
use Rattle.engine_frame.specs.Handing.{artifacts_of, cache_text_of}
use Rattle.engine_frame.specs.Remade.{made_again, remade, present}
use Rattle.engine_frame.specs.declared.report.Report.{Report}
use Rattle.engine_frame.specs.declared.starting.Start.{Start}
use Rattle.file_disk.specs.Known.{Known, text_under}
use Rattle.file_laws.specs.Again.{HasPlainFiles, IsApartFrom, StatusMakesTheSame, handed_on}
use Rattle.file_laws.specs.Example.{disk, link, start as begun}
use Rattle.file_laws.specs.Package as the
use Rattle.file_laws.specs.Rerun.{IsNeverLink}
use Rattle.file_laws.proofs.Examples.{example_is_coherent}
use Rattle.file_laws.proofs.Agains.{plain_name}
use Rattle.file_laws.proofs.Packages as disks
use Rattle.file_laws.proofs.Trees.{never_linked}
use Rattle.file_texts.specs.Coherent.{after}
use Rattle.file_texts.specs.Held.{AreUnguarded}
use Rattle.file_texts.specs.Lines.{AreLines, none, more, cache, record_made, file, header, unchanged, creating_line, unchanged_line}
use Rattle.file_texts.specs.Names.{IsFileName}
use Rattle.file_texts.specs.Places.{is_name_guarded, place_under}
use Rattle.file_texts.specs.Reading.{IsReadWhole, whole as whole_text}
use Rattle.file_texts.specs.declared.places.FilePlace.{FilePlace}
use Rattle.file_texts.specs.declared.places.Guard.{Guard}
use Rattle.meaning.specs.Meaning.{effect, meaning}
use Rattle.meaning.specs.Package.{escaped, initialised}
use Rattle.meaning.specs.Play.{Played, play, whole}
use Rattle.meaning.specs.State.{How, opened, Completed}
use Rattle.options.specs.Opening.{cache_named, finished, is_declared, opened_by, opening, run_settings, set_by, setters, source_directory, unmarked, with_marks, with_unslashed}
use Rattle.options.specs.Precious.{checked, restored_from}
use Rattle.options.specs.Unrecognized.{notes_of}
use Rattle.options.specs.declared.settings.Settings.{Settings}
use Rattle.options_line.specs.Arguments.{choice_of, dashed_of, install_directory_of, package_of, read_argument, rest_after, said_with_value, settings_from, switch_of, switches, target_of, value_in}
use Rattle.options_line.specs.CommandLine.{key_of, SourceDirectory, Switched}
use Rattle.options_line.specs.Directories.{default_of, directories, directory_named, directory_names, option_of, variable_of}
use Rattle.options_line.specs.Kept.{kept_from}
use Rattle.options_line.specs.Slashes.{unslashed, without_slashes}
use Rattle.options_line.specs.declared.argument.Switch.TheVariants.{ConfigCache}
use Rattle.output_make.specs.Making.{file_table, made, made_file, made_header, record_of_run, with_place}
use Rattle.output_make.specs.Variables.{header_names, output_names_of, output_value, output_variables, package_names, preset_names}
use Rattle.output_list.specs.declared.output.Output.{Output}
use Rattle.output_put.specs.declared.artifact.Artifact.{Artifact}
use Rattle.proberun.specs.Outcomes as run
use Rattle.proberun.specs.Ran.{Ran, RunEnd}
use Rattle.status_record.specs.Escape.{byte_after_backslash, escaped_byte, unescaped_from, with_byte}
use Rattle.status_record.specs.Line.{after_prefix, entry_in, output_in}
use Rattle.status_record.specs.Reading.{body_in, ending, front_of, last_of, lines_in, record_in, several, srcdir_in, version_in}
use Rattle.status_record.specs.RecordText.{record_text}
use Rattle.status_record.specs.declared.record.Record.{Record}
use Rattle.output_list.specs.Path.{is_path}
use Rattle.template.specs.Fill.{before_at, filled, filled_after, key_at_front}
use Rattle.template.specs.Header.{directive_after, directive_of, headed_line, keyword_at, name_after, name_at, newline_of, rest_after as text_after}
use Rattle.template.specs.Place.{configure_input_of, header_note_of, directories_of, seen_from, sources_beside, up}
use Rattle.text_cut.specs.Cuts.{parts, parts_by}

-- ---- the settings and the start

abbrev vars : List (List ℕ × List ℕ)
vars = finished [] (set_by (setters [] (SourceDirectory (codes "../pkg") ∷ Switched ConfigCache ∷ [])))

abbrev settings : Settings
settings = record {
  vars = vars;
  notes = [];
  cache_name = Some (codes "config.cache");
  srcdir = codes "../pkg";
  quiet = false;
  no_create = false;
  help = false;
  version = false;
}

-- What the options compute with.
on_options : Unit {0}
unfolding cache_named finished is_declared opened_by opening run_settings set_by setters source_directory unmarked with_marks with_unslashed notes_of choice_of dashed_of install_directory_of package_of read_argument rest_after said_with_value settings_from switch_of switches target_of value_in key_of default_of directories directory_named option_of variable_of kept_from unslashed without_slashes value_of with_entry has_name with_name
on_options = tt

asked : given.source_settings the.arguments [] the.source ≡ Ok settings
unfolding on_options given.source_settings declared_after
asked = refl

abbrev templates : List (List ℕ × List ℕ)
templates =
    (codes "src/Makefile.in", codes "NAME = @PACKAGE_NAME@\n")
    ∷ (codes "config.h.in", codes "#undef PACKAGE_NAME\n")
    ∷ []

abbrev start : Start
start = record {
  cache_name = Some (codes "config.cache");
  srcdir = codes "../pkg";
  no_create = false;
  args = the.arguments;
  vars = vars;
  notes = [];
}

starts : given.started the.arguments None templates the.source settings ≡ Ok start
unfolding on_options given.started given.present checked restored_from declared_after
starts = refl

-- ---- the run

abbrev played : Played
played = play (whole (meaning the.source (opened vars))) []

abbrev end : RunEnd
end = record {
  outcome = run.Completed;
  vars = played.state.vars;
  defs = played.state.defs;
  messages = played.state.messages;
  log = played.state.log;
}

abbrev report : Report
report = report_of start end 4

completes : played.how ≡ Completed
unfolding on_options effect meaning initialised escaped
completes = refl

asks_nothing : played.groups ≡ []
unfolding on_options effect meaning initialised escaped
asks_nothing = refl

ran_by : (how : How) (p : Played) → play (whole (meaning the.source (opened vars))) [] ≡ p → p.how ≡ how → how ≡ Completed → p.groups ≡ []
    → Ran 1 (whole (meaning the.source (opened vars))) the.unused the.unused
    (record { outcome = run.Completed; vars = p.state.vars; defs = p.state.defs; messages = p.state.messages; log = p.state.log })
ran_by Completed p is how completed none_asked = record {
  since = [];
  events = refl;
  groups = [];
  attempts = refl;
  starts = tt;
  how = Completed;
  meaning = is ∙ same p how none_asked;
  outcome = refl;
  fills = tt;
  least = tt;
  failures = refl;
}
  where
    same : (p : Played) → p.how ≡ Completed → p.groups ≡ [] → p ≡ record { how = Completed; state = p.state; groups = [] }
    same p how groups = subst (λ h. p ≡ record { how = h; state = p.state; groups = [] }) how (subst (λ g. p ≡ record { how = p.how; state = p.state; groups = g }) groups refl)
ran_by how p is how_is completed none_asked = absurd cc

ran : Ran 1 (whole (meaning the.source (opened vars))) the.unused the.unused end
ran = ran_by Completed played refl completes refl asks_nothing

meant : IsMeant 1 the.source start the.unused the.unused report
meant = record { end = end; ran = ran; told = refl }

-- ---- the record

abbrev recorded : Record
recorded = record_after the.source start report

-- What the record of the run computes with.
on_records : Unit {0}
unfolding on_options effect meaning initialised escaped declared_after record_of_run output_variables output_value output_names_of header_names preset_names package_names directory_names
on_records = tt

reads_back : record_in (record_text recorded) ≡ Ok recorded
unfolding on_records record_text record_in lines_in version_in srcdir_in body_in ending several last_of front_of parts parts_by entry_in output_in after_prefix unescaped_from with_byte byte_after_backslash escaped_byte is_path
reads_back = refl

-- A record of this length can be read again.
small : nat_le (length (record_text recorded)) (2 ^ 26) ≡ true
unfolding on_records record_text escaped_byte
small = refl

-- ---- what is handed over

abbrev makefile_text : List ℕ
makefile_text = codes "NAME = a\n"

abbrev header_text_made : List ℕ
header_text_made = codes "/* config.h.  Generated from config.h.in by configure.  */\n#define PACKAGE_NAME \"a\"\n"

abbrev cache_text : List ℕ
cache_text = cache_text_of report.vars

abbrev handed : List Artifact
handed = disks.handed cache_text (record_text recorded) makefile_text header_text_made (log_of report.log)

handed_is : artifacts the.source start templates report ≡ handed
unfolding on_records artifacts_of made made_file made_header file_table with_place directories_of seen_from sources_beside up configure_input_of header_note_of before_at key_at_front filled_after directive_after directive_of headed_line keyword_at name_after name_at newline_of text_after lines_from line_len
handed_is = refl

makes : RemakesAgree → Remakes the.source start templates report
makes law = law the.source start templates report refl reads_back

remakes : remade (record_text recorded) templates [] ≡ Ok the.outputs
unfolding on_records remade made_again present made made_file made_header file_table with_place directories_of seen_from sources_beside up configure_input_of header_note_of before_at key_at_front filled_after directive_after directive_of headed_line keyword_at name_after name_at newline_of text_after lines_from line_len
remakes = ap (λ r. named of_record r >>= λ r. made_again r templates []) reads_back

-- ---- what is read

abbrev before : Known
before = after disk []

reads : (k : Known) (name text : List ℕ) → IsFileName name → whole_text (text_under k name) ≡ Some text → IsReadWhole k name (Some text)
reads k name text can there = record { named = λ is. sym there; unnamed = λ no. absurd (no can) }

makefile_name : IsFileName (codes "../pkg/src/Makefile.in")
makefile_name = plain_name (codes "../pkg/src/Makefile.in") refl refl

header_name : IsFileName (codes "../pkg/config.h.in")
header_name = plain_name (codes "../pkg/config.h.in") refl refl

are_templates : (k : Known) → text_under k (codes "../pkg/src/Makefile.in") ≡ Some (codes "NAME = @PACKAGE_NAME@\n") → text_under k (codes "../pkg/config.h.in") ≡ Some (codes "#undef PACKAGE_NAME\n")
    → AreTemplates (Some k) (codes "../pkg") (the.makefile ∷ the.header ∷ []) templates
are_templates k a b =
    let sound : List ℕ × List ℕ → Type 0 = λ t. ReadsTemplate (Some k) (codes "../pkg") t.0 (Some t.1) in
    let has : Output → Type 0 = λ output. HasTemplate (Some k) (codes "../pkg") templates output.template in
    let first : IsReadWhole k (codes "../pkg/src/Makefile.in") (Some (codes "NAME = @PACKAGE_NAME@\n")) = reads k (codes "../pkg/src/Makefile.in") (codes "NAME = @PACKAGE_NAME@\n") makefile_name (ap whole_text a) in
    let second : IsReadWhole k (codes "../pkg/config.h.in") (Some (codes "#undef PACKAGE_NAME\n")) = reads k (codes "../pkg/config.h.in") (codes "#undef PACKAGE_NAME\n") header_name (ap whole_text b) in
    record {
      sound = All-cons sound (codes "src/Makefile.in", codes "NAME = @PACKAGE_NAME@\n") ((codes "config.h.in", codes "#undef PACKAGE_NAME\n") ∷ []) first
          (All-cons sound (codes "config.h.in", codes "#undef PACKAGE_NAME\n") [] second (All-nil sound));
      complete = All-cons has the.makefile (the.header ∷ []) (Some (codes "NAME = @PACKAGE_NAME@\n"), first, (0, omega arith, refl))
          (All-cons has the.header [] (Some (codes "#undef PACKAGE_NAME\n"), second, (1, omega arith, refl)) (All-nil has));
    }

given_before : AreGiven (Some before) the.source (Some (codes "config.cache")) (codes "../pkg") false None templates
unfolding declared_after
given_before = record { cached = record { named = λ can. refl; unnamed = λ no. refl }; filled = are_templates before refl refl }

-- ---- what is guarded

all_guarded : (k : Known) (guards own : List Guard) → All (Contains guards) own → All (λ g. g.place ≡ place_under k g.name) own
    → All (λ name. IsFileName name → HasGuard (Some k) guards name) (map (λ g. g.name) own)
all_guarded k guards [] there at = All-nil (λ name. IsFileName name → HasGuard (Some k) guards name)
all_guarded k guards (g ∷ own) there at =
    All-cons (λ name. IsFileName name → HasGuard (Some k) guards name) g.name (map (λ g. g.name) own)
    (λ can. record { place = g.place; at = All-head (λ g. g.place ≡ place_under k g.name) g own at; guarded = All-head (Contains guards) g own there })
    (all_guarded k guards own (All-tail (Contains guards) g own there) (All-tail (λ g. g.place ≡ place_under k g.name) g own at))

before_guarded : AreGuarded (Some before) disks.guards (inputs_of (codes "../pkg") templates)
unfolding AreGuarded
before_guarded =
    all_guarded before disks.guards disks.guards (All-contains_itself disks.guards) disks.guards_at

-- ---- no link, and no guarded name

unguarded : (c r m h l : List ℕ) → AreUnguarded disks.guards (disks.handed c r m h l)
unguarded c r m h l = disks.all_handed c r m h l (λ name. is_name_guarded name disks.guards ≡ false) refl refl refl refl

again_unguarded : (c r m h l : List ℕ) → AreUnguarded disks.again_guards (disks.outputs c r m h l)
again_unguarded c r m h l = disks.all_made c r m h l (λ a. is_name_guarded a.name disks.again_guards ≡ false) refl refl

abbrev file_line : List ℕ
file_line = creating_line (codes "src/Makefile")

abbrev header_line : List ℕ
header_line = creating_line (codes "config.h")

abbrev same_line : List ℕ
same_line = unchanged_line (codes "config.h")

said : (c r m h l : List ℕ) → AreLines (disks.handed c r m h l) disks.lines
said c r m h l =
    more [] (file_line ++ (header_line ++ [])) cache
    (more [] (file_line ++ (header_line ++ [])) record_made
    (more file_line (header_line ++ []) file
    (more header_line [] header none)))

again_said : (c r m h l : List ℕ) → AreLines (disks.outputs c r m h l) disks.again_lines
again_said c r m h l = more file_line (same_line ++ []) file (more same_line [] unchanged none)

no_cache : codes "config.cache" ≢ codes "old.h"
no_cache e = cc

no_status : codes "config.status" ≢ codes "old.h"
no_status e = cc

no_makefile : codes "src/Makefile" ≢ codes "old.h"
no_makefile e = cc

no_header : codes "config.h" ≢ codes "old.h"
no_header e = cc

no_log : codes "config.log" ≢ codes "old.h"
no_log e = cc

no_first : codes "../pkg/src/Makefile.in" ≢ codes "old.h"
no_first e = cc

no_second : codes "../pkg/config.h.in" ≢ codes "old.h"
no_second e = cc

never : (name : List ℕ) → name ≢ codes "old.h" → IsNeverLink disk name
never name apart = never_linked link begun name apart

other_place : (directory : ℕ) (name : List ℕ) → directory ≢ 0 → disks.place directory name ≢ disks.place 0 (codes "config.log")
other_place directory name differs same = differs (ap (λ (p : FilePlace). p.directory) same)

plain : (c r m h l : List ℕ) → HasPlainFiles disk (codes "../pkg") templates (disks.handed c r m h l)
plain c r m h l =
    let log : FilePlace = disks.place 0 (codes "config.log") in
    let apart : List ℕ × List ℕ → Type 0 = λ t. IsApartFrom disk log (path_of (codes "../pkg") t.0) in
    let first : IsApartFrom disk log (codes "../pkg/src/Makefile.in") = record {
      never = never (codes "../pkg/src/Makefile.in") no_first;
      place = disks.place 2 (codes "Makefile.in");
      at = refl;
      other = other_place 2 (codes "Makefile.in") (λ e. omega (arith, e));
    } in
    let second : IsApartFrom disk log (codes "../pkg/config.h.in") = record {
      never = never (codes "../pkg/config.h.in") no_second;
      place = disks.place 1 (codes "config.h.in");
      at = refl;
      other = other_place 1 (codes "config.h.in") (λ e. omega (arith, e));
    } in
    record {
      outputs = disks.all_handed c r m h l (IsNeverLink disk) (never (codes "config.cache") no_cache) (never (codes "config.status") no_status)
          (never (codes "src/Makefile") no_makefile) (never (codes "config.h") no_header);
      log = never (codes "config.log") no_log;
      place = log;
      at = refl;
      inputs = All-cons apart (codes "src/Makefile.in", codes "NAME = @PACKAGE_NAME@\n") ((codes "config.h.in", codes "#undef PACKAGE_NAME\n") ∷ []) first
          (All-cons apart (codes "config.h.in", codes "#undef PACKAGE_NAME\n") [] second (All-nil apart));
    }

-- ---- the run

abbrev log_text : List ℕ
log_text = log_of report.log

abbrev left : Known
left = disks.left cache_text (record_text recorded) makefile_text header_text_made log_text

is_left : (c r m h l : List ℕ) → nat_le (length r) (2 ^ 26) ≡ true → IsLeft (disks.left c r m h l) disks.guards (disks.handed c r m h l) disks.lines l
is_left c r m h l small = record {
  places = disks.four;
  before = disks.after_header c r m h l;
  logged = _;
  deeds = refl;
  done = disks.all_done c r m h l small;
  written = disks.log_done c r m h l;
}

silent : [] ≡ errors_of report.messages
unfolding on_options effect meaning initialised escaped
silent = refl

abbrev run_is : RemakesAgree → IsRun 1 the.arguments the.source settings the.unused the.unused (Some before) (Some left) (printed false report.messages disks.lines) [] 0
run_is law = record {
  cache = None;
  templates = templates;
  start = start;
  report = report;
  lines = disks.lines;
  given = given_before;
  apart = λ file. refl;
  starts = starts;
  meant = meant;
  are_lines = subst (λ a. AreLines a disks.lines) (sym handed_is) (said cache_text (record_text recorded) makefile_text header_text_made log_text);
  guards = disks.guards;
  guarded = before_guarded;
  unguarded = subst (AreUnguarded disks.guards) (sym handed_is) (unguarded cache_text (record_text recorded) makefile_text header_text_made log_text);
  remakes = makes law;
  same = refl;
  left = subst (λ a. IsLeft left disks.guards a disks.lines log_text) (sym handed_is) (is_left cache_text (record_text recorded) makefile_text header_text_made log_text small);
  prints = refl;
  says = silent;
  exits = refl;
}

-- ---- what is made again

abbrev next : Known
next = record { deeds = disks.again_file cache_text (record_text recorded) makefile_text header_text_made log_text; files = (handed_on left).files }

found : IsReadWhole (handed_on left) (codes "config.status") (Some (record_text recorded))
found =
    reads (handed_on left) (codes "config.status") (record_text recorded) (plain_name (codes "config.status") refl refl)
    (ap whole_text (disks.reads_record cache_text (record_text recorded) makefile_text header_text_made log_text)
    ∙ ap (λ b. if b then Some (record_text recorded) else None) small)

given_again : GivenAgain (Some (handed_on left)) (Ok recorded) templates
unfolding declared_after record_of_run
given_again =
    are_templates (handed_on left)
    (disks.reads_first cache_text (record_text recorded) makefile_text header_text_made log_text)
    (disks.reads_second cache_text (record_text recorded) makefile_text header_text_made log_text)

again_guarded : GuardsAgain (Some (handed_on left)) disks.again_guards (Ok recorded) templates
unfolding AreGuarded record_of_run
again_guarded =
    all_guarded (handed_on left) disks.again_guards disks.again_guards (All-contains_itself disks.again_guards)
    (disks.again_at cache_text (record_text recorded) makefile_text header_text_made log_text)

abbrev again_is : IsMadeAgain (Some (handed_on left)) (Some next) [] disks.again_lines
again_is = record {
  text = record_text recorded;
  templates = templates;
  made = the.outputs;
  found = found;
  given = subst (λ r. GivenAgain (Some (handed_on left)) r templates) (sym reads_back) given_again;
  remakes = remakes;
  lines = again_said cache_text (record_text recorded) makefile_text header_text_made log_text;
  guards = disks.again_guards;
  guarded = subst (λ r. GuardsAgain (Some (handed_on left)) disks.again_guards r templates) (sym reads_back) again_guarded;
  unguarded = again_unguarded cache_text (record_text recorded) makefile_text header_text_made log_text;
  same = refl;
  places = disks.again_two;
  written = disks.again_done cache_text (record_text recorded) makefile_text header_text_made log_text;
}

-- ---- both

abbrev twice : RemakesAgree → the.IsMadeTwice
twice law = record {
  settings = settings;
  asked = asked;
  coherent = example_is_coherent;
  left = left;
  out = printed false report.messages disks.lines;
  run = run_is law;
  completed = refl;
  wanted = refl;
  plain = subst (HasPlainFiles disk (codes "../pkg") templates) (sym handed_is) (plain cache_text (record_text recorded) makefile_text header_text_made log_text);
  next = next;
  printed = disks.again_lines;
  again = again_is;
}

-- What the law says of it.
chosen_are : filter (is_chosen []) handed ≡ the.outputs
chosen_are = refl

pub made_twice : RemakesAgree → StatusMakesTheSame → (made : the.IsMadeTwice) × (made.again.made ≡ the.outputs) × All (λ a. text_under made.left a.name ≡ Some a.text) the.outputs
unfolding StatusMakesTheSame
made_twice agree law =
    let made = twice agree in
    let read : Artifact → Type 0 = λ a. text_under left a.name ≡ Some a.text in (
      made,
      law 1 the.arguments the.source settings the.unused the.unused disk left made.out [] 0 (Some next) [] made.printed made.coherent made.run made.completed made.wanted made.plain made.again
          ∙ ap (filter (is_chosen [])) handed_is ∙ chosen_are,
      disks.all_made cache_text (record_text recorded) makefile_text header_text_made log_text read
          (disks.reads_file cache_text (record_text recorded) makefile_text header_text_made log_text)
          (disks.reads_header cache_text (record_text recorded) makefile_text header_text_made log_text),
    )
