-- Statements leave the lists of a source within their limits.
use Rattle.std.proofs.Common.{ℕ, zero, suc, Bool, true, false, List, Result, Ok, Err, sym, ◌∙◌, subst}
use Rattle.std.specs.Prelude.{IfOk}
use Rattle.m4quote.specs.ItemValue.{Span, ItemValue}
use Rattle.ac_statement.specs.declared.fault.ParseFault.{ParseFault}
use Rattle.ac_statement.specs.declared.placement.LineStart.{LineStart}
use Rattle.ac_args.specs.Arguments.{is_given}
use Rattle.ac_statement.specs.Reading.{Gives}
use Rattle.ac_macros.specs.declared.macros.ChoiceMacro.{ChoiceMacro}
use Rattle.ac_tree.specs.declared.declarations.Declarations as declarations
use Rattle.ac_tree.specs.declared.declarations.Stage.{Stage}
use Rattle.ac_tree.specs.Limits.{IsWithinLimits, HasShortLists}
use Rattle.ac_tree.specs.Lists.{start, after}
use Rattle.output_list.specs.Output.{AreOutputs}
use Rattle.ac_macros.specs.ListKind.{ListKind, Top, of_case}
use Rattle.ac_macros.proofs.LimitLemmas.{plain_keeps, question_keeps, precious_count, start_fits}
use Rattle.ac_tree.specs.declared.tree.When.{When}
use Rattle.ac_tree.specs.declared.tree.When.TheVariants.{Always}
use Rattle.ac_tree.specs.Lists.{after_all, after_cases, lists_of}
use Rattle.ac_tree.specs.declared.tree.Stmt.{Stmt}
use Rattle.ac_tree.specs.Script.{Script, Done, Then, Choice, Check, Cases, followed, script_of}
use Rattle.ac_tree.proofs.ScriptLemmas.{after_joined, after_followed}
use Rattle.acparse.specs.Profile.{source_of, case_if}
use Rattle.acparse.specs.Source.{IsSource}
use Rattle.acparse.specs.Statements.{Within, IsBare, before, ended, assignments, AreCases, no_more, default, pair, IsAction, absent, there, IsItem, bare_text, plain_call, choice, question, check, AreStatements, none, one, IsBody}
use Rattle.acparse.proofs.Questions.{asked_known}
use Rattle.acparse.proofs.Texts.{assigned_known}
use Rattle.acparse.proofs.Whole.{source_found}

-- Each statement argument leaves them within their limits.
abbrev Keeps : Within → Type 0
Keeps Inside = (c : declarations.Declarations) (arg : Span) (s : Script) → Inside c arg s → IsWithinLimits c → IsWithinLimits (after_all c s)

bare_keeps : {list_kind : ListKind} {stage : Stage} {text : List ℕ} {s : Script} (c : declarations.Declarations) → IsBare list_kind stage text s → IsWithinLimits c → IsWithinLimits (after_all c s)
bare_keeps c (before is) h = h
bare_keeps c (ended is) h = h
bare_keeps c (assignments {list = list} v l may) h = subst IsWithinLimits (sym (assigned_known list c)) h

case_keeps : (when : When) (given : Bool) (body : Script) (c : declarations.Declarations) → IsWithinLimits (after_all c body) → IsWithinLimits (after_cases c (case_if when given body))
case_keeps when true body c h = h
case_keeps when false Done c h = h
case_keeps when false (Then d e rest) c h = h
case_keeps when false (Choice d subject cases rest) c h = h
case_keeps when false (Check message name commands rest) c h = h

cases_keep : (Inside : Within) (keeps : Keeps Inside) (m : ChoiceMacro) {c : declarations.Declarations} {args : List Span} {cases : Cases} → AreCases Inside m c args cases → IsWithinLimits c → IsWithinLimits (after_cases c cases)
cases_keep Inside keeps m no_more h = h
cases_keep Inside keeps m (default {c = c} {arg = arg} {body = body} i) h = case_keeps Always (is_given arg) body c (keeps c arg body i h)
cases_keep Inside keeps m (pair w i more) h = cases_keep Inside keeps m more (keeps _ _ _ i h)

action_keeps : (Inside : Within) (keeps : Keeps Inside) (when : When) {c : declarations.Declarations} {args : List Span} {cases : Cases} → IsAction Inside when c args cases → IsWithinLimits c → IsWithinLimits (after_cases c cases)
action_keeps Inside keeps when absent h = h
action_keeps Inside keeps when (there {c = c} {arg = arg} {body = body} i) h = case_keeps when (is_given arg) body c (keeps c arg body i h)

item_keeps : (list_kind : ListKind) (Inside : ListKind → Within) (keeps : (x : ListKind) → Keeps (Inside x)) (c : declarations.Declarations) (line_start : LineStart) {item : ItemValue} {next : List ItemValue} {s : Script}
    → IsItem list_kind Inside c line_start item next s → IsWithinLimits c → IsWithinLimits (after_all c s)
unfolding after
item_keeps list_kind Inside keeps c line_start (bare_text i) h = bare_keeps c i h
item_keeps list_kind Inside keeps c line_start (plain_call {declares = d} {effect = e} stands p) h = plain_keeps c _ _ _ (d, e) p h
item_keeps list_kind Inside keeps c line_start (choice {m = m} stands p i) h = cases_keep (Inside (of_case list_kind)) (keeps (of_case list_kind)) m i h
item_keeps list_kind Inside keeps c line_start (question {declares = d} {q = q} {whole = whole} {first = first} {other = other} stands p f o w) h =
    let both = followed first other in
    subst IsWithinLimits (sym (asked_known c d whole both ∙ after_followed first other (after c d)))
    (action_keeps (Inside (of_case list_kind)) (keeps (of_case list_kind)) _ o (action_keeps (Inside (of_case list_kind)) (keeps (of_case list_kind)) _ f (question_keeps c _ _ (d, q) p h)))
item_keeps list_kind Inside keeps c line_start (check stands m n i) h = keeps _ c _ _ i h

items_keep : (list_kind : ListKind) (Inside : ListKind → Within) (keeps : (x : ListKind) → Keeps (Inside x)) {c : declarations.Declarations} {line_start : LineStart} {items : List ItemValue} {s : Script}
    → AreStatements list_kind Inside c line_start items s → IsWithinLimits c → IsWithinLimits (after_all c s)
items_keep list_kind Inside keeps none h = h
items_keep list_kind Inside keeps (one {c = c} {first = first} {rest = rest} i more) h =
    subst IsWithinLimits (sym (after_joined first rest c)) (items_keep list_kind Inside keeps more (item_keeps list_kind Inside keeps c _ i h))

body_keeps : (room : ℕ) (list_kind : ListKind) → Keeps (IsBody room list_kind)
body_keeps zero list_kind c arg s i h = absurd i
body_keeps (suc room) list_kind c arg s i h = items_keep list_kind (IsBody room) (body_keeps room) i.2.2 h

-- The lists of a source.
pub source_fits : (text : List ℕ) (s : Script) → IsSource text s → IsWithinLimits (after_all start s)
source_fits text s is = items_keep Top (IsBody 31) (body_keeps 31) is.list.statements start_fits

pub lists_fit : (text : List ℕ) (r : Result (List Stmt) ParseFault) → Gives script_of r (source_of text) → IfOk r (λ s. HasShortLists (lists_of (script_of s)))
lists_fit text (Ok s) is =
    let h : IsWithinLimits (lists_of (script_of s)) = source_fits text (script_of s) (source_found text (script_of s) is) in
    record {
      substituted = h.substituted;
      precious = precious_count (lists_of (script_of s)) h;
      features = h.features;
      packages = h.packages;
      files = h.files;
      headers = h.headers;
    }
lists_fit text (Err f) is = tt

-- Its files and headers.
pub outputs_fit : (text : List ℕ) (r : Result (List Stmt) ParseFault) → Gives script_of r (source_of text) → IfOk r (λ s. AreOutputs (lists_of (script_of s)).files (lists_of (script_of s)).headers)
outputs_fit text (Ok s) is = (source_fits text (script_of s) (source_found text (script_of s) is)).outputs
outputs_fit text (Err f) is = tt
