-- The statements of a source are read.
use Rattle.std.proofs.Common.{◌≡◌, ℕ, zero, suc, List, Ok, refl, ap, ◌∙◌}
use Rattle.m4quote.specs.ItemValue.{Span, ItemValue}
use Rattle.m4quote.proofs.Laws.{outcome_is_spelling, bare_value_is_value}
use Rattle.shell_bare.proofs.Laws.{text-read}
use Rattle.ac_statement.specs.declared.placement.LineStart.{LineStart}
use Rattle.ac_statement.specs.Reading.{quoted}
use Rattle.ac_statement.proofs.Binds.{then_ok, wants_true}
use Rattle.ac_macros.specs.declared.macros.ChoiceMacro.{ChoiceMacro}
use Rattle.ac_macros.specs.declared.macros.Macro.{Macro}
use Rattle.ac_tree.specs.declared.declarations.Declarations as declarations
use Rattle.ac_tree.specs.declared.declarations.Stage.{Stage}
use Rattle.ac_tree.specs.declared.declarations.Stage.TheVariants.{Before, Ended}
use Rattle.ac_macros.specs.Placement.{bare_fault, as_statement}
use Rattle.ac_macros.specs.ListKind.{ListKind, of_case}
use Rattle.ac_tree.specs.declared.tree.When.{When}
use Rattle.ac_tree.specs.Script.{Script, Cases}
use Rattle.m4quote.specs.Scan.{bare_value_of}
use Rattle.acparse.specs.Asked.{asked_with}
use Rattle.acparse.specs.Bare.{bare_at, of_value, assigned_in, idle_or, bare_of}
use Rattle.acparse.specs.Profile.{Bodies, body_of, items_of, item_of, checked, known, cases_in, choice_of, action_in, asked_of, check_of}
use Rattle.acparse.specs.Statements.{Within, MayStand, IsBare, before, ended, assignments, AreCases, no_more, default, pair, IsAction, absent, there, IsItem, bare_text, plain_call, choice, question, check, AreStatements, none, one, IsBody}

-- The statements of each statement argument are read.
abbrev pub Gets : Bodies → Within → Type 0
Gets bodies Inside = (c : declarations.Declarations) (arg : Span) (s : Script) → Inside c arg s → bodies c arg ≡ Ok s

pub is_checked : (list_kind : ListKind) (stage : Stage) (line_start : LineStart) (name : List ℕ) (args : List Span) (at : ℕ) (next : List ItemValue) (m : Macro)
    → MayStand list_kind stage line_start name args at next m → checked list_kind stage line_start name args at next ≡ Ok m
unfolding checked
is_checked list_kind stage line_start name args at next m h =
    then_ok _ _ h.row _ (ap (known at) h.known)
    (then_ok _ _ tt _ (wants_true _ _ h.taken)
    (then_ok _ _ m _ (ap (as_statement stage at) h.named) (then_ok _ _ tt _ h.in_place (then_ok _ _ tt _ (wants_true _ _ h.parted) (then_ok _ _ tt _ h.held refl)))))

bare_only : {list_kind : ListKind} {stage : Stage} (at : ℕ) {text : List ℕ} {s : Script} → IsBare list_kind stage text s → bare_of list_kind stage at text ≡ Ok s
unfolding bare_of assigned_in
bare_only at (before is) = ap (λ b. idle_or b (bare_fault Before at)) is
bare_only at (ended is) = ap (λ b. idle_or b (bare_fault Ended at)) is
bare_only at (assignments {text = text} {value = value} {list = list} v l may) =
    then_ok (of_value at (bare_value_of text)) _ list _ (ap (of_value at) ((bare_value_is_value text value).1 v) ∙ ap (bare_at at) (text-read value list l))
    (then_ok _ _ tt _ may refl)

cases_only : (bodies : Bodies) (Inside : Within) (ok : Gets bodies Inside) (m : ChoiceMacro) {c : declarations.Declarations} {args : List Span} {cases : Cases} → AreCases Inside m c args cases → cases_in bodies m c args ≡ Ok cases
unfolding cases_in
cases_only bodies Inside ok m no_more = refl
cases_only bodies Inside ok m (default h) = then_ok _ _ _ _ (ok _ _ _ h) refl
cases_only bodies Inside ok m (pair w h more) = then_ok _ _ _ _ w (then_ok _ _ _ _ (ok _ _ _ h) (then_ok _ _ _ _ (cases_only bodies Inside ok m more) refl))

action_only : (bodies : Bodies) (Inside : Within) (ok : Gets bodies Inside) (when : When) {c : declarations.Declarations} {args : List Span} {cases : Cases} → IsAction Inside when c args cases → action_in bodies when c args ≡ Ok cases
unfolding action_in
action_only bodies Inside ok when absent = refl
action_only bodies Inside ok when (there h) = then_ok _ _ _ _ (ok _ _ _ h) refl

item_only : (list_kind : ListKind) (bodies : ListKind → Bodies) (Inside : ListKind → Within) (ok : (x : ListKind) → Gets (bodies x) (Inside x)) (c : declarations.Declarations) (line_start : LineStart) {item : ItemValue} {next : List ItemValue} {s : Script}
    → IsItem list_kind Inside c line_start item next s → item_of list_kind bodies c line_start item next ≡ Ok s
unfolding choice_of asked_of asked_with check_of
item_only list_kind bodies Inside ok c line_start (bare_text h) = bare_only _ h
item_only list_kind bodies Inside ok c line_start (plain_call stands p) = then_ok _ _ _ _ (is_checked _ _ _ _ _ _ _ _ stands) (then_ok _ _ _ _ p refl)
item_only list_kind bodies Inside ok c line_start (choice stands p h) =
    then_ok _ _ _ _ (is_checked _ _ _ _ _ _ _ _ stands) (then_ok _ _ _ _ p (then_ok _ _ _ _ (cases_only (bodies (of_case list_kind)) (Inside (of_case list_kind)) (ok (of_case list_kind)) _ h) refl))
item_only list_kind bodies Inside ok c line_start (question stands p f o w) =
    then_ok _ _ _ _ (is_checked _ _ _ _ _ _ _ _ stands)
    (then_ok _ _ _ _ p (then_ok _ _ _ _ (action_only (bodies (of_case list_kind)) (Inside (of_case list_kind)) (ok (of_case list_kind)) _ f) (then_ok _ _ _ _ (action_only (bodies (of_case list_kind)) (Inside (of_case list_kind)) (ok (of_case list_kind)) _ o) (then_ok _ _ _ _ w refl))))
item_only list_kind bodies Inside ok c line_start (check stands m n h) =
    then_ok _ _ _ _ (is_checked _ _ _ _ _ _ _ _ stands) (then_ok _ _ _ _ m (then_ok _ _ _ _ n (then_ok _ _ _ _ (ok _ _ _ _ h) refl)))

pub items_only : (list_kind : ListKind) (bodies : ListKind → Bodies) (Inside : ListKind → Within) (ok : (x : ListKind) → Gets (bodies x) (Inside x)) {c : declarations.Declarations} {line_start : LineStart} {items : List ItemValue} {s : Script}
    → AreStatements list_kind Inside c line_start items s → items_of list_kind bodies c line_start items ≡ Ok s
unfolding items_of
items_only list_kind bodies Inside ok none = refl
items_only list_kind bodies Inside ok (one i more) = then_ok _ _ _ _ (item_only list_kind bodies Inside ok _ _ i) (then_ok _ _ _ _ (items_only list_kind bodies Inside ok more) refl)

-- The statements of a statement argument are read.
pub body_only : (room : ℕ) (list_kind : ListKind) → Gets (body_of room list_kind) (IsBody room list_kind)
unfolding body_of
body_only zero list_kind c arg s h = absurd h
body_only (suc room) list_kind c arg s h =
    then_ok _ _ h.0 _ h.1 (then_ok _ _ h.2.0 _ (ap quoted ((outcome_is_spelling h.0.at h.0.text h.2.0).1 h.2.1))
    (items_only list_kind (body_of room) (IsBody room) (body_only room) h.2.2))
