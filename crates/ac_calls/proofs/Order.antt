-- The calls that are found are in order, and lie in the text.
use Rattle.std.proofs.Common.{◌≡◌, ℕ, zero, suc, ◌+◌, ◌≤◌, Bool, true, false, cond, List, [], ◌∷◌, ◌++◌, length, map, Option, Some, None, Result, Ok, Err, refl, ap, subst, ◌∙◌, arith}
use Rattle.std.specs.Prelude.{IfOk}
use Rattle.std.proofs.lemmas.List.{length-append}
use Rattle.std.proofs.lemmas.List.Elements.{All-head, All-tail}
use Rattle.m4quote.specs.declared.fault.QuoteFault.{QuoteFault}
use Rattle.m4quote.specs.ItemValue.{Span, ItemValue, call, bare}
use Rattle.m4quote.specs.Parts.{IsPart, IsItemOf, ArePartsOf}
use Rattle.m4quote.specs.Scan.{outcome}
use Rattle.m4quote.proofs.Laws.{outcome_is_spelling, spelling_parts}
use Rattle.ac_statement.specs.declared.fault.ParseFault.{ParseFault}
use Rattle.ac_statement.specs.Inside.{inside}
use Rattle.ac_statement.specs.Standing.{StandsFor, run, itself, IsRun}
use Rattle.ac_statement.proofs.Standings.{inside_is}
use Rattle.ac_macros.specs.declared.table.Row.{Row}
use Rattle.ac_macros.specs.Table.{row_named}
use Rattle.ac_calls.specs.Calls.{MacroCall, Bodies, extent_of, end_after, call_at, in_args, in_macro, in_items, items_of, in_text, in_denoted, in_argument, calls_in, AreInOrder}
use Rattle.ac_macros.specs.Arguments.{holds_statements}
use Rattle.ac_calls.proofs.Laid.{AreLaid, IsLaid, call_end, laid_end, items_laid}

-- ---- lists of calls

order_bounds : (low high : ℕ) (cs : List MacroCall) → AreInOrder low high cs → low ≤ high
order_bounds low high [] o = o
order_bounds low high (c ∷ cs) o = omega (arith, o.0, o.1, o.2, o.3)

order_lower : (low new high : ℕ) (cs : List MacroCall) → new ≤ low → AreInOrder low high cs → AreInOrder new high cs
order_lower low new high [] le o = omega arith
order_lower low new high (c ∷ cs) le o = (omega (arith, o.0), o.1, o.2, o.3, o.4)

order_higher : (low high new : ℕ) (cs : List MacroCall) → high ≤ new → AreInOrder low high cs → AreInOrder low new cs
order_higher low high new [] le o = omega arith
order_higher low high new (c ∷ cs) le o = (o.0, o.1, o.2, omega (arith, o.3), order_higher c.name_end high new cs le o.4)

order_append : (low mid high : ℕ) (xs ys : List MacroCall) → AreInOrder low mid xs → AreInOrder mid high ys → AreInOrder low high (xs ++ ys)
order_append low mid high [] ys first second = order_lower mid low high ys first second
order_append low mid high (c ∷ cs) ys first second =
    let le = order_bounds mid high ys second in
    (first.0, first.1, first.2, omega (arith, first.3, le), order_append c.name_end mid high cs ys first.4 second)

-- ---- items

-- the calls of each argument are in it
abbrev AreInside : Bodies → Type 0
AreInside bodies = (arg : Span) → AreInOrder arg.at (arg.at + length arg.text) (bodies arg)

arg_order : (bodies : Bodies) → AreInside bodies → (arg : Span) (t : Bool) → AreInOrder arg.at (arg.at + length arg.text) (cond t (bodies arg) [])
arg_order bodies all arg true = all arg
arg_order bodies all arg false = omega arith

args_order : (bodies : Bodies) (holds : ℕ → Bool) → AreInside bodies → (i low : ℕ) (args : List Span) → AreLaid low args → AreInOrder low (end_after low (map extent_of args)) (in_args bodies holds i args)
args_order bodies holds all i low [] laid = omega arith
args_order bodies holds all i low (arg ∷ args) laid =
    let next = arg.at + length arg.text + 1 in
    let first = order_higher low (arg.at + length arg.text) next (cond (holds i) (bodies arg) []) (omega arith) (order_lower arg.at low (arg.at + length arg.text) (cond (holds i) (bodies arg) []) laid.0 (arg_order bodies all arg (holds i))) in
    order_append low next (end_after next (map extent_of args)) (cond (holds i) (bodies arg) []) (in_args bodies holds (i + 1) args) first (args_order bodies holds all (i + 1) next args laid.1)

macro_order : (bodies : Bodies) → AreInside bodies → (low : ℕ) (args : List Span) (o : Option Row) → AreLaid low args → AreInOrder low (end_after low (map extent_of args)) (in_macro bodies o args)
macro_order bodies all low args None laid = laid_end low args laid
macro_order bodies all low args (Some row) laid = args_order bodies (holds_statements row.named (length args)) all 0 low args laid

items_order : (bodies : Bodies) → AreInside bodies → (low high : ℕ) (items : List ItemValue) → low ≤ high → IsLaid low high items → AreInOrder low high (in_items bodies items)
items_order bodies all low high [] le laid = le
items_order bodies all low high (bare text at ∷ items) le laid = items_order bodies all low high items le laid
items_order bodies all low high (call name args at ∷ items) le laid =
    let end = call_end name args at in
    let after = laid_end (at + length name) args laid.2 in
    let one : AreInOrder low end (call_at name args at ∷ in_macro bodies (row_named name) args) = (laid.0, omega (arith, laid.1), after, omega arith, macro_order bodies all (at + length name) args (row_named name) laid.2) in
    order_append low end high (call_at name args at ∷ in_macro bodies (row_named name) args) (in_items bodies items) one (items_order bodies all end high items laid.3 laid.4)

outcome_order : (bodies : Bodies) → AreInside bodies → (a : Span) (o : Result (List ItemValue) QuoteFault) → outcome a.at a.text ≡ o → AreInOrder a.at (a.at + length a.text) (in_items bodies (items_of o))
outcome_order bodies all a (Ok items) e =
    items_order bodies all a.at (a.at + length a.text) items (omega arith) (items_laid ((outcome_is_spelling a.at a.text items).0 e).spells (a.at + length a.text) (omega arith))
outcome_order bodies all a (Err f) e = omega arith

-- ---- the text that an argument denotes

part_among : (base : ℕ) (whole : List ℕ) (before after : List ItemValue) (text : List ℕ) (at : ℕ) → ArePartsOf base whole (before ++ bare text at ∷ after) → IsPart base whole at text
part_among base whole [] after text at parts = All-head (IsItemOf base whole) (bare text at) after parts
part_among base whole (item ∷ before) after text at parts = part_among base whole before after text at (All-tail (IsItemOf base whole) item (before ++ bare text at ∷ after) parts)

record IsIn (arg a : Span) : Type 0 where
  begins : arg.at ≤ a.at
  ends : a.at + length a.text ≤ arg.at + length arg.text

run_in : (arg text a : Span) → IsPart arg.at arg.text text.at text.text → IsRun text a → IsIn arg a
run_in arg text a part r =
    let size : length text.text ≡ length r.before + suc (length a.text + suc (length r.after)) =
    ap length r.parts ∙ length-append r.before (91 ∷ (a.text ++ 93 ∷ r.after)) ∙ ap (λ n. length r.before + suc n) (length-append a.text (93 ∷ r.after)) in
    record { begins = omega (arith, part.begins, r.offset); ends = omega (arith, part.begins, part.ends, r.offset, size) }

stands_in : (arg a : Span) → StandsFor arg a → IsIn arg a
stands_in arg a (run {items} {text} spelled but r) =
    run_in arg text a (part_among arg.at arg.text but.before but.after text.text text.at (subst (ArePartsOf arg.at arg.text) but.parts (spelling_parts arg.at arg.text items spelled))) r
stands_in arg a (itself spelled brackets) = record { begins = omega arith; ends = omega arith }

denoted_order : (bodies : Bodies) → AreInside bodies → (arg : Span) (o : Result Span ParseFault) → inside arg ≡ o → AreInOrder arg.at (arg.at + length arg.text) (in_denoted bodies o)
denoted_order bodies all arg (Ok a) e =
    let i = stands_in arg a ((inside_is arg a).0 e) in
    order_lower a.at arg.at (arg.at + length arg.text) (in_text bodies a) i.begins (order_higher a.at (a.at + length a.text) (arg.at + length arg.text) (in_text bodies a) i.ends (outcome_order bodies all a (outcome a.at a.text) refl))
denoted_order bodies all arg (Err f) e = omega arith

are_inside : (room : ℕ) → AreInside (in_argument room)
unfolding in_argument
are_inside zero arg = omega arith
are_inside (suc room) arg = denoted_order (in_argument room) (are_inside room) arg (inside arg) refl

pub calls_order : (text : List ℕ) → AreInOrder 0 (length text) (calls_in text)
unfolding calls_in
calls_order text =
    let n : 0 + length text ≡ length text = omega arith in
    subst (λ high. AreInOrder 0 high (in_items (in_argument 31) (items_of (outcome 0 text)))) n (outcome_order (in_argument 31) (are_inside 31) (record { text = text; at = 0 }) (outcome 0 text) refl)

-- what is said of a list is said of what a call returned
pub along : {T E : Type 0} (P Q : T → Type 0) → ((x : T) → P x → Q x) → (r : Result T E) → IfOk r P → IfOk r Q
along P Q f (Ok x) p = f x p
along P Q f (Err e) p = tt
