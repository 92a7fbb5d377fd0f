-- The calls that are found are those that the text has.
use Rattle.std.proofs.Common.{◌≡◌, ◌↔◌, ℕ, zero, suc, ◌+◌, ◌<◌, Bool, true, false, cond, List, [], ◌∷◌, length, get_or, Option, Some, None, Result, Ok, Err, refl, sym, ap, subst, ◌∙◌, arith, ⊎_elim}
use Rattle.std.specs.Prelude.{Contains}
use Rattle.std.proofs.lemmas.List.Elements.{Contains-append_left, Contains-append_right, Contains-append_cases}
use Rattle.m4quote.specs.declared.fault.QuoteFault.{QuoteFault}
use Rattle.m4quote.specs.ItemValue.{Span, ItemValue, call, bare}
use Rattle.m4quote.specs.Scan.{outcome}
use Rattle.m4quote.specs.Spelling.{IsSpelling}
use Rattle.m4quote.proofs.Laws.{outcome_is_spelling}
use Rattle.ac_statement.specs.declared.fault.ParseFault.{ParseFault}
use Rattle.ac_statement.specs.Inside.{inside}
use Rattle.ac_statement.specs.Standing.{StandsFor}
use Rattle.ac_statement.proofs.Standings.{inside_is}
use Rattle.ac_macros.specs.declared.table.Row.{Row}
use Rattle.ac_macros.specs.Table.{row_named}
use Rattle.ac_calls.specs.Calls.{MacroCall, Bodies, call_at, in_args, in_macro, in_items, items_of, in_denoted, in_argument, calls_in}
use Rattle.ac_macros.specs.Arguments.{holds_statements}
use Rattle.ac_calls.specs.Standing.{HasCall, here, within, later, IsCallOf}

not_in_none : {A : Type 0} (c : MacroCall) → Contains [] c → A
not_in_none c got = absurd (omega (arith, got.1))

in_rest : (first c : MacroCall) (cs : List MacroCall) → Contains cs c → Contains (first ∷ cs) c
in_rest first c cs got = (suc got.0, omega (arith, got.1), got.2)

-- ---- arguments

find_arg : (bodies : Bodies) (holds : ℕ → Bool) (i : ℕ) (args : List Span) (k : ℕ) (arg : Span) (c : MacroCall) → k < length args → get_or args k arg ≡ arg → holds (i + k) ≡ true
    → Contains (bodies arg) c → Contains (in_args bodies holds i args) c
find_arg bodies holds i [] k arg c inside is some got = absurd (omega arith)
find_arg bodies holds i (x ∷ args) zero arg c inside is some got =
    let start : i ≡ i + 0 = omega arith in
    let chosen : cond (holds i) (bodies x) [] ≡ bodies arg = ap (λ t. cond t (bodies x) []) (ap holds start ∙ some) ∙ ap bodies is in
    Contains-append_left (cond (holds i) (bodies x) []) (in_args bodies holds (i + 1) args) c (subst (λ t. Contains t c) (sym chosen) got)
find_arg bodies holds i (x ∷ args) (suc k) arg c inside is some got =
    let next : i + 1 + k ≡ i + suc k = omega arith in
    Contains-append_right (cond (holds i) (bodies x) []) (in_args bodies holds (i + 1) args) c (find_arg bodies holds (i + 1) args k arg c (omega arith) is (ap holds next ∙ some) got)

record FoundArg (bodies : Bodies) (holds : ℕ → Bool) (i : ℕ) (args : List Span) (c : MacroCall) : Type 0 where
  k : ℕ
  arg : Span
  inside : k < length args
  is : get_or args k arg ≡ arg
  some : holds (i + k) ≡ true
  found : Contains (bodies arg) c

found_first : (bodies : Bodies) (holds : ℕ → Bool) (i : ℕ) (x : Span) (args : List Span) (c : MacroCall) (t : Bool) → holds i ≡ t → Contains (cond t (bodies x) []) c → FoundArg bodies holds i (x ∷ args) c
found_first bodies holds i x args c true e got =
    let start : i + 0 ≡ i = omega arith in
    record { k = 0; arg = x; inside = omega arith; is = refl; some = ap holds start ∙ e; found = got }
found_first bodies holds i x args c false e got = not_in_none c got

found_later : (bodies : Bodies) (holds : ℕ → Bool) (i : ℕ) (x : Span) (args : List Span) (c : MacroCall) → FoundArg bodies holds (i + 1) args c → FoundArg bodies holds i (x ∷ args) c
found_later bodies holds i x args c r =
    let next : i + suc r.k ≡ i + 1 + r.k = omega arith in
    record { k = suc r.k; arg = r.arg; inside = omega (arith, r.inside); is = r.is; some = ap holds next ∙ r.some; found = r.found }

found_arg : (bodies : Bodies) (holds : ℕ → Bool) (i : ℕ) (args : List Span) (c : MacroCall) → Contains (in_args bodies holds i args) c → FoundArg bodies holds i args c
found_arg bodies holds i [] c got = not_in_none c got
found_arg bodies holds i (x ∷ args) c got =
    ⊎_elim
    (λ left. found_first bodies holds i x args c (holds i) refl left)
    (λ right. found_later bodies holds i x args c (found_arg bodies holds (i + 1) args c right))
    (Contains-append_cases (cond (holds i) (bodies x) []) (in_args bodies holds (i + 1) args) c got)

-- ---- what the text has is found

in_argument_is : (room : ℕ) (arg a : Span) (inner : List ItemValue) → StandsFor arg a → IsSpelling a.at a.text inner → in_argument (suc room) arg ≡ in_items (in_argument room) inner
unfolding in_argument
in_argument_is room arg a inner stands spelled =
    ap (in_denoted (in_argument room)) ((inside_is arg a).1 stands) ∙ ap (λ o. in_items (in_argument room) (items_of o)) ((outcome_is_spelling a.at a.text inner).1 spelled)

has_found : {room : ℕ} {items : List ItemValue} {c : MacroCall} → HasCall room items c → Contains (in_items (in_argument room) items) c
has_found (here {room} {at} {name} {args} {items}) = (0, omega arith, refl)
has_found (within {room} {at} {k} {name} {args} {items} {inner} {row} {arg} {a} {c} known inside is some stands spelled has) =
    let bodies = in_argument (suc room) in
    let got = subst (λ t. Contains t c) (sym (in_argument_is room arg a inner stands spelled)) (has_found has) in
    let holds = holds_statements row.named (length args) in
    let start : 0 + k ≡ k = omega arith in
    let one = find_arg bodies holds 0 args k arg c inside is (ap holds start ∙ some) got in
    let first = in_rest (call_at name args at) c (in_macro bodies (row_named name) args) (subst (λ o. Contains (in_macro bodies o args) c) (sym known) one) in
    Contains-append_left (call_at name args at ∷ in_macro bodies (row_named name) args) (in_items bodies items) c first
has_found (later {room} {item = bare text at} {items} {c} has) = has_found has
has_found (later {room} {item = call name args at} {items} {c} has) =
    Contains-append_right (call_at name args at ∷ in_macro (in_argument room) (row_named name) args) (in_items (in_argument room) items) c (has_found has)

-- ---- what is found the text has

-- a statement argument has the call
record InText (room : ℕ) (arg : Span) (c : MacroCall) : Type 0 where
  a : Span
  inner : List ItemValue
  stands : StandsFor arg a
  spelled : IsSpelling a.at a.text inner
  has : HasCall room inner c

abbrev InArg : ℕ → Span → MacroCall → Type 0
InArg zero arg c = ⊥
InArg (suc room) arg c = InText room arg c

abbrev AreFound : ℕ → Type 0
AreFound room = (arg : Span) (c : MacroCall) → Contains (in_argument room arg) c → InArg room arg c

has_within : (room at : ℕ) (name : List ℕ) (args : List Span) (items : List ItemValue) (row : Row) (c : MacroCall) → row_named name ≡ Some row → FoundArg (in_argument room) (holds_statements row.named (length args)) 0 args c
    → AreFound room → HasCall room (call name args at ∷ items) c
has_within zero at name args items row c known r found = absurd (found r.arg c r.found)
has_within (suc room) at name args items row c known r found =
    let t = found r.arg c r.found in
    let start : r.k ≡ 0 + r.k = omega arith in
    within known r.inside r.is (ap (holds_statements row.named (length args)) start ∙ r.some) t.stands t.spelled t.has

has_macro : (room at : ℕ) (name : List ℕ) (args : List Span) (items : List ItemValue) (c : MacroCall) (o : Option Row) → row_named name ≡ o → AreFound room → Contains (in_macro (in_argument room) o args) c
    → HasCall room (call name args at ∷ items) c
has_macro room at name args items c None e found got = not_in_none c got
has_macro room at name args items c (Some row) e found got = has_within room at name args items row c e (found_arg (in_argument room) (holds_statements row.named (length args)) 0 args c got) found

has_call : (room at : ℕ) (name : List ℕ) (args : List Span) (items : List ItemValue) (c : MacroCall) → AreFound room → Contains (call_at name args at ∷ in_macro (in_argument room) (row_named name) args) c
    → HasCall room (call name args at ∷ items) c
has_call room at name args items c found (zero, inside, is) = subst (HasCall room (call name args at ∷ items)) is here
has_call room at name args items c found (suc k, inside, is) = has_macro room at name args items c (row_named name) refl found (k, omega arith, is)

has_items : (room : ℕ) → AreFound room → (items : List ItemValue) (c : MacroCall) → Contains (in_items (in_argument room) items) c → HasCall room items c
has_items room found [] c got = not_in_none c got
has_items room found (bare text at ∷ items) c got = later (has_items room found items c got)
has_items room found (call name args at ∷ items) c got =
    ⊎_elim
    (λ left. has_call room at name args items c found left)
    (λ right. later (has_items room found items c right))
    (Contains-append_cases (call_at name args at ∷ in_macro (in_argument room) (row_named name) args) (in_items (in_argument room) items) c got)

has_outcome : (room : ℕ) (arg a : Span) (c : MacroCall) (o : Result (List ItemValue) QuoteFault) → StandsFor arg a → outcome a.at a.text ≡ o → AreFound room → Contains (in_items (in_argument room) (items_of o)) c → InText room arg c
has_outcome room arg a c (Ok inner) stands e found got =
    record { a = a; inner = inner; stands = stands; spelled = (outcome_is_spelling a.at a.text inner).0 e; has = has_items room found inner c got }
has_outcome room arg a c (Err f) stands e found got = not_in_none c got

has_denoted : (room : ℕ) (arg : Span) (c : MacroCall) (o : Result Span ParseFault) → inside arg ≡ o → AreFound room → Contains (in_denoted (in_argument room) o) c → InText room arg c
has_denoted room arg c (Ok a) e found got = has_outcome room arg a c (outcome a.at a.text) ((inside_is arg a).0 e) refl found got
has_denoted room arg c (Err f) e found got = not_in_none c got

are_found : (room : ℕ) → AreFound room
unfolding in_argument
are_found zero arg c got = not_in_none c got
are_found (suc room) arg c got = has_denoted room arg c (inside arg) refl (are_found room) got

is_call : (text : List ℕ) (c : MacroCall) (o : Result (List ItemValue) QuoteFault) → outcome 0 text ≡ o → Contains (in_items (in_argument 31) (items_of o)) c → IsCallOf text c
is_call text c (Ok items) e got = record { items = items; spelled = (outcome_is_spelling 0 text items).0 e; has = has_items 31 (are_found 31) items c got }
is_call text c (Err f) e got = not_in_none c got

pub calls_found : (text : List ℕ) (c : MacroCall) → Contains (calls_in text) c ↔ IsCallOf text c
unfolding calls_in
calls_found text c = (
  λ got. is_call text c (outcome 0 text) refl got,
  λ is. subst (λ o. Contains (in_items (in_argument 31) (items_of o)) c) (sym ((outcome_is_spelling 0 text is.items).1 is.spelled)) (has_found is.has),
)
