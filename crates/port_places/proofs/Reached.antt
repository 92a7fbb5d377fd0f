-- What is known of the places of a list of statements.
use Rattle.std.proofs.Common.{◌≡◌, ℕ, ◌+◌, ◌-◌, ◌<◌, true, arith, List, [], ◌∷◌, ◌++◌, length, get_or, sym, subst}
use Rattle.std.specs.Prelude.{Contains, All}
use Rattle.std.proofs.lemmas.List.Elements.{All-push, All-get_or, Contains-get_or}
use Rattle.lint_text.specs.Parts.{part}
use Rattle.lint_marks.specs.Quotes.{is_text}
use Rattle.lint_marks.specs.Marks.{text_start, text_after, text_after_call, is_outside_all}
use Rattle.lint_marks.specs.declared.mark.TextScan.{TextScan}
use Rattle.ac_calls.specs.declared.call.CallAt.{CallAt}
use Rattle.ac_calls.specs.declared.call.Extent.{Extent}
use Rattle.port_places.specs.Outside.{BeginsCall, IsCallAt, IsList, IsRead, begun, byte, passed, IsOutside}

-- ---- calls

pub in_list : {A : Type 0} (xs : List A) (i : ℕ) (x : A) → i < length xs → x ≡ get_or xs i x → Contains xs x
in_list xs i x lt here = subst (Contains xs) (sym here) (Contains-get_or xs i x lt)

pub begins_call : (calls : List CallAt) (index at : ℕ) (call : CallAt) → index < length calls → call ≡ get_or calls index call → call.start ≡ at → BeginsCall calls index at
begins_call calls index at call lt is begins = record { call = call; within = lt; is_it = is; begins = begins }

-- ---- places

pub at_start : (text : List ℕ) (calls : List CallAt) (list : Extent) (s : TextScan) → s ≡ text_start → IsRead text calls list list.start s
at_start text calls list s is = subst (IsRead text calls list list.start) (sym is) begun

in_none : {A : Type 0} (P : A → Type 0) → All P []
in_none P k d lt = absurd (omega arith)

pub all_in_none : {A : Type 0} (P : A → Type 0) (xs : List A) → xs ≡ [] → All P xs
all_in_none P xs is = subst (All P) (sym is) (in_none P)

pub byte_step : (text : List ℕ) (calls : List CallAt) (list : Extent) (at new_at : ℕ) (rest : List ℕ) (s new : TextScan) → IsRead text calls list at s → at < list.end
    → rest ≡ part text at list.end → new_at ≡ at + 1 → new ≡ text_after s rest → IsRead text calls list new_at new
byte_step text calls list at new_at rest s new read lt rest_is at_is new_is =
    subst (λ (a : ℕ). IsRead text calls list a new) (sym at_is)
    (subst (IsRead text calls list (at + 1)) (sym new_is) (subst (λ (r : List ℕ). IsRead text calls list (at + 1) (text_after s r)) (sym rest_is) (byte lt read)))

pub call_step : (text : List ℕ) (calls : List CallAt) (list : Extent) (at end : ℕ) (s new : TextScan) → IsRead text calls list at s → IsCallAt calls at end
    → (s.quotes.depth ≡ 0) × (is_text s.quotes.part ≡ true) → new ≡ text_after_call (end - at) s → IsRead text calls list end new
call_step text calls list at end s new read call (none, in_text) new_is = subst (IsRead text calls list end) (sym new_is) (passed end read call none in_text)

pub noted : (text : List ℕ) (calls : List CallAt) (list : Extent) (at : ℕ) (s : TextScan) (outside pushed : List ℕ) → IsList text calls list → at < list.end
    → IsRead text calls list at s → is_outside_all s ≡ true → All (IsOutside text calls) outside → pushed ≡ outside ++ at ∷ [] → All (IsOutside text calls) pushed
noted text calls list at s outside pushed is_list lt read is all pushed_is =
    let one : IsOutside text calls at = record { list = list; scan = s; is_list = is_list; within = lt; is_read = read; outside = is } in
    subst (All (IsOutside text calls)) (sym pushed_is) (All-push (IsOutside text calls) outside at all one)

pub found_at : (text : List ℕ) (calls : List CallAt) (outside : List ℕ) (i at : ℕ) → All (IsOutside text calls) outside → i < length outside → get_or outside i 0 ≡ at → IsOutside text calls at
found_at text calls outside i at all lt is = subst (IsOutside text calls) is (All-get_or (IsOutside text calls) outside i 0 lt all)
