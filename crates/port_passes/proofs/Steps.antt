-- What one step of a pass makes.
use Rattle.std.proofs.Common.{◌≡◌, ℕ, zero, suc, ◌≤◌, List, ◌++◌, length, Result, Ok, Err, OnOk, slice_range, true, ◌∷◌, sym, subst, ap, ◌∙◌, map, get_or, ◌<◌, ◌+◌, [], append-nil, Some, arith}
use Rattle.std.specs.Prelude.{Contains, codes, slice_get}
use Rattle.std.specs.List.{list_all}
use Rattle.std.proofs.lemmas.List.{get_or-map, length-map}
use Rattle.std.proofs.lemmas.List.Elements.{Contains-get_or}
use Rattle.ac_calls.specs.declared.call.CallAt.{CallAt}
use Rattle.ac_calls.specs.declared.call.Extent.{Extent}
use Rattle.ac_calls.specs.Calls.{MacroCall, calls_in, macro_call_of}
use Rattle.port_passes.specs.Rewritten.{IsPass, IsAround, JoinsWords, EndsItsLine, AreSpaces, IsBare, IsBareAlone, in_brackets, DoesArgument, NamesVariable, AreMessages, messages_first}
use Rattle.port_passes.specs.Rewritten as specs
use Rattle.port_passes.specs.Making.{IsMade}
use Rattle.port_definitions.specs.Defined.{Defines, DefinesWord, IsNameAt, IsPlainUse, IsUnused}
use Rattle.port_definitions.specs.Unused.{DefinesUnused}
use Rattle.port_spots.specs.Put.{is_space_or_return}
use Rattle.port_idioms.specs.declared.idioms.Idioms.TheVariants.{All}
use Rattle.port_idioms.specs.declared.idioms.Idioms.{Idioms}

pub pass_bound : (idioms : Idioms) (text : List ℕ) (at : ℕ) (out : List ℕ) → IsPass idioms text at out → at ≤ length text
pass_bound idioms text at out specs.IsPass.begun = omega arith
pass_bound idioms text at out (specs.IsPass.copied next before from to) = to
pass_bound idioms text at out (specs.IsPass.replaced c put end before is goes puts around to) = to
pass_bound idioms text at out (specs.IsPass.renamed c end before is declares help to) = to
pass_bound idioms text at out (specs.IsPass.parted c before is joins) = omega (arith, joins.joint.within)
pass_bound idioms text at out (specs.IsPass.lined c end indent before is ends (from, to, spaces) blank) = to
pass_bound idioms text at out (specs.IsPass.bracketed c i arg end before is read has bare) = omega (arith, bare.place.1, bare.place.2)
pass_bound idioms text at out (specs.IsPass.enclosed c i arg end before is does has bare) = omega (arith, bare.place.1, bare.place.2)
pass_bound idioms text at out (specs.IsPass.named c before is names to) = to
pass_bound idioms text at out (specs.IsPass.checked c put before is all compiler sets to) = to
pass_bound idioms text at out (specs.IsPass.turned c start end before is all output around messages) = omega arith
pass_bound idioms text at out (specs.IsPass.made c put before is all made to) = to
pass_bound idioms text at out (specs.IsPass.exchanged end put before is to) = to
pass_bound idioms text at out (specs.IsPass.written d name body before defined defines after here to) = to
pass_bound idioms text at out (specs.IsPass.forgotten d name body before defined defines unused to) = to
pass_bound idioms text at out (specs.IsPass.unused d name before defined unused to) = to
pass_bound idioms text at out (specs.IsPass.substituted start end name word before defines after here to) = to
pass_bound idioms text at out (specs.IsPass.undefined end name word before defines unused to) = to

-- What follows from what an `Ok` says holds of the `Ok`.
pub on_ok : {T E P Q : Type 0} → (P → Q) → (r : Result T E) → OnOk r P → OnOk r Q
on_ok f (Ok v) p = f p
on_ok f (Err e) p = tt

pub part_step : (idioms : Idioms) (text : List ℕ) (at : ℕ) (out : List ℕ) (c : MacroCall) (start : ℕ) (new_at : ℕ) (new : List ℕ)
    → IsPass idioms text at out → Contains (calls_in text) c → JoinsWords text c start → at ≤ start
    → (new_at ≡ start + 1) × (new ≡ (out ++ slice_range text at start) ++ []) → IsPass idioms text new_at new
part_step idioms text at out c start new_at new before is joins from (at_is, new_is) =
    let copied = specs.IsPass.copied start before from (omega (arith, joins.joint.within)) in
    subst (λ a. IsPass idioms text a new) (sym at_is)
    (subst (IsPass idioms text (start + 1)) (sym (new_is ∙ append-nil (out ++ slice_range text at start))) (specs.IsPass.parted c copied is joins))

pub line_step : (idioms : Idioms) (text : List ℕ) (at : ℕ) (out : List ℕ) (c : MacroCall) (end : ℕ) (indent put : List ℕ) (new_at : ℕ) (new : List ℕ)
    → IsPass idioms text at out → Contains (calls_in text) c → EndsItsLine text c → at ≤ c.end → AreSpaces text c end → list_all is_space_or_return indent ≡ true → put ≡ 10 ∷ indent
    → (new_at ≡ end) × (new ≡ (out ++ slice_range text at c.end) ++ put) → IsPass idioms text new_at new
line_step idioms text at out c end indent put new_at new before is ends from (after, to, spaces) blank put_is (at_is, new_is) =
    let copied = specs.IsPass.copied c.end before from (omega (arith, after, to)) in
    subst (λ a. IsPass idioms text a new) (sym at_is)
    (subst (IsPass idioms text end) (sym (new_is ∙ ap (λ p. (out ++ slice_range text at c.end) ++ p) put_is)) (specs.IsPass.lined c end indent copied is ends (after, to, spaces) blank))

pub bracket_step : (idioms : Idioms) (text : List ℕ) (at : ℕ) (out : List ℕ) (c : MacroCall) (i : ℕ) (arg : Extent) (end : ℕ) (put : List ℕ) (new_at : ℕ) (new : List ℕ)
    → IsPass idioms text at out → Contains (calls_in text) c → c.is_of_profile ≡ true → slice_get c.args i ≡ Some arg → at ≤ arg.start → IsBare text arg end × (arg.start ≤ end) × (end ≤ length text)
    → put ≡ in_brackets (slice_range text arg.start end) → (new_at ≡ end) × (new ≡ (out ++ slice_range text at arg.start) ++ put) → IsPass idioms text new_at new
bracket_step idioms text at out c i arg end put new_at new before is read has from (bare, after, to) put_is (at_is, new_is) =
    let copied = specs.IsPass.copied arg.start before from (omega (arith, after, to)) in
    subst (λ a. IsPass idioms text a new) (sym at_is)
    (subst (IsPass idioms text end) (sym (new_is ∙ ap (λ p. (out ++ slice_range text at arg.start) ++ p) put_is)) (specs.IsPass.bracketed c i arg end copied is read has bare))

pub enclose_step : (idioms : Idioms) (text : List ℕ) (at : ℕ) (out : List ℕ) (c : MacroCall) (i : ℕ) (arg : Extent) (end : ℕ) (put : List ℕ) (new_at : ℕ) (new : List ℕ)
    → IsPass idioms text at out → Contains (calls_in text) c → DoesArgument text c i → slice_get c.args i ≡ Some arg → at ≤ arg.start → IsBareAlone text arg end × (arg.start ≤ end) × (end ≤ length text)
    → put ≡ in_brackets (slice_range text arg.start end) → (new_at ≡ end) × (new ≡ (out ++ slice_range text at arg.start) ++ put) → IsPass idioms text new_at new
enclose_step idioms text at out c i arg end put new_at new before is does has from (bare, after, to) put_is (at_is, new_is) =
    let copied = specs.IsPass.copied arg.start before from (omega (arith, after, to)) in
    subst (λ a. IsPass idioms text a new) (sym at_is)
    (subst (IsPass idioms text end) (sym (new_is ∙ ap (λ p. (out ++ slice_range text at arg.start) ++ p) put_is)) (specs.IsPass.enclosed c i arg end copied is does has bare))

pub name_step : (idioms : Idioms) (text : List ℕ) (at : ℕ) (out : List ℕ) (c : MacroCall) (put : List ℕ) (new_at : ℕ) (new : List ℕ)
    → IsPass idioms text at out → Contains (calls_in text) c → NamesVariable text c → at ≤ c.start → c.start ≤ c.end → c.end ≤ length text
    → put ≡ in_brackets (slice_range text c.start c.end) → (new_at ≡ c.end) × (new ≡ (out ++ slice_range text at c.start) ++ put) → IsPass idioms text new_at new
name_step idioms text at out c put new_at new before is names from order to put_is (at_is, new_is) =
    let copied = specs.IsPass.copied c.start before from (omega (arith, order, to)) in
    subst (λ a. IsPass idioms text a new) (sym at_is)
    (subst (IsPass idioms text c.end) (sym (new_is ∙ ap (λ p. (out ++ slice_range text at c.start) ++ p) put_is)) (specs.IsPass.named c copied is names to))

pub made_step : (idioms : Idioms) (text : List ℕ) (at : ℕ) (out : List ℕ) (c : MacroCall) (put : List ℕ) (new_at : ℕ) (new : List ℕ)
    → IsPass idioms text at out → Contains (calls_in text) c → idioms ≡ All → IsMade text c put → at ≤ c.start → c.start ≤ c.end → c.end ≤ length text
    → (new_at ≡ c.end) × (new ≡ (out ++ slice_range text at c.start) ++ put) → IsPass idioms text new_at new
made_step idioms text at out c put new_at new before is all made from order to (at_is, new_is) =
    let copied = specs.IsPass.copied c.start before from (omega (arith, order, to)) in
    subst (λ a. IsPass idioms text a new) (sym at_is) (subst (IsPass idioms text c.end) (sym new_is) (specs.IsPass.made c put copied is all made to))

pub write_step : (idioms : Idioms) (text : List ℕ) (read : ℕ) (out : List ℕ) (d : MacroCall) (name body : List ℕ) (at new_at : ℕ) (new : List ℕ)
    → IsPass idioms text read out → Contains (calls_in text) d → Defines text d name body → d.end ≤ at → IsNameAt text at name → read ≤ at → at + length name ≤ length text
    → (new_at ≡ at + length name) × (new ≡ (out ++ slice_range text read at) ++ body) → IsPass idioms text new_at new
write_step idioms text read out d name body at new_at new before defined defines after here from to (at_is, new_is) =
    let copied = specs.IsPass.copied at before from (omega (arith, to)) in
    subst (λ a. IsPass idioms text a new) (sym at_is) (subst (IsPass idioms text (at + length name)) (sym new_is) (specs.IsPass.written d name body copied defined defines after here to))

pub forget_step : (idioms : Idioms) (text : List ℕ) (at : ℕ) (out : List ℕ) (d : MacroCall) (name body : List ℕ) (new_at : ℕ) (new : List ℕ)
    → IsPass idioms text at out → Contains (calls_in text) d → Defines text d name body → IsUnused text d.end name → at ≤ d.start → d.start ≤ d.end → d.end ≤ length text
    → (new_at ≡ d.end) × (new ≡ (out ++ slice_range text at d.start) ++ []) → IsPass idioms text new_at new
forget_step idioms text at out d name body new_at new before is defines unused from order to (at_is, new_is) =
    let copied = specs.IsPass.copied d.start before from (omega (arith, order, to)) in
    subst (λ a. IsPass idioms text a new) (sym at_is)
    (subst (IsPass idioms text d.end) (sym (new_is ∙ append-nil (out ++ slice_range text at d.start))) (specs.IsPass.forgotten d name body copied is defines unused to))

pub unused_step : (idioms : Idioms) (text : List ℕ) (at : ℕ) (out : List ℕ) (d : MacroCall) (name : List ℕ) (new_at : ℕ) (new : List ℕ)
    → IsPass idioms text at out → Contains (calls_in text) d → DefinesUnused text d name → at ≤ d.start → d.start ≤ d.end → d.end ≤ length text
    → (new_at ≡ d.end) × (new ≡ (out ++ slice_range text at d.start) ++ []) → IsPass idioms text new_at new
unused_step idioms text at out d name new_at new before is unused from order to (at_is, new_is) =
    let copied = specs.IsPass.copied d.start before from (omega (arith, order, to)) in
    subst (λ a. IsPass idioms text a new) (sym at_is)
    (subst (IsPass idioms text d.end) (sym (new_is ∙ append-nil (out ++ slice_range text at d.start))) (specs.IsPass.unused d name copied is unused to))

pub word_step : (idioms : Idioms) (text : List ℕ) (read : ℕ) (out : List ℕ) (start end : ℕ) (name word : List ℕ) (at new_at : ℕ) (new : List ℕ)
    → IsPass idioms text read out → DefinesWord text start end name word → end ≤ at → IsPlainUse text at name → read ≤ at → at + length name ≤ length text
    → (new_at ≡ at + length name) × (new ≡ (out ++ slice_range text read at) ++ word) → IsPass idioms text new_at new
word_step idioms text read out start end name word at new_at new before defines after here from to (at_is, new_is) =
    let copied = specs.IsPass.copied at before from (omega (arith, to)) in
    subst (λ a. IsPass idioms text a new) (sym at_is) (subst (IsPass idioms text (at + length name)) (sym new_is) (specs.IsPass.substituted start end name word copied defines after here to))

pub undefine_step : (idioms : Idioms) (text : List ℕ) (at : ℕ) (out : List ℕ) (start end : ℕ) (name word : List ℕ) (new_at : ℕ) (new : List ℕ)
    → IsPass idioms text at out → DefinesWord text start end name word → IsUnused text end name → at ≤ start → start ≤ end → end ≤ length text
    → (new_at ≡ end) × (new ≡ (out ++ slice_range text at start) ++ []) → IsPass idioms text new_at new
undefine_step idioms text at out start end name word new_at new before defines unused from order to (at_is, new_is) =
    let copied = specs.IsPass.copied start before from (omega (arith, order, to)) in
    subst (λ a. IsPass idioms text a new) (sym at_is)
    (subst (IsPass idioms text end) (sym (new_is ∙ append-nil (out ++ slice_range text at start))) (specs.IsPass.undefined end name word copied defines unused to))

pub turn_step : (idioms : Idioms) (text : List ℕ) (at : ℕ) (out : List ℕ) (c : MacroCall) (start end : ℕ) (put : List ℕ) (new_at : ℕ) (new : List ℕ)
    → IsPass idioms text at out → Contains (calls_in text) c → idioms ≡ All → slice_range text c.start c.name_end ≡ codes "AC_OUTPUT" → at ≤ c.start → c.start ≤ length text
    → IsAround text c c.start start → AreMessages text start end → put ≡ messages_first (slice_range text start end) (slice_range text c.start c.end)
    → (new_at ≡ length text) × (new ≡ (out ++ slice_range text at c.start) ++ put) → IsPass idioms text new_at new
turn_step idioms text at out c start end put new_at new before is all output from to around messages put_is (at_is, new_is) =
    subst (λ a. IsPass idioms text a new) (sym at_is)
    (subst (IsPass idioms text (length text)) (sym (new_is ∙ ap (λ p. (out ++ slice_range text at c.start) ++ p) put_is))
    (specs.IsPass.turned c start end (specs.IsPass.copied c.start before from to) is all output around messages))

pub has_call : (calls : List CallAt) (all : List MacroCall) (i : ℕ) (c : CallAt) → map macro_call_of calls ≡ all → i < length calls → c ≡ get_or calls i c → Contains all (macro_call_of c)
has_call calls all i c is lt here =
    let within : i < length (map macro_call_of calls) = subst (λ n. i < n) (sym (length-map calls macro_call_of)) lt in
    let found : get_or (map macro_call_of calls) i (macro_call_of c) ≡ macro_call_of c = get_or-map macro_call_of calls i c (macro_call_of c) lt ∙ ap macro_call_of (sym here) in
    subst (λ l. Contains l (macro_call_of c)) is (subst (Contains (map macro_call_of calls)) found (Contains-get_or (map macro_call_of calls) i (macro_call_of c) within))

-- What holds of all numbers before this one, and of it, holds of those before the next.
pub before_next : (P : ℕ → Type 0) (at k : ℕ) → (k < at → P k) → P at → k < at + 1 → P k
before_next P zero zero less here below = here
before_next P zero (suc k) less here below = absurd (omega (arith, below))
before_next P (suc at) zero less here below = less (omega arith)
before_next P (suc at) (suc k) less here below = before_next (λ n. P (suc n)) at k (λ is. less (omega (arith, is))) here (omega (arith, below))
