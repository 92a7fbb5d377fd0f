-- The calls of a text are one after another in it, and each call's arguments are one after another in the call.
use Rattle.std.proofs.Common.{◌≡◌, ℕ, suc, ◌+◌, ◌^◌, ◌<◌, ◌≤◌, Bool, true, false, eqb, List, [], ◌∷◌, ◌++◌, length, take, drop, map, cond, ap, arith}
use Rattle.std.proofs.lemmas.List.{length-drop, length-take-le}
use Rattle.std.proofs.lemmas.List.Elements.{All-nil, All-cons}
use Rattle.m4quote.specs.ItemValue.{Span, ItemValue, call, bare, bare_before}
use Rattle.m4quote.specs.Text.{blank_len}
use Rattle.m4quote.specs.Spelling.{AreArguments, last, more, Spells, nothing, bare_text, dropped_line, bare_name, with_arguments}
use Rattle.m4quote.proofs.Insides.{front_fits}
use Rattle.m4quote.proofs.ArgumentLists.{length_is, arguments_fit}
use Rattle.ac_calls.specs.Calls.{extent_of, end_after, IsItemPlaced, ArePlaced}

-- the arguments are one after another from an offset on
abbrev pub AreLaid : ℕ → List Span → Type 0
AreLaid low [] = Unit {0}
AreLaid low (arg ∷ args) = (low ≤ arg.at) × AreLaid (arg.at + length arg.text + 1) args

-- the offset after a call
abbrev pub call_end : List ℕ → List Span → ℕ → ℕ
call_end name args at = end_after (at + length name) (map extent_of args)

-- the calls are one after another from an offset on, up to another one
abbrev pub IsLaid : ℕ → ℕ → List ItemValue → Type 0
IsLaid low high [] = Unit {0}
IsLaid low high (bare text at ∷ items) = IsLaid low high items
IsLaid low high (call name args at ∷ items) = (low ≤ at) × (0 < length name) × AreLaid (at + length name) args × (call_end name args at ≤ high) × IsLaid (call_end name args at) high items

pub laid_end : (low : ℕ) (args : List Span) → AreLaid low args → low ≤ end_after low (map extent_of args)
laid_end low [] laid = omega arith
laid_end low (arg ∷ args) laid = omega (arith, laid.0, laid_end (arg.at + length arg.text + 1) args laid.1)

laid_lower : (low new high : ℕ) (items : List ItemValue) → new ≤ low → IsLaid low high items → IsLaid new high items
laid_lower low new high [] le laid = tt
laid_lower low new high (bare text at ∷ items) le laid = laid_lower low new high items le laid
laid_lower low new high (call name args at ∷ items) le laid = (omega (arith, laid.0), laid.1, laid.2, laid.3, laid.4)

args_lower : (low new : ℕ) (args : List Span) → new ≤ low → AreLaid low args → AreLaid new args
args_lower low new [] le laid = tt
args_lower low new (arg ∷ args) le laid = (omega (arith, laid.0), laid.1)

laid_either : (t : Bool) (low high at to : ℕ) (a b : List ℕ) (items : List ItemValue) → IsLaid low high items → IsLaid low high (cond t (bare (a ++ b) at ∷ items) (bare a at ∷ bare b to ∷ items))
laid_either true low high at to a b items laid = laid
laid_either false low high at to a b items laid = laid

laid_bare : (low high at : ℕ) (text : List ℕ) (items : List ItemValue) → IsLaid low high items → IsLaid low high (bare_before at text items)
laid_bare low high at [] items laid = laid
laid_bare low high at (b ∷ bs) [] laid = tt
laid_bare low high at (b ∷ bs) (call name args to ∷ items) laid = laid
laid_bare low high at (b ∷ bs) (bare text to ∷ items) laid = laid_either (eqb to (at + length (b ∷ bs))) low high at to (b ∷ bs) text items laid

-- the arguments of a call, which end where it ends
record AreWithin (low : ℕ) (args : List Span) (end : ℕ) : Type 0 where
  laid : AreLaid low args
  ends : end_after low (map extent_of args) ≡ end

arguments_laid : {at m : ℕ} {text : List ℕ} {args : List Span} → AreArguments at text args m → (low : ℕ) → low ≤ at → AreWithin low args (at + m)
arguments_laid (last {at} {n} {text} {after} inside ends) low le =
    let len = length_is 0 at n 41 text after inside ends in
    let size : length (take n (drop (blank_len text) text)) ≡ n = length-take-le n (drop (blank_len text) text) (omega (arith, length-drop (blank_len text) text, len)) in
    record { laid = (omega arith, tt); ends = omega (arith, size) }
arguments_laid (more {at} {n} {m} {text} {after} {args} inside ends later) low le =
    let len = length_is 0 at n 44 text after inside ends in
    let size : length (take n (drop (blank_len text) text)) ≡ n = length-take-le n (drop (blank_len text) text) (omega (arith, length-drop (blank_len text) text, len)) in
    let next : at + blank_len text + length (take n (drop (blank_len text) text)) + 1 ≡ at + (blank_len text + n + 1) = omega (arith, size) in
    let rest = arguments_laid later (at + blank_len text + length (take n (drop (blank_len text) text)) + 1) (omega (arith, next)) in
    record { laid = (omega arith, rest.laid); ends = omega (arith, rest.ends) }

pub items_laid : {at : ℕ} {text : List ℕ} {items : List ItemValue} → Spells at text items → (high : ℕ) → at + length text ≤ high → IsLaid at high items
items_laid nothing high le = tt
items_laid (bare_text {at} {n} {kind} {text} {items} front is later) high le =
    let fits = front_fits front in
    let rest = items_laid later high (omega (arith, fits.1, length-drop n text)) in
    laid_bare at high at (take n text) items (laid_lower (at + n) at high items (omega arith) rest)
items_laid (dropped_line {at} {n} {text} {items} front later) high le =
    let fits = front_fits front in
    laid_lower (at + n) at high items (omega arith) (items_laid later high (omega (arith, fits.1, length-drop n text)))
items_laid (bare_name {at} {n} {text} {items} front no_args later) high le =
    let fits = front_fits front in
    let size : length (take n text) ≡ n = length-take-le n text fits.1 in
    let rest = items_laid later high (omega (arith, fits.1, length-drop n text)) in
    (omega arith, omega (arith, size, fits.0), tt, omega (arith, size, fits.1), laid_lower (at + n) (at + length (take n text)) high items (omega (arith, size)) rest)
items_laid (with_arguments {at} {n} {m} {text} {inside} {args} {items} front opens given later) high le =
    let fits = front_fits front in
    let size : length (take n text) ≡ n = length-take-le n text fits.1 in
    let len : length text ≡ n + suc (length inside) = omega (arith, length-drop n text, ap length opens, fits.1) in
    let fit = arguments_fit given in
    let within = arguments_laid given (at + length (take n text)) (omega (arith, size)) in
    let rest = items_laid later high (omega (arith, len, fit, length-drop m inside)) in (
      omega arith,
      omega (arith, size, fits.0),
      within.laid,
      omega (arith, within.ends, len, fit),
      laid_lower (at + n + 1 + m) (call_end (take n text) args at) high items (omega (arith, within.ends)) rest,
    )

placed : (low high : ℕ) (items : List ItemValue) → IsLaid low high items → high < 2 ^ 64 → ArePlaced items
placed low high [] laid lt = All-nil IsItemPlaced
placed low high (bare text at ∷ items) laid lt = All-cons IsItemPlaced (bare text at) items tt (placed low high items laid lt)
placed low high (call name args at ∷ items) laid lt =
    let after = laid_end (at + length name) args laid.2 in
    All-cons IsItemPlaced (call name args at) items (omega (arith, after, laid.3), omega (arith, laid.3)) (placed (call_end name args at) high items laid.4 lt)

pub spelled_placed : {at : ℕ} {text : List ℕ} {items : List ItemValue} → Spells at text items → at + length text < 2 ^ 64 → ArePlaced items
spelled_placed {at} {text} {items} spells lt = placed at (at + length text) items (items_laid spells (at + length text) (omega arith)) lt

pub none_placed : ArePlaced []
none_placed = All-nil IsItemPlaced
