-- The text that a statement argument denotes, and the items of an argument that holds one call, as functions of the
-- argument. `Standing` has the rules, and the contract of `inside_laws` says that the two agree. All of this is own.
use Rattle.std.specs.Prelude.{ℕ, ◌+◌, ◌-◌, Bool, true, false, ◌&&◌, ◌==◌, List, [], ◌∷◌, length, take, drop, filter, Option, Some, None, Result, Ok, Err, nat_lt, if◌then◌else◌}
use Rattle.std.specs.List.{prefix_len}
use Rattle.m4quote.specs.ItemValue.{Span, ItemValue, call, bare}
use Rattle.m4quote.specs.Scan.{outcome}
use Rattle.text_cut.specs.Cuts.{is_blank, trimmed}
use Rattle.ac_statement.specs.declared.fault.ParseFault.{ParseFault}
use Rattle.ac_statement.specs.declared.fault.ParseFault.TheVariants.{UnknownStatement}
use Rattle.ac_statement.specs.Reading.{◌>>=◌, quoted}
use Rattle.ac_statement.specs.Texts.{is_all_blank, is_bracket}

-- ---- one quoted run

-- How many brackets are open after a byte.
abbrev pub depth_after : ℕ → ℕ → ℕ
depth_after depth b = if b == 91 then depth + 1 else (if b == 93 then depth - 1 else depth)

-- The open brackets are all closed by the last byte, and not earlier.
abbrev pub closes_at_end : ℕ → List ℕ → Bool
closes_at_end depth [] = depth == 0
closes_at_end depth (b ∷ bs) = nat_lt 0 depth && closes_at_end (depth_after depth b) bs

-- The text is one quoted run.
abbrev pub is_run : List ℕ → Bool
is_run [] = false
is_run (b ∷ bs) = (b == 91) && closes_at_end 1 bs

-- The items are blank text alone.
abbrev pub are_blank : List ItemValue → Bool
are_blank [] = true
are_blank (call name args at ∷ items) = false
are_blank (bare text at ∷ items) = is_all_blank text && are_blank items

-- The one bare text that is not blank, if all other items are blank text.
abbrev pub only_text : List ItemValue → Option Span
only_text [] = None
only_text (call name args at ∷ items) = None
only_text (bare text at ∷ items) =
    if is_all_blank text then only_text items
    else (if are_blank items then Some (record { text = text; at = at }) else None)

-- The number of blanks at the front.
abbrev pub blank_len : List ℕ → ℕ
blank_len text = prefix_len is_blank text

-- The text after those, without the blanks at its end.
abbrev pub body : List ℕ → List ℕ
body text = trimmed (drop (blank_len text) text)

-- The inside of a bare text that is one quoted run with blanks around it.
abbrev pub run_inside : Span → Option Span
run_inside s =
    if is_run (body s.text)
    then Some (record { text = take (length (body s.text) - 2) (drop 1 (body s.text)); at = s.at + blank_len s.text + 1 })
    else None

-- The inside of the text, if there is one.
abbrev pub inside_of : Option Span → Option Span
inside_of None = None
inside_of (Some s) = run_inside s

-- ---- brackets outside calls

-- The number of brackets in a text.
abbrev pub brackets : List ℕ → ℕ
brackets text = length (filter is_bracket text)

-- n, less the number of brackets in the arguments.
abbrev pub less_arguments : ℕ → List Span → ℕ
less_arguments n [] = n
less_arguments n (a ∷ args) = less_arguments (n - brackets a.text) args

-- n, less the number of brackets in the arguments of the item, if it is a call.
abbrev pub less_item : ℕ → ItemValue → ℕ
less_item n (call name args at) = less_arguments n args
less_item n (bare text at) = n

-- n, less the number of brackets in the arguments of all calls.
abbrev pub less_calls : ℕ → List ItemValue → ℕ
less_calls n [] = n
less_calls n (item ∷ items) = less_calls (less_item n item) items

-- All brackets of the text are in the arguments of its calls.
abbrev pub is_unquoted : List ℕ → List ItemValue → Bool
is_unquoted text items = less_calls (brackets text) items == 0

-- ---- the argument

-- The items of a text.
abbrev pub items_of : Span → Result (List ItemValue) ParseFault
items_of s = quoted (outcome s.at s.text)

-- The inside if there is one, else the argument itself if its brackets are all in calls.
abbrev pub or_itself : Span → List ItemValue → Option Span → Result Span ParseFault
or_itself arg items (Some s) = Ok s
or_itself arg items None = if is_unquoted arg.text items then Ok arg else Err (UnknownStatement arg.at)

-- The text that a statement argument denotes.
unfoldable pub inside : Span → Result Span ParseFault
inside arg = do
  items ← items_of arg
  or_itself arg items (inside_of (only_text items))

-- ---- a call that may be quoted or not

-- The items of the run's inside if there is one, else the argument's own.
abbrev pub items_of_run : List ItemValue → Option Span → Result (List ItemValue) ParseFault
items_of_run items None = Ok items
items_of_run items (Some s) = items_of s

-- The items of an argument that holds one call, quoted or not: those of the inside, if the argument is one quoted run
-- with blanks and `dnl` lines around it, else the argument's own. Brackets may be anywhere. (own)
unfoldable pub call_items : Span → Result (List ItemValue) ParseFault
call_items arg = do
  items ← items_of arg
  items_of_run items (inside_of (only_text items))
