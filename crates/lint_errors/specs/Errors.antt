-- The errors of a source, by their places. All of this is own.
use Rattle.std.specs.Prelude.{◌≡◌, ◌⊎◌, ℕ, ◌<◌, ◌≤◌, Bool, true, false, not, ◌&&◌, ◌==◌, nat_lt, if◌then◌else◌, List, [], ◌∷◌, ◌++◌, length, map, All, Result, Ok, Err}
use Rattle.std.specs.List.{flat_map}
use Rattle.std.specs.List.Sorted.{IsPermutation, IsSorted}
use Rattle.m4quote.specs.declared.fault.QuoteFault.{QuoteFault}
use Rattle.m4quote.specs.declared.fault.QuoteFault.TheVariants as quote
use Rattle.ac_statement.specs.declared.fault.ParseFault.{ParseFault}
use Rattle.ac_statement.specs.declared.fault.ParseFault.TheVariants as parse
use Rattle.acparse.specs.Profile.{source_of}
use Rattle.lint_findings.specs.declared.finding.Finding.{Finding}
use Rattle.lint_findings.specs.declared.finding.Severity.{Severity}
use Rattle.lint_findings.specs.declared.finding.Severity.TheVariants.{Error}
use Rattle.lint_findings.specs.Order.{place_cmp}
use Rattle.plan.specs.Weight.{heaviest, weight}
use Rattle.ac_calls.specs.Calls.{MacroCall, calls_in}
use Rattle.ac_tree.specs.Script.{Script}

-- ---- the place of a fault

-- The offset of an error of quotes, or 0 if it has none.
abbrev pub quote_offset : QuoteFault → ℕ
quote_offset (quote.UnclosedQuote at) = at
quote_offset (quote.UnclosedParen at) = at
quote_offset (quote.StrayClose at) = at
quote_offset (quote.Nul at) = at
quote_offset quote.TooLarge = 0
quote_offset quote.TooDeep = 0
quote_offset quote.OutOfMemory = 0

-- The offset of a fault in a source with this many bytes: 0 if AC_INIT is missing, and the end if AC_OUTPUT is missing.
abbrev pub offset_of : ℕ → ParseFault → ℕ
offset_of len (parse.Quote f) = quote_offset f
offset_of len (parse.UnknownMacro at) = at
offset_of len (parse.UnknownStatement at) = at
offset_of len (parse.ArgCount at) = at
offset_of len (parse.BadName at) = at
offset_of len (parse.Shell f at) = at
offset_of len (parse.NotAtTop at) = at
offset_of len parse.NoInit = 0
offset_of len parse.NoOutput = len
offset_of len (parse.AfterOutput at) = at
offset_of len (parse.CacheBody at) = at
offset_of len (parse.TooDeep at) = at
offset_of len (parse.TooMany at) = at
offset_of len (parse.NewerVersion at) = at
offset_of len parse.OutOfMemory = 0

-- The fault may be one of text between calls, and its offset is then that of the text. If AC_INIT is missing, it is what is in its place.
abbrev pub may_be_of_text : ParseFault → Bool
may_be_of_text (parse.UnknownStatement at) = true
may_be_of_text (parse.Shell f at) = true
may_be_of_text parse.NoInit = true
may_be_of_text (parse.AfterOutput at) = true
may_be_of_text _ = false

-- The place is this offset, or comes after it in a text with this many bytes.
abbrev pub IsAfter : ℕ → ℕ → ℕ → Type 0
IsAfter at len place = (place ≡ at) ⊎ ((at ≤ place) × (place ≤ len))

-- The place of a fault: its offset, or a place after it if the fault may be one of text between calls.
abbrev pub IsFaultPlace : List ℕ → ParseFault → ℕ → Type 0
IsFaultPlace text fault place = (place ≡ offset_of (length text) fault) ⊎ ((may_be_of_text fault ≡ true) × IsAfter (offset_of (length text) fault) (length text) place)

-- ---- errors

-- What is said of an error here: its file, its start, and how grave it is.
abbrev pub Shown : Type 0
Shown = ℕ × ℕ × Severity

abbrev pub finding_view : Finding → Shown
finding_view f = (f.file, f.start, f.severity)

-- An error of the source at this place.
abbrev pub error_at : ℕ → Shown
error_at at = (0, at, Error)

-- The error ends in a text with this many bytes, and, if it starts in it, not before its start.
abbrev pub EndsIn : ℕ → Finding → Type 0
EndsIn len f = (f.end ≤ len) × (f.start ≤ len → f.start ≤ f.end)

-- If the errors ended in the text, they still do.
abbrev pub KeepsEnds : List ℕ → List Finding → List Finding → Type 0
KeepsEnds text old new = All (EndsIn (length text)) old → All (EndsIn (length text)) new

-- The fault is that the macro whose name is at this offset isn't known.
abbrev pub is_unknown_at : ParseFault → ℕ → Bool
is_unknown_at (parse.UnknownMacro place) at = place == at
is_unknown_at _ at = false

-- The table of macros doesn't have the call's macro, and the fault is not about this call.
abbrev pub is_other : ParseFault → MacroCall → Bool
is_other fault c = not c.is_of_profile && not (is_unknown_at fault c.start)

-- The error of a call, if it is such a call.
abbrev pub of_call : ParseFault → MacroCall → List Shown
of_call fault c = if is_other fault c then error_at c.start ∷ [] else []

-- The errors of a source that was read: one if it weighs too much for a plan.
abbrev pub errors_read : Script → List Shown
errors_read s = if nat_lt heaviest (weight s) then error_at 0 ∷ [] else []

-- The error of a fault at a place, and those of the other calls.
abbrev pub errors_refused : ParseFault → ℕ → List MacroCall → List Shown
errors_refused fault place calls = error_at place ∷ flat_map (of_call fault) calls

-- This is the error of a source that is refused with this fault.
pub record IsFaultError (text : List ℕ) (fault : ParseFault) (finding : Finding) : Type 0 where
  pub place : ℕ
  pub is_place : IsFaultPlace text fault place
  pub shown : finding_view finding ≡ error_at place

-- These are the errors of a source that is refused with this fault, in order of their places.
pub record AreRefused (text : List ℕ) (fault : ParseFault) (calls : List MacroCall) (list : List Finding) : Type 0 where
  pub place : ℕ
  pub is_place : IsFaultPlace text fault place
  pub found : List Finding
  pub exact : map finding_view found ≡ errors_refused fault place calls
  pub same : IsPermutation found list
  pub sorted : IsSorted place_cmp list

-- These are the errors of a source, of which a reading gave its statements or its fault.
abbrev pub AreErrors : List ℕ → Result Script ParseFault → List Finding → Type 0
AreErrors text (Ok s) list = map finding_view list ≡ errors_read s
AreErrors text (Err fault) list = AreRefused text fault (calls_in text) list

-- The source is accepted: it is read, and doesn't weigh too much for a plan.
pub record IsAccepted (text : List ℕ) : Type 0 where
  pub script : Script
  pub read : source_of text ≡ Ok script
  pub fits : weight script ≤ heaviest
