-- The descriptions in the calls of a source. An entry is a name and its description, which is empty if it has none. All of this is own.
use Rattle.std.specs.Prelude.{ℕ, Bool, ◌||◌, List, [], ◌∷◌, Result, Ok, Err, bytes_eq, codes, if◌then◌else◌}
use Rattle.std.specs.List.{flat_map}
use Rattle.m4quote.specs.Scan.{used, bare_value_of}
use Rattle.m4quote.specs.declared.fault.QuoteFault.{QuoteFault}
use Rattle.ac_calls.specs.Calls.{MacroCall}
use Rattle.ac_calls.specs.declared.call.Extent.{Extent}
use Rattle.lint_text.specs.Parts.{part}

-- A text, or an empty one in place of an error.
abbrev pub text_or_none : Result (List ℕ) QuoteFault → List ℕ
text_or_none (Ok text) = text
text_or_none (Err fault) = []

-- The macros that define a name. (Autoconf's manual, "Defining Symbols")
abbrev pub is_define : List ℕ → Bool
is_define name = bytes_eq name (codes "AC_DEFINE") || bytes_eq name (codes "AC_DEFINE_UNQUOTED")

-- An argument, as it is in the source.
abbrev pub argument : List ℕ → Extent → List ℕ
argument text extent = part text extent.start extent.end

-- The entry of a name and a description, as they are in the source. Quotes are removed once from a description, so brackets in it stay.
abbrev pub note_of : List ℕ → List ℕ → List ℕ × List ℕ
note_of name description = (text_or_none (used name), text_or_none (bare_value_of description))

-- The entry of a call with these arguments, if there are three: a name, its value, and its description. (Autoconf's manual, "Defining
-- Symbols")
abbrev pub note_by : List ℕ → List Extent → List (List ℕ × List ℕ)
note_by text (name ∷ value ∷ description ∷ []) = note_of (argument text name) (argument text description) ∷ []
note_by text _ = []

-- The entry of a call, if its macro defines a name.
abbrev pub note_in : List ℕ → MacroCall → List (List ℕ × List ℕ)
note_in text call = if is_define (part text call.start call.name_end) then note_by text call.args else []

-- The entries of calls, in order.
abbrev pub notes_in : List ℕ → List MacroCall → List (List ℕ × List ℕ)
notes_in text calls = flat_map (note_in text) calls
