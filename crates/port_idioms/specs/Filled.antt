-- An idiom with the arguments of a call. A place of an idiom is `$`, a digit from 1 to 9, perhaps the sign of a form, and a
-- word in braces. The digit counts arguments.
use Rattle.std.specs.Prelude.{ℕ, List, [], ◌∷◌, ◌++◌, length, map, not, Bool, true, false, position, slice_get, slice_range, Option, Some, None, option_map, if◌then◌else◌}
use Rattle.std.specs.List.{flat_map}
use Rattle.text_cut.specs.Cuts.{is_blank, parts, trimmed}
use Rattle.m4quote.specs.Names.{sh_byte, cpp_byte}
use Rattle.lint_macros.specs.Around.{around}
use Rattle.lint_macros.specs.Places as places
use Rattle.lint_macros.specs.Values.{unquoted}
use Rattle.lint_macros.specs.declared.place.Form.{Form}
use Rattle.lint_macros.specs.declared.place.Form.TheVariants.{AsItIs, Whole, OneWord, WholeWord, ShellName, Symbol, Front, Rest}
use Rattle.lint_macros.specs.declared.place.HoleSource.{HoleSource}
use Rattle.lint_macros.specs.declared.place.HoleSource.TheVariants.{Argument, All}
use Rattle.port_idioms.specs.declared.filling.ArgumentPlace.{ArgumentPlace as Cut}

-- A place by the index of its argument, counted from 0, its form, and the text after it. (own)
pub record ArgumentPlace : Type 0 where
  pub index : ℕ
  pub form : Form
  pub rest : List ℕ

-- The place with its text. (own)
abbrev pub seen : Cut → ArgumentPlace
seen p = record { index = p.index; form = p.form; rest = p.rest.now }

-- The index of the argument that is put there. No place takes all arguments. (own)
abbrev pub index_of : HoleSource → Option ℕ
index_of (Argument index) = Some index
index_of All = None

-- The place of this index and form before a text. (own)
abbrev pub before : List ℕ → Form → Option ℕ → Option ArgumentPlace
before rest form index = option_map (λ i. record { index = i; form = form; rest = rest }) index

-- The place, if an argument is put there. (own)
abbrev pub taken : Option places.Hole → Option ArgumentPlace
taken (Some p) = before p.rest p.form (index_of p.source)
taken None = None

-- The place that a text after a `$` begins with. (own)
abbrev pub argument_place : List ℕ → Option ArgumentPlace
argument_place text = taken (places.hole_of text)

-- An argument without the blanks around it and the pair of brackets around that; nothing for one that isn't given.
-- (own)
abbrev pub text_of : Option (List ℕ) → List ℕ
text_of (Some argument) = unquoted (trimmed argument)
text_of None = []

-- No blank. (own)
abbrev pub is_shown : ℕ → Bool
is_shown b = not (is_blank b)

-- The text from this offset on; nothing if there is none. (own)
abbrev pub from_offset : List ℕ → Option ℕ → List ℕ
from_offset text (Some at) = slice_range text at (length text)
from_offset text None = []

-- An argument without the blanks before it, which m4 drops. (manual, "Macro Arguments" of GNU M4)
abbrev pub begun : List ℕ → List ℕ
begun argument = from_offset argument (position is_shown argument)

-- What is left of a text after a part of this length. (own)
abbrev pub rest_after : List ℕ → List ℕ → List ℕ
rest_after text front = slice_range text (length front) (length text)

-- The blanks after an argument, which are a part of it for m4. (manual, "Macro Arguments" of GNU M4)
abbrev pub ending : List ℕ → List ℕ
ending argument = rest_after (begun argument) (trimmed (begun argument))

-- The blanks after an argument that may be given. (own)
abbrev pub ending_of : Option (List ℕ) → List ℕ
ending_of (Some argument) = ending argument
ending_of None = []

-- A place of this form takes the blanks after the argument. (own)
abbrev pub takes_blanks : Form → Bool
takes_blanks Whole = true
takes_blanks WholeWord = true
takes_blanks form = false

-- The blanks that are put in a place of this form after the argument. (own)
abbrev pub ending_for : Form → Option (List ℕ) → List ℕ
ending_for form argument = if takes_blanks form then ending_of argument else []

-- The text before a byte. (own)
abbrev pub front_of : Option (List ℕ × List ℕ) → List ℕ
front_of (Some (front, rest)) = front
front_of None = []

-- The text after a byte. (own)
abbrev pub rest_of : Option (List ℕ × List ℕ) → List ℕ
rest_of (Some (front, rest)) = rest
rest_of None = []

-- The text in a form: as it is, as a part of a shell variable's name, as a part of a symbol of the preprocessor, or what is
-- before or after its first dot. (own)
abbrev pub formed : Form → List ℕ → List ℕ
formed AsItIs text = text
formed Whole text = text
formed OneWord text = text
formed WholeWord text = text
formed ShellName text = map sh_byte text
formed Symbol text = map cpp_byte text
formed Front text = front_of (around 46 text)
formed Rest text = rest_of (around 46 text)

-- What is put in a place of a call with these arguments: the argument in the form, and perhaps the blanks after it. (own)
abbrev pub value : ArgumentPlace → List (List ℕ) → List ℕ
value p args = formed p.form (text_of (slice_get args p.index)) ++ ending_for p.form (slice_get args p.index)

-- What a `$` and the text after it become: if that text begins with a place, the place's argument and the rest;
-- otherwise they stay. (own)
abbrev pub filled_or : Option ArgumentPlace → List (List ℕ) → List ℕ → List ℕ
filled_or (Some p) args text = value p args ++ p.rest
filled_or None args text = 36 ∷ text

abbrev pub filled_sign : List (List ℕ) → List ℕ → List ℕ
filled_sign args text = filled_or (argument_place text) args text

-- The texts around each `$`, joined, with each place filled. (own)
abbrev pub joined : List (List ℕ) → List (List ℕ) → List ℕ
joined args [] = []
joined args (first ∷ more) = first ++ flat_map (filled_sign args) more

-- A line whose places are filled. (own)
unfoldable pub filled_line : List (List ℕ) → List ℕ → List ℕ
filled_line args text = joined args (parts 36 text)

-- A further line, after a newline and the indent. (own)
abbrev pub filled_next : List (List ℕ) → List ℕ → List ℕ → List ℕ
filled_next args indent text = (10 ∷ indent) ++ filled_line args text

abbrev pub filled_lines : List (List ℕ) → List ℕ → List (List ℕ) → List ℕ
filled_lines args indent [] = []
filled_lines args indent (first ∷ more) = filled_line args first ++ flat_map (filled_next args indent) more

-- An idiom whose places are filled, with the indent at the front of each line but the first. (own)
unfoldable pub filled : List (List ℕ) → List ℕ → List ℕ → List ℕ
filled args indent idiom = filled_lines args indent (parts 10 idiom)
