-- The `for` of a shell between two offsets of a text, and what takes its place: its body once for each word, after an assignment of the
-- word. (POSIX shell, 2.9.4.2 "The for Loop")
use Rattle.std.specs.Prelude.{◌≡◌, ◌⊎◌, ℕ, ◌<◌, ◌≤◌, ◌==◌, ◌||◌, Bool, true, List, [], ◌∷◌, ◌++◌, length, slice_range, slice_index, codes}
use Rattle.std.specs.List.{flat_map, list_all}
use Rattle.port_parts.specs.Parts.{HasPlainEnd, IsListEnd, IsPlainLine, IsStatement}
use Rattle.port_parts.specs.Places.{is_space_or_return, AreBlank, AreSpaces, Has, IsWord}
use Rattle.port_parts.specs.Words.{IsConstant, IsVariable}

-- Between these offsets are `for`, this name, and `in`.
pub record IsHead (text : List ℕ) (start end : ℕ) (name : List ℕ) : Type 0 where
  pub after : ℕ
  pub from : ℕ
  pub to : ℕ
  pub at : ℕ
  pub order : (after < from) × (from ≤ to) × (to < at)
  pub begins : IsWord text start (codes "for") after
  pub before : AreSpaces text after from
  pub is : name ≡ slice_range text from to
  pub variable : IsVariable name
  pub between : AreSpaces text to at
  pub ends : IsWord text at (codes "in") end

-- The word between these offsets, after at least one space, is added to the words so far. (own)
pub record AddsWord (text : List ℕ) (start end : ℕ) (old new : List (List ℕ)) : Type 0 where
  pub from : ℕ
  pub order : (start < from) × (from < end) × (end ≤ length text)
  pub before : AreSpaces text start from
  pub constant : IsConstant (slice_range text from end)
  pub added : new ≡ old ++ slice_range text from end ∷ []

-- Between two offsets are these words, each after a space.
pub data AreWords (text : List ℕ) (start : ℕ) : ℕ → List (List ℕ) → Type 0 where
  none : AreWords text start start []
  more : {before end : ℕ} {words next : List (List ℕ)} → AreWords text start before words → AddsWord text before end words next → AreWords text start end next

-- Between these offsets is this body, which ends before a `;` or a newline. Its last line has neither a `#` nor `dnl`.
pub record IsBody (text : List ℕ) (start end : ℕ) (body : List ℕ) : Type 0 where
  pub from : ℕ
  pub to : ℕ
  pub order : (start ≤ from) × (from ≤ to) × (to ≤ end)
  pub before : AreBlank text start from
  pub after : IsListEnd text to end
  pub is : body ≡ slice_range text from to
  pub last : HasPlainEnd body

-- What the body does may be done outside a loop, and m4 may expand it more than once: it has no `break` and no `continue`, and calls no
-- macro that names outputs, options or programs. (own)
pub record MayBeRepeated (body : List ℕ) : Type 0 where
  pub no_break : Has (codes "break") body → ⊥
  pub no_continue : Has (codes "continue") body → ⊥
  pub no_output : Has (codes "AC_CONFIG_") body → ⊥
  pub no_option : Has (codes "AC_ARG_") body → ⊥
  pub no_program : Has (codes "AC_PROG_") body → ⊥
  pub no_status : Has (codes "$?") body → ⊥

-- A line of the shell may end before this byte: a newline, a `#`, or the bracket that an argument ends with. (own)
abbrev pub ends_line : ℕ → Bool
ends_line b = b == 10 || b == 35 || b == 93

-- Nothing but spaces is after this offset, up to such a byte or the end of the text: so not a `;`, which may not be on the line after a call
-- that ends in a newline. (own)
pub record EndsAlone (text : List ℕ) (end : ℕ) : Type 0 where
  pub to : ℕ
  pub order : (end ≤ to) × (to ≤ length text)
  pub spaces : AreSpaces text end to
  pub ends : (to ≡ length text) ⊎ (ends_line (slice_index text to) ≡ true)

-- Between these offsets is a `for` with this variable, these words and this body, as a statement of its own.
pub record IsFor (text : List ℕ) (start end : ℕ) (name : List ℕ) (words : List (List ℕ)) (body : List ℕ) : Type 0 where
  pub after_in : ℕ
  pub to : ℕ
  pub at_do : ℕ
  pub after_do : ℕ
  pub at_done : ℕ
  pub statement : IsStatement text start (codes "done") at_done end
  pub alone : EndsAlone text end
  pub head : IsHead text start after_in name
  pub are : AreWords text after_in to words
  pub plain : IsPlainLine (slice_range text start to)
  pub ends : IsListEnd text to at_do
  pub word : IsWord text at_do (codes "do") after_do
  pub does : IsBody text after_do at_done body
  pub again : MayBeRepeated body

-- One turn: an assignment of the word, and the body on the next line.
abbrev pub turn : List ℕ → List ℕ → List ℕ → List ℕ
turn name body word = (name ++ 61 ∷ word) ++ 10 ∷ body

-- A further turn, on a line of its own.
abbrev pub further : List ℕ → List ℕ → List ℕ → List ℕ → List ℕ
further indent name body word = (10 ∷ indent) ++ turn name body word

-- One turn for each word, in order.
abbrev pub turns : List ℕ → List ℕ → List ℕ → List (List ℕ) → List ℕ
turns indent name body [] = []
turns indent name body (word ∷ words) = turn name body word ++ flat_map (further indent name body) words

-- These are the turns of the `for` between these offsets.
pub record AreTurns (text : List ℕ) (start end : ℕ) (put : List ℕ) : Type 0 where
  pub name : List ℕ
  pub words : List (List ℕ)
  pub body : List ℕ
  pub indent : List ℕ
  pub is : IsFor text start end name words body
  pub blank : list_all is_space_or_return indent ≡ true
  pub made : put ≡ turns indent name body words

-- This takes the place of the `for` between these offsets. It has no `_cv_`, as the names of cache variables do: a check of such a name is made
-- once, unless the name is unset between two of them, and no text that acrun accepts does that. (GNU Autoconf's manual, "Cache Variable Names")
pub record IsWrittenOut (text : List ℕ) (start end : ℕ) (put : List ℕ) : Type 0 where
  pub are : AreTurns text start end put
  pub no_cache : Has (codes "_cv_") put → ⊥
