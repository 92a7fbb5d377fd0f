-- What a source becomes. The offsets are those of the text that is read. All of this is own.
use Rattle.std.specs.Prelude.{◌≡◌, ◌⊎◌, ℕ, ◌-◌, ◌≤◌, ◌==◌, nat_eq, ◌||◌, ◌&&◌, not, Bool, true, false, List, [], ◌∷◌, ◌++◌, length, slice_index, slice_range, Option, Some, None, codes}
use Rattle.std.specs.List.{flat_map, starts_with}
use Rattle.lint_errors.specs.Errors.{IsAccepted}
use Rattle.port_calls.specs.Stated.{IsStated}
use Rattle.port_idioms.specs.declared.idioms.Idioms.{Idioms}
use Rattle.port_idioms.specs.declared.idioms.Idioms.TheVariants.{Exact, All}
use Rattle.port_messages.specs.Told.{IsBrokenAndTold}
use Rattle.port_passes.specs.Rewritten.{IsRewritten}
use Rattle.port_shell.specs.Formed.{IsFormed}
use Rattle.text_cut.specs.Cuts.{parts}
use Rattle.cmd_port.specs.Asked.{Package}

-- ---- comments

-- A line begins at this offset.
abbrev pub is_line_start : List ℕ → ℕ → Bool
is_line_start text at = at == 0 || slice_index text (at - 1) == 10

-- A line of comment with these words.
unfoldable pub comment_line : List ℕ → List ℕ
comment_line words = codes "dnl acrun: " ++ words ++ 10 ∷ []

-- Lines of comment, one for each line of these words.
unfoldable pub comment : List ℕ → List ℕ
comment words = flat_map comment_line (parts 10 words)

-- The text begins with a comment about what is left to do: one of acrun, but not one that says in what an idiom differs, which begins
-- with `in place of` and is a part of what was put.
abbrev pub is_left : List ℕ → Bool
is_left text = starts_with nat_eq text (codes "dnl acrun: ") && not (starts_with nat_eq text (codes "dnl acrun: in place of "))

-- What is said before a text of which nothing else is said.
unfoldable pub unsaid : List ℕ
unsaid = codes "acrun lint says what is left to do"

-- A line of the text is such a comment.
pub record HasLeft (text : List ℕ) : Type 0 where
  pub at : ℕ
  pub is_line : is_line_start text at ≡ true
  pub is_comment : is_left (slice_range text at (length text)) ≡ true

-- So much of a text has been read, and this was written: everything is copied, and lines of comment are put before lines of the text.
pub data IsCommented (text : List ℕ) : ℕ → List ℕ → Type 0 where
  begun : IsCommented text 0 []
  copied : {at : ℕ} {out : List ℕ} (next : ℕ) → IsCommented text at out → at ≤ next → next ≤ length text → IsCommented text next (out ++ slice_range text at next)
  noted : {at : ℕ} {out : List ℕ} (words : List ℕ) → IsCommented text at out → is_line_start text at ≡ true → IsCommented text at (out ++ comment words)

-- ---- the whole

-- What is printed of a text that was rewritten: it gets no comments exactly if acrun accepts it, and is then printed as it is.
-- Otherwise a line of what is printed is a comment about what is left.
abbrev pub IsPrinted : List ℕ → Bool → List ℕ → Type 0
IsPrinted text false out = (out ≡ text) × IsAccepted text
IsPrinted text true out = IsCommented text (length text) out × (IsAccepted text → ⊥) × HasLeft out

-- If all idioms are wanted, what `echo` prints becomes a message, on lines that may be broken for it. Otherwise the text stays.
abbrev pub IsToldBy : Idioms → List ℕ → List ℕ → Type 0
IsToldBy Exact text out = out ≡ text
IsToldBy All text out = IsBrokenAndTold text out

-- The calls of the text are rewritten, by the idioms that are wanted, then its statements of a shell, and then what `echo` prints.
pub record IsTurn (idioms : Idioms) (text out : List ℕ) : Type 0 where
  pub mid : List ℕ
  pub calls : IsRewritten idioms text mid
  pub formed : List ℕ
  pub statements : IsFormed idioms mid formed
  pub messages : IsToldBy idioms formed out

-- A name and a version are stated, and one call of AC_INIT gets them. All else stays.
abbrev pub IsTitled : Option Package → List ℕ → List ℕ → Type 0
IsTitled None text out = ⊥
IsTitled (Some naming) text out = IsStated naming.name naming.version text out

-- One step is a turn, or gives AC_INIT the name and the version.
pub data IsStep (idioms : Idioms) (naming : Option Package) (text out : List ℕ) : Type 0 where
  turned : IsTurn idioms text out → IsStep idioms naming text out
  titled : IsTitled naming text out → IsStep idioms naming text out

-- Steps are taken as often as there is something to change.
pub data IsMoved (idioms : Idioms) (naming : Option Package) : List ℕ → List ℕ → Type 0 where
  same : {text : List ℕ} → IsMoved idioms naming text text
  stepped : {text mid out : List ℕ} → IsMoved idioms naming text mid → IsStep idioms naming mid out → IsMoved idioms naming text out

-- The text becomes this one, with comments or without.
pub record IsPorted (idioms : Idioms) (naming : Option Package) (text : List ℕ) (has_comments : Bool) (out : List ℕ) : Type 0 where
  pub mid : List ℕ
  pub rewritten : IsMoved idioms naming text mid
  pub printed : IsPrinted mid has_comments out

-- A text that acrun accepts stays, but for one call of AC_INIT, which may get the name and the version that are stated.
abbrev pub IsKept : Option Package → List ℕ → List ℕ → Type 0
IsKept naming text mid = (mid ≡ text) ⊎ IsTitled naming text mid

-- What is printed of it, with comments or without.
pub record IsKeptAs (naming : Option Package) (text : List ℕ) (has_comments : Bool) (out : List ℕ) : Type 0 where
  pub mid : List ℕ
  pub kept : IsKept naming text mid
  pub printed : IsPrinted mid has_comments out
