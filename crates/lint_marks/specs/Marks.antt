-- What m4 and a shell have open at each place of a text, byte by byte.
use Rattle.std.specs.Prelude.{ℕ, zero, suc, Bool, true, false, ◌&&◌, not, List, [], ◌∷◌, Option, Some, None, ◌==◌, if◌then◌else◌}
use Rattle.shellword.specs.Text.{backslash, newline}
use Rattle.shell_bare.specs.declared.continuation.BareContext.{BareContext}
use Rattle.shell_bare.specs.declared.continuation.BareContext.TheVariants as places
use Rattle.shell_bare.specs.Continuation.{escapes, following, after_quoted}
use Rattle.lint_marks.specs.declared.quotes.QuotePart.{QuotePart}
use Rattle.lint_marks.specs.declared.quotes.QuotePart.TheVariants as parts
use Rattle.lint_marks.specs.declared.scan.ShellState.{ShellState}
use Rattle.lint_marks.specs.declared.scan.Scan.{Scan}
use Rattle.lint_marks.specs.declared.heres.HereTexts.{HereTexts}
use Rattle.lint_marks.specs.declared.mark.TextScan.{TextScan}
use Rattle.lint_marks.specs.declared.mark.Mark.{Mark}
use Rattle.lint_marks.specs.declared.mark.MarkKind.{MarkKind}
use Rattle.lint_marks.specs.declared.mark.MarkKind.TheVariants.{Dropped, Here, Comment, Escaped, Start, Word, Single, Double, Substitution}
use Rattle.lint_marks.specs.Quotes as m4
use Rattle.lint_marks.specs.Heres.{none_here, is_here, begins_here, with_here, past}
use Rattle.lint_marks.specs.declared.nesting.Nesting.{Nesting}
use Rattle.lint_marks.specs.declared.nesting.Nesting.TheVariants as nesting
use Rattle.lint_marks.specs.declared.nesting.NestPlace.{NestPlace}
use Rattle.lint_marks.specs.declared.nesting.NestPlace.TheVariants as places_in
use Rattle.lint_marks.specs.declared.nest.ShellNest.{ShellNest}
use Rattle.lint_marks.specs.Nested.{innermost, is_closed, is_comment}
use Rattle.lint_marks.specs.Nests.{no_nest, nest_after}
use Rattle.lint_marks.specs.Nests as nests

-- ---- the shell

-- The place is in this, and a backslash is before it or not. (own)
abbrev pub within : BareContext → Bool → ShellState
within place escaped = record { place = place; is_escaped = escaped }

-- A statement begins. (own)
abbrev pub begun : ShellState
begun = within places.Start false

-- After a byte that a backslash quotes. A backslash and a newline are no part of a statement. (POSIX shell, 2.2.1)
abbrev pub after_escaped : ShellState → ℕ → ShellState
after_escaped w b = within (if b == newline then w.place else after_quoted w.place) false

-- After a byte that the shell sees. (POSIX shell, 2.2 and 2.3)
abbrev pub shell_after : ShellState → ℕ → ShellState
shell_after w b =
    if w.is_escaped then after_escaped w b
    else (if b == backslash && escapes w.place then within w.place true
    else within (following w.place b) false)

-- ---- both

-- Nothing is open. (own)
abbrev pub start : Scan
start = record { quotes = m4.none_open; shell = begun }

-- The shell doesn't see the byte with which a text begins: it is one of a dropped line, or a bracket of the outermost
-- quotes, which m4 removes. (own)
abbrev pub is_unseen : Scan → ℕ → List ℕ → Bool
is_unseen s b text = m4.is_removed s.quotes b text

-- What the shell has open after the byte with which a text begins. (own)
abbrev pub seen : Scan → ℕ → List ℕ → ShellState
seen s b text = if is_unseen s b text then s.shell else shell_after s.shell b

-- After the first byte of a text. (own)
abbrev pub after : Scan → List ℕ → Scan
after s [] = s
after s (b ∷ bs) = record { quotes = m4.after s.quotes (b ∷ bs); shell = seen s b (b ∷ bs) }

-- After a call of a macro, which is a part of a word. (own)
abbrev pub after_call : Scan → Scan
after_call s = record { quotes = record { depth = s.quotes.depth; part = s.quotes.part; is_name = false }; shell = within places.Word false }

-- A statement of the shell begins. What m4 has open stays so. (own)
abbrev pub at_statement : Scan → Scan
at_statement s = record { quotes = record { depth = s.quotes.depth; part = s.quotes.part; is_name = false }; shell = begun }

-- A word may begin in this context. (POSIX shell, 2.3)
abbrev pub begins_word : BareContext → Bool
begins_word places.Start = true
begins_word places.Word = false
begins_word places.Single = false
begins_word places.Double = false
begins_word places.Comment = false

-- A word may begin here. (POSIX shell, 2.3)
abbrev pub is_start : ShellState → Bool
is_start w = not w.is_escaped && begins_word w.place

-- The context is in no quotes and no comment. (POSIX shell, 2.2 and 2.3)
abbrev pub is_outside : BareContext → Bool
is_outside places.Start = true
is_outside places.Word = true
is_outside places.Single = false
is_outside places.Double = false
is_outside places.Comment = false

-- The place is in no quotes and no comment, and no backslash is before it. (POSIX shell, 2.2 and 2.3)
abbrev pub is_bare : ShellState → Bool
is_bare w = not w.is_escaped && is_outside w.place

-- A quote of the shell is open. (POSIX shell, 2.2)
abbrev pub is_quote : BareContext → Bool
is_quote places.Single = true
is_quote places.Double = true
is_quote places.Start = false
is_quote places.Word = false
is_quote places.Comment = false

-- ---- with substitutions and here-documents

-- Nothing is open, and no here-document is to come. (own)
abbrev pub text_start : TextScan
text_start = record { quotes = m4.none_open; shell = no_nest; heres = none_here }

-- The `<<` of a here-document is at the front of a text: outside quotes, substitutions and comments. (POSIX shell, 2.7.4)
abbrev pub starts_here : TextScan → ℕ → List ℕ → Bool
starts_here s b text = nests.is_bare s.shell && begins_here text && not (m4.is_removed s.quotes b text)

-- The here-documents after a byte that is in none. (own)
abbrev pub heres_after : TextScan → ℕ → List ℕ → HereTexts
heres_after s b text = past 1 (if starts_here s b text then with_here s.heres text else s.heres)

-- What the shell has open after the byte with which a text begins. (own)
abbrev pub nest_seen : TextScan → ℕ → List ℕ → ShellNest
nest_seen s b text = if m4.is_removed s.quotes b text then s.shell else nest_after s.shell b

-- After a byte of a here-document: m4 reads it as any text, and the shell reads no words. (own)
abbrev pub after_here : TextScan → List ℕ → TextScan
after_here s text = record { quotes = m4.after s.quotes text; shell = s.shell; heres = past 1 s.heres }

-- After a byte that is in no here-document. (own)
abbrev pub after_seen : TextScan → ℕ → List ℕ → TextScan
after_seen s b text = record { quotes = m4.after s.quotes text; shell = nest_seen s b text; heres = heres_after s b text }

-- After the first byte of a text. (own)
abbrev pub text_after : TextScan → List ℕ → TextScan
text_after s [] = s
text_after s (b ∷ bs) = if is_here s.heres then after_here s (b ∷ bs) else after_seen s b (b ∷ bs)

-- After a call of this many bytes. A comment may begin after it. (own)
abbrev pub text_after_call : ℕ → TextScan → TextScan
text_after_call n s = record {
  quotes = record { depth = s.quotes.depth; part = s.quotes.part; is_name = false };
  shell = nests.moved s.shell places_in.Start;
  heres = past n s.heres;
}

-- A command may have its words here: in no quotes, no substitution, no comment and no here-document, and no backslash is
-- before it. (POSIX shell, 2.2, 2.3, 2.6 and 2.7.4)
abbrev pub is_outside_all : TextScan → Bool
is_outside_all s = nests.is_bare s.shell && not (is_here s.heres)

-- The place is in a comment of the shell that is in no substitution. (POSIX shell, 2.3)
abbrev pub is_outer_comment : TextScan → Bool
is_outer_comment s = is_closed s.shell.nested && is_comment s.shell.place && not (is_here s.heres)

-- After the first n bytes of a text. (own)
unfoldable pub after_bytes : TextScan → ℕ → List ℕ → TextScan
after_bytes s zero text = s
after_bytes s (suc n) [] = s
after_bytes s (suc n) (b ∷ bs) = after_bytes (text_after s (b ∷ bs)) n bs

-- What is open at an offset of a text. (own)
abbrev pub scan_at : ℕ → List ℕ → TextScan
scan_at n text = after_bytes text_start n text

-- ---- marks

-- What a word has open: what is innermost. (own)
abbrev pub kind_of_nesting : Nesting → MarkKind
kind_of_nesting nesting.Single = Single
kind_of_nesting nesting.Double = Double
kind_of_nesting nesting.Back = Substitution
kind_of_nesting nesting.Paren = Substitution
kind_of_nesting nesting.Brace = Substitution

-- What a place is in outside quotes and substitutions, or in a comment. (own)
abbrev pub kind_of_place : NestPlace → MarkKind
kind_of_place places_in.Start = Start
kind_of_place places_in.Word = Word
kind_of_place places_in.Comment = Comment

-- What a place is in that is in no comment. (own)
abbrev pub kind_within : Option Nesting → NestPlace → MarkKind
kind_within None place = kind_of_place place
kind_within (Some n) place = kind_of_nesting n

-- What the shell has open at a place of text. (own)
abbrev pub kind_of_shell : ShellNest → MarkKind
kind_of_shell s =
    if s.is_escaped then Escaped
    else (if is_comment s.place then Comment else kind_within (innermost s.nested) s.place)

-- What a place of text is in. (own)
abbrev pub kind_of_text : TextScan → MarkKind
kind_of_text s = if is_here s.heres then Here else kind_of_shell s.shell

-- What a place is in: what m4 reads there comes first. (own)
abbrev pub kind_of : TextScan → MarkKind
kind_of s = by_part s.quotes.part where
  by_part : QuotePart → MarkKind
  by_part parts.Text = kind_of_text s
  by_part parts.Comment = Comment
  by_part parts.Dropped = Dropped

-- The mark of a place. (own)
abbrev pub mark_of : TextScan → Mark
mark_of s = record { depth = s.quotes.depth; kind = kind_of s }

-- The marks of a text, from what is open at its start on. (own)
unfoldable pub marks_from : TextScan → List ℕ → List Mark
marks_from s [] = []
marks_from s (b ∷ bs) = mark_of s ∷ marks_from (text_after s (b ∷ bs)) bs

-- The mark of the place before each byte of a text. (own)
abbrev pub marks_of : List ℕ → List Mark
marks_of text = marks_from text_start text
