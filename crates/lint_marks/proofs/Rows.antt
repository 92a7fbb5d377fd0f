-- Worked examples. In the last ones all premises of a law hold together.
use Rattle.std.proofs.Common.{◌≡◌, ℕ, true, [], ◌∷◌, ◌++◌, refl, arith, codes}
use Rattle.std.proofs.lemmas.Bool.{eqb-false}
use Rattle.m4quote.specs.Spelling.{empty, byte, group, quoted, other_word}
use Rattle.lint_marks.specs.declared.mark.Mark.{Mark}
use Rattle.lint_marks.specs.declared.mark.MarkKind.{MarkKind}
use Rattle.lint_marks.specs.declared.mark.MarkKind.TheVariants.{Dropped, Here, Comment, Start, Word, Single, Double, Substitution}
use Rattle.lint_marks.specs.Quotes.{none_open}
use Rattle.lint_marks.specs.Delimiters.{delimiter, delimiter_in}
use Rattle.lint_marks.specs.Marks.{marks_from, marks_of, scan_at}
use Rattle.lint_marks.specs.Fronts.{IsBetween, in_open, ReadsPiece, IsQuoted, Along, IsAsDeep, IsBack, in_text, no_more, one_more}
use Rattle.lint_marks.proofs.Fronts.{never, reads_quoted, stays_deep}
use Rattle.lint_marks.proofs.Places.{after_pieces}

mark : ℕ → MarkKind → Mark
mark depth kind = record { depth = depth; kind = kind }

-- Quotes of the shell, brackets of m4, and both.
texts_marked :
    (marks_of (codes "a'b'") ≡ mark 0 Start ∷ mark 0 Word ∷ mark 0 Single ∷ mark 0 Single ∷ [])
    × (marks_of (codes "[a]b") ≡ mark 0 Start ∷ mark 1 Start ∷ mark 1 Word ∷ mark 0 Word ∷ [])
    × (marks_of (codes "'[b]'") ≡ mark 0 Start ∷ mark 0 Single ∷ mark 1 Single ∷ mark 1 Single ∷ mark 0 Single ∷ [])
unfolding marks_from mark
texts_marked = (refl, refl, refl)

-- A comment, and a line that is dropped.
lines_marked :
    (marks_of (codes "#[" ++ 10 ∷ codes "[") ≡ mark 0 Start ∷ mark 0 Comment ∷ mark 0 Comment ∷ mark 0 Start ∷ [])
    × (marks_of (codes "dnl" ++ 10 ∷ codes "[") ≡ mark 0 Start ∷ mark 0 Dropped ∷ mark 0 Dropped ∷ mark 0 Dropped ∷ mark 0 Start ∷ [])
unfolding marks_from mark
lines_marked = (refl, refl)

-- A here-document.
here_marked : marks_of (codes "a <<b" ++ 10 ∷ codes "'" ++ 10 ∷ codes "b" ++ 10 ∷ codes "c")
    ≡ mark 0 Start ∷ mark 0 Word ∷ mark 0 Start ∷ mark 0 Start ∷ mark 0 Start ∷ mark 0 Word ∷ mark 0 Here ∷ mark 0 Here ∷ mark 0 Here ∷ mark 0 Here ∷ mark 0 Start ∷ []
unfolding marks_from mark delimiter_in
here_marked = refl

-- Quotes in a substitution, a shift in arithmetic, and a delimiter with a blank.
nested_marked :
    (marks_of (codes "`'a'`b") ≡ mark 0 Start ∷ mark 0 Substitution ∷ mark 0 Single ∷ mark 0 Single ∷ mark 0 Substitution ∷ mark 0 Word ∷ [])
    × (marks_of (codes "\"`'`'\"") ≡ mark 0 Start ∷ mark 0 Double ∷ mark 0 Substitution ∷ mark 0 Single ∷ mark 0 Single ∷ mark 0 Substitution ∷ [])
    × (delimiter (codes "-'E F'G h") ≡ codes "E FG")
unfolding marks_from mark delimiter_in
nested_marked = (refl, refl, refl)

-- The premises of `piece_laws`: a quoted run at the start of a text.
quoted_run : ReadsPiece IsQuoted 3 none_open (codes "[a]b")
quoted_run = reads_quoted 0 none_open (codes "a") (codes "b") (omega arith) (in_open never) (byte (eqb-false 97 91 refl) (eqb-false 97 93 refl) empty)

-- Those of `depth_law`: brackets in quotes.
inner_run : Along (IsAsDeep 1) (IsBack 1) 3 (in_text 1 true) (codes "[a]]")
inner_run = stays_deep 1 1 true (codes "[a]") (codes "]") (omega arith) (omega arith) (group (byte (eqb-false 97 91 refl) (eqb-false 97 93 refl) empty) empty)

-- Those of `map_laws`: a quoted run and a word.
two_pieces : IsBetween (scan_at 4 (codes "[a]b")).quotes []
two_pieces =
    after_pieces 64 4 (codes "[a]b") (omega arith)
    (one_more (_, quoted (byte (eqb-false 97 91 refl) (eqb-false 97 93 refl) empty) (codes "b")) (one_more (_, other_word (omega arith) refl refl) no_more))
