-- The `case` of a shell between two offsets of a text, and its parts: its word, the patterns and the body of each branch, and the body of
-- a last branch whose pattern is `*`. (POSIX shell, 2.9.4.3 "Case Conditional Construct")
use Rattle.std.specs.Prelude.{◌≡◌, ◌⊎◌, ℕ, ◌+◌, ◌<◌, ◌≤◌, true, List, [], ◌∷◌, ◌++◌, slice_range, slice_index, codes}
use Rattle.port_parts.specs.Parts.{EndsLast, HasPlainEnd, IsAtLineStart, IsBodyOf, IsNotEscaped, IsPlainLine, IsStatement}
use Rattle.port_parts.specs.Places.{is_blank_or_return, AreBlank, AreSpaces, IsWord}

-- ---- the word

-- Between two offsets is this word, with at least one blank before it and after it. It doesn't end in a backslash.
pub record IsSubject (text : List ℕ) (start end : ℕ) (word : List ℕ) : Type 0 where
  pub from : ℕ
  pub to : ℕ
  pub order : (start < from) × (from ≤ to) × (to < end)
  pub before : AreBlank text start from
  pub not_escaped : IsNotEscaped text to
  pub after : AreBlank text to end
  pub is : word ≡ slice_range text from to
  pub plain : IsPlainLine word

-- ---- the patterns of a branch

-- Between two offsets are blanks, a parenthesis, and spaces.
pub record IsParenthesis (text : List ℕ) (start end : ℕ) : Type 0 where
  pub at : ℕ
  pub order : (start ≤ at) × (at < end)
  pub before : AreBlank text start at
  pub is : slice_index text at ≡ 40
  pub after : AreSpaces text (at + 1) end

-- Between two offsets are these patterns, with spaces and a parenthesis after them. A parenthesis may be before them. They don't end in a
-- backslash.
pub record ArePatterns (text : List ℕ) (start end : ℕ) (patterns : List ℕ) : Type 0 where
  pub from : ℕ
  pub to : ℕ
  pub order : (start ≤ from) × (from ≤ to) × (to ≤ end)
  pub before : AreBlank text start from ⊎ IsParenthesis text start from
  pub not_escaped : IsNotEscaped text to
  pub after : AreSpaces text to end
  pub closed : slice_index text end ≡ 41
  pub is : patterns ≡ slice_range text from to
  pub plain : IsPlainLine patterns

-- ---- the body of a branch

-- Spaces are after a body, whose last line has neither a `#` nor `dnl`, and which doesn't end in a backslash. (own)
pub record IsBeforeSpaces (text : List ℕ) (from to end : ℕ) : Type 0 where
  pub after : AreSpaces text to end
  pub last : HasPlainEnd (slice_range text from to)
  pub not_escaped : IsNotEscaped text to

-- A body before `;;` ends in the newline of its last line, or before spaces.
abbrev pub EndsBefore : List ℕ → ℕ → ℕ → ℕ → Type 0
EndsBefore text from to end = ((to ≡ end) × IsAtLineStart text from to) ⊎ IsBeforeSpaces text from to end

-- ---- branches

-- Between two offsets is a body with `;;` after it.
pub record IsClosedBody (text : List ℕ) (start end : ℕ) (body : List ℕ) : Type 0 where
  pub at : ℕ
  pub does : IsBodyOf EndsBefore text start at body
  pub word : IsWord text at (codes ";;") end

-- The last body before `esac` has `;;` and blanks after it, or no `;;`.
pub data IsLastBody (text : List ℕ) (start end : ℕ) (body : List ℕ) : Type 0 where
  closed : (at : ℕ) → IsClosedBody text start at body → at ≤ end → AreBlank text at end → IsLastBody text start end body
  unclosed : IsBodyOf EndsLast text start end body → IsLastBody text start end body

-- The patterns and the body of the branch between these offsets are added to the parts so far. (own)
pub record AddsBranch (text : List ℕ) (start end : ℕ) (old new : List (List ℕ)) : Type 0 where
  pub at : ℕ
  pub patterns : List ℕ
  pub body : List ℕ
  pub matches : ArePatterns text start at patterns
  pub does : IsClosedBody text (at + 1) end body
  pub added : new ≡ (old ++ patterns ∷ []) ++ body ∷ []

-- The parts of a last branch are its patterns and its body. If its pattern is `*`, its body alone is the default.
pub data AreLastParts (patterns body : List ℕ) (old new : List (List ℕ)) : Type 0 where
  default : patterns ≡ codes "*" → new ≡ old ++ body ∷ [] → AreLastParts patterns body old new
  pattern : (patterns ≡ codes "*" → ⊥) → new ≡ (old ++ patterns ∷ []) ++ body ∷ [] → AreLastParts patterns body old new

-- The same for the last branch before `esac`, which is at offset `end`.
pub record AddsLast (text : List ℕ) (start end : ℕ) (old new : List (List ℕ)) : Type 0 where
  pub at : ℕ
  pub patterns : List ℕ
  pub body : List ℕ
  pub matches : ArePatterns text start at patterns
  pub does : IsLastBody text (at + 1) end body
  pub added : AreLastParts patterns body old new

-- Between these offsets are `case`, this word, and `in`.
pub record IsHead (text : List ℕ) (start end : ℕ) (word : List ℕ) : Type 0 where
  pub after : ℕ
  pub at : ℕ
  pub begins : IsWord text start (codes "case") after
  pub subject : IsSubject text after at word
  pub ends : IsWord text at (codes "in") end
  pub blank : is_blank_or_return (slice_index text end) ≡ true

-- A `case` at offset `start` has been read up to the end of a branch, or of what is before the first one, and has these parts so far.
pub data AreBranches (text : List ℕ) (start : ℕ) : ℕ → List (List ℕ) → Type 0 where
  begun : {end : ℕ} {word : List ℕ} → IsHead text start end word → AreBranches text start end (word ∷ [])
  next : {before end : ℕ} {parts more : List (List ℕ)} → AreBranches text start before parts → AddsBranch text before end parts more
      → AreBranches text start end more

-- The same up to `esac`. There is at least one branch.
pub record AreAllBranches (text : List ℕ) (start end : ℕ) (parts : List (List ℕ)) : Type 0 where
  pub before : ℕ
  pub some : List (List ℕ)
  pub branches : AreBranches text start before some
  pub last : AddsLast text before end some parts

-- Between these offsets is a `case` with these parts, as a statement of its own.
pub record IsCase (text : List ℕ) (start end : ℕ) (parts : List (List ℕ)) : Type 0 where
  pub at_esac : ℕ
  pub statement : IsStatement text start (codes "esac") at_esac end
  pub branches : AreAllBranches text start at_esac parts
