-- What m4 has open at a place, byte by byte. (GNU M4's manual, "Quoted strings", "Comments" and "Dnl")
use Rattle.std.specs.Prelude.{ℕ, ◌+◌, ◌-◌, min, Bool, true, false, ◌&&◌, ◌||◌, not, List, [], ◌∷◌, ◌==◌, if◌then◌else◌}
use Rattle.m4quote.specs.Text.{open_bracket, close_bracket, number_sign, is_word_byte, word, is_dnl}
use Rattle.lint_marks.specs.declared.quotes.Quotes.{Quotes}
use Rattle.lint_marks.specs.declared.quotes.QuotePart.{QuotePart}
use Rattle.lint_marks.specs.declared.quotes.QuotePart.TheVariants.{Text, Comment, Dropped}

-- This many brackets are open, the place is in this, and no word is before it. (own)
abbrev pub opened : ℕ → QuotePart → Quotes
opened depth part = record { depth = depth; part = part; is_name = false }

-- Nothing is open. (own)
abbrev pub none_open : Quotes
none_open = opened 0 Text

-- The place is in text. (own)
abbrev pub is_text : QuotePart → Bool
is_text Text = true
is_text Comment = false
is_text Dropped = false

-- The text begins with the word `dnl`. (GNU M4's manual, "Dnl")
abbrev pub begins_dnl : List ℕ → Bool
begins_dnl text = is_dnl (word text)

-- After a byte of text. A bracket opens or closes a quote, and outside quotes a `#` begins a comment. A closing bracket
-- that closes nothing changes nothing. (GNU M4's manual, "Quoted strings" and "Comments"; that brackets are counted up
-- to 255 is own)
abbrev pub after_text : ℕ → ℕ → Quotes
after_text depth b =
    if b == open_bracket then opened (min 255 (depth + 1)) Text
    else (if b == close_bracket then opened (depth - 1) Text
    else (if b == number_sign && depth == 0 then opened depth Comment
    else record { depth = depth; part = Text; is_name = is_word_byte b }))

-- After a byte of a comment or of a dropped line, which both end with their newline. (GNU M4's manual, "Comments" and
-- "Dnl")
abbrev pub after_line : ℕ → QuotePart → ℕ → Quotes
after_line depth part b = if b == 10 then opened depth Text else opened depth part

-- After a byte that begins no dropped line. (own)
abbrev pub after_byte : Quotes → ℕ → Quotes
after_byte q b = by_part q.part where
  by_part : QuotePart → Quotes
  by_part Text = after_text q.depth b
  by_part Comment = after_line q.depth Comment b
  by_part Dropped = after_line q.depth Dropped b

-- A dropped line begins here: the word `dnl`, outside quotes and comments. (GNU M4's manual, "Dnl")
abbrev pub begins_dropped : Quotes → List ℕ → Bool
begins_dropped q text = is_text q.part && q.depth == 0 && not q.is_name && begins_dnl text

-- The byte is a bracket of the outermost quotes. (own)
abbrev pub is_outer_bracket : Quotes → ℕ → Bool
is_outer_bracket q b = is_text q.part && (b == open_bracket && q.depth == 0 || b == close_bracket && q.depth == 1)

-- The place is in a dropped line. (own)
abbrev pub is_dropped : QuotePart → Bool
is_dropped Dropped = true
is_dropped Comment = false
is_dropped Text = false

-- m4 takes the byte with which a text begins away: it is one of a dropped line, or a bracket of the outermost quotes.
-- (GNU M4's manual, "Quoted strings" and "Dnl")
abbrev pub is_removed : Quotes → ℕ → List ℕ → Bool
is_removed q b text = is_dropped q.part || begins_dropped q text || is_outer_bracket q b

-- After the first byte of a text. (GNU M4's manual, "Quoted strings", "Comments" and "Dnl")
abbrev pub after : Quotes → List ℕ → Quotes
after q [] = q
after q (b ∷ bs) = if begins_dropped q (b ∷ bs) then opened 0 Dropped else after_byte q b
