-- What a place of an idiom is filled with.
use Rattle.std.specs.Prelude.{ℕ, ◌-◌, ◌==◌, ◌&&◌, ◌||◌, not, nat_le, nat_lt, Bool, List, [], ◌∷◌, ◌++◌, length, map, slice_get, slice_index, slice_range, Option, Some, None, option_map, codes, if◌then◌else◌}
use Rattle.std.specs.Borrow.{Bor}
use Rattle.std.specs.Char.{is_ascii_alphanumeric}
use Rattle.std.specs.List.{list_all}
use Rattle.text_cut.specs.Cuts.{is_blank, trimmed}
use Rattle.m4quote.specs.Names.{sh_byte, cpp_byte}
use Rattle.lint_macros.specs.Around.{around}
use Rattle.lint_macros.specs.Places.{Hole}
use Rattle.lint_macros.specs.declared.place.Form.{Form}
use Rattle.lint_macros.specs.declared.place.Form.TheVariants.{AsItIs, Whole, OneWord, WholeWord, ShellName, Symbol, Front, Rest}
use Rattle.lint_macros.specs.declared.place.HoleSource.{HoleSource}
use Rattle.lint_macros.specs.declared.place.HoleSource.TheVariants.{Argument, All}

-- The text of a slice, if it is there. (own)
abbrev pub seen : Option (Bor (List ℕ)) → Option (List ℕ)
seen o = option_map (λ t. t.now) o

-- It has a pair of brackets around it. (own)
abbrev pub is_quoted : List ℕ → Bool
is_quoted t = nat_le 2 (length t) && slice_index t 0 == 91 && slice_index t (length t - 1) == 93

-- The text without the pair of brackets around it. (own)
abbrev pub unquoted : List ℕ → List ℕ
unquoted t = if is_quoted t then slice_range t 1 (length t - 1) else t

-- An argument without the blanks around it and up to two pairs of brackets. (own)
abbrev pub bare : List ℕ → List ℕ
bare a = trimmed (unquoted (trimmed (unquoted (trimmed a))))

-- A blank, or one of `_ . / - + * = :`. (own)
abbrev pub is_plain_sign : ℕ → Bool
is_plain_sign b = b == 95 || b == 46 || b == 47 || b == 45 || b == 43 || b == 42 || b == 61 || b == 58 || b == 32 || b == 9 || b == 10

-- A letter, a digit, or such a sign. (own)
abbrev pub is_plain_byte : ℕ → Bool
is_plain_byte b = is_ascii_alphanumeric b || is_plain_sign b

-- A plain word or list: it has a byte, and only letters, digits, blanks and the signs above. (own)
abbrev pub is_plain : List ℕ → Bool
is_plain t = nat_lt 0 (length t) && list_all is_plain_byte t

-- The text of an argument, if it is plain. (own)
abbrev pub plain_text : List ℕ → Option (List ℕ)
plain_text a = if is_plain (bare a) then Some (bare a) else None

-- The text of an argument, if it is there and plain. (own)
abbrev pub plain_of : Option (List ℕ) → Option (List ℕ)
plain_of (Some a) = plain_text a
plain_of None = None

-- The plain text of the argument of this index, counted from 0. (own)
abbrev pub plain_at : ℕ → List (List ℕ) → Option (List ℕ)
plain_at k args = plain_of (slice_get args k)

-- All of them are plain. (own)
abbrev pub are_plain : List (List ℕ) → Bool
are_plain args = list_all (λ a. is_plain (bare a)) args

-- There is an argument, and all of them are plain. (own)
abbrev pub is_plain_list : List (List ℕ) → Bool
is_plain_list args = nat_lt 0 (length args) && are_plain args

-- It has no blank. (own)
abbrev pub is_word : List ℕ → Bool
is_word t = list_all (λ b. not (is_blank b)) t

-- The text before a byte, or the word if the byte isn't there. (own)
abbrev pub front_or : List ℕ → Option (List ℕ × List ℕ) → List ℕ
front_or word (Some (front, rest)) = front
front_or word None = word

-- The text after a byte, or the word if the byte isn't there. (own)
abbrev pub rest_or : List ℕ → Option (List ℕ × List ℕ) → List ℕ
rest_or word (Some (front, rest)) = rest
rest_or word None = word

-- The text in a form: as it is, as it is if it is one word, as a shell name, as a symbol of the preprocessor, or what is before or
-- after its first dot. If the text can't have the form, the word. Of a call that a reader is to write, the blanks after an argument are
-- left out. (own)
abbrev pub formed_or : Form → List ℕ → List ℕ → List ℕ
formed_or AsItIs word t = t
formed_or Whole word t = t
formed_or OneWord word t = if is_word t then t else word
formed_or WholeWord word t = if is_word t then t else word
formed_or ShellName word t = map sh_byte t
formed_or Symbol word t = map cpp_byte t
formed_or Front word t = front_or word (around 46 t)
formed_or Rest word t = rest_or word (around 46 t)

-- The text in a form, or the word if there is no text. (own)
abbrev pub given_or : Form → List ℕ → Option (List ℕ) → List ℕ
given_or form word (Some t) = formed_or form word t
given_or form word None = word

-- A bare argument in brackets, and a comma and a blank after it unless it is the last. (own)
abbrev pub item : Bool → List ℕ → List ℕ
item is_last a = 91 ∷ bare a ++ (if is_last then codes "]" else codes "], ")

-- The bare arguments, each in brackets, with a comma and a blank between them. (own)
abbrev pub listed : List (List ℕ) → List ℕ
listed [] = []
listed (a ∷ more) = item (length more == 0) a ++ listed more

-- What a place is filled with, for a call with these arguments: the arguments that it takes, in its form, if they are
-- plain, and otherwise its word. (own)
abbrev pub value_from : HoleSource → Form → List ℕ → List (List ℕ) → List ℕ
value_from (Argument k) form word args = given_or form word (plain_at k args)
value_from All form word args = if is_plain_list args then listed args else word

abbrev pub value : List (List ℕ) → Hole → List ℕ
value args p = value_from p.source p.form p.word args
