-- What a byte opens and closes in a word of a shell, and whether a word may begin after it. (POSIX shell, 2.2, 2.3 and 2.6.3)
use Rattle.std.specs.Prelude.{ℕ, Bool, true, false, ◌&&◌, ◌||◌, List, [], ◌∷◌, Option, Some, None, ◌==◌, if◌then◌else◌}
use Rattle.shellword.specs.Text.{single_quote, double_quote, backquote, newline}
use Rattle.shell_bare.specs.Text.{hash, is_part_end}
use Rattle.lint_marks.specs.Delimiters.{is_operator}
use Rattle.lint_marks.specs.declared.nesting.Nesting.{Nesting}
use Rattle.lint_marks.specs.declared.nesting.Nesting.TheVariants.{Single, Double, Back, Paren, Brace}
use Rattle.lint_marks.specs.declared.nesting.NestPlace.{NestPlace}
use Rattle.lint_marks.specs.declared.nesting.NestPlace.TheVariants as at
use Rattle.lint_marks.specs.declared.nesting.NestChange.{NestChange}
use Rattle.lint_marks.specs.declared.nesting.NestChange.TheVariants.{Same, Opens, Closes}

-- A byte after which a word may begin: a blank, a newline, or a byte of an operator. (POSIX shell, 2.3; that a carriage
-- return is one is own)
abbrev pub ends_word : ℕ → Bool
ends_word b = is_part_end b || is_operator b || b == 13

-- What is innermost open, if anything is. (own)
abbrev pub innermost : List Nesting → Option Nesting
innermost [] = None
innermost (n ∷ ns) = Some n

-- What a byte opens where a single quote quotes: quotes, backquotes, or after `$` a parenthesis or a brace. (POSIX shell,
-- 2.2 and 2.6)
abbrev pub begun_by : Bool → ℕ → NestChange
begun_by after_dollar b =
    if b == single_quote then Opens Single
    else (if b == double_quote then Opens Double
    else (if b == backquote then Opens Back
    else (if b == 40 && after_dollar then Opens Paren
    else (if b == 123 && after_dollar then Opens Brace
    else Same))))

-- What a byte opens or closes in what is innermost. Single quotes hold no others, and double quotes no single ones. A
-- parenthesis in parentheses opens one more. (POSIX shell, 2.2, 2.6.2 and 2.6.3)
abbrev pub change_in : Nesting → Bool → ℕ → NestChange
change_in Single after_dollar b = if b == single_quote then Closes else Same
change_in Double after_dollar b = if b == double_quote then Closes else (if b == single_quote then Same else begun_by after_dollar b)
change_in Back after_dollar b = if b == backquote then Closes else begun_by after_dollar b
change_in Paren after_dollar b = if b == 41 then Closes else (if b == 40 then Opens Paren else begun_by after_dollar b)
change_in Brace after_dollar b = if b == 125 then Closes else begun_by after_dollar b

-- What a byte opens or closes. (POSIX shell, 2.2 and 2.6)
abbrev pub change_at : Option Nesting → Bool → ℕ → NestChange
change_at None after_dollar b = begun_by after_dollar b
change_at (Some n) after_dollar b = change_in n after_dollar b

-- Commands are in it: in backquotes and in parentheses. (POSIX shell, 2.6.3)
abbrev pub has_commands : Nesting → Bool
has_commands Single = false
has_commands Double = false
has_commands Back = true
has_commands Paren = true
has_commands Brace = false

-- Commands are here: in a substitution of a command, or in nothing. (own)
abbrev pub is_command : Option Nesting → Bool
is_command None = true
is_command (Some n) = has_commands n

-- A word may begin. (POSIX shell, 2.3)
abbrev pub begins : NestPlace → Bool
begins at.Start = true
begins at.Word = false
begins at.Comment = false

-- The place is in a comment. (POSIX shell, 2.3)
abbrev pub is_comment : NestPlace → Bool
is_comment at.Start = false
is_comment at.Word = false
is_comment at.Comment = true

-- After a byte of commands. (POSIX shell, 2.3)
abbrev pub after_command : NestPlace → ℕ → NestPlace
after_command place b = if b == hash && begins place then at.Comment else (if ends_word b then at.Start else at.Word)

-- After a byte that opens and closes nothing. (POSIX shell, 2.3)
abbrev pub after_same : Option Nesting → NestPlace → ℕ → NestPlace
after_same inner place b = if is_command inner then after_command place b else at.Word

-- The first place in what is opened. (own)
abbrev pub first_place : Nesting → NestPlace
first_place n = if has_commands n then at.Start else at.Word

-- After a byte that opens or closes this. What is closed is a part of a word. (POSIX shell, 2.3)
abbrev pub place_after : NestChange → Option Nesting → NestPlace → ℕ → NestPlace
place_after Same inner place b = after_same inner place b
place_after (Opens n) inner place b = first_place n
place_after Closes inner place b = at.Word

-- Without the innermost. (own)
abbrev pub others : List Nesting → List Nesting
others [] = []
others (n ∷ ns) = ns

-- What is open after a change. (own)
abbrev pub changed : NestChange → List Nesting → List Nesting
changed Same ns = ns
changed (Opens n) ns = n ∷ ns
changed Closes ns = others ns

-- After a byte that a backslash quotes. A backslash and a newline are no part of a word. (POSIX shell, 2.2.1)
abbrev pub after_quoted : NestPlace → ℕ → NestPlace
after_quoted place b = if b == newline then place else at.Word

-- A backslash quotes the next byte in what is innermost. (POSIX shell, 2.2.1 to 2.2.3)
abbrev pub escapes : Option Nesting → Bool
escapes None = true
escapes (Some Single) = false
escapes (Some Double) = true
escapes (Some Back) = true
escapes (Some Paren) = true
escapes (Some Brace) = true

-- After a byte of a comment. (POSIX shell, 2.3)
abbrev pub after_comment : ℕ → NestPlace
after_comment b = if b == newline then at.Start else at.Comment

-- Nothing is open. (own)
abbrev pub is_closed : List Nesting → Bool
is_closed [] = true
is_closed (n ∷ ns) = false
