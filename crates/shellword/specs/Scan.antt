-- What each step of the reader finds, as functions on lists. All are own.
use Rattle.std.specs.Prelude.{nat_lt, ℕ, zero, suc, ◌+◌, ◌-◌, ◌&&◌, List, [], ◌∷◌, ◌++◌, take, drop, Option, Some, None, option_to_list, Result, Ok, Err, ◌==◌, if◌then◌else◌}
use Rattle.std.specs.List.{list_all}
use Rattle.fallible.specs.Reading.{◌>>=◌}
use Rattle.shellword.specs.declared.fault.ShellFault.{ShellFault}
use Rattle.shellword.specs.declared.fault.ShellFault.TheVariants.{BadWord}
use Rattle.shellword.specs.declared.part.Part.{Part}
use Rattle.shellword.specs.declared.part.Part.TheVariants.{Variable}
use Rattle.shellword.specs.declared.front.Context.{Context}
use Rattle.shellword.specs.declared.front.Context.TheVariants.{Bare, Single, Double, Here}
use Rattle.shellword.specs.declared.front.WordFront.{WordFront}
use Rattle.shellword.specs.Text.{is_blank, is_parted, single_quote, backslash, dollar, backquote, open_brace, name_len, stands_alone}
use Rattle.shellword.specs.Contexts.{is_over, is_quoted, is_special, escapes, escaped_part, byte_in, closes_brace}

-- A front of this part and length, with the context after it.
abbrev pub front : Option Part → ℕ → Context → WordFront
front part len context = record { part = part; len = len; context = context }

-- The front of a backslash before this text.
abbrev pub backslash_front : Context → List ℕ → WordFront
backslash_front c [] = front (Some (byte_in c backslash)) 1 c
backslash_front c (b ∷ bs) = if escapes c b then front (escaped_part c b) 2 c else front (Some (byte_in c backslash)) 1 c

-- The front of `$` before this text, which doesn't begin with a name.
abbrev pub braced_front : ℕ → Context → List ℕ → Result WordFront ShellFault
braced_front at c [] = Err (BadWord at)
braced_front at c (b ∷ inside) =
    if b == open_brace && nat_lt 0 (name_len inside) && closes_brace (drop (name_len inside) inside)
    then Ok (front (Some (Variable (take (name_len inside) inside))) (name_len inside + 3) c)
    else Err (BadWord at)

-- The front of `$` before this text.
abbrev pub dollar_front : ℕ → Context → List ℕ → Result WordFront ShellFault
dollar_front at c text =
    if nat_lt 0 (name_len text) then Ok (front (Some (Variable (take (name_len text) text))) (name_len text + 1) c)
    else (if stands_alone text then Ok (front (Some (byte_in c dollar)) 1 c)
    else braced_front at c text)

-- The context after a quote that opens or closes.
abbrev pub quote_context : Context → ℕ → Context
quote_context Bare b = if b == single_quote then Single else Double
quote_context c b = Bare

-- The front of b ∷ bs.
unfoldable pub front_of : ℕ → Context → ℕ → List ℕ → Result WordFront ShellFault
front_of at c b bs =
    if is_special c b then
    (if b == backslash then Ok (backslash_front c bs)
    else (if b == dollar then dollar_front at c bs
    else (if b == backquote then Err (BadWord at)
    else Ok (front None 1 (quote_context c b)))))
    else Ok (front (Some (byte_in c b)) 1 c)

-- The end of a word or here text, which is an error in quotes.
abbrev pub close : Context → ℕ → Result (List Part × ℕ) ShellFault
close c at = if is_quoted c then Err (BadWord at) else Ok ([], at)

-- The parts up to the end of the word or here text, and the offset after them. The text is at offset `at`, and the
-- first `skip` bytes belong to the last front.
unfoldable pub scan : ℕ → Context → ℕ → List ℕ → Result (List Part × ℕ) ShellFault
scan skip c at [] = close c at
scan (suc k) c at (b ∷ bs) = scan k c (at + 1) bs
scan zero c at (b ∷ bs) =
    if is_over c (b ∷ bs) then close c at
    else (front_of at c b bs >>= λ f. scan (f.len - 1) f.context (at + 1) bs >>= λ r. Ok (option_to_list f.part ++ r.0, r.1))

-- The parts of a text that is one word followed by blanks, or its error.
unfoldable pub word_of : List ℕ → Result (List Part) ShellFault
word_of text = scan 0 Bare 0 text >>= λ r. if list_all is_blank (drop r.1 text) then Ok r.0 else Err (BadWord r.1)

-- The word at the front of bare text and its length, or the error.
unfoldable pub word_front_of : List ℕ → Result (List Part × ℕ) ShellFault
word_front_of text = scan 0 Bare 0 text >>= λ r. if is_parted (drop r.1 text) then Ok r else Err (BadWord r.1)

-- The parts of a whole here text, or its error.
unfoldable pub here_of : List ℕ → Result (List Part) ShellFault
here_of text = scan 0 Here 0 text >>= λ r. Ok r.0
