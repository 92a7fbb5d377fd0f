-- How a text is split into tokens, as functions on lists. All are own.
use Rattle.std.specs.Prelude.{ℕ, zero, suc, ◌+◌, ◌-◌, Bool, List, [], ◌∷◌, Result, Ok, Err, ◌==◌, if◌then◌else◌}
use Rattle.shellword.specs.declared.fault.ShellFault.{ShellFault}
use Rattle.shellword.specs.declared.fault.ShellFault.TheVariants.{BadWord}
use Rattle.shellword.specs.declared.front.Context.TheVariants.{Bare}
use Rattle.shellword.specs.declared.token.Joint.TheVariants.{And, Or}
use Rattle.shellword.specs.declared.token.Token.{Token}
use Rattle.shellword.specs.declared.token.Token.TheVariants.{Word, Join, Bar, Newline}
use Rattle.shellword.specs.Text.{is_space, newline, ampersand, bar, ends_word, begins_with}
use Rattle.shellword.specs.Scan.{scan}
use Rattle.fallible.specs.Reading.{◌>>=◌}

-- The token of `&` at offset `at`, followed by this text, and the offset after it.
abbrev pub ampersand_at : ℕ → List ℕ → Result (Token × ℕ) ShellFault
ampersand_at at bs = if begins_with ampersand bs then Ok (Join And (at + 2), at + 2) else Err (BadWord at)

-- The token of `|` at offset `at`, followed by this text, and the offset after it.
abbrev pub bar_at : Bool → ℕ → List ℕ → Result (Token × ℕ) ShellFault
bar_at lone_bars at bs =
    if begins_with bar bs then Ok (Join Or (at + 2), at + 2)
    else (if lone_bars then Ok (Bar (at + 1), at + 1) else Err (BadWord at))

-- The word at the front, and the offset after it.
abbrev pub word_at : ℕ → List ℕ → Result (Token × ℕ) ShellFault
word_at at text = scan 0 Bare at text >>= λ r. Ok (Word r.0, r.1)

-- The token at the front of b ∷ bs, at offset `at`, where no space begins, and the offset after it.
unfoldable pub token_at : Bool → ℕ → ℕ → List ℕ → Result (Token × ℕ) ShellFault
token_at lone_bars at b bs =
    if b == newline then Ok (Newline, at + 1)
    else (if b == ampersand then ampersand_at at bs
    else (if b == bar then bar_at lone_bars at bs
    else (if ends_word b then Err (BadWord at)
    else word_at at (b ∷ bs))))

-- The tokens of a text at offset `at`, after `skip` bytes of the last token.
unfoldable pub tokens_of : Bool → ℕ → ℕ → List ℕ → Result (List Token) ShellFault
tokens_of lone_bars skip at [] = Ok []
tokens_of lone_bars (suc k) at (b ∷ bs) = tokens_of lone_bars k (at + 1) bs
tokens_of lone_bars zero at (b ∷ bs) =
    if is_space b then tokens_of lone_bars 0 (at + 1) bs
    else (token_at lone_bars at b bs >>= λ t. tokens_of lone_bars (t.1 - (at + 1)) (at + 1) bs >>= λ ts. Ok (t.0 ∷ ts))
