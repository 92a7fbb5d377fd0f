-- Worked examples, computed by the definitions: the readers' functions, which the theorems connect to the grammar, and
-- value, truth and matching.
use Rattle.std.proofs.Common.{◌≡◌, ℕ, true, false, List, [], ◌∷◌, ◌++◌, Ok, Err, refl, codes}
use Rattle.deftable.specs.Table.{value_of}
use Rattle.shellword.specs.declared.fault.ShellFault.TheVariants.{BadWord, BadTest, BadPattern}
use Rattle.shellword.specs.declared.part.Part.TheVariants.{Plain, Quoted, Variable}
use Rattle.shellword.specs.declared.element.Condition.TheVariants.{Nonempty, Equal}
use Rattle.shellword.specs.declared.pattern.Piece.TheVariants.{AnyBytes, OneByte, Byte}
use Rattle.shellword.specs.declared.token.Joint.TheVariants.{And}
use Rattle.shellword.specs.Scan.{front_of, scan, word_of, word_front_of, here_of}
use Rattle.shellword.specs.Cut.{token_at, tokens_of}
use Rattle.shellword.specs.Element.{plainly, element_of}
use Rattle.shellword.specs.Truth.{Joined, single, joined, truth}
use Rattle.shellword.specs.Joining.{joining, test_of}
use Rattle.shellword.specs.Listing.{alternatives, patterns_of}
use Rattle.shellword.specs.Matcher.{matching}
use Rattle.shellword.specs.Value.{word_value}

-- a is yes, c is $a
abbrev vars : List (List ℕ × List ℕ)
vars = (codes "a", codes "yes") ∷ (codes "c", codes "$a") ∷ []

-- ---- words

-- Quotes, backslashes and variables.
words_read :
    (word_of (codes "a'b$'\"c\"") ≡ Ok (Plain 97 ∷ Quoted 98 ∷ Quoted 36 ∷ Quoted 99 ∷ []))
    × (word_of (codes "\"'a'\"") ≡ Ok (Quoted 39 ∷ Quoted 97 ∷ Quoted 39 ∷ []))
    × (word_of (codes "\\$\"\\a\\$\"") ≡ Ok (Quoted 36 ∷ Quoted 92 ∷ Quoted 97 ∷ Quoted 36 ∷ []))
    × (word_of (codes "x${a}$c.$.") ≡ Ok (Plain 120 ∷ Variable (codes "a") ∷ Variable (codes "c") ∷ Plain 46 ∷ Plain 36 ∷ Plain 46 ∷ []))
unfolding word_of scan front_of
words_read = (refl, refl, refl, refl)

-- A backquote, also in double quotes, an open quote, a parameter, and a second word.
words_refused :
    (word_of (codes "`b`") ≡ Err (BadWord 0))
    × (word_of (codes "\"`\"") ≡ Err (BadWord 1))
    × (word_of (codes "'a") ≡ Err (BadWord 2))
    × (word_of (codes "a$1") ≡ Err (BadWord 1))
    × (word_of (codes "a b") ≡ Err (BadWord 1))
unfolding word_of scan front_of
words_refused = (refl, refl, refl, refl, refl)

-- A word ends at a blank, and at no operator.
fronts_read :
    (word_front_of (codes "$a b=c") ≡ Ok (Variable (codes "a") ∷ [], 2))
    × (word_front_of (codes "a&b") ≡ Err (BadWord 1))
unfolding word_front_of scan front_of
fronts_read = (refl, refl)

-- A here-document keeps quotes, and drops a backslash with its newline.
here_texts :
    (here_of (codes "\"$a\\$\\x") ≡ Ok (Plain 34 ∷ Variable (codes "a") ∷ Quoted 36 ∷ Plain 92 ∷ Plain 120 ∷ []))
    × (here_of (codes "a\\" ++ 10 ∷ codes "b") ≡ Ok (Plain 97 ∷ Plain 98 ∷ []))
unfolding here_of scan front_of
here_texts = (refl, refl)

-- ---- values: a variable is replaced once, and is empty if it is unset

values_of_words :
    (word_value (Plain 120 ∷ Variable (codes "a") ∷ []) vars ≡ codes "xyes")
    × (word_value (Variable (codes "c") ∷ []) vars ≡ codes "$a")
    × (word_value (Variable (codes "b") ∷ Quoted 46 ∷ []) vars ≡ codes ".")
unfolding word_value value_of
values_of_words = (refl, refl, refl)

-- ---- tests

abbrev x_is_yes : Joined
x_is_yes = single (plainly (Equal (Quoted 120 ∷ Variable (codes "a") ∷ []) (Plain 120 ∷ Plain 121 ∷ Plain 101 ∷ Plain 115 ∷ [])))

abbrev both : Joined
both = joined x_is_yes And (plainly (Nonempty (Variable (codes "b") ∷ [])))

-- Tests, also two that are joined, and the places of errors.
tests_read :
    (test_of (codes "test \"x$a\" = xyes") ≡ Ok x_is_yes)
    × (test_of (codes "test \"x$a\" = xyes && test -n \"$b\"") ≡ Ok both)
    × (test_of (codes "test a -eq b") ≡ Err (BadTest 0))
    × (test_of (codes ": && test -f x") ≡ Err (BadTest 4))
    × (test_of (codes "test a; :") ≡ Err (BadWord 6))
unfolding test_of tokens_of token_at scan front_of joining element_of
tests_read = (refl, refl, refl, refl, refl)

truths :
    (truth x_is_yes vars ≡ true)
    × (truth both vars ≡ false)
unfolding truth word_value value_of
truths = (refl, refl)

-- ---- patterns

-- Patterns, also quoted ones; brackets, and an alternative that is absent.
patterns_read :
    (patterns_of (codes "a* | ?c") ≡ Ok ((Byte 97 ∷ AnyBytes ∷ []) ∷ (OneByte ∷ Byte 99 ∷ []) ∷ []))
    × (patterns_of (codes "'*'\\?") ≡ Ok ((Byte 42 ∷ Byte 63 ∷ []) ∷ []))
    × (patterns_of (codes "[ab]") ≡ Err (BadPattern 0))
    × (patterns_of (codes "a|") ≡ Err (BadPattern 2))
unfolding patterns_of tokens_of token_at scan front_of alternatives
patterns_read = (refl, refl, refl, refl)

-- The first of two patterns doesn't match, and the second does; neither matches; a star matches nothing.
matches :
    (matching (Byte 97 ∷ AnyBytes ∷ []) (codes "bc") ≡ false)
    × (matching (OneByte ∷ Byte 99 ∷ []) (codes "bc") ≡ true)
    × (matching (Byte 97 ∷ AnyBytes ∷ []) (codes "bcc") ≡ false)
    × (matching (OneByte ∷ Byte 99 ∷ []) (codes "bcc") ≡ false)
    × (matching (AnyBytes ∷ []) [] ≡ true)
unfolding matching
matches = (refl, refl, refl, refl, refl)
