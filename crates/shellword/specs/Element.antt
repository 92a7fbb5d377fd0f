-- The elements of a test, by the words that they consist of. (POSIX, `test`, by the number of its words; POSIX shell,
-- 2.9.2, for `!`)
use Rattle.std.specs.Prelude.{ℕ, Bool, true, false, ◌&&◌, ◌||◌, not, List, [], ◌∷◌, Option, Some, None, option_map, codes, ◌==◌, if◌then◌else◌}
use Rattle.shellword.specs.declared.part.Part.{Part}
use Rattle.shellword.specs.declared.part.Part.TheVariants.{Plain, Quoted, Variable}
use Rattle.shellword.specs.declared.element.Condition.{Condition}
use Rattle.shellword.specs.declared.element.Condition.TheVariants.{True, False, Nonempty, Empty, Equal, Different}
use Rattle.shellword.specs.declared.element.Element.{Element}

-- The part is this byte, quoted or not. (own)
abbrev pub part_is : Part → ℕ → Bool
part_is (Plain b) c = b == c
part_is (Quoted b) c = b == c
part_is (Variable name) c = false

-- The word is constant and equals this text. (own)
abbrev pub word_is : List Part → List ℕ → Bool
word_is [] [] = true
word_is [] (c ∷ cs) = false
word_is (part ∷ parts) [] = false
word_is (part ∷ parts) (c ∷ cs) = part_is part c && word_is parts cs

-- An element without `!`. (own)
abbrev pub plainly : Condition → Element
plainly condition = record { negated = false; condition = condition }

-- The negation of an element: `!` before it. (POSIX shell, 2.9.2)
abbrev pub negated : Element → Element
negated e = record { negated = not e.negated; condition = e.condition }

-- An element, negated if the flag is set. (own)
abbrev pub negated_if : Bool → Element → Element
negated_if true e = negated e
negated_if false e = e

-- `test` with one word: the word isn't empty. (POSIX, `test`)
abbrev pub one_word : List Part → Element
one_word a = plainly (Nonempty a)

-- `test` with two words: `-n`, `-z`, or `!` and one word. (POSIX, `test`, without the operators on files)
abbrev pub two_words : List Part → List Part → Option Element
two_words a b =
    if word_is a (codes "-n") then Some (plainly (Nonempty b))
    else (if word_is a (codes "-z") then Some (plainly (Empty b))
    else (if word_is a (codes "!") then Some (negated (one_word b)) else None))

-- `test` with three words: `=` or `!=` between two, or `!` and two words. (POSIX, `test`, without the operators on
-- numbers)
abbrev pub three_words : List Part → List Part → List Part → Option Element
three_words a b c =
    if word_is b (codes "=") then Some (plainly (Equal a c))
    else (if word_is b (codes "!=") then Some (plainly (Different a c))
    else (if word_is a (codes "!") then option_map negated (two_words b c) else None))

-- `test` with four words: `!` and three words. (POSIX, `test`)
abbrev pub four_words : List Part → List Part → List Part → List Part → Option Element
four_words a b c d = if word_is a (codes "!") then option_map negated (three_words b c d) else None

-- `test` with these words, by their number: one to four. (POSIX, `test`)
abbrev pub condition_of : List Part → List (List Part) → Option Element
condition_of a [] = Some (one_word a)
condition_of a (b ∷ []) = two_words a b
condition_of a (b ∷ c ∷ []) = three_words a b c
condition_of a (b ∷ c ∷ d ∷ []) = four_words a b c d
condition_of a (b ∷ c ∷ d ∷ e ∷ rest) = None

-- The commands `:`, `true` and `false` without words. (POSIX, the special built-in `:`, `true` and `false`)
abbrev pub constant_of : List Part → Option Element
constant_of word =
    if word_is word (codes ":") || word_is word (codes "true") then Some (plainly True)
    else (if word_is word (codes "false") then Some (plainly False) else None)

-- A command with the words after it. (own)
abbrev pub command_of : List Part → List (List Part) → Option Element
command_of word [] = constant_of word
command_of word (a ∷ rest) = if word_is word (codes "test") then condition_of a rest else None

-- The element that words form: a command, or `!` and an element. (POSIX shell, 2.9.2; that `!` may be repeated is own)
unfoldable pub element_of : List (List Part) → Option Element
element_of [] = None
element_of (word ∷ words) = if word_is word (codes "!") then option_map negated (element_of words) else command_of word words
