-- What is written for `-a` and `-o` of `test` in a condition: `&&` and `||` between two tests. The offsets are those of the condition. In
-- `test`, `-a` binds closer than `-o`, and `&&` and `||` are of equal rank, so all joints of the condition have to be of one kind.
-- (POSIX, `test`; POSIX shell, 2.9.3)
use Rattle.std.specs.Prelude.{◌≡◌, ◌⊎◌, ℕ, ◌-◌, ◌+◌, ◌<◌, ◌≤◌, ◌==◌, ◌||◌, Bool, true, false, not, List, [], ◌∷◌, ◌++◌, length, slice_range, slice_index, codes}
use Rattle.std.specs.List.{list_all, list_any}
use Rattle.std.specs.Char.{is_ascii_alphanumeric}
use Rattle.shellword.specs.Test.{IsTest}
use Rattle.shellword.specs.Truth.{single}
use Rattle.shellword.specs.declared.element.Condition.{Condition}
use Rattle.shellword.specs.declared.element.Condition.TheVariants.{True, False, Nonempty, Empty, Equal, Different}
use Rattle.shellword.specs.declared.element.Element.{Element}
use Rattle.port_parts.specs.Places.{IsWord}

-- ---- operands

-- A space or a tab. (POSIX shell, 2.3)
abbrev pub is_gap : ℕ → Bool
is_gap b = b == 32 || b == 9

-- Between these offsets are such bytes alone, or nothing is.
abbrev pub AreGaps : List ℕ → ℕ → ℕ → Type 0
AreGaps text start end = (start ≤ end) × (list_all is_gap (slice_range text start end) ≡ true)

-- Between these offsets are such bytes alone, and at least one.
pub record IsGap (text : List ℕ) (start end : ℕ) : Type 0 where
  pub some : start < end
  pub gaps : AreGaps text start end

-- A byte with which no operator of `test` begins: a letter, a digit, `_`, `$`, `/` or `.`. (own)
abbrev pub begins_word : ℕ → Bool
begins_word b = is_ascii_alphanumeric b || b == 95 || b == 36 || b == 47 || b == 46

-- A word that is no operator of `test` begins at this offset: with such a byte, or with a double quote and such a byte. (own)
abbrev pub IsWordAt : List ℕ → ℕ → Type 0
IsWordAt text at = (begins_word (slice_index text at) ≡ true) ⊎ ((slice_index text at ≡ 34) × (begins_word (slice_index text (at + 1)) ≡ true))

-- Between these offsets is `-n` or `-z`. (POSIX, `test`)
abbrev pub IsOption : List ℕ → ℕ → ℕ → Type 0
IsOption text start end = IsWord text start (codes "-n") end ⊎ IsWord text start (codes "-z") end

-- The text has blanks, an option, blanks and such a word at its front. (own)
pub record BeginsOption (text : List ℕ) : Type 0 where
  pub at : ℕ
  pub end : ℕ
  pub from : ℕ
  pub gap : IsGap text 0 at
  pub option : IsOption text at end
  pub blanks : IsGap text end from
  pub word : IsWordAt text from

-- The text has blanks and such a word at its front, or an option before the word. (own)
pub data BeginsPlain (text : List ℕ) : Type 0 where
  word : (at : ℕ) → IsGap text 0 at → IsWordAt text at → BeginsPlain text
  option : BeginsOption text → BeginsPlain text

-- The text is one test, which nothing is joined to. (POSIX shell, 2.9.3)
pub record IsOneTest (text : List ℕ) : Type 0 where
  pub element : Element
  pub is : IsTest text (single element)

-- The condition compares two words. (POSIX, `test`)
abbrev pub is_comparison : Condition → Bool
is_comparison (Equal v w) = true
is_comparison (Different v w) = true
is_comparison True = false
is_comparison False = false
is_comparison (Nonempty w) = false
is_comparison (Empty w) = false

-- The text is one test, which compares two words, perhaps after `!`.
pub record IsComparison (text : List ℕ) : Type 0 where
  pub element : Element
  pub is : IsTest text (single element)
  pub compares : is_comparison element.condition ≡ true

-- Blanks and `!` are at the front of the text, up to this offset. (POSIX, `test`)
pub record IsNegation (text : List ℕ) (end : ℕ) : Type 0 where
  pub at : ℕ
  pub gap : IsGap text 0 at
  pub is : IsWord text at (codes "!") end

-- `!` is not right after `test`, or several words come after it in its operand. With two words, `test ! A -a B` has four, and is the
-- negation of all the others. (POSIX, `test`, by the number of its words)
abbrev pub MayNegate : Bool → List ℕ → List ℕ → Type 0
MayNegate is_first text rest = (is_first ≡ false) ⊎ (BeginsOption rest ⊎ IsComparison (codes "test" ++ text))

-- The text begins as an operand does, or with `!` and such a text. If the flag is set, `test` is right before it.
pub data BeginsOperand (is_first : Bool) (text : List ℕ) : Type 0 where
  plain : BeginsPlain text → BeginsOperand is_first text
  negated : (end : ℕ) → IsNegation text end → BeginsPlain (slice_range text end (length text)) → MayNegate is_first text (slice_range text end (length text))
      → BeginsOperand is_first text

-- The text is an operand of `-a` and `-o`: `test` before it makes it one test. If the flag is set, `test` is right before it. (POSIX, `test`)
pub record IsOperand (is_first : Bool) (text : List ℕ) : Type 0 where
  pub tests : IsOneTest (codes "test" ++ text)
  pub begins : BeginsOperand is_first text

-- ---- joints

-- A condition has been read up to where an operand begins, and this was written for it. If the flag is set, `test` is right before the
-- operand. `operator` is `-a` or `-o`, and `joint` is `&&` or `||`. Each operator becomes the joint and `test`. The operands stay, and so do
-- the joints that are there.
pub data IsBegun (operator joint text : List ℕ) : Bool → ℕ → List ℕ → Type 0 where
  first : {at : ℕ} → IsWord text 0 (codes "test") at → IsBegun operator joint text true at (codes "test")
  joined : {is_first : Bool} {start next : ℕ} {put : List ℕ} (at : ℕ) → IsBegun operator joint text is_first start put
      → IsOperand is_first (slice_range text start at) → is_gap (slice_index text (at - 1)) ≡ true → IsWord text at operator next
      → IsBegun operator joint text false next ((put ++ slice_range text start at) ++ (joint ++ codes " test"))
  kept : {is_first : Bool} {start end : ℕ} {put : List ℕ} (at after from : ℕ) → IsBegun operator joint text is_first start put
      → IsOperand is_first (slice_range text start at) → IsWord text at joint after → AreGaps text after from → IsWord text from (codes "test") end
      → IsBegun operator joint text true end (put ++ slice_range text start end)

-- A backslash or a bracket. (own)
abbrev pub is_special : ℕ → Bool
is_special b = b == 92 || b == 91 || b == 93

-- The condition has neither, and it was read to its end: its last operand ends there.
pub record IsRejoined (operator joint text put : List ℕ) : Type 0 where
  pub is_first : Bool
  pub start : ℕ
  pub before : List ℕ
  pub plain : list_any is_special text ≡ false
  pub begun : IsBegun operator joint text is_first start before
  pub last : IsOperand is_first (slice_range text start (length text))
  pub is : put ≡ before ++ slice_range text start (length text)

-- What a condition becomes: it stays, or each `-a` in it becomes `&&` and `test`, or each `-o` becomes `||` and `test`.
pub data Becomes (condition put : List ℕ) : Type 0 where
  same : put ≡ condition → Becomes condition put
  and : IsRejoined (codes "-a") (codes "&&") condition put → Becomes condition put
  or : IsRejoined (codes "-o") (codes "||") condition put → Becomes condition put

-- ---- the parts of an `if`

-- What a part becomes: a condition, if the flag is set, as above; and any other part stays.
abbrev pub BecomesIf : Bool → List ℕ → List ℕ → Type 0
BecomesIf true part text = Becomes part text
BecomesIf false part text = text ≡ part

-- These parts become those texts: a condition and what follows it, by turns. If the flag is set, a condition is next.
pub data HaveBecome : Bool → List (List ℕ) → List (List ℕ) → Type 0 where
  begun : HaveBecome true [] []
  next : {is_condition : Bool} {parts texts : List (List ℕ)} (part text : List ℕ) → HaveBecome is_condition parts texts → BecomesIf is_condition part text
      → HaveBecome (not is_condition) (parts ++ part ∷ []) (texts ++ text ∷ [])

-- All parts become those texts. A last part with nothing after it is no condition, and stays.
pub data AllBecome : List (List ℕ) → List (List ℕ) → Type 0 where
  no_default : {parts texts : List (List ℕ)} → HaveBecome true parts texts → AllBecome parts texts
  default : {parts texts : List (List ℕ)} (part : List ℕ) → HaveBecome true parts texts → AllBecome (parts ++ part ∷ []) (texts ++ part ∷ [])
