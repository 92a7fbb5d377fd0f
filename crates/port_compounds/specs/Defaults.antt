-- An assignment to a variable of its own value, or of a word if that is empty. (POSIX shell, 2.6.2 "Parameter Expansion")
use Rattle.std.specs.Prelude.{◌≡◌, ℕ, true, List, [], ◌∷◌, ◌++◌, slice_range, codes}
use Rattle.std.specs.List.{list_all}
use Rattle.port_parts.specs.Parts.{IsPlainLine}
use Rattle.port_parts.specs.Places.{BeginsStatement, EndsStatement}
use Rattle.port_parts.specs.Words.{is_value, IsConstant, IsVariable}

-- The value of the variable, or the word if that is empty.
abbrev pub value_or : List ℕ → List ℕ → List ℕ
value_or name word = codes "${" ++ (name ++ (codes ":-" ++ (word ++ codes "}")))

-- The assignment, whose value is in double quotes or not.
unfoldable pub bare : List ℕ → List ℕ → List ℕ
bare name word = (name ++ codes "=") ++ value_or name word

unfoldable pub quoted : List ℕ → List ℕ → List ℕ
quoted name word = ((name ++ codes "=") ++ 34 ∷ []) ++ (value_or name word ++ 34 ∷ [])

-- The text is one of these. In double quotes the word has none of its own.
pub data IsDefault (text name word : List ℕ) : Type 0 where
  plain : text ≡ bare name word → IsDefault text name word
  in_quotes : text ≡ quoted name word → list_all is_value word ≡ true → IsDefault text name word

-- Between these offsets is such an assignment, as a statement of its own.
pub record IsDefaulting (text : List ℕ) (start end : ℕ) (name word : List ℕ) : Type 0 where
  pub begins : BeginsStatement text start
  pub ends : EndsStatement text end
  pub is : IsDefault (slice_range text start end) name word
  pub plain : IsPlainLine (slice_range text start end)
  pub variable : IsVariable name
  pub constant : IsConstant word

-- The condition that the variable is empty.
unfoldable pub empty_test : List ℕ → List ℕ
empty_test name = (codes "test -z " ++ (34 ∷ 36 ∷ [])) ++ (name ++ 34 ∷ [])

-- The assignment of the word.
unfoldable pub assignment : List ℕ → List ℕ → List ℕ
assignment name word = (name ++ codes "=") ++ word
