-- What is put in the place of calls that do the same in another form. All of this is own.
use Rattle.std.specs.Prelude.{◌≡◌, ℕ, ◌==◌, ◌||◌, Bool, true, List, [], ◌∷◌, ◌++◌, length, slice_range, slice_get, Some, Contains, bytes_eq, codes}
use Rattle.std.specs.Char.{is_ascii_alphanumeric}
use Rattle.std.specs.List.{list_all}
use Rattle.text_cut.specs.Cuts.{fields}
use Rattle.ac_calls.specs.Calls.{MacroCall, calls_in}
use Rattle.ac_calls.specs.declared.call.Extent.{Extent}
use Rattle.port_idioms.specs.Filled.{text_of}
use Rattle.port_passes.specs.Chains.{IsChain}
use Rattle.port_spots.specs.Put.{arg_text, is_blank_or_return, is_c_name}

-- ---- the first of a list that is there

-- A letter, a digit, or one of `_ . / -`.
abbrev pub is_entry_byte : ℕ → Bool
is_entry_byte b = is_ascii_alphanumeric b || b == 95 || b == 46 || b == 47 || b == 45

abbrev pub is_entry : List ℕ → Bool
is_entry word = list_all is_entry_byte word

-- The macro looks for each of a list.
abbrev pub looks_for_each : List ℕ → Bool
looks_for_each name = bytes_eq name (codes "AC_CHECK_HEADERS") || bytes_eq name (codes "AC_CHECK_FUNCS")

-- A call of the macro with one word, up to the parenthesis.
unfoldable pub looks_for : List ℕ → List ℕ → List ℕ
looks_for name word = ((name ++ codes "([") ++ word) ++ codes "]"

-- A call with the first word, which looks for the second one if that is not there.
unfoldable pub found_first : List ℕ → List ℕ → List ℕ → List ℕ
found_first name word next = (looks_for name word ++ codes ", [], [") ++ (looks_for name next ++ codes ")])")

-- The list has two plain words, and the text looks for the second one if the first one is not there.
pub record AreFoundFirst (name list put : List ℕ) : Type 0 where
  pub word : List ℕ
  pub next : List ℕ
  pub words : fields list ≡ word ∷ next ∷ []
  pub plain : list_all is_entry (word ∷ next ∷ []) ≡ true
  pub is : put ≡ found_first name word next

-- The call looks for each of two plain words, with `break` as what is done if one is there. (manual, "Generic Headers")
pub record IsFirstFound (text : List ℕ) (c : MacroCall) (put : List ℕ) : Type 0 where
  pub macro : looks_for_each (slice_range text c.start c.name_end) ≡ true
  pub two : length c.args ≡ 2
  pub list : Extent
  pub action : Extent
  pub first : slice_get c.args 0 ≡ Some list
  pub second : slice_get c.args 1 ≡ Some action
  pub breaks : text_of (Some (arg_text text action)) ≡ codes "break"
  pub are : AreFoundFirst (slice_range text c.start c.name_end) (text_of (Some (arg_text text list))) put

-- ---- a check with its messages

-- The call has one argument, this one, and its macro this name.
pub record IsOfOne (text : List ℕ) (c : MacroCall) (name : List ℕ) (arg : Extent) : Type 0 where
  pub is_there : Contains (calls_in text) c
  pub macro : slice_range text c.start c.name_end ≡ name
  pub one : length c.args ≡ 1
  pub first : slice_get c.args 0 ≡ Some arg

-- Blanks alone are between the two offsets.
abbrev pub AreBlank : List ℕ → ℕ → ℕ → Type 0
AreBlank text start end = list_all is_blank_or_return (slice_range text start end) ≡ true

-- The call is AC_CACHE_VAL with these arguments.
pub record IsValue (text : List ℕ) (c : MacroCall) (variable commands : Extent) : Type 0 where
  pub macro : slice_range text c.start c.name_end ≡ codes "AC_CACHE_VAL"
  pub two : length c.args ≡ 2
  pub first : slice_get c.args 0 ≡ Some variable
  pub second : slice_get c.args 1 ≡ Some commands

-- AC_CACHE_CHECK with these arguments.
abbrev pub cache_check : List ℕ → List ℕ → List ℕ → List ℕ
cache_check message variable commands = (codes "AC_CACHE_CHECK(" ++ message) ++ ((codes ", " ++ variable) ++ ((44 ∷ commands) ++ codes ")"))

-- A name is that of the variable, and the result shows its value.
pub record IsShown (text : List ℕ) (variable result : Extent) (name : List ℕ) : Type 0 where
  pub is : name ≡ text_of (Some (arg_text text variable))
  pub named : is_c_name name ≡ true
  pub same : text_of (Some (arg_text text result)) ≡ 36 ∷ name

-- Between these offsets AC_CACHE_VAL is between the message that something is checked and that with its variable, and nothing else is there.
-- (manual, "Caching Results")
pub record IsCached (text : List ℕ) (start end : ℕ) (put : List ℕ) : Type 0 where
  pub before : MacroCall
  pub call : MacroCall
  pub after : MacroCall
  pub message : Extent
  pub variable : Extent
  pub commands : Extent
  pub result : Extent
  pub name : List ℕ
  pub says : IsOfOne text before (codes "AC_MSG_CHECKING") message
  pub is_there : Contains (calls_in text) call
  pub value : IsValue text call variable commands
  pub tells : IsOfOne text after (codes "AC_MSG_RESULT") result
  pub place : (start ≡ before.start) × (end ≡ after.end)
  pub apart : AreBlank text before.end call.start × AreBlank text call.end after.start
  pub shown : IsShown text variable result name
  pub is : put ≡ cache_check (arg_text text message) name (arg_text text commands)

-- ---- the whole

-- What may be put in the place of what is between these offsets, which does the same.
pub data IsExchanged (text : List ℕ) (start end : ℕ) (put : List ℕ) : Type 0 where
  chained : (c : MacroCall) → Contains (calls_in text) c → (start ≡ c.start) × (end ≡ c.end) → IsChain text c put → IsExchanged text start end put
  found : (c : MacroCall) → Contains (calls_in text) c → (start ≡ c.start) × (end ≡ c.end) → IsFirstFound text c put → IsExchanged text start end put
  cached : IsCached text start end put → IsExchanged text start end put
