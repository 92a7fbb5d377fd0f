-- The setting of a line of a cache file, as a function of the line. `Form` has the forms of lines.
use Rattle.std.specs.Prelude.{ℕ, ◌==◌, Bool, true, false, List, [], ◌∷◌, take, drop, Option, Some, None, option_map, option_and_then, codes, if◌then◌else◌}
use Rattle.std.specs.List.{prefix_len}
pub use Rattle.text_cut.specs.Cuts.{is_space}
use Rattle.cachefile.specs.Name.{is_word_byte}
use Rattle.cachefile.specs.Word.{value_in}

-- A name is set to a value, whether or not it is set before; or it is set to a default, only if it isn't set before.
-- (POSIX shell, 2.9.1 and 2.6.2)
pub data Setting : Type 0 where
  Sets : (name value : List ℕ) → Setting
  Defaults : (name value : List ℕ) → Setting

-- The name that is set. (own)
abbrev pub name_of : Setting → List ℕ
name_of (Sets name value) = name
name_of (Defaults name value) = name

-- The text after this front, or none if it doesn't begin with it. (own)
unfoldable pub rest_after : List ℕ → List ℕ → Option (List ℕ)
rest_after [] text = Some text
rest_after (f ∷ front) [] = None
rest_after (f ∷ front) (b ∷ bs) = if b == f then rest_after front bs else None

-- The text before a final `}`, or none if it doesn't end with one. (own)
unfoldable pub before_brace : List ℕ → Option (List ℕ)
before_brace [] = None
before_brace (b ∷ []) = if b == 125 then Some [] else None
before_brace (b ∷ c ∷ bs) = option_map (λ w. b ∷ w) (before_brace (c ∷ bs))

-- Whether the line is empty except for spaces, tabs and a comment. (own)
unfoldable pub sets_nothing : List ℕ → Bool
sets_nothing [] = true
sets_nothing (b ∷ bs) = if is_space b then sets_nothing bs else b == 35

-- The number of letters, digits and `_` at the front. (own)
abbrev pub word_len : List ℕ → ℕ
word_len text = prefix_len is_word_byte text

-- The longest word at the front and the text after it, or none if that word is empty. (own)
unfoldable pub front_word : List ℕ → Option (List ℕ × List ℕ)
front_word text = if word_len text == 0 then None else Some (take (word_len text) text, drop (word_len text) text)

-- The text after the name and `=`. (own)
abbrev pub rest_after_name : List ℕ → List ℕ → Option (List ℕ)
rest_after_name name text = option_and_then (rest_after (codes "=")) (rest_after name text)

-- The setting of `V=${V=W}`, from the text after `${`. (own)
unfoldable pub default_setting : List ℕ → List ℕ → Option Setting
default_setting name text = option_map (λ v. Defaults name v) (option_and_then (value_in true) (option_and_then before_brace (rest_after_name name text)))

-- The setting of `V=W`, from the text after `=`. (own)
abbrev pub plain_setting : List ℕ → List ℕ → Option Setting
plain_setting name text = option_map (λ v. Sets name v) (value_in false text)

-- What a function gives for the value, or something else if there is none. (own)
abbrev pub either : {A B : Type 0} → Option A → (A → B) → B → B
either None f other = other
either (Some t) f other = f t

-- The setting of `V=${V=W}` or `V=W`, from the text after the first `=`. (own)
unfoldable pub assigned_setting : List ℕ → List ℕ → Option Setting
assigned_setting name text = either (rest_after (codes "${") text) (default_setting name) (plain_setting name text)

-- The setting of a line that begins with `V=`. (own)
unfoldable pub assignment : List ℕ → Option Setting
assignment line = option_and_then (λ p. option_and_then (assigned_setting p.0) (rest_after (codes "=") p.1)) (front_word line)

-- The setting of a line with a test, from the text at its first V; `middle` is what is between V and `V=W`. (own)
unfoldable pub guarded_setting : List ℕ → List ℕ → Option Setting
guarded_setting middle text =
    option_and_then (λ p. option_map (λ v. Defaults p.0 v) (option_and_then (value_in false) (option_and_then (rest_after_name p.0) (rest_after middle p.1)))) (front_word text)

-- Whether the line begins with `t`, as each line with a test does. (own)
unfoldable pub may_test : List ℕ → Bool
may_test [] = false
may_test (b ∷ bs) = b == 116

-- The setting of a line that sets a name, or none if it has no such form. (own)
unfoldable pub setting_of : List ℕ → Option Setting
setting_of line =
    either (rest_after (codes "test ${") line) (guarded_setting (codes "+y} || "))
    (either (rest_after (codes "test \"${") line) (guarded_setting (codes "+set}\" = set || ")) (assignment line))

-- The setting of a line, if it has one; or none at all if the line has none of the forms. (own)
unfoldable pub line_of : List ℕ → Option (Option Setting)
line_of line = if sets_nothing line then Some None else option_map (λ s. Some s) (setting_of line)
