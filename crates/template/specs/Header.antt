-- Header templates (Autoconf's manual, "Header Templates"). A header is made of its template line by line.
use Rattle.std.specs.Prelude.{◌≡◌, ℕ, ◌==◌, ◌&&◌, ◌||◌, ◌<◌, nat_eq, bytes_eq, Bool, true, false, List, [], ◌∷◌, ◌++◌, length, take, drop, flat_map, Option, Some, None, option_and_then, option_map, codes, if◌then◌else◌}
use Rattle.std.specs.List.{list_all, ends_with, prefix_len}
use Rattle.bstr.specs.Text.{lines_of}
pub use Rattle.text_cut.specs.Cuts.{is_space}
use Rattle.deftable.specs.ShellName.{is_shell_name_of, starts_name, continues_name}
use Rattle.deftable.specs.Table.{value_of}
use Rattle.template.specs.declared.header.Parts.{Parts}

-- What a line says about a name: the spaces and tabs before and after its `#`, whether the keyword is `undef`, and the
-- name. (Autoconf's manual, "Header Templates")
pub record Directive : Type 0 where
  pub indent : List ℕ
  pub gap : List ℕ
  pub is_undef : Bool
  pub name : List ℕ

-- What is before the keyword. (own)
abbrev pub before : Directive → List ℕ
before d = d.indent ++ 35 ∷ d.gap

-- `undef` or `define`. (Autoconf's manual, "Header Templates")
abbrev pub keyword : Bool → List ℕ
keyword true = codes "undef"
keyword false = codes "define"

-- Whether a name may end before this text: it is empty, or begins with a space, a tab, `(` or the line's newline. (own)
abbrev pub ends_name : List ℕ → Bool
ends_name [] = true
ends_name (b ∷ bs) = is_space b || b == 40 || b == 10

-- Whether the text begins with a byte that may begin a name. (own)
abbrev pub begins_name : List ℕ → Bool
begins_name [] = false
begins_name (b ∷ bs) = starts_name b

-- The line has this directive: spaces and tabs, `#`, spaces and tabs, the keyword, one or more spaces and tabs, the name, and then
-- what may come after a name. (Autoconf's manual, "Header Templates"; what may come after a name is own)
pub record IsDirective (line : List ℕ) (d : Directive) : Type 0 where
  pub space : List ℕ
  pub rest : List ℕ
  pub indent : list_all is_space d.indent ≡ true
  pub gap : list_all is_space d.gap ≡ true
  pub spaced : list_all is_space space ≡ true
  pub is_spaced : 0 < length space
  pub name : is_shell_name_of d.name ≡ true
  pub ends : ends_name rest ≡ true
  pub is_line : line ≡ d.indent ++ 35 ∷ (d.gap ++ (keyword d.is_undef ++ (space ++ (d.name ++ rest))))

-- The newline of a line, if it has one. (own)
unfoldable pub newline_of : List ℕ → List ℕ
newline_of line = if ends_with nat_eq line (codes "\n") then codes "\n" else []

-- The line that defines the name. (Autoconf's manual, "Header Templates")
abbrev pub defined_line : Directive → List ℕ → List ℕ
defined_line d value = before d ++ (codes "define " ++ (d.name ++ (codes " " ++ value)))

-- The comment that says that the name isn't defined. (Autoconf's manual, "Header Templates")
abbrev pub undefined_line : Directive → List ℕ
undefined_line d = codes "/* " ++ (before d ++ (codes "undef " ++ (d.name ++ codes " */")))

-- The second line is made of the first one. If its name is defined, it defines it with that value. If not, `undef` becomes a
-- comment. Any other line stays as it is. (Autoconf's manual, "Header Templates")
pub data IsMadeOf (defs : List (List ℕ × List ℕ)) (line : List ℕ) : List ℕ → Type 0 where
  defined : {d : Directive} {value : List ℕ} → IsDirective line d → value_of defs d.name ≡ Some value → IsMadeOf defs line (defined_line d value ++ newline_of line)
  undefined : {d : Directive} → IsDirective line d → d.is_undef ≡ true → value_of defs d.name ≡ None → IsMadeOf defs line (undefined_line d ++ newline_of line)
  kept : {d : Directive} → IsDirective line d → d.is_undef ≡ false → value_of defs d.name ≡ None → IsMadeOf defs line line
  other : ((d : Directive) → IsDirective line d → ⊥) → IsMadeOf defs line line

-- The second lines are made of the first ones, each of the one in its place. (Autoconf's manual, "Header Templates")
pub data AreMadeOf (defs : List (List ℕ × List ℕ)) : List (List ℕ) → List ℕ → Type 0 where
  no_line : AreMadeOf defs [] []
  one_line : {line made : List ℕ} {lines : List (List ℕ)} {more : List ℕ} → IsMadeOf defs line made → AreMadeOf defs lines more → AreMadeOf defs (line ∷ lines) (made ++ more)

-- ---- the same as a function

-- What a function gives for the value, or something else if there is none. (own)
abbrev pub either : {A B : Type 0} → Option A → (A → B) → B → B
either None f otherwise = otherwise
either (Some x) f otherwise = f x

-- The text after this front, or none if it doesn't begin with it. (own)
unfoldable pub rest_after : List ℕ → List ℕ → Option (List ℕ)
rest_after front text = if bytes_eq (take (length front) text) front then Some (drop (length front) text) else None

-- The spaces and tabs at the front, and the text after them. (own)
abbrev pub spaces_of : List ℕ → List ℕ
spaces_of text = take (prefix_len is_space text) text

abbrev pub after_spaces : List ℕ → List ℕ
after_spaces text = drop (prefix_len is_space text) text

-- The letters, digits and `_` at the front, and the text after them. (own)
abbrev pub word_of : List ℕ → List ℕ
word_of text = take (prefix_len continues_name text) text

abbrev pub after_word : List ℕ → List ℕ
after_word text = drop (prefix_len continues_name text) text

-- The name at the front, if there is one that may end there. (own)
unfoldable pub name_at : List ℕ → Option (List ℕ)
name_at text = if is_shell_name_of (word_of text) && ends_name (after_word text) then Some (word_of text) else None

-- The name after one or more spaces and tabs. (own)
unfoldable pub name_after : List ℕ → Option (List ℕ)
name_after text = if prefix_len is_space text == 0 then None else name_at (after_spaces text)

-- Whether the keyword was `undef`, and the name after it. (own)
abbrev pub with_keyword : Bool → Option (List ℕ) → Option (Bool × List ℕ)
with_keyword is_undef name = option_map (λ n. (is_undef, n)) name

-- Whether the keyword at the front is `undef`, and the name after it. (own)
unfoldable pub keyword_at : List ℕ → Option (Bool × List ℕ)
keyword_at text =
    either (rest_after (keyword true) text) (λ rest. with_keyword true (name_after rest))
    (with_keyword false (option_and_then name_after (rest_after (keyword false) text)))

-- The directive of the text after a `#`, which is after this indent. (own)
unfoldable pub directive_after : List ℕ → List ℕ → Option Directive
directive_after indent text =
    option_map (λ k. record { indent = indent; gap = spaces_of text; is_undef = k.0; name = k.1 }) (keyword_at (after_spaces text))

-- The directive of a line, if it has one. (own)
unfoldable pub directive_of : List ℕ → Option Directive
directive_of line = option_and_then (directive_after (spaces_of line)) (rest_after (codes "#") (after_spaces line))

-- The directive with these parts. (own)
abbrev pub directive : Parts → Directive
directive p = record { indent = p.indent.now; gap = p.gap.now; is_undef = p.is_undef; name = p.name.now }

-- The line of a name that isn't defined. (own)
abbrev pub without_definition : Directive → List ℕ → List ℕ
without_definition d line = if d.is_undef then undefined_line d ++ newline_of line else line

-- The line that is made of one with this directive. (own)
abbrev pub changed : List (List ℕ × List ℕ) → List ℕ → Directive → List ℕ
changed defs line d = either (value_of defs d.name) (λ value. defined_line d value ++ newline_of line) (without_definition d line)

-- The line that is made of a line. (own)
unfoldable pub headed_line : List (List ℕ × List ℕ) → List ℕ → List ℕ
headed_line defs line = either (directive_of line) (changed defs line) line

-- The header that is made of a template. (own)
abbrev pub headed : List (List ℕ × List ℕ) → List ℕ → List ℕ
headed defs text = flat_map (headed_line defs) (lines_of text)
