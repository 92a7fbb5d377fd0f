-- The places of an idiom. A place is `$`, a digit from 1 to 9 or `@`, the sign of a form, and a word in braces. The digit counts
-- arguments, and `@` is all of them.
use Rattle.std.specs.Prelude.{ℕ, ◌-◌, ◌==◌, ◌&&◌, nat_le, List, [], ◌∷◌, Option, Some, None, codes, if◌then◌else◌}
use Rattle.std.specs.Str.{bytes_eq}
use Rattle.lint_macros.specs.Around.{around}
use Rattle.lint_macros.specs.declared.place.Form.{Form}
use Rattle.lint_macros.specs.declared.place.Form.TheVariants.{AsItIs, Whole, OneWord, WholeWord, ShellName, Symbol, Front, Rest}
use Rattle.lint_macros.specs.declared.place.HoleSource.{HoleSource}
use Rattle.lint_macros.specs.declared.place.HoleSource.TheVariants.{Argument, All}
use Rattle.lint_macros.specs.declared.place.Hole.{Hole as Cut}

-- A place, and the text after it. (own)
pub record Hole : Type 0 where
  pub source : HoleSource
  pub form : Form
  pub word : List ℕ
  pub rest : List ℕ

-- The place as texts. (own)
abbrev pub seen : Cut → Hole
seen p = record { source = p.source; form = p.form; word = p.word.now; rest = p.rest.now }

-- What a digit or an `@` takes: the index of an argument, counted from 0, or all arguments. (own)
abbrev pub source_of : ℕ → Option HoleSource
source_of b = if b == 64 then Some All else (if nat_le 49 b && nat_le b 57 then Some (Argument (b - 49)) else None)

-- The form that a sign asks for; no sign asks for the argument as it is. (own)
abbrev pub form_of : List ℕ → Option Form
form_of s =
    if bytes_eq s (codes "") then Some AsItIs
    else (if bytes_eq s (codes "+") then Some Whole
    else (if bytes_eq s (codes "!") then Some OneWord
    else (if bytes_eq s (codes "=") then Some WholeWord
    else (if bytes_eq s (codes "_") then Some ShellName
    else (if bytes_eq s (codes "^") then Some Symbol
    else (if bytes_eq s (codes "<") then Some Front
    else (if bytes_eq s (codes ">") then Some Rest else None)))))))

-- A place with what it takes, its form, and around a brace its word and the rest. (own)
abbrev pub place_with : HoleSource → Option Form → Option (List ℕ × List ℕ) → Option Hole
place_with source (Some form) (Some (word, rest)) = Some (record { source = source; form = form; word = word; rest = rest })
place_with source (Some form) None = None
place_with source None rest = None

-- A place with what it takes, and around a brace the sign of its form and the text after it. (own)
abbrev pub place_from : Option HoleSource → Option (List ℕ × List ℕ) → Option Hole
place_from (Some source) (Some (sign, more)) = place_with source (form_of sign) (around 125 more)
place_from (Some source) None = None
place_from None more = None

-- The place that a text after a `$` begins with. (own)
abbrev pub hole_of : List ℕ → Option Hole
hole_of [] = None
hole_of (b ∷ more) = place_from (source_of b) (around 123 more)
