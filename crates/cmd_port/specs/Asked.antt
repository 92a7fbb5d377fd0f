-- What the words after `port` ask for. All of this is own.
use Rattle.std.specs.Prelude.{ℕ, Bool, ◌+◌, ◌==◌, ◌||◌, ◌&&◌, nat_eq, nat_lt, List, [], ◌∷◌, length, take, drop, position, Option, Some, None, option_map, bytes_eq, codes, if◌then◌else◌}
use Rattle.std.specs.Char.{is_ascii_alphanumeric}
use Rattle.std.specs.List.{list_all, starts_with}
use Rattle.text_cut.specs.Cuts.{trimmed}
use Rattle.lint_text.specs.Parts.{part}
use Rattle.cmd_call.specs.Calls.{is_option}
use Rattle.port_calls.specs.declared.stated.Package.{Package as Given}
use Rattle.port_idioms.specs.declared.idioms.Idioms.{Idioms}
use Rattle.port_idioms.specs.declared.idioms.Idioms.TheVariants.{Exact, All}
use Rattle.cmd_port.specs.declared.asking.Request.{Request as Found}

-- ---- a name and a version

-- The name and the version of a package.
pub record Package : Type 0 where
  pub name : List ℕ
  pub version : List ℕ

-- The pure value of both.
abbrev pub package_of : Given → Package
package_of given = record { name = given.name.now; version = given.version.now }

-- A letter, a digit, a space, or one of `_ . - + ~`.
abbrev pub is_stated_byte : ℕ → Bool
is_stated_byte b = is_ascii_alphanumeric b || b == 32 || b == 95 || b == 46 || b == 45 || b == 43 || b == 126

-- A name or a version may be stated: it isn't empty, has such bytes alone, and has no blank around it.
abbrev pub is_stated : List ℕ → Bool
is_stated word = nat_lt 0 (length word) && list_all is_stated_byte word && bytes_eq (trimmed word) word

-- Both, if they may be stated.
abbrev pub both : List ℕ → List ℕ → Option Package
both name version = if is_stated name && is_stated version then Some (record { name = name; version = version }) else None

-- Both, on the two sides of the byte at this offset.
abbrev pub around_comma : List ℕ → Option ℕ → Option Package
around_comma value None = None
around_comma value (Some at) = both (take at value) (drop (at + 1) value)

-- What a value `NAME,VERSION` states. As neither has a comma, another value states nothing.
abbrev pub package_in : List ℕ → Option Package
package_in value = around_comma value (position (λ b. b == 44) value)

-- The option that states a name and a version.
abbrev pub is_package : List ℕ → Bool
is_package word = starts_with nat_eq word (codes "--package=")

-- What it states.
abbrev pub stated_by : List ℕ → Option Package
stated_by word = package_in (part word 10 (length word))

-- ---- a request

-- Which idioms are written, the name and the version that AC_INIT gets where it has none, if they are stated, and the name of the source.
pub record Request : Type 0 where
  pub idioms : Idioms
  pub naming : Option Package
  pub source : List ℕ

-- The pure value of what is asked for.
abbrev pub seen : Found → Request
seen found = record { idioms = found.idioms; naming = option_map package_of found.naming; source = found.source.now }

-- The option that asks for all idioms.
abbrev pub is_switch : List ℕ → Bool
is_switch word = bytes_eq word (codes "--idioms")

-- The source in the current directory.
abbrev pub here : Idioms → Request
here idioms = record { idioms = idioms; naming = None; source = codes "configure.ac" }

-- The source that a word names, unless the word is an option.
abbrev pub named : Idioms → List ℕ → Option Request
named idioms word = if is_option word then None else Some (record { idioms = idioms; naming = None; source = word })

abbrev pub by_one : List ℕ → Option Request
by_one word = if is_switch word then Some (here All) else named Exact word

abbrev pub by_two : List ℕ → List ℕ → Option Request
by_two first second = if is_switch first then named All second else (if is_switch second then named All first else None)

-- What words without a name and a version ask for: `--idioms` or not, and at most one source.
abbrev pub plain_of : List (List ℕ) → Option Request
plain_of [] = Some (here Exact)
plain_of (word ∷ []) = by_one word
plain_of (first ∷ second ∷ []) = by_two first second
plain_of (first ∷ second ∷ third ∷ more) = None

-- The same request with a name and a version, if all idioms are wanted.
abbrev pub packaged : Package → Request → Idioms → Option Request
packaged naming request Exact = None
packaged naming request All = Some (record { idioms = All; naming = Some naming; source = request.source })

-- Both are asked for.
abbrev pub with_stated : Option Package → Option Request → Option Request
with_stated None asked = None
with_stated (Some naming) None = None
with_stated (Some naming) (Some request) = packaged naming request request.idioms

-- What three words ask for, of which the last may state both.
abbrev pub by_three : List ℕ → List ℕ → List ℕ → Option Request
by_three first second third = if is_package third then with_stated (stated_by third) (by_two first second) else None

-- What two words ask for, and those after them.
abbrev pub after_two : List ℕ → List ℕ → List (List ℕ) → Option Request
after_two first second [] = by_two first second
after_two first second (third ∷ []) = by_three first second third
after_two first second (third ∷ fourth ∷ more) = None

-- What one word asks for, and those after it.
abbrev pub after_one : List ℕ → List (List ℕ) → Option Request
after_one first [] = by_one first
after_one first (second ∷ more) = if is_package second then with_stated (stated_by second) (plain_of (first ∷ more)) else after_two first second more

-- What these words ask for: `--idioms` or not, with it `--package=NAME,VERSION` or not, and at most one source, in any order. Other words
-- are wrong.
abbrev pub request_of : List (List ℕ) → Option Request
request_of [] = Some (here Exact)
request_of (first ∷ more) = if is_package first then with_stated (stated_by first) (plain_of more) else after_one first more
