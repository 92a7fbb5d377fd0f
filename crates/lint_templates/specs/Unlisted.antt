-- The warnings about definitions that no template of a header lists. All of this is own.
use Rattle.std.specs.Prelude.{◌≡◌, ℕ, ◌+◌, ◌++◌, ◌==◌, ◌&&◌, nat_eq, nat_le, not, Bool, List, [], ◌∷◌, length, flat_map, Option, Some, None, codes, if◌then◌else◌}
use Rattle.std.specs.List.{starts_with}
use Rattle.memchr.specs.Find.{first_of, matches}
use Rattle.deftable.specs.NameList.{has_name}
use Rattle.lint_findings.specs.Warned.{warning_of}
use Rattle.lint_findings.specs.declared.finding.Finding.{Finding}
use Rattle.lint_findings.specs.declared.finding.Span.{Span}
use Rattle.lint_table.specs.Keys.{name_of, message_of, help_of}
use Rattle.lint_table.specs.declared.key.Key.{Key}
use Rattle.lint_templates.specs.Listed.{with_listed}
use Rattle.lint_templates.specs.Names.{with_all}

-- The name, if these names don't have it.
abbrev pub one_unlisted : List (List ℕ) → List ℕ → List (List ℕ)
one_unlisted listed name = if has_name listed name then [] else name ∷ []

-- The definitions that a template doesn't list.
unfoldable pub unlisted : List (List ℕ) → List ℕ → List (List ℕ)
unlisted defined text = with_all [] (flat_map (one_unlisted (with_listed [] text)) defined)

-- Whether a definition goes nowhere: these names don't have it, and it is none of AC_INIT.
abbrev pub is_lost : List (List ℕ) → List ℕ → Bool
is_lost listed name = not (has_name listed name) && not (starts_with nat_eq name (codes "PACKAGE_"))

-- The offset at which a text has another one first, if it has it.
abbrev pub first_place : List ℕ → List ℕ → Option ℕ
first_place text sought = first_of (matches text sought 0)

-- The part of the source that begins there and is as long as a text, or its start if there is no such place.
abbrev pub span_at : Option ℕ → List ℕ → Span
span_at None sought = record { file = 0; start = 0; end = 0 }
span_at (Some start) sought = record { file = 0; start = start; end = start + length sought }

-- The macro that names headers.
abbrev pub headers_macro : List ℕ
headers_macro = codes "AC_CONFIG_HEADERS"

-- Where a source makes a definition, if it has its name at this place: there, or else where it names its headers.
abbrev pub span_by : List ℕ → List ℕ → Option ℕ → Span
span_by source name (Some start) = span_at (Some start) name
span_by source name None = span_at (first_place source headers_macro) headers_macro

-- Where a source makes a definition.
abbrev pub span_of_definition : List ℕ → List ℕ → Span
span_of_definition source name = span_by source name (first_place source name)

-- A byte of words with one place, 1, for this text. The places 2 and 3 are empty.
abbrev pub placed : List ℕ → ℕ → List ℕ
placed text b = if nat_le 1 b && nat_le b 3 then (if nat_le b 1 then text else []) else b ∷ []

-- Words with this text in their place.
abbrev pub filled : List ℕ → List ℕ → List ℕ
filled text words = flat_map (placed text) words

-- The warning that a definition goes nowhere, in the words of a key.
abbrev pub lost_definition : Key → List ℕ → List ℕ → Finding
lost_definition key source name = warning_of source (span_of_definition source name) (name_of key) (filled name (message_of key)) (filled name (help_of key))

-- The warning about a definition, if it goes nowhere.
abbrev pub one_lost : Key → List (List ℕ) → List ℕ → List ℕ → List Finding
one_lost key listed source name = if is_lost listed name then lost_definition key source name ∷ [] else []

-- The warnings about those of these definitions that go nowhere, in order.
abbrev pub lost_definitions : Key → List (List ℕ) → List ℕ → List (List ℕ) → List Finding
lost_definitions key listed source defined = flat_map (one_lost key listed source) defined

-- The findings got the warnings about those definitions that go nowhere, in the words of this code.
pub record AreLost (defined listed : List (List ℕ)) (source : List ℕ) (old new : List Finding) : Type 0 where
  pub key : Key
  pub code : name_of key ≡ codes "not-in-header"
  pub added : new ≡ old ++ lost_definitions key listed source defined
