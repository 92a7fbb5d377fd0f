-- The warnings about definitions that no template of a header lists. All of this is own.
use Rattle.std.specs.Prelude.{◌≡◌, ℕ, Bool, true, false, List, length, Option, Some, None, codes, if◌then◌else◌}
use Rattle.lint_findings.specs.declared.finding.Finding.{Finding}
use Rattle.lint_sources.specs.Names.{Lists, AreListedTo}
use Rattle.lint_sources.specs.Sheets.{count_of}
use Rattle.lint_sources.specs.declared.sheets.Sheets.{Sheets}
use Rattle.lint_templates.specs.Listed.{with_listed}
use Rattle.lint_templates.specs.Unlisted.{AreLost, first_place}

-- What names become after those that a template lists.
abbrev pub listing : Lists
listing names text = Some (with_listed names text)

-- What a source has above the lines that `port` writes for the default headers.
unfoldable pub comment : List ℕ
comment = codes "dnl acrun: in place of AC_INCLUDES_DEFAULT"

-- The definitions that these lines make, as a template lists them.
unfoldable pub written : List ℕ
written = codes "#undef HAVE_STDIO_H\n#undef HAVE_STDLIB_H\n#undef HAVE_STRING_H\n#undef HAVE_STRINGS_H\n#undef HAVE_INTTYPES_H\n#undef HAVE_STDINT_H\n#undef HAVE_SYS_STAT_H\n#undef HAVE_SYS_TYPES_H\n#undef HAVE_UNISTD_H\n#undef STDC_HEADERS\n"

-- There is such a place.
abbrev pub is_place : Option ℕ → Bool
is_place None = false
is_place (Some at) = true

-- The names that are listed, and those of the lines that `port` wrote, if it wrote them.
abbrev pub with_written : List ℕ → List (List ℕ) → List (List ℕ)
with_written source listed = if is_place (first_place source comment) then with_listed listed written else listed

-- The findings of a source with these definitions got the warnings about those that no template of a header lists, and that no
-- line of `port` makes. Without such a template they stay as they were.
pub data AreUnlisted (defined : List (List ℕ)) (text : List ℕ) (sheets : Sheets) (old : List Finding) : List Finding → Type 0 where
  no_header : count_of sheets ≡ length sheets.files.items → AreUnlisted defined text sheets old old
  headers : {new : List Finding} (listed : List (List ℕ)) → AreListedTo listing sheets (length sheets.files.items) (count_of sheets) listed → AreLost defined (with_written text listed) text old new → AreUnlisted defined text sheets old new
