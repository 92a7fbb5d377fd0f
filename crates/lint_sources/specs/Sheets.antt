-- Files with findings: the source and its templates. All of this is own.
use Rattle.std.specs.Prelude.{ℕ, zero, suc, ◌+◌, ◌-◌, ◌^◌, min, List, ◌++◌, length, Option, Some, None, slice_get}
use Rattle.lint_sources.specs.declared.sheets.Sheet.{Sheet}
use Rattle.lint_sources.specs.declared.sheets.Sheets.{Sheets}

-- The place of the template of a number, counted from 1.
abbrev pub place_at : List ℕ → ℕ → Option ℕ
place_at places zero = None
place_at places (suc n) = slice_get places n

-- The template at a place, if there is one.
abbrev pub read_at : List Sheet → Option ℕ → Option Sheet
read_at read None = None
read_at read (Some place) = slice_get read place

-- The places of templates: those of files, and then those of headers.
abbrev pub places_in : Sheets → List ℕ
places_in sheets = sheets.files.items ++ sheets.headers.items

-- How many templates there are, as far as numbers of the machine go.
abbrev pub count_of : Sheets → ℕ
count_of sheets = min (length sheets.files.items + length sheets.headers.items) (2 ^ 64 - 1)

-- The template of a number. The source has the number 0, and is no template.
abbrev pub sheet_at : Sheets → ℕ → Option Sheet
sheet_at sheets number = read_at sheets.read.items (place_at (places_in sheets) number)

-- What a file is called, by its template, or else by the source's name.
abbrev pub name_or : List ℕ → Option Sheet → List ℕ
name_or source None = source
name_or source (Some sheet) = sheet.name

-- The text of a file, by its template, or else the source's.
abbrev pub text_or : List ℕ → Option Sheet → List ℕ
text_or source None = source
text_or source (Some sheet) = sheet.text
