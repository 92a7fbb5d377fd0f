-- The table, and the entry that it has for a macro. The table is a text of records, with a `~` between them. A record is the
-- name of a kind, a blank, names of macros with a blank between them, a newline, and a text.
use Rattle.std.specs.Prelude.{ℕ, ◌==◌, Bool, List, [], ◌∷◌, Option, Some, None, codes, if◌then◌else◌}
use Rattle.std.specs.List.{starts_with}
use Rattle.std.specs.Str.{bytes_eq}
use Rattle.text_cut.specs.Cuts.{parts}
use Rattle.lint_macros.specs.Around.{around}
use Rattle.lint_macros.specs.declared.entry.MacroKind.{MacroKind}
use Rattle.lint_macros.specs.declared.entry.MacroKind.TheVariants.{Idiom, Dropped, Missing, Family}
use Rattle.lint_macros.specs.declared.entry.MacroEntry.{MacroEntry}
use Rattle.lint_macros.specs.declared.entry.Record.{Record}

-- What an entry says, as texts. (own)
pub record Said : Type 0 where
  pub name : List ℕ
  pub kind : MacroKind
  pub text : List ℕ

-- What this entry says. (own)
abbrev pub said : MacroEntry → Said
said e = record { name = e.name.now; kind = e.kind; text = e.text.now }

-- The kind of this name. (own)
abbrev pub kind_named : List ℕ → Option MacroKind
kind_named w =
    if bytes_eq w (codes "idiom") then Some Idiom
    else (if bytes_eq w (codes "drop") then Some Dropped
    else (if bytes_eq w (codes "none") then Some Missing
    else (if bytes_eq w (codes "family") then Some Family else None)))

-- A record: its kind, its names with a blank between them, and its text. (own)
pub record Read : Type 0 where
  pub kind : MacroKind
  pub names : List ℕ
  pub text : List ℕ

-- What this record has. (own)
abbrev pub read : Record → Read
read r = record { kind = r.kind; names = r.names.now; text = r.text.now }

-- The record of this kind, and after it names, a newline and a text. (own)
abbrev pub read_with : Option MacroKind → Option (List ℕ × List ℕ) → Option Read
read_with (Some kind) (Some (names, text)) = Some (record { kind = kind; names = names; text = text })
read_with (Some kind) None = None
read_with None rest = None

-- The record that has these texts around its first blank. (own)
abbrev pub read_around : Option (List ℕ × List ℕ) → Option Read
read_around (Some (word, rest)) = read_with (kind_named word) (around 10 rest)
read_around None = None

-- A text as a record; nothing if it isn't of that form. (own)
abbrev pub read_in : List ℕ → Option Read
read_in r = read_around (around 32 r)

-- An entry of this kind and name is about macros of the other name: it has the name, or for a family the name begins so. (own)
abbrev pub names : MacroKind → List ℕ → List ℕ → Bool
names Family known name = starts_with (λ a b. a == b) name known
names Idiom known name = bytes_eq known name
names Dropped known name = bytes_eq known name
names Missing known name = bytes_eq known name

-- The entry is about macros of this name. (own)
abbrev pub is_about : List ℕ → Said → Bool
is_about name e = names e.kind e.name name

-- The first of the known names that is about macros of this name. (own)
abbrev pub first_name : MacroKind → List ℕ → List (List ℕ) → Option (List ℕ)
first_name kind name [] = None
first_name kind name (known ∷ more) = if names kind known name then Some known else first_name kind name more

-- What a record says with one of its names. (own)
abbrev pub said_with : Read → Option (List ℕ) → Option Said
said_with r (Some known) = Some (record { name = known; kind = r.kind; text = r.text })
said_with r None = None

-- What a record says of macros of this name. (own)
abbrev pub said_of : List ℕ → Option Read → Option Said
said_of name (Some r) = said_with r (first_name r.kind name (parts 32 r.names))
said_of name None = None

-- What the text of a record says of macros of this name. (own)
abbrev pub said_about : List ℕ → List ℕ → Option Said
said_about name r = said_of name (read_in r)

-- The first of them that is there. (own)
abbrev pub or_later : Option Said → Option Said → Option Said
or_later (Some e) later = Some e
or_later None later = later

-- What the first record says that is about macros of this name. (own)
abbrev pub first_about : List ℕ → List (List ℕ) → Option Said
first_about name [] = None
first_about name (r ∷ more) = or_later (said_about name r) (first_about name more)

-- The entry of a name: what the first record of the table says that is about macros of this name. (own)
unfoldable pub entry_of : List ℕ → List ℕ → Option Said
entry_of name table = first_about name (parts 126 table)
