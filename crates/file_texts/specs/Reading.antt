-- What is read under a name.
use Rattle.std.specs.Prelude.{◌≡◌, ℕ, ◌^◌, nat_le, List, length, Option, Some, None, option_map, if◌then◌else◌}
use Rattle.file_disk.specs.Known.{Known, text_under, limited}
use Rattle.file_texts.specs.Names.{IsFileName}

-- A text, unless it has more than 64 MiB. (own)
abbrev pub whole : Option (List ℕ) → Option (List ℕ)
whole None = None
whole (Some text) = if nat_le (length text) (2 ^ 26) then Some text else None

-- This is read under a name, if this is there. Nothing is read under a name that no file can have.
-- (own)
pub record IsRead (name : List ℕ) (there read : Option (List ℕ)) : Type 0 where
  pub named : IsFileName name → read ≡ there
  pub unnamed : (IsFileName name → ⊥) → read ≡ None

-- Of the text under a name, this was read: the text, or its first 64 MiB and one byte more. (own)
abbrev pub IsReadLimited : Known → List ℕ → Option (List ℕ) → Type 0
IsReadLimited k name read = IsRead name (option_map limited (text_under k name)) read

-- Of the text under a name, this was read: the text, unless it has more than 64 MiB. (own)
abbrev pub IsReadWhole : Known → List ℕ → Option (List ℕ) → Type 0
IsReadWhole k name read = IsRead name (whole (text_under k name)) read
