-- The table with its names in a hash.
use Rattle.std.specs.Prelude.{ℕ, Bool, true, false, List, Option, Some, None, option_map}
use Rattle.std.specs.Prelude.{bytes_eq, if◌then◌else◌}
use Rattle.std.specs.Global.{Vec}
use Rattle.std.specs.Map.{lookup}
use Rattle.lint_macros.specs.declared.entry.MacroKind.{MacroKind}
use Rattle.lint_macros.specs.declared.entry.MacroKind.TheVariants.{Idiom, Dropped, Missing, Family}
use Rattle.lint_macros.specs.declared.entry.MacroEntry.{MacroEntry}
use Rattle.lint_macros.specs.Entries.{Said, said, Read, or_later, first_about}

-- What these entries say of a name. (own)
abbrev pub said_by : List (Vec ℕ × MacroEntry) → List ℕ → Option Said
said_by es name = option_map said (lookup (λ k. bytes_eq name k.items) es)

-- The kind is of single macros, and not of a family. (own)
abbrev pub is_single : MacroKind → Bool
is_single Family = false
is_single Idiom = true
is_single Dropped = true
is_single Missing = true

-- A text that is no record of a family. (own)
abbrev pub has_singles : Option Read → Bool
has_singles (Some r) = is_single r.kind
has_singles None = true

-- What the entries say of a name, or else these records. (own)
abbrev pub said_first : List (Vec ℕ × MacroEntry) → List (List ℕ) → List ℕ → Option Said
said_first es rows name = or_later (said_by es name) (first_about name rows)

-- What a record says of a name that is exactly this one of its names. (own)
abbrev pub said_exactly : Read → List ℕ → List ℕ → Option Said
said_exactly r known name =
    if bytes_eq known name then Some (record { name = known; kind = r.kind; text = r.text }) else None
