-- Options of features and packages that the source doesn't declare. (Autoconf's manual, "Controlling Checking of
-- configure Options")
use Rattle.std.specs.Prelude.{ℕ, List, [], ◌∷◌, ◌++◌, Result, Ok, Err, codes, if◌then◌else◌}
use Rattle.std.specs.List.{flat_map}
use Rattle.std.specs.Str.{bytes_eq}
use Rattle.deftable.specs.declared.note.Note.{Note}
use Rattle.deftable.specs.declared.note.Stream.TheVariants as stream
use Rattle.options_line.specs.declared.fault.OptionFault.{OptionFault}
use Rattle.options_line.specs.declared.fault.OptionFault.TheVariants.{FatalUnrecognized}

-- An option after a comma and a space. (own)
unfoldable pub after_comma : ℕ × List ℕ → List ℕ
after_comma option = codes ", " ++ option.1

-- The options, each with the number of its argument, separated by a comma and a space. (own)
unfoldable pub listed : List (ℕ × List ℕ) → List ℕ
listed [] = []
listed (first ∷ more) = first.1 ++ flat_map after_comma more

-- The warning about the options. (Autoconf's manual, "Controlling Checking of configure Options")
unfoldable pub warning : List (ℕ × List ℕ) → Note
warning unrecognized = record {
  stream = stream.Err;
  text = codes "configure: WARNING: unrecognized options: " ++ listed unrecognized ++ codes "\n";
}

-- The notes about the options, by the value of `enable_option_checking`, which is empty if it isn't set: none if there
-- is no such option or the value is `no`, an error at the first if it is `fatal`, and otherwise one warning.
-- (Autoconf's manual, "Controlling Checking of configure Options")
unfoldable pub notes_of : List ℕ → List (ℕ × List ℕ) → Result (List Note) OptionFault
notes_of checking [] = Ok []
notes_of checking (first ∷ more) =
    if bytes_eq checking (codes "no") then Ok []
    else (if bytes_eq checking (codes "fatal") then Err (FatalUnrecognized first.0)
    else Ok (warning (first ∷ more) ∷ []))
