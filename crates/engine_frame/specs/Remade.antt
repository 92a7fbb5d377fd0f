-- Outputs that are made again from a record.
use Rattle.std.specs.Prelude.{◌≡◌, ℕ, ◌+◌, List, length, Option, Some, None, Result, Ok, Err}
use Rattle.output_make.specs.Choice.{missing}
pub use Rattle.output_make.specs.Choice.{unknown, is_chosen, chosen}
unfoldable pub use Rattle.output_make.specs.Making.{made, made_file, made_header}
use Rattle.output_list.specs.declared.output.Output.{Output}
use Rattle.output_put.specs.Receipt.{Receipt, with_artifacts, IsCutAt}
use Rattle.output_put.specs.declared.artifact.Artifact.{Artifact}
use Rattle.status_record.specs.Reading.{record_in}
use Rattle.status_record.specs.declared.record.Record.{Record}
use Rattle.engine_frame.specs.Faults.{of_record, named, ◌>>=◌}
use Rattle.engine_frame.specs.declared.fault.RemakeFault.{RemakeFault}
use Rattle.engine_frame.specs.declared.fault.RemakeFault.TheVariants.{UnknownTag, NoTemplate, PutRefused, OutOfMemory}

-- A tag is the name of no output: its number, from 1. (own)
abbrev pub none_unknown : Option ℕ → Result (Unit {0}) RemakeFault
none_unknown None = Ok tt
none_unknown (Some place) = Err (UnknownTag (place + 1))

-- The template of an output isn't there. (own)
abbrev pub none_missing : Option Output → Result (Unit {0}) RemakeFault
none_missing None = Ok tt
none_missing (Some output) = Err (NoTemplate output.template)

-- The templates of the files and headers of a record that these tags choose are there. (own)
unfoldable pub present : Record → List (List ℕ × List ℕ) → List (List ℕ) → Result (Unit {0}) RemakeFault
present r templates tags = none_missing (missing templates r.files tags) >>= λ _. none_missing (missing templates r.headers tags)

-- What a record gives with these templates, if these tags are chosen, or the first fault. (Autoconf's manual,
-- "config.status Invocation")
unfoldable pub made_again : Record → List (List ℕ × List ℕ) → List (List ℕ) → Result (List Artifact) RemakeFault
made_again r templates tags = do
  _ ← none_unknown (unknown r tags)
  _ ← present r templates tags
  Ok (made r templates tags)

-- The same of the text of a record. (Autoconf's manual, "config.status Invocation")
unfoldable pub remade : List ℕ → List (List ℕ × List ℕ) → List (List ℕ) → Result (List Artifact) RemakeFault
remade text templates tags = named of_record (record_in text) >>= λ r. made_again r templates tags

-- What is returned: a fault, and nothing is handed over; or everything is handed over; or a put was refused. (own)
pub data IsRemade (wanted : Result (List Artifact) RemakeFault) (same : Type 0) (old new : Receipt) : Result ℕ RemakeFault → Type 0 where
  refused : {f : RemakeFault} → wanted ≡ Err f → same → IsRemade wanted same old new (Err f)
  memory : same → IsRemade wanted same old new (Err OutOfMemory)
  all : {artifacts : List Artifact} → wanted ≡ Ok artifacts → new ≡ with_artifacts old artifacts → IsRemade wanted same old new (Ok (length artifacts))
  cut : {artifacts : List Artifact} {k : ℕ} → wanted ≡ Ok artifacts → IsCutAt artifacts old new k → IsRemade wanted same old new (Err (PutRefused k))

-- All of these artifacts were handed over, or put number k was refused. (own)
abbrev pub IsPut : List Artifact → Receipt → Receipt → Result ℕ RemakeFault → Type 0
IsPut artifacts old new (Ok n) = (n ≡ length artifacts) × (new ≡ with_artifacts old artifacts)
IsPut artifacts old new (Err f) = (k : ℕ) × (f ≡ PutRefused k) × IsCutAt artifacts old new k
