-- Why the outputs of a record are not made again, and the lines that say so.
use Rattle.std.specs.Prelude.{◌≡◌, ℕ, ◌≤◌, Bool, true, List, [], ◌∷◌, Option, Some, None, Result, Ok, Err, length, codes}
use Rattle.cmd_call.specs.Lines.{error_line}
use Rattle.cmd_call.specs.Supplies.{GivenAgain, ReadsWhole}
use Rattle.engine_frame.specs.Remade.{remade}
use Rattle.engine_frame.specs.declared.fault.RemakeFault.{RemakeFault}
use Rattle.engine_frame.specs.declared.fault.RemakeFault.TheVariants.{OutOfMemory, PutRefused}
use Rattle.fault_spots.specs.FaultLines.{remake_line}
use Rattle.file_disk.specs.Known.{Known}
use Rattle.output_put.specs.declared.artifact.Artifact.{Artifact}
use Rattle.status_record.specs.Reading.{record_in}

-- The fault of outputs that are to be these: the first fault of what they are made of, or that memory ran out, or that one of them was
-- refused. (own)
pub data HasFault (wanted : Result (List Artifact) RemakeFault) : RemakeFault → Type 0 where
  first : {f : RemakeFault} → wanted ≡ Err f → HasFault wanted f
  no_memory : HasFault wanted OutOfMemory
  put : (k : ℕ) (made : List Artifact) → wanted ≡ Ok made → k ≤ length made → HasFault wanted (PutRefused k)

-- The outputs with these names have this fault, by the record, which is the text of config.status, and its templates, as they are in
-- files. (own)
pub record IsUnmade (files : Option Known) (tags : List (List ℕ)) (f : RemakeFault) : Type 0 where
  pub text : List ℕ
  pub templates : List (List ℕ × List ℕ)
  pub found : ReadsWhole files (codes "config.status") (Some text)
  pub given : GivenAgain files (record_in text) templates
  pub faulty : HasFault (remade text templates tags) f

-- The lines that say why not all was done: config.status can't be read, memory ran out, the outputs have a fault, or standard output
-- has failed, so that it doesn't take their lines. (own)
pub data SaysUnmade (files : Option Known) (tags : List (List ℕ)) (is_full : Bool) : List (List ℕ) → Type 0 where
  unread : ReadsWhole files (codes "config.status") None → SaysUnmade files tags is_full (error_line (codes "file") (codes "config.status") ∷ [])
  memory : SaysUnmade files tags is_full (error_line (codes "memory") [] ∷ [])
  unmade : (f : RemakeFault) → IsUnmade files tags f → SaysUnmade files tags is_full (remake_line f ∷ [])
  unprinted : is_full ≡ true → SaysUnmade files tags is_full (error_line (codes "file") (codes "standard output") ∷ [])
  neither : (f : RemakeFault) → is_full ≡ true → IsUnmade files tags f
      → SaysUnmade files tags is_full (error_line (codes "file") (codes "standard output") ∷ remake_line f ∷ [])
