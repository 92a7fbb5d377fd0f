-- What is read of a text that is no record.
use Rattle.std.proofs.Common.{◌≡◌, ℕ, List, None, Result, Ok, Err, refl, sym}
use Rattle.status_record.specs.declared.fault.RecordFault.{RecordFault}
use Rattle.status_record.specs.declared.fault.RecordFault.TheVariants.{OutOfMemory}
use Rattle.status_record.specs.declared.record.Record.{Record}
use Rattle.status_record.specs.Reading.{Gives}
use Rattle.cmd_why.specs.Quoting.{kept_in}

pub nothing_kept : (fault : RecordFault) (read : Result Record RecordFault) → (fault ≡ OutOfMemory → ⊥) → Gives (λ r. r) (Err fault) read → None ≡ kept_in read
nothing_kept OutOfMemory read not_memory gives = absurd (not_memory refl)
nothing_kept fault read not_memory gives = rw gives refl
