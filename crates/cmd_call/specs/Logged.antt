-- The log that is written after a run.
use Rattle.std.specs.Prelude.{◌≡◌, ℕ, false, List, Option, IfSome, codes}
use Rattle.file_disk.specs.Known.{Known, Does}
use Rattle.file_texts.specs.Done.{IsDoneApart}
use Rattle.file_texts.specs.Held.{Held, AreUnguarded}
use Rattle.file_texts.specs.Lines.{AreLines}
use Rattle.file_texts.specs.Steps.{IsBegun, IsReplaced}

-- What a receiver of files has is so in files: its lines are those of the things that it took, none
-- of them has a guarded name, and, unless it is closed, what was done to files is what was done for
-- these things, each of which has a file of its own. (own)
pub record IsHeld {D : Type 0} (known : D → Option Known) (o : Held D) : Type 0 where
  pub lines : AreLines o.handed o.lines
  pub unguarded : AreUnguarded o.guards o.handed
  pub done : o.closed ≡ false → IfSome (known o.disk) (λ k. IsDoneApart k o.guards o.handed o.failures o.lines o.places)

-- If something is known of the files, a file of the name of the log got this text, and nothing else
-- was done. (own)
abbrev pub HasLogged : {D : Type 0} → (D → Option Known) → Held D → Held D → List ℕ → Type 0
HasLogged known old new log = Does (known old.disk) (known new.disk) (λ k deeds. IsReplaced k (codes "config.log") log deeds)

-- If something is known of the files, the log was not written: what was under its name may be gone, a
-- new file may have been begun there, and nothing else was done. (own)
abbrev pub HasNoLog : {D : Type 0} → (D → Option Known) → Held D → Held D → Type 0
HasNoLog known old new = Does (known old.disk) (known new.disk) (λ k deeds. IsBegun k (codes "config.log") deeds)
