-- What the program does if it is asked to make the outputs of a record again.
use Rattle.std.specs.Prelude.{◌≡◌, ℕ, List, ◌∷◌, Option, Some, Result, Ok, Err, IfSome, codes}
use Rattle.cmd_status.specs.Left.{AreSameFiles}
use Rattle.file_disk.specs.Known.{Known}
use Rattle.file_texts.specs.Done.{IsDoneApart}
use Rattle.file_texts.specs.Held.{AreUnguarded}
use Rattle.file_texts.specs.Lines.{AreLines}
use Rattle.file_texts.specs.declared.places.Guard.{Guard}
use Rattle.file_texts.specs.declared.places.FilePlace.{FilePlace}
use Rattle.engine_frame.specs.Remade.{remade}
use Rattle.cmd_call.specs.Guarded.{AreGuarded, inputs_of}
use Rattle.cmd_call.specs.Supplies.{ReadsWhole, GivenAgain}
use Rattle.output_put.specs.declared.artifact.Artifact.{Artifact}
use Rattle.status_record.specs.Reading.{record_in}
use Rattle.status_record.specs.declared.fault.RecordFault.{RecordFault}
use Rattle.status_record.specs.declared.record.Record.{Record}

-- The record is that of the text of config.status. (own)
pub record IsRecordFound (files : Option Known) (recorded : Record) : Type 0 where
  pub text : List ℕ
  pub found : ReadsWhole files (codes "config.status") (Some text)
  pub is : record_in text ≡ Ok recorded

-- The names of a record, and of what its outputs are made of, are guarded. If the text is no record,
-- nothing is said. (own)
abbrev pub GuardsAgain : Option Known → List Guard → Result Record RecordFault → List (List ℕ × List ℕ) → Type 0
GuardsAgain files guards (Ok r) templates = AreGuarded files guards (codes "config.status" ∷ inputs_of r.srcdir templates)
GuardsAgain files guards (Err f) templates = Unit {0}

-- The outputs with these names are made of the record, which is the text of config.status, and of
-- its templates, as they are in files; this is printed on standard output; and nothing else is done
-- to files. The record, its templates, the source and the log are guarded: no output has one of
-- their names, and none is written at one of their places. (own)
pub record IsMadeAgain (old new : Option Known) (tags : List (List ℕ)) (out : List ℕ) : Type 0 where
  pub text : List ℕ
  pub templates : List (List ℕ × List ℕ)
  pub made : List Artifact
  pub found : ReadsWhole old (codes "config.status") (Some text)
  pub given : GivenAgain old (record_in text) templates
  pub remakes : remade text templates tags ≡ Ok made
  pub lines : AreLines made out
  pub guards : List Guard
  pub guarded : GuardsAgain old guards (record_in text) templates
  pub unguarded : AreUnguarded guards made
  pub same : AreSameFiles old new
  pub places : List FilePlace
  pub written : IfSome new (λ k. IsDoneApart k guards made 0 out places)
