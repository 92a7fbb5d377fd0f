-- What is left of outputs that were to be made again, if not all was done.
use Rattle.std.specs.Prelude.{◌≡◌, ◌≤◌, ℕ, Bool, List, Option, Some, Ok, IfSome, codes, take}
use Rattle.cmd_status.specs.Left.{AreSameFiles}
use Rattle.cmd_status.specs.MadeAgain.{GuardsAgain}
use Rattle.file_disk.specs.Known.{Known}
use Rattle.file_texts.specs.Done.{IsDoneApart}
use Rattle.file_texts.specs.Held.{AreUnguarded}
use Rattle.file_texts.specs.Lines.{AreLines}
use Rattle.file_texts.specs.declared.places.Guard.{Guard}
use Rattle.file_texts.specs.declared.places.FilePlace.{FilePlace}
use Rattle.engine_frame.specs.Remade.{remade}
use Rattle.cmd_call.specs.Lines.{IsBegun}
use Rattle.cmd_call.specs.Supplies.{ReadsWhole, GivenAgain}
use Rattle.output_put.specs.declared.artifact.Artifact.{Artifact}
use Rattle.status_record.specs.Reading.{record_in}

-- The first of the outputs with these names, or all, are made of the record, which is the text of config.status, and of its templates,
-- as they are in files; at most one was refused; these are the lines on what was made; and nothing else is done to files. The same is
-- guarded as if all were made. (own)
pub record IsMadeInPart (old new : Option Known) (tags : List (List ℕ)) (out : List ℕ) : Type 0 where
  pub text : List ℕ
  pub templates : List (List ℕ × List ℕ)
  pub wanted : List Artifact
  pub count : ℕ
  pub found : ReadsWhole old (codes "config.status") (Some text)
  pub given : GivenAgain old (record_in text) templates
  pub remakes : remade text templates tags ≡ Ok wanted
  pub guards : List Guard
  pub guarded : GuardsAgain old guards (record_in text) templates
  pub unguarded : AreUnguarded guards (take count wanted)
  pub same : AreSameFiles old new
  pub refusals : ℕ
  pub once : refusals ≤ 1
  pub lines : AreLines (take count wanted) out
  pub places : List FilePlace
  pub written : IfSome new (λ k. IsDoneApart k guards (take count wanted) refusals out places)

-- Nothing is done to files, and this is so of standard output; or outputs are made up to one that was refused, or all of them are, and
-- this is so of the lines on them. (own)
pub data IsLeftAgain (old new : Option Known) (tags : List (List ℕ)) (silent : Type 0) (prints : List ℕ → Type 0) : Type 0 where
  nothing : new ≡ old → silent → IsLeftAgain old new tags silent prints
  part : (out : List ℕ) → IsMadeInPart old new tags out → prints out → IsLeftAgain old new tags silent prints

-- Standard output took this text, or a front of it, as then it has failed. (own)
abbrev pub PrintsPart : {W : Type 0} → (W → Option (List ℕ)) → (W → Bool) → W → W → List ℕ → Type 0
PrintsPart taken is_full output now out = (is_cut : Bool) × IsBegun (taken output) (taken now) (is_full now) is_cut out
