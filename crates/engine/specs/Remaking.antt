-- The record that a completed run hands over, and what is made of it again.
use Rattle.std.specs.Prelude.{◌≡◌, ℕ, ◌==◌, ◌&&◌, ◌||◌, Bool, true, false, List, [], ◌∷◌, length, filter, Ok, codes}
use Rattle.deftable.specs.NameList.{has_name}
use Rattle.output_put.specs.declared.artifact.Artifact.{Artifact}
use Rattle.output_put.specs.declared.artifact.Kind.{Kind}
use Rattle.output_put.specs.declared.artifact.Kind.TheVariants.{Record as Recorded, File, Header}
use Rattle.status_record.specs.Reading.{record_in}
use Rattle.ac_tree.specs.Script.{Script}
use Rattle.engine_frame.specs.Faults.{◌>>=◌}
use Rattle.engine_frame.specs.Handing.{ReadsBack}
use Rattle.engine_frame.specs.Remade.{none_unknown, present, remade, unknown}
use Rattle.engine_frame.specs.declared.starting.Start.{Start}
use Rattle.engine_frame.specs.declared.report.Outcome.TheVariants.{Completed}
use Rattle.engine_frame.specs.declared.report.Report.{Report}
use Rattle.engine.specs.Configured.{artifacts, record_after}

-- The artifact is a record. (own)
abbrev pub is_record : Kind → Bool
is_record Recorded = true
is_record kind = false

-- The artifact is a file or a header. (own)
abbrev pub is_output : Kind → Bool
is_output File = true
is_output Header = true
is_output kind = false

-- The artifact is a file or a header that is to be made: there are no tags, or one of them is its
-- name. (Autoconf's manual, "config.status Invocation")
abbrev pub is_chosen : List (List ℕ) → Artifact → Bool
is_chosen tags artifact = is_output artifact.kind && (length tags == 0 || has_name tags artifact.name)

-- The files and headers that a run with this report hands over if it has these templates and no
-- `--no-create`, without those that the tags leave out. (own)
abbrev pub outputs_with : Script → Start → Report → List (List ℕ × List ℕ) → List (List ℕ) → List Artifact
outputs_with script start report templates tags =
    filter (is_chosen tags) (artifacts script (record start { no_create = false }) templates report)

-- What the run handed over has one record. It is read as the record of the run. Given to `remake`
-- with any templates and any tags, it gives the files and headers that the run would have handed
-- over with those templates and without `--no-create`; or the first fault, if a tag is the name of
-- no output of the run, or if a template isn't there. (own)
pub record Remakes (script : Script) (start : Start) (templates : List (List ℕ × List ℕ)) (report : Report) : Type 0 where
  pub text : List ℕ
  pub handed : filter (λ artifact. is_record artifact.kind) (artifacts script start templates report)
      ≡ record { kind = Recorded; name = codes "config.status"; text = text } ∷ []
  pub read : record_in text ≡ Ok (record_after script start report)
  pub again : (others : List (List ℕ × List ℕ)) (tags : List (List ℕ)) → remade text others tags
      ≡ (none_unknown (unknown (record_after script start report) tags) >>= λ _. present (record_after script start report) others tags
      >>= λ _. Ok (outputs_with script start report others tags))

-- The record of a completed run gives its outputs again, if its text is read as that record. (own)
abbrev pub RemakesAgree : Type 0
RemakesAgree = (script : Script) (start : Start) (templates : List (List ℕ × List ℕ)) (report : Report)
    → report.outcome ≡ Completed → ReadsBack (record_after script start report) → Remakes script start templates report
