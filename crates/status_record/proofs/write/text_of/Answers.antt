use Rattle.std.proofs.Common.{◌∙◌, ap, ◌++◌, ◌∷◌, []}
use Rattle.std.specs.Prelude.{codes}
use Rattle.status_record.specs.Escape.{escaped}
use Rattle.status_record.specs.Line.{ended, output_fields}
use Rattle.status_record.specs.RecordText.{lines_of}
use Rattle.status_record.proofs.Loops.{written}
use Rattle.status_record.proofs.write.text_of.Goals as goal

pub returns : goal.returns
returns c =
    c.from_vec.ensures ∙ written c.args.status.now _ _ _ _ _ _ _ _ _ c.new-out.ensures.items c.in_ok-put_version.ensures
    (c.in_ok-put_value.ensures ∙ ap (λ v. c.put_version.new.out.items ++ ended ((codes "srcdir " ++ escaped v) ∷ [])) c.as_slice.ensures)
    c.in_ok-put_args.ensures c.in_ok-put_entries.ensures c.in_ok-put_entries-2.ensures
    (c.in_ok-put_outputs.ensures ∙ ap (λ v. c.put_entries-2.new.out.items ++ ended (lines_of (codes "file ") output_fields v)) c.as_slice-2.ensures)
    (c.in_ok-put_outputs-2.ensures ∙ ap (λ v. c.put_outputs.new.out.items ++ ended (lines_of (codes "header ") output_fields v)) c.as_slice-3.ensures)
    c.in_ok-extend_from_slice.ensures.items
