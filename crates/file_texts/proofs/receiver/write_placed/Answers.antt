use Rattle.std.proofs.Common.{subst, ◌∙◌, string_bytes}
use Rattle.std.specs.Prelude.{option_map}
use Rattle.file_disk.specs.Known.{Does}
use Rattle.file_texts.specs.Keeping.{file_of}
use Rattle.file_texts.specs.Steps.{IsUndone}
use Rattle.file_texts.proofs.Placed.{unstepped_over, unstepped_on}
use Rattle.file_texts.proofs.Writings.{on_err, err_then}
use Rattle.file_texts.proofs.receiver.write_placed.Goals as goal

pub returns-in_err-make_for-clause-undone : goal.returns-in_err-make_for-clause-undone
returns-in_err-make_for-clause-undone g c = on_err _ (unstepped_over _ _ c.args.put.now.saying c.args.put.now.name.now _ c.make_for.ensures)

pub returns-in_err-add_places-clause-undone : goal.returns-in_err-add_places-clause-undone
returns-in_err-add_places-clause-undone g c = on_err _ (unstepped_over _ _ c.args.put.now.saying c.args.put.now.name.now _ c.make_for.ensures)

pub returns-clause-undone : goal.returns-clause-undone
returns-clause-undone g c =
    let middle = g.D.Disk.known c.make_for.new.disk in
    let after = g.D.Disk.known c.write_text.new.disk in
    let file = file_of (option_map string_bytes c.args.end.now) c.args.put.now.name.now in
    err_then c.write_text.result c.write_text.ensures.undone
    (λ u. unstepped_on _ middle after c.args.put.now.saying c.args.put.now.name.now file c.make_for.ensures
    (subst (λ f. Does middle after (λ _ d. IsUndone f d)) (c.as_bytes.ensures.value ∙ c.file_of-file.ensures) u))
