use Rattle.std.proofs.Common.{subst}
use Rattle.file_disk.specs.Known.{Does}
use Rattle.file_texts.specs.Steps.{IsWritten}
use Rattle.file_texts.proofs.Writings.{ok_then, on_err, nothing_undone, is_written}
use Rattle.file_texts.proofs.writing.write_text.Goals as goal

pub returns-in_default-clause-undone : goal.returns-in_default-clause-undone
returns-in_default-clause-undone g c = nothing_undone _ _

pub returns-in_err-found-clause-undone : goal.returns-in_err-found-clause-undone
returns-in_err-found-clause-undone g c = on_err _ (nothing_undone _ _)

pub returns-in_err-old-clause-undone : goal.returns-in_err-old-clause-undone
returns-in_err-old-clause-undone g c = on_err _ (nothing_undone _ _)

pub returns-clause-written : goal.returns-clause-written
returns-clause-written g c =
    let before = g.D.Disk.known c.args.disk.now in
    let after = g.D.Disk.known c.replace.new.disk in
    ok_then c.replace.result c.replace.ensures.written
    (λ w. subst (λ n. Does before after (λ k d. IsWritten k c.args.keeps n c.args.text.now d)) c.in-Some.ensures.text
    (is_written before after c.args.keeps c.in-Some.path.now c.args.text.now c.in_ok-old.old c.in_ok-found.found c.in_ok-found.ensures c.in_ok-old.ensures w))
