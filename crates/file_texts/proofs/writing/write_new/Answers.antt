use Rattle.std.proofs.Common.{subst}
use Rattle.file_disk.specs.Known.{Does}
use Rattle.file_texts.specs.Steps.{IsReplaced, IsBegun}
use Rattle.file_texts.proofs.Writings.{ok_then, err_then, on_err, made_anew, begun_anew, unseen_begun, not_begun}
use Rattle.file_texts.proofs.writing.write_new.Goals as goal

pub returns-in_err-clear-in-Some-clause-begun : goal.returns-in_err-clear-in-Some-clause-begun
returns-in_err-clear-in-Some-clause-begun g c = on_err _ (unseen_begun _ _ c.args.name.now c.in_err-clear-in-Some.ensures.refused)

pub returns-in_ok-clear-in-Some-clause-replaced : goal.returns-in_ok-clear-in-Some-clause-replaced
returns-in_ok-clear-in-Some-clause-replaced g c =
    let before = g.D.Disk.known c.args.disk.now in
    let after = g.D.Disk.known c.create_filled.new.disk in
    ok_then c.create_filled.result c.create_filled.ensures.filled
    (λ made. subst (λ n. Does before after (λ k d. IsReplaced k n c.args.text.now d)) c.in-Some.ensures.text
    (made_anew before _ after c.in-Some.path.now c.args.text.now c.in_ok-clear-in-Some.ensures.cleared made))

pub returns-in_ok-clear-in-Some-clause-begun : goal.returns-in_ok-clear-in-Some-clause-begun
returns-in_ok-clear-in-Some-clause-begun g c =
    let before = g.D.Disk.known c.args.disk.now in
    let after = g.D.Disk.known c.create_filled.new.disk in
    err_then c.create_filled.result c.create_filled.ensures.torn
    (λ made. subst (λ n. Does before after (λ k d. IsBegun k n d)) c.in-Some.ensures.text
    (begun_anew before _ after c.in-Some.path.now c.in_ok-clear-in-Some.ensures.cleared made))

pub returns-in-None-clause-begun : goal.returns-in-None-clause-begun
returns-in-None-clause-begun g c = not_begun _ _
