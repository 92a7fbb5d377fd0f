use Rattle.std.proofs.Common.{◌≡◌, ◌∙◌}
use Rattle.file_texts.specs.Names.{temporary}
use Rattle.file_texts.proofs.Writings.{ok_then, err_then, undone, done, nothing_done}
use Rattle.file_texts.proofs.writing.replace.Goals as goal

pub returns-in-Ok-clause-undone : goal.returns-in-Ok-clause-undone
returns-in-Ok-clause-undone g c =
    let made = c.in-Ok.ensures.made in
    let other = c.as_str.result.now in
    let is : other ≡ temporary c.args.name.now made.0 = c.as_str.ensures.value ∙ made.1 in
    err_then c.finish.result c.finish.ensures.failed
    (λ f. undone _ _ _ c.args.name.now made.0 other is made.3 f)

pub returns-in-Ok-clause-written : goal.returns-in-Ok-clause-written
returns-in-Ok-clause-written g c =
    let made = c.in-Ok.ensures.made in
    let other = c.as_str.result.now in
    let is : other ≡ temporary c.args.name.now made.0 = c.as_str.ensures.value ∙ made.1 in
    ok_then c.finish.result c.finish.ensures.done
    (λ f. done _ _ _ c.args.keeps c.args.old c.args.name.now made.0 c.args.text.now other is made.3 made.2 f)

pub returns-in-Err-clause-undone : goal.returns-in-Err-clause-undone
returns-in-Err-clause-undone g c = nothing_done _ _ c.args.name.now c.in-Err.ensures.refused
