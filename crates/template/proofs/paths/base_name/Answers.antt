use Rattle.std.proofs.Common.{◌+◌, drop, length-drop, arith, ◌∙◌}
use Rattle.std.proofs.lemmas.List.{take_all}
use Rattle.template.proofs.Places.{name_at, whole_name}
use Rattle.template.proofs.paths.base_name.Goals as goal

pub returns-in-Some : goal.returns-in-Some
returns-in-Some c =
    take_all _ (drop (c.in-Some.at + 1) c.args.file.now) (omega (arith, length-drop (c.in-Some.at + 1) c.args.file.now))
    ∙ name_at c.args.file.now c.in-Some.at c.in-Some.ensures.0.high c.in-Some.ensures.1 c.in-Some.ensures.0.after

pub returns-in-None : goal.returns-in-None
returns-in-None c = whole_name c.args.file.now c.in-None.ensures
