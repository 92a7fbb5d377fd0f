use Rattle.std.proofs.Common.{rules}
use Rattle.m4quote.specs.ItemValue.{views}
use Rattle.lint_errors.specs.Readings.{IsSpelled}
use Rattle.lint_errors.proofs.Acceptance.{read_all}
use Rattle.lint_errors.proofs.reading.read.Goals as goal

pub returns-in-Ok : goal.returns-in-Ok
returns-in-Ok c =
    let spelled : IsSpelled c.args.text.now (views c.deref.result.now) = search rules in
    read_all c.args.text.now (views c.deref.result.now) c.read_items.result spelled c.read_items.ensures.source c.read_items.ensures.calls
