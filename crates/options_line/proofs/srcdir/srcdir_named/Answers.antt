use Rattle.std.proofs.Common.{sym, ◌∙◌}
use Rattle.options_line.proofs.SourceDirectories.{directory_more, directory_end}
use Rattle.options_line.proofs.srcdir.srcdir_named.Goals as goal

pub loop-argument-preserved : goal.loop-argument-preserved
loop-argument-preserved c =
    directory_more _ _ _ _ _ _ _ _ c.loop-argument-test.true c.argument-item.is c.awaited_after-awaited.ensures c.srcdir_after-srcdir.ensures c.loop-argument.invariant

pub returns : goal.returns
returns c = sym (directory_end _ _ _ _ c.loop-argument-test.false) ∙ c.loop-argument.invariant
