use Rattle.std.proofs.Common.{refl}
use Rattle.text_cut.specs.Cuts.{parts}
use Rattle.lint_macros.specs.Entries.{entry_of}
use Rattle.lint_macros.specs.declared.text.TheConstants.{TABLE}
use Rattle.lint_macros.proofs.Found.{about, none}
use Rattle.lint_macros.proofs.index.Index.entry_of.Goals as goal

pub returns-clause-about : goal.returns-clause-about
unfolding entry_of
returns-clause-about c = about _ (parts 126 TABLE.now) (parts 126 TABLE.now) _ refl c.find.ensures

pub returns-clause-missing : goal.returns-clause-missing
unfolding entry_of
returns-clause-missing c = none _ (parts 126 TABLE.now) (parts 126 TABLE.now) _ refl c.find.ensures
