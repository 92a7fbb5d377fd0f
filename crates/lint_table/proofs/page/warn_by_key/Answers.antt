use Rattle.lint_table.proofs.Warned.{warned_by}
use Rattle.lint_table.proofs.page.warn_by_key.Goals as goal

pub returns-clause-added : goal.returns-clause-added
returns-clause-added c = warned_by _ _ _ _ _ _ _ _ _ _ _ c.new-page.result _ c.name.ensures c.new-page.ensures c.warn.ensures.whole c.put.ensures.message c.put.ensures.help c.warn.ensures.added
