use Rattle.std.proofs.Common.{◌≡◌, ◌++◌, map, take}
use Rattle.std.specs.Prelude.{codes}
use Rattle.cachefile.specs.Text.{lines_for}
use Rattle.cachefile.proofs.Lent.{seen}
use Rattle.cachefile.proofs.text.write_list.Given as goal

abbrev pub invariant-entries : goal.invariant-entries
invariant-entries l = l.text.items ≡ codes "# config.cache of configure\n" ++ lines_for (map seen (take l.entry-index l.entries))
