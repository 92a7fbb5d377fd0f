use Rattle.std.proofs.Common.{length}
use Rattle.lint_sources.specs.Names.{AreListedTo}
use Rattle.lint_sources.proofs.listing.listed_names.Given as goal

abbrev pub invariant-sheets : goal.invariant-sheets
invariant-sheets g l = AreListedTo (g.L.Lister.lists l.lister) l.sheets (length l.sheets.files.items) l.index l.names
