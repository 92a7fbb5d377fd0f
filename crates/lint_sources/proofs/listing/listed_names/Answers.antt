use Rattle.std.proofs.Common.{length}
use Rattle.lint_sources.proofs.Parts.{none_listed, one_listed}
use Rattle.lint_sources.proofs.listing.listed_names.Goals as goal

pub sheets-init : goal.sheets-init
sheets-init g c = none_listed (g.L.Lister.lists c.args.lister.now) c.args.sheets.now (length c.args.sheets.now.files.items) _ _ c.files-index.ensures c.new-names.ensures

pub sheets-preserved : goal.sheets-preserved
sheets-preserved g c = one_listed (g.L.Lister.lists c.args.lister.now) c.args.sheets.now (length c.args.sheets.now.files.items) c.sheets.index _ _ c.sheets.invariant c.in_ok-add_listed.ensures
