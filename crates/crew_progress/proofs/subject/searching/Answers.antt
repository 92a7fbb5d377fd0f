use Rattle.std.proofs.Common.{[], ◌++◌, codes}
use Rattle.crew_progress.proofs.Parts.{nothing_yet, search_is}
use Rattle.crew_progress.proofs.subject.searching.Goals as goal

pub returns : goal.returns
returns c =
    let first = c.put_front.ensures [] (nothing_yet _ c.new-line.ensures) in
    let second = c.put_front-2.ensures (codes " looking for ") first in
    let third = c.put_front-3.ensures (codes " looking for " ++ c.args.name.now) second in
    search_is _ c.args.name.now c.args.directory.now (c.put_front-4.ensures (codes " looking for " ++ c.args.name.now ++ codes " in ") third)
