use Rattle.std.proofs.Common.{refl}
use Rattle.crew_progress.proofs.Children.{search_is}
use Rattle.crew_progress.proofs.child.put_search.Goals as goal

pub returns : goal.returns
returns c = λ text h.
    let first = c.put.ensures text h in
    let second = c.put-2.ensures _ first in
    let third = c.put-3.ensures _ second in
    let fourth = c.put-4.ensures _ third in
    search_is _ _ text _ c.args.name.now _ c.args.directory.now refl refl fourth
