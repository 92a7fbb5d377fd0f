use Rattle.std.proofs.Common.{sym, subst}
use Rattle.file_disk.specs.Clearing.{DoesAll}
use Rattle.crew_launch.specs.Fresh.{breaking, clearing_stale}
use Rattle.crew_launch.proofs.Freeing.{refused_then}
use Rattle.crew_launch.proofs.Owning.{own_after}
use Rattle.crew_launch.proofs.launcher.DiskLauncherLauncher.write.Goals as goal

pub returns-in-Ok-clause-spoilt : goal.returns-in-Ok-clause-spoilt
returns-in-Ok-clause-spoilt g c =
    let known = g.D.Disk.known in
    let before = known c.args.self.now.disk in
    let stale = c.args.self.now.stale in
    let cleared = subst (λ h. DoesAll before (known h.disk) (clearing_stale stale)) (sym c.self.view_is) c.in-Ok.ensures.cleared in
    refused_then c.write_own.result before (known c.self.inside.system) (known c.write_own.new.disk) (clearing_stale stale) (breaking c.args.name.now) cleared c.write_own.ensures.spoilt

pub returns-in-Ok-clause-own : goal.returns-in-Ok-clause-own
returns-in-Ok-clause-own g c =
    let known = g.D.Disk.known in
    let before = known c.args.self.now.disk in
    let stale = c.args.self.now.stale in
    let cleared = subst (λ h. DoesAll before (known h.disk) (clearing_stale stale)) (sym c.self.view_is) c.in-Ok.ensures.cleared in
    own_after before (known c.self.inside.system) (known c.write_own.new.disk) stale cleared c.write_own.ensures.own
