use Rattle.std.proofs.Common.{◌≡◌, ◌+◌, ◌≤◌, length, slice_range, take, rules}
use Rattle.crew_launch.proofs.Queue.{read_of}
use Rattle.crew_launch.proofs.queued.QueuedRead.read.Goals as goal

pub returns-clause-bytes : goal.returns-clause-bytes
returns-clause-bytes g c =
    let queue = c.args.self.now.queue.items in
    let taken = c.args.self.now.taken in
    let n = c.copied-n.result in
    let within : taken + n ≤ length queue = search rules in
    let bytes : take n c.copied-n.new.buf ≡ slice_range queue taken (taken + n) = search rules in
    read_of queue c.copied-n.new.buf taken n _ within c.copied-n.ensures.some bytes
