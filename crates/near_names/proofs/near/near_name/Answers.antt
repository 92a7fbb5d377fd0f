use Rattle.std.proofs.Common.{◌+◌, map, ap}
use Rattle.near_names.proofs.Nearest.{found_nearest}
use Rattle.near_names.proofs.near.near_name.Goals as goal

pub returns : goal.returns
returns c = record {
  nearest = found_nearest (λ n. n.now) c.args.name.now (map (λ n. n.now) c.args.names.now) (c.allowed.result + 1) c.nearest_of.result (ap (λ n. n + 1) c.allowed.ensures) c.nearest_of.ensures;
}
