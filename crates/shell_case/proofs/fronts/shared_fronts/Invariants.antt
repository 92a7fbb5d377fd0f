use Rattle.std.proofs.Common.{◌≡◌, length, take}
use Rattle.shell_case.specs.Fronts.{shares}
use Rattle.shell_case.proofs.Shared.{Front}
use Rattle.shell_case.proofs.fronts.shared_fronts.Given as goal

abbrev pub invariant-loop-at : goal.invariant-loop-at
invariant-loop-at l = (length l.lens.items ≡ l.at) × (l.lens.items ≡ take l.at (shares l.text l.text)) × Front l.text l.stretch
