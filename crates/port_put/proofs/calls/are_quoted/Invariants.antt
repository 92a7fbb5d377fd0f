use Rattle.std.proofs.Common.{◌≡◌, map, take}
use Rattle.m4quote.specs.ItemValue.{span}
use Rattle.port_put.specs.Calls.{quoted, text_of}
use Rattle.port_put.proofs.calls.are_quoted.Given as goal

abbrev pub invariant-loop-i : goal.invariant-loop-i
invariant-loop-i l = map text_of (map span (take l.i l.args)) ≡ map quoted (map (λ p. p.now) (take l.i l.parts))
