use Rattle.std.proofs.Common.{◌≡◌, drop}
use Rattle.m4quote.specs.ItemValue.{views}
use Rattle.ac_statement.specs.Inside.{only_text}
use Rattle.ac_statement.proofs.inside.only_text.Given as goal

abbrev pub invariant-loop-i : goal.invariant-loop-i
invariant-loop-i l = only_text (views (drop l.i l.items)) ≡ only_text (views l.items)
