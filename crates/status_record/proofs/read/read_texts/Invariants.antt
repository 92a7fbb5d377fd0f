use Rattle.std.proofs.Common.{◌≡◌, drop, [], map}
use Rattle.std.specs.Prelude.{codes}
use Rattle.status_record.specs.Escape.{unescaped}
use Rattle.status_record.specs.Reading.{several, is_repeated}
use Rattle.status_record.proofs.read.read_texts.Given as goal

abbrev pub invariant-loop-i : goal.invariant-loop-i
invariant-loop-i l = several (codes "arg ") unescaped is_repeated l.args l.i (drop l.i (map (λ t. t.now) l.lines)) ≡ several (codes "arg ") unescaped is_repeated [] 2 (drop 2 (map (λ t. t.now) l.lines))
