use Rattle.std.proofs.Common.{◌≡◌, ℕ, List, [], ◌∷◌, ◌++◌, map, refl, ap}
use Rattle.std.proofs.lemmas.List.{map-append}
use Rattle.cfglog.specs.declared.forms.LineKind.{LineKind}
use Rattle.cfglog.specs.Log.{marked, last_part}
use Rattle.cfglog.proofs.Marks.{line_taken}
use Rattle.cfglog.proofs.reading.put_lines.Goals as goal

pub loop-line-init : goal.loop-line-init
unfolding last_part marked
loop-line-init c = (refl, rw c.requires refl)

pub loop-line-preserved : goal.loop-line-preserved
loop-line-preserved c =
    simp map-append (line_taken _ _ _ _ _ _ c.loop-line.invariant.0 c.loop-line.invariant.1 c.in_ok-before.ensures.part c.in_ok-before.ensures.line)
