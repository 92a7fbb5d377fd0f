use Rattle.std.proofs.Common.{◌≡◌, ℕ, List, map}
use Rattle.cfglog.specs.declared.forms.LineKind.{LineKind}
use Rattle.cfglog.specs.declared.forms.LineKind.TheVariants.{Message}
use Rattle.cfglog.specs.Log.{marked, last_part}
use Rattle.cfglog.proofs.reading.put_lines.Given as goal

abbrev pub invariant-loop-line : goal.invariant-loop-line
invariant-loop-line l =
    (l.before ≡ last_part Message (map (λ line. line.now) l.yielded))
    × (map {B = LineKind × List ℕ} (λ line. (line.part, line.text.now)) l.lines.items ≡ marked Message (map (λ line. line.now) l.yielded))
