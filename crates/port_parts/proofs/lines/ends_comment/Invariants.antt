use Rattle.port_parts.specs.Places.{EndsComment}
use Rattle.port_parts.proofs.lines.ends_comment.Given as goal

abbrev pub invariant-loop : goal.invariant-loop
invariant-loop l = EndsComment l.text l.at → EndsComment l.text l.newline
