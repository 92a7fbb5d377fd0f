use Rattle.std.proofs.lemmas.List.Elements.{All-contains_itself}
use Rattle.lint_all.proofs.Adding.{among_kept, popped}
use Rattle.lint_all.proofs.joining.joined.Goals as goal

pub loop-init : goal.loop-init
loop-init c = record { among = All-contains_itself c.args.errors.items; errors = c.requires.first; rest = c.requires.more }

pub push_new-requires : goal.push_new-requires
push_new-requires c = (popped _ _ _ _ c.in-Some.ensures.items c.loop.invariant.rest).1

pub loop-preserved : goal.loop-preserved
loop-preserved c = record {
  among = among_kept c.args.errors.items c.loop.out.items c.push_new.new.out.items c.loop.invariant.among c.in_ok-push_new.ensures.among;
  errors = c.in_ok-push_new.ensures.errors c.loop.invariant.errors;
  rest = (popped _ _ _ _ c.in-Some.ensures.items c.loop.invariant.rest).0;
}
