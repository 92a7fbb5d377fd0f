use Rattle.std.proofs.Common.{rules, ◌∙◌, sym}
use Rattle.std.proofs.lemmas.List.{take_rest}
use Rattle.m4quote.proofs.Skips.{argument_piece_at}
use Rattle.m4quote.proofs.arguments.argument_len.Goals as goal

pub loop-len-preserved : goal.loop-len-preserved
loop-len-preserved c = record {
  within = search rules;
  shallow = search rules;
  goes_on = argument_piece_at c.args.opened c.loop-len.depth c.args.at c.loop-len.len c.args.text.now c.in_ok-len.field-0 c.loop-len-test.true (search rules) (search rules) (search rules) (sym (rw take_rest at c.in_ok-len.ensures.value)) (search rules) (search rules) ∙ c.loop-len.invariant.goes_on;
}
