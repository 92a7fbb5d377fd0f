use Rattle.std.proofs.Common.{◌≡◌, false, sym, subst, ◌∙◌, arith}
use Rattle.lint_text.specs.Parts.{part}
use Rattle.ac_calls.specs.Calls.{macro_call_of}
use Rattle.port_setup.specs.Needed.{including, is_one_of}
use Rattle.port_setup.proofs.Each.{each_done, each_next}
use Rattle.port_setup.proofs.needing.lacks_including.Goals as goal

pub loop-i-preserved : goal.loop-i-preserved
loop-i-preserved c =
    each_next c.args.calls.now macro_call_of (λ m. is_one_of including (part c.args.text.now m.start m.name_end) ≡ false) c.loop-i.i c.index-calls-i.result c.loop-i-test.true c.index-calls-i.is c.loop-i.invariant
    (subst (λ name. is_one_of including name ≡ false) c.name_of.ensures (sym c.is_including.ensures ∙ c.if-is_including.false))

pub returns : goal.returns
returns c =
    λ _. each_done c.args.calls.now macro_call_of (λ m. is_one_of including (part c.args.text.now m.start m.name_end) ≡ false) c.loop-i.i (omega (arith, c.loop-i-test.false)) c.loop-i.invariant
