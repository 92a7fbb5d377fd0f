use Rattle.std.proofs.Common.{refl, sym, subst, map, ◌∙◌}
use Rattle.ac_calls.specs.Calls.{macro_call_of}
use Rattle.port_setup.specs.Needed.{IsRunAfter}
use Rattle.port_setup.proofs.needing.after_idle.Goals as goal

pub returns-then-is_blank : goal.returns-then-is_blank
returns-then-is_blank c = IsRunAfter.blank c.args.at c.requires (sym c.is_blank.ensures.value ∙ c.if-is_blank.true)

pub returns-then-is_remark : goal.returns-then-is_remark
returns-then-is_remark c =
    subst (IsRunAfter c.args.text.now (map macro_call_of c.args.calls.now) c.args.start) (sym c.line_end.ensures.value) (IsRunAfter.dropped c.args.at c.requires (c.if-is_remark.ensures.yes refl))
