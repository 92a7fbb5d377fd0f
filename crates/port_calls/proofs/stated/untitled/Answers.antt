use Rattle.std.proofs.Common.{refl, subst, Some}
use Rattle.port_idioms.specs.Filled.{text_of}
use Rattle.port_spots.specs.Put.{arg_text}
use Rattle.port_calls.specs.Stated.{LacksTitle}
use Rattle.port_calls.proofs.stated.untitled.Goals as goal

pub returns-then-lacks_title : goal.returns-then-lacks_title
returns-then-lacks_title c = record {
  macro = c.if-is_init.ensures refl;
  first = c.in_ok-title.ensures.0;
  second = c.in_ok-title.ensures.1;
  lacks =
      subst (λ name. LacksTitle c.args.text.now name (text_of (Some (arg_text c.args.text.now c.in_ok-title.title.version)))) c.inner.ensures
      (subst (λ version. LacksTitle c.args.text.now c.inner.result.now version) c.inner-then-is_init.ensures (c.if-lacks_title.ensures refl));
}
