use Rattle.ac_calls.specs.Calls.{macro_call_of}
use Rattle.std.proofs.Common.{refl, sym}
use Rattle.port_definitions.proofs.Remarks.{unused}
use Rattle.port_definitions.proofs.unused.is_unused_with.Goals as goal

pub returns : goal.returns
returns c uncalled =
    unused c.args.text.now (macro_call_of c.args.d.now) c.args.title c.args.what c.args.name.now (c.if-not-has_body.ensures.defun refl) c.requires.first c.requires.second
    (c.if-not-has_body.ensures.two refl) (c.if-not-is_titled.ensures.spelled refl) (c.if-not-is_titled.ensures.named refl) (sym c.if-not-is_quoted.ensures) (c.is_uncalled.ensures uncalled)
