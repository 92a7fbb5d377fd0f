use Rattle.std.proofs.Common.{map, ap, ◌∙◌}
use Rattle.ac_calls.specs.Calls.{macro_call_of}
use Rattle.port_spots.specs.Put.{arg_text}
use Rattle.port_changes.proofs.Puts.{idiom_puts}
use Rattle.port_changes.proofs.changes.idiom_text.Goals as goal

pub returns : goal.returns
returns c = idiom_puts (λ v. v.items) c.filled.result c.args.text.now (macro_call_of c.args.call.now) (map (λ a. a.now) c.as_slice-2.result.now) _ c.args.idiom.now c.requires.idiom (ap (map (λ a. a.now)) c.as_slice-2.ensures.value ∙ c.in_ok-args.ensures ∙ ap (map (arg_text c.args.text.now)) c.as_slice.ensures.value) c.indent_of-indent.ensures c.filled.ensures.filled
