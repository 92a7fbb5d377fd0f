use Rattle.std.proofs.Common.{map, ap, ◌∙◌}
use Rattle.ac_calls.specs.Calls.{macro_call_of}
use Rattle.port_spots.specs.Put.{arg_text}
use Rattle.port_changes.proofs.Differing.{noted_is}
use Rattle.port_changes.proofs.noting.noted_text.Goals as goal

pub returns-then-branch : goal.returns-then-branch
returns-then-branch c =
    noted_is c.args.text.now (macro_call_of c.args.call.now) c.args.other.now.idiom.now c.args.indent.now c.args.other.now.said.now c.name_of-name.result.now c.in_ok-out.out.items c.put_all.new.out.items c.writes_each_word-has_words.result c.takes_list-is_list.result (map (λ a. a.now) c.as_slice-2.result.now)
    c.requires.idiom c.requires.indent c.requires.said c.name_of-name.ensures c.writes_each_word-has_words.ensures c.takes_list-is_list.ensures
    (ap (map (λ a. a.now)) c.as_slice-2.ensures.value ∙ c.in_ok-args.ensures ∙ ap (map (arg_text c.args.text.now)) c.as_slice.ensures.value)
    c.in_ok-out.ensures (c.in_ok-put_all.ensures c.if-branch.true)
