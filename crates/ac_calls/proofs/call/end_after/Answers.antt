use Rattle.std.proofs.Common.{sym, ap, ◌+◌, ◌∙◌, arith}
use Rattle.ac_calls.proofs.Ends.{last_end}
use Rattle.ac_calls.proofs.call.end_after.Goals as goal

pub overflow_add-result : goal.overflow_add-result
overflow_add-result c =
    let item = c.in-Some.ensures.item in
    let e = last_end c.args.name_end c.args.args.now c.in-Some.last.now item.3.0 ∙ ap (λ e. e.end + 1) (sym item.1) in
    omega (arith, e, c.requires)

pub returns-in-Some : goal.returns-in-Some
returns-in-Some c =
    let item = c.in-Some.ensures.item in
    sym (last_end c.args.name_end c.args.args.now c.in-Some.last.now item.3.0 ∙ ap (λ e. e.end + 1) (sym item.1))
