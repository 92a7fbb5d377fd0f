use Rattle.std.proofs.Common.{take, drop, ◌+◌}
use Rattle.ac_tree.specs.Script.{script_of}
use Rattle.cmd_filter.specs.Filtered.{usage}
use Rattle.cmd_filter.proofs.Refusals.{parse_refused, not_run_refused, run_found}
use Rattle.cmd_filter.proofs.whole.answer.Goals as goal

pub returns-in_default-clause-refused : goal.returns-in_default-clause-refused
returns-in_default-clause-refused c = usage c.in_default.ensures.no_marker

pub returns-in_err-source-clause-refused : goal.returns-in_err-source-clause-refused
returns-in_err-source-clause-refused c =
    let input = c.args.input.now in
    let at = c.in-Some.at in
    parse_refused input (take at input) (drop (at + 3) input) c.in_err-source.field-0.0 c.from_residual.result c.in-Some.ensures.parted c.in_err-source.ensures.exact c.in_err-source.ensures.error_sound c.from_residual.ensures.1

pub returns-clause-refused : goal.returns-clause-refused
returns-clause-refused c =
    let input = c.args.input.now in
    let at = c.in-Some.at in
    not_run_refused input (take at input) (drop (at + 3) input) (script_of c.in_ok-source.source) c.run_source.result c.in-Some.ensures.parted c.in_ok-source.ensures.sound (rw c.after_marker.ensures at c.run_source.ensures.refused)

pub returns-clause-found : goal.returns-clause-found
returns-clause-found c =
    let input = c.args.input.now in
    let at = c.in-Some.at in
    run_found input (take at input) (drop (at + 3) input) (script_of c.in_ok-source.source) c.run_source.result (λ a. a.text) (λ a. a.errors.items) (λ a. a.status) c.in-Some.ensures.parted c.in_ok-source.ensures.sound
    (rw c.after_marker.ensures at c.run_source.ensures.run)
