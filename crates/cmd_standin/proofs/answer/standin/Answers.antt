use Rattle.std.proofs.Common.{ap, subst, sym, ◌∙◌}
use Rattle.std.specs.Option.{option_copied}
use Rattle.cmd_standin.specs.Standin.{ReadsConftest, ReadsText, is_meeting, list_name}
use Rattle.cmd_standin.proofs.BarredLines.{judged_status, met_status}
use Rattle.cmd_standin.proofs.answer.standin.Goals as goal

pub returns-then-asks_to_meet-clause-answer : goal.returns-then-asks_to_meet-clause-answer
returns-then-asks_to_meet-clause-answer g c =
    met_status _ c.args.words.now c.in_ok-list.list (option_copied c.name_of_conftest-name.result) c.meet.result c.in_ok-list.ensures (ap is_meeting (sym c.as_slice.ensures) ∙ sym c.asks_to_meet.ensures ∙ c.if-asks_to_meet.true) c.name_of_conftest-name.ensures c.meet.ensures.status c.meet.ensures.waited

pub returns-clause-answer : goal.returns-clause-answer
returns-clause-answer g c =
    let name = option_copied c.name_of_conftest-name.result in
    judged_status _ c.args.words.now c.as_slice-2.result.now c.as_slice-3.result.now name c.judge.result (subst (ReadsText _ list_name) (sym c.as_slice-2.ensures) c.in_ok-list.ensures)
    (ap is_meeting (c.as_slice-2.ensures ∙ sym c.as_slice.ensures) ∙ sym c.asks_to_meet.ensures ∙ c.if-asks_to_meet.false)
    c.name_of_conftest-name.ensures (subst (ReadsConftest _ name) (sym c.as_slice-3.ensures) c.in_ok-conftest.ensures) c.judge.ensures.barred c.judge.ensures.passed c.judge.ensures.status

pub returns-then-asks_to_meet-clause-meets : goal.returns-then-asks_to_meet-clause-meets
returns-then-asks_to_meet-clause-meets g c = c.meet.ensures.meets c.args.words.now c.name_of_conftest-name.ensures
