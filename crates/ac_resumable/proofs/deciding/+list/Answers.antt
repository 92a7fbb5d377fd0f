use Rattle.std.proofs.Common.{ℕ, List, Bor, option_map}
use Rattle.ac_tree.specs.Script.{script_of, cases_of}
use Rattle.ac_resumable.proofs.Steps.{choice_found, check_found, asked_no, asked_yes, check_yes}
use Rattle.ac_resumable.proofs.deciding.+list.Goals as goal

pub keeps-returns-in-Choose-clause-value : goal.keeps-returns-in-Choose-clause-value
keeps-returns-in-Choose-clause-value t c =
    choice_found _ _ _ c.keeps_choice.result _ _ _ _ _ c.in-Choose.is c.as_slice.ensures.value c.keeps_choice.ensures.value

pub keeps-returns-in-CacheCheck-clause-value : goal.keeps-returns-in-CacheCheck-clause-value
keeps-returns-in-CacheCheck-clause-value t c =
    check_found _ _ _ c.keeps_check.result _ _ _ _ _ _ c.in-CacheCheck.is c.as_slice-in-CacheCheck.ensures.value c.as_slice-in-CacheCheck-2.ensures.value c.keeps_check.ensures.value

pub keeps_asked-returns-then-not-branch-clause-value : goal.keeps_asked-returns-then-not-branch-clause-value
keeps_asked-returns-then-not-branch-clause-value t c =
    asked_no (option_map {T = Bor (List ℕ)} {U = List ℕ} (λ x. x.now) c.args.own) c.args.names.now _ c.args.tested.now _ (cases_of c.args.cases.now) _ c.first_of.ensures c.in_ok-add_all.ensures.added c.in_ok-keeps_cases.ensures.value c.if-not-branch.true

pub keeps_asked-returns-clause-value : goal.keeps_asked-returns-clause-value
keeps_asked-returns-clause-value t c =
    asked_yes (option_map {T = Bor (List ℕ)} {U = List ℕ} (λ x. x.now) c.args.own) c.args.names.now _ c.args.tested.now _ _ _ (cases_of c.args.cases.now) _ c.first_of.ensures c.in_ok-add_all.ensures.added c.in_ok-keeps_cases.ensures.value c.if-not-branch.false
    c.in_ok-keeps_cases.ensures.unchanged c.in_ok-add_all-2.ensures.added

pub keeps_check-returns-clause-value : goal.keeps_check-returns-clause-value
keeps_check-returns-clause-value t c =
    check_yes (option_map {T = Bor (List ℕ)} {U = List ℕ} (λ x. x.now) c.args.own) c.args.tested.now _ _ c.args.message.now _ c.args.name.now (script_of c.args.commands.now) _ _ c.reads_text.ensures c.parts.ensures c.if-not-reads_text.false
    c.in_ok-keeps_apart.ensures.value c.if-not-branch.false c.in_ok-keeps_apart.ensures.unchanged c.in_ok-add_one.ensures.added
