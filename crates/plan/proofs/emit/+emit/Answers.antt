use Rattle.std.proofs.Common.{◌≡◌, ◌++◌, OnOk, ap, ◌∙◌, sym, refl, subst}
use Rattle.meaning.specs.Meaning.{rounds_of}
use Rattle.ac_tree.specs.Script.{cases_of, script_of}
use Rattle.plan.specs.Code.{check_code, code_each, code_of, code_of_cases}
use Rattle.plan.proofs.Codes.{code_at, code_choice, code_check}
use Rattle.plan.proofs.emit.+emit.Goals as goal

pub emit-loop-i-preserved : goal.emit-loop-i-preserved
emit-loop-i-preserved t c =
    code_at _ _ _ _ c.loop-i.i _ _ c.loop-i-test.true c.loop-i.auto.i refl c.index-statements-i.is c.in_ok-emit_statement.ensures c.loop-i.invariant

pub emit_statement-returns-in-Choose : goal.emit_statement-returns-in-Choose
emit_statement-returns-in-Choose t c =
    let s = c.in-Choose in
    subst (λ l. OnOk c.emit_choice.result (c.emit_choice.new.code ≡ l ++ c.args.code.now))
    (ap (λ l. code_each (rounds_of s.subject) (code_of_cases (cases_of l))) c.as_slice.ensures.value
    ∙ sym (code_choice c.args.statement.now s.declares s.subject s.cases s.is))
    c.emit_choice.ensures

pub emit_statement-returns-in-CacheCheck : goal.emit_statement-returns-in-CacheCheck
emit_statement-returns-in-CacheCheck t c =
    let s = c.in-CacheCheck in
    let names : c.as_slice-in-CacheCheck.result.now ≡ s.name = c.as_slice-in-CacheCheck.ensures.value in
    let lists : c.as_slice-in-CacheCheck-2.result.now ≡ s.commands.items = c.as_slice-in-CacheCheck-2.ensures.value in
    subst (λ l. OnOk c.emit_check.result (c.emit_check.new.code ≡ l ++ c.args.code.now))
    (ap (λ n. check_code s.message n (code_of (script_of c.as_slice-in-CacheCheck-2.result.now))) names
    ∙ ap (λ l. check_code s.message s.name (code_of (script_of l))) lists
    ∙ sym (code_check c.args.statement.now s.message s.name s.commands s.is))
    c.emit_check.ensures
