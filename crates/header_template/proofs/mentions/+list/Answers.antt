use Rattle.std.proofs.Common.{◌≡◌, ◌++◌}
use Rattle.std.specs.Prelude.{OnOk}
use Rattle.header_template.proofs.Adding.{of_check, of_choice, on_statement, on_case}
use Rattle.header_template.proofs.mentions.+list.Goals as goal

pub add_statement-returns-in-Choose : goal.add_statement-returns-in-Choose
add_statement-returns-in-Choose t c =
    of_choice (λ names. OnOk c.add_choice.result (c.add_choice.new.list.items ≡ c.args.list.now.items ++ names)) _ _ _ _ _ _ c.in-Choose.is c.as_slice.ensures.value c.add_choice.ensures

pub add_statement-returns-in-CacheCheck : goal.add_statement-returns-in-CacheCheck
add_statement-returns-in-CacheCheck t c =
    of_check (λ names. OnOk c.add_statements.result (c.add_statements.new.list.items ≡ c.args.list.now.items ++ names)) _ _ _ _ _ _ c.in-CacheCheck.is c.as_slice-in-CacheCheck.ensures.value c.add_statements.ensures

pub add_statements-loop-statement-preserved : goal.add_statements-loop-statement-preserved
add_statements-loop-statement-preserved t c =
    on_statement _ _ _ _ _ _ _ c.loop-statement-test.true c.statement-item.is c.in_ok-add_statement.ensures c.loop-statement.invariant
