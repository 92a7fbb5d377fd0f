use Rattle.std.proofs.Common.{◌≡◌, ◌++◌, drop, map}
use Rattle.ac_tree.specs.Script.{script_of, cases_of}
use Rattle.header_template.specs.Mentions.{mentions_in, mentions_in_cases}
use Rattle.header_template.proofs.Held.{seen}
use Rattle.header_template.proofs.mentions.+list.Given as goal

abbrev pub invariant-add_statements-loop-statement : goal.invariant-add_statements-loop-statement
invariant-add_statements-loop-statement l =
    l.list.items ++ mentions_in (map seen l.notes.entries) (script_of (drop l.statement-index l.statements)) ≡ l.fn.list.items ++ mentions_in (map seen l.notes.entries) (script_of l.statements)

abbrev pub invariant-add_cases-loop-case : goal.invariant-add_cases-loop-case
invariant-add_cases-loop-case l =
    l.list.items ++ mentions_in_cases (map seen l.notes.entries) (cases_of (drop l.case-index l.cases)) ≡ l.fn.list.items ++ mentions_in_cases (map seen l.notes.entries) (cases_of l.cases)
