use Rattle.std.proofs.Common.{◌≡◌, true}
use Rattle.std.specs.List.{list_all}
use Rattle.lint_excerpts.specs.Plain.{is_plain}
use Rattle.lint_excerpts.proofs.draft.push_bytes.Given as goal

abbrev pub invariant-loop-byte : goal.invariant-loop-byte
invariant-loop-byte l = list_all is_plain l.fn.text.items ≡ true → list_all is_plain l.text.items ≡ true
