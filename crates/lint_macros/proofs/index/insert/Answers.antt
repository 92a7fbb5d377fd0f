use Rattle.std.proofs.Common.{◌∙◌, ap, cond, Some}
use Rattle.std.specs.Prelude.{bytes_eq}
use Rattle.lint_macros.specs.Entries.{said}
use Rattle.lint_macros.specs.Index.{said_by}
use Rattle.lint_macros.proofs.Indexed.{said_by-insert_entry}
use Rattle.lint_macros.proofs.index.insert.Goals as goal

pub returns : goal.returns
returns c n =
    ap (λ es. said_by es n) c.in_ok-insert.ensures.entries ∙ said_by-insert_entry c.args.names.now.entries c.in_ok-key.key c.args.entry n
    ∙ ap (λ k. cond (bytes_eq n k) (Some (said c.args.entry)) (said_by c.args.names.now.entries n)) c.in_ok-key.ensures.items
