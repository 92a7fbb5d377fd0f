use Rattle.lint_excerpts.proofs.Joined.{four}
use Rattle.lint_excerpts.proofs.object.put_words.Goals as goal

pub returns-clause-put : goal.returns-clause-put
returns-clause-put c =
    four _ _ _ _ _ _ _ _ _ c.in_ok-put_severity.ensures.put c.in_ok-put_bytes.ensures.put c.in_ok-put_bytes-2.ensures.put c.in_ok-put_bytes-3.ensures.put
