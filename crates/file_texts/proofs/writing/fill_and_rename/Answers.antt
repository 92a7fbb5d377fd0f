use Rattle.file_texts.proofs.Writings.{err_then, on_err, tried_none, tried_fill, tried_name}
use Rattle.file_texts.proofs.writing.fill_and_rename.Goals as goal

pub returns-in_err-mode-clause-failed : goal.returns-in_err-mode-clause-failed
returns-in_err-mode-clause-failed g c = on_err _ (tried_none _ c.args.other.now)

pub returns-in_err-fill-clause-failed : goal.returns-in_err-fill-clause-failed
returns-in_err-fill-clause-failed g c =
    on_err _ (tried_fill _ _ c.args.other.now c.in_err-fill.ensures.refused)

pub returns-clause-failed : goal.returns-clause-failed
returns-clause-failed g c =
    err_then c.rename.result c.rename.ensures.refused
    (λ none. tried_name _ _ _ c.args.other.now c.in_ok-mode.mode c.args.text.now c.in_ok-fill.ensures.filled none)
