use Rattle.std.proofs.Common.{◌∙◌, ap, sym, Ok}
use Rattle.std.proofs.lemmas.Result.{err_from_is_err_and}
use Rattle.options.proofs.Readings.{fails_bind}
use Rattle.options.specs.Stepwise.{settings_after, settings_with}
use Rattle.options_line.specs.Reading.{◌>>=◌}
use Rattle.options.proofs.settings.settings_after.Goals as goal

pub returns-in_err-notes : goal.returns-in_err-notes
unfolding settings_after
returns-in_err-notes c =
    let p = err_from_is_err_and c.from_residual.result c.from_residual.ensures.1 in
    rw (p.1, p.2) record { exact = fails_bind c.in_err-notes.field-0.0 _ _ c.in_err-notes.ensures; directory = tt }

pub returns : goal.returns
unfolding settings_after
returns c = record {
  exact =
      ap (λ notes. notes >>= λ n. Ok (settings_with c.args.precious.now c.args.args.now c.args.reader n)) c.in_ok-notes.ensures
      ∙ ap (λ s. Ok s) (sym c.in_ok-settings_with.ensures.exact);
  directory = c.in_ok-settings_with.ensures.directory;
}
