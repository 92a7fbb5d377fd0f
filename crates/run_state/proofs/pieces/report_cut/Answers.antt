use Rattle.std.proofs.Common.{◌≡◌, ◌++◌, ◌∙◌, subst, OnOk, codes}
use Rattle.deftable.specs.declared.note.Stream.TheVariants.{Err}
use Rattle.meaning.specs.State.{with_note}
use Rattle.run_state.proofs.pieces.report_cut.Goals as goal

pub returns : goal.returns
returns c =
    subst (λ t. OnOk c.add_note.result (c.add_note.new.self ≡ with_note Err (codes "configure: cut short at child " ++ t ++ codes "\n") c.args.store.now))
    (c.as_slice.ensures ∙ c.in_ok-digits.ensures) c.add_note.ensures
