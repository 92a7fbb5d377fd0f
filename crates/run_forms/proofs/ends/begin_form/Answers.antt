use Rattle.std.proofs.Common.{◌≡◌, OnOk, subst}
use Rattle.deftable.specs.declared.note.Stream.TheVariants.{Out}
use Rattle.meaning.specs.State.{with_note}
use Rattle.run_forms.proofs.ends.begin_form.Goals as goal

pub returns : goal.returns
returns c = subst (λ text. OnOk c.put_piece.result (c.put_piece.new.self ≡ with_note Out text c.args.store.now)) c.in_ok-piece.ensures c.put_piece.ensures
