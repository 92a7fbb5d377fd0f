use Rattle.std.proofs.Common.{ℕ, List, OnOk, OnErr, ap, sym, subst, ◌∙◌, string_bytes, ◌≡◌, false, IfSome}
use Rattle.std.specs.Prelude.{option_map}
use Rattle.file_disk.specs.Known.{Does}
use Rattle.output_put.specs.declared.artifact.Artifact.{Artifact}
use Rattle.file_texts.specs.Done.{IsRefused}
use Rattle.file_texts.specs.Keeping.{MayReplace, Takes, file_of}
use Rattle.file_texts.specs.Places.{is_name_guarded, is_own_in}
use Rattle.file_texts.proofs.Puts.{takes_is, refuses_is, refused_before}
use Rattle.file_texts.proofs.Writings.{on_err}
use Rattle.file_texts.proofs.receiver.take_free.Goals as goal

pub returns-in_default-clause-undone : goal.returns-in_default-clause-undone
returns-in_default-clause-undone g c = refused_before _ c.args.kind c.args.name.now

pub returns-in_err-end-clause-undone : goal.returns-in_err-end-clause-undone
returns-in_err-end-clause-undone g c = on_err _ (refused_before _ c.args.kind c.args.name.now)

pub returns-in_err-check_replaced-clause-undone : goal.returns-in_err-check_replaced-clause-undone
returns-in_err-check_replaced-clause-undone g c = on_err _ (refused_before _ c.args.kind c.args.name.now)

pub returns-in_default-from_slices-clause-undone : goal.returns-in_default-from_slices-clause-undone
returns-in_default-from_slices-clause-undone g c = refused_before _ c.args.kind c.args.name.now

pub returns-clause-taken : goal.returns-clause-taken
returns-clause-taken g c =
    let known = g.D.Disk.known c.args.disk.now in
    let after = g.D.Disk.known c.keep_written.new.disk in
    let path = c.args.path.now in
    let file = file_of (option_map string_bytes c.in_ok-end.end) path in
    let named : List ℕ → Artifact = λ n. record { kind = c.args.kind; name = n; text = c.args.text.now } in
    subst (λ n. OnOk c.keep_written.result (Takes known after c.args.guards.now c.args.places.now c.keep_written.new.places c.args.artifacts.now.items c.args.lines.now.items c.keep_written.new.artifacts.items c.keep_written.new.lines.items (named n))) c.requires.path
    (takes_is c.keep_written.result known _ _ _ _ _ _ _ _ c.args.kind c.in-Ok.unchanged path file c.args.text.now c.in-Ok-from_slices.artifact c.saying_of-saying.result
    (c.in-Ok-from_slices.ensures ∙ ap named (sym c.requires.path)) c.saying_of-saying.ensures
    (subst (λ n. is_name_guarded n c.args.guards.now ≡ false) (sym c.requires.path) c.requires.unguarded)
    (subst (λ n. is_own_in known n ≡ false) (sym c.requires.path) c.requires.own) c.requires.readable c.in-Ok.ensures c.in_ok-end.ensures
    (subst (λ f. IfSome known (λ k. MayReplace c.args.kind c.in-Ok.unchanged k path f)) c.file_of.ensures c.in_ok-check_replaced.ensures)
    c.keep_written.ensures.ok c.keep_written.ensures.stepped)

pub returns-clause-undone : goal.returns-clause-undone
returns-clause-undone g c =
    let known = g.D.Disk.known c.args.disk.now in
    let after = g.D.Disk.known c.keep_written.new.disk in
    let path = c.args.path.now in
    let file = file_of (option_map string_bytes c.in_ok-end.end) path in
    subst (λ n. OnErr c.keep_written.result (Does known after (λ k deeds. IsRefused k n c.args.kind deeds))) c.requires.path
    (refuses_is c.keep_written.result known _ c.args.kind c.in-Ok.unchanged path file c.saying_of-saying.result c.saying_of-saying.ensures
    c.in_ok-end.ensures c.keep_written.ensures.undone)
