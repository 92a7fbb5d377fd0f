use Rattle.std.proofs.Common.{ap, ◌∙◌}
use Rattle.file_texts.specs.Held.{Held}
use Rattle.file_texts.proofs.Guarded.{guards_all, none_yet}
use Rattle.file_texts.proofs.Puts.{guarded_after}
use Rattle.file_texts.proofs.receiver.FileOutputs.keep.Goals as goal

pub invariant_of-self-2 : goal.invariant_of-self-2
invariant_of-self-2 g c = (
  c.self.invariant.0,
  none_yet _ _ (ap (λ h. h.handed) c.self.view_is ∙ c.requires.nothing),
  λ unclosed. guarded_after _ _ _ _ _ _ _ (ap (λ h. h.handed) c.self.view_is ∙ c.requires.nothing) (ap (λ h. h.failures) c.self.view_is ∙ c.requires.unrefused) (c.self.invariant.2 unclosed),
)

pub returns-clause-guarded : goal.returns-clause-guarded
returns-clause-guarded g c _ =
    let inside = c.self.inside in
    let old : Held _ = record { handed = inside.artifacts.items; failures = inside.failures; lines = inside.lines.items; guards = inside.guards; places = inside.places; closed = inside.is_closed; disk = inside.disk } in
    (guards_all g.D.Disk.known c.args.self.now old c.args.name.now c.in-Some.name.now c.in_ok-guard.guard c.push.new.self c.self.view_is c.in-Some.ensures.text c.in_ok-guard.ensures.name c.in_ok-guard.ensures.place c.in_ok-push.ensures.ok).0

pub returns-clause-named : goal.returns-clause-named
returns-clause-named g c _ =
    let inside = c.self.inside in
    let old : Held _ = record { handed = inside.artifacts.items; failures = inside.failures; lines = inside.lines.items; guards = inside.guards; places = inside.places; closed = inside.is_closed; disk = inside.disk } in
    (guards_all g.D.Disk.known c.args.self.now old c.args.name.now c.in-Some.name.now c.in_ok-guard.guard c.push.new.self c.self.view_is c.in-Some.ensures.text c.in_ok-guard.ensures.name c.in_ok-guard.ensures.place c.in_ok-push.ensures.ok).1

pub returns-clause-more : goal.returns-clause-more
returns-clause-more g c =
    let inside = c.self.inside in
    let old : Held _ = record { handed = inside.artifacts.items; failures = inside.failures; lines = inside.lines.items; guards = inside.guards; places = inside.places; closed = inside.is_closed; disk = inside.disk } in
    (guards_all g.D.Disk.known c.args.self.now old c.args.name.now c.in-Some.name.now c.in_ok-guard.guard c.push.new.self c.self.view_is c.in-Some.ensures.text c.in_ok-guard.ensures.name c.in_ok-guard.ensures.place c.in_ok-push.ensures.ok).2
