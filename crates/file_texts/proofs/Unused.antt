-- A receiver that has taken nothing.
use Rattle.std.proofs.Common.{◌≡◌, [], ◌++◌, refl, sym, ap, ◌∙◌, append-nil, append_assoc}
use Rattle.file_texts.specs.Held.{Held, fresh, receipt_of, with_guards, GuardsMore, IsUnused}

pub guards_none : {D : Type 0} (o : Held D) → GuardsMore o o
guards_none o = ([], ap (with_guards o) (sym (append-nil o.guards)))

pub guards_then : {D : Type 0} (a b c : Held D) → GuardsMore a b → GuardsMore b c → GuardsMore a c
guards_then a b c first next = (
  first.0 ++ next.0,
  next.1 ∙ ap (λ o. with_guards o (o.guards ++ next.0)) first.1
      ∙ ap (with_guards a) (append_assoc a.guards first.0 next.0),
)

pub more_unused : {D : Type 0} (a b : Held D) → IsUnused a → GuardsMore a b → IsUnused b
more_unused a b unused more = record {
  nothing = ap (λ o. o.handed) more.1 ∙ unused.nothing;
  unrefused = ap (λ o. o.failures) more.1 ∙ unused.unrefused;
  silent = ap (λ o. o.lines) more.1 ∙ unused.silent;
  unplaced = ap (λ o. o.places) more.1 ∙ unused.unplaced;
  opened = ap (λ o. o.closed) more.1 ∙ unused.opened;
}

pub fresh_unused : {D : Type 0} (d : D) (o : Held D) → o ≡ fresh d → IsUnused o
fresh_unused d o is = record {
  nothing = ap (λ h. h.handed) is;
  unrefused = ap (λ h. h.failures) is;
  silent = ap (λ h. h.lines) is;
  unplaced = ap (λ h. h.places) is;
  opened = ap (λ h. h.closed) is;
}

pub unused_receipt : {D : Type 0} (o : Held D) → IsUnused o
    → receipt_of o ≡ record { handed = []; failures = 0 }
unused_receipt o unused = rw (unused.nothing, unused.unrefused, unused.opened) refl
