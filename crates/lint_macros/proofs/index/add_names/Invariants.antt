use Rattle.std.proofs.Common.{◌≡◌, ℕ, List, map, drop}
use Rattle.lint_macros.specs.Entries.{read, or_later, said_with, first_name}
use Rattle.lint_macros.specs.Index.{said_by}
use Rattle.lint_macros.proofs.index.add_names.Given as goal

abbrev pub invariant-loop-one : goal.invariant-loop-one
invariant-loop-one l =
    (n : List ℕ) → or_later (said_by l.names.entries n) (said_with (read l.row) (first_name l.row.kind n (map (λ k. k.now) (drop l.one-index l.known))))
    ≡ or_later (said_by l.initial.names.entries n) (said_with (read l.row) (first_name l.row.kind n (map (λ k. k.now) l.known)))
