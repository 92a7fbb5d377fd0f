use Rattle.std.proofs.Common.{◌≡◌, ◌++◌, map, drop}
use Rattle.lint_macros.specs.Filling.{filled_signs}
use Rattle.lint_macros.proofs.filling.put_signs.Given as goal

abbrev pub invariant-loop-text : goal.invariant-loop-text
invariant-loop-text l = l.out.items ++ filled_signs (map (λ a. a.now) l.args) (map (λ t. t.now) (drop l.text-index l.texts)) ≡ l.initial.out.items ++ filled_signs (map (λ a. a.now) l.args) (map (λ t. t.now) l.texts)
