use Rattle.std.proofs.Common.{rules, ◌≡◌, ◌≤◌, length, ap, subst, ◌∙◌}
use Rattle.std.proofs.lemmas.List.{take_all}
use Rattle.cachefile.specs.Cache.{marks_after}
use Rattle.cachefile.proofs.Pours.{marks_same}
use Rattle.cachefile.proofs.cache.OldCache.pour_marks.Goals as goal

pub returns-clause-same : goal.returns-clause-same
returns-clause-same c =
    let same : c.deref-entry-items.result.now ≡ c.args.self.now = search rules in
    let ended : length c.args.self.now ≤ c.loop-entry.entry-index = subst (λ xs. length xs ≤ c.loop-entry.entry-index) same c.loop-entry-test.false in
    marks_same c.args.self.now c.args.vars.now c.loop-entry.vars
    (c.loop-entry.invariant ∙ ap (λ settings. marks_after settings c.args.vars.now) (take_all c.loop-entry.entry-index c.args.self.now ended))
