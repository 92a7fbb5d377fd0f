use Rattle.std.proofs.Common.{◌*◌, ◌%◌, ◌^◌, arith, subst, sym}
use Rattle.template.specs.Keys.{Passes}
use Rattle.template.proofs.Sieves.{Passes-added, Passes-kept}
use Rattle.template.proofs.sieve.Sieve.add.Goals as goal

pub returns-clause-added : goal.returns-clause-added
returns-clause-added c =
    Passes-added c.self.inside.rows c.args.text.now c.row_of-row.result c.end_slot.result c.row_of-row.ensures.row c.end_slot.ensures.place (omega (arith, c.row_of-row.ensures.small)) c.end_slot.ensures.small

pub returns-clause-kept : goal.returns-clause-kept
returns-clause-kept c other h =
    Passes-kept c.self.inside.rows c.row_of-row.result (1 * 2 ^ c.end_slot.result % 2 ^ 64) (omega (arith, c.row_of-row.ensures.small)) other (subst (λ rows. Passes rows other) (sym c.self.view_is) h)
