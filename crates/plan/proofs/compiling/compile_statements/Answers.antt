use Rattle.std.proofs.Common.{◌≡◌, ◌≤◌, ◌*◌, ap, ◌∙◌, sym, subst, arith, length}
use Rattle.ac_tree.specs.Script.{script_of}
use Rattle.plan.specs.Inside.{StaysInside, AskFew, asks_after}
use Rattle.plan.specs.Code.{code_of}
use Rattle.plan.specs.Weight.{weight}
use Rattle.plan.specs.Walk.{walk, empty_mind}
use Rattle.plan.proofs.Follows.{does_what}
use Rattle.plan.proofs.Insides.{code_stays, code_asks, code_few}
use Rattle.plan.proofs.Weights.{code_bound, within}
use Rattle.plan.proofs.compiling.compile_statements.Goals as goal

pub new-requires : goal.new-requires
new-requires c =
    let fits = within _ _ _ (sym c.if-is_none.ensures) c.weigh.ensures.fits in
    record {
      inside = subst StaysInside (sym c.in_ok-code.ensures) (code_stays (script_of c.args.statements.now));
      within = omega (arith, ap length c.in_ok-code.ensures, code_bound (script_of c.args.statements.now), fits);
      each = subst AskFew (sym c.in_ok-code.ensures) (code_few (script_of c.args.statements.now) fits);
    }

pub returns-clause-meaning : goal.returns-clause-meaning
returns-clause-meaning c = λ st.
    ap (λ l. walk l 0 empty_mind st) (c.new.ensures ∙ c.in_ok-code.ensures) ∙ does_what (script_of c.args.statements.now) st

pub returns-clause-steps : goal.returns-clause-steps
returns-clause-steps c =
    omega (arith, ap length (c.new.ensures ∙ c.in_ok-code.ensures), code_bound (script_of c.args.statements.now), within _ _ _ (sym c.if-is_none.ensures) c.weigh.ensures.fits)

pub returns-clause-asks : goal.returns-clause-asks
returns-clause-asks c =
    let e : c.new.result ≡ code_of (script_of c.args.statements.now) = c.new.ensures ∙ c.in_ok-code.ensures in
    subst (λ l. asks_after l 0 ≤ 65536 * weight (script_of c.args.statements.now)) (sym e) (code_asks (script_of c.args.statements.now))
