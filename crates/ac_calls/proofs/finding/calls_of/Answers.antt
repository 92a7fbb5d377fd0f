use Rattle.std.proofs.Common.{◌≡◌, ◌↔◌, map, length, subst, sym}
use Rattle.std.specs.Prelude.{Contains}
use Rattle.ac_calls.specs.Calls.{MacroCall, macro_call_of, calls_in, AreInOrder}
use Rattle.ac_calls.specs.Standing.{IsCallOf}
use Rattle.ac_calls.proofs.Found.{calls_found}
use Rattle.ac_calls.proofs.Order.{along, calls_order}
use Rattle.ac_calls.proofs.finding.calls_of.Goals as goal

pub returns-clause-found : goal.returns-clause-found
returns-clause-found c =
    let text = c.args.text.now in
    along (λ v. map macro_call_of v.items ≡ calls_in text) (λ v. (call : MacroCall) → Contains (map macro_call_of v.items) call ↔ IsCallOf text call)
    (λ v is call. subst (λ calls. Contains calls call ↔ IsCallOf text call) (sym is) (calls_found text call))
    c.find_all.result c.find_all.ensures

pub returns-clause-in_order : goal.returns-clause-in_order
returns-clause-in_order c =
    let text = c.args.text.now in
    along (λ v. map macro_call_of v.items ≡ calls_in text) (λ v. AreInOrder 0 (length text) (map macro_call_of v.items))
    (λ v is. subst (AreInOrder 0 (length text)) (sym is) (calls_order text))
    c.find_all.result c.find_all.ensures
