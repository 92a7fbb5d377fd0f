use Rattle.std.proofs.Common.{◌≡◌, ◌∙◌, sym, ap, Bool, true, None, [], subst}
use Rattle.std.specs.Prelude.{◌↔◌}
use Rattle.ac_tree.specs.Decide.{is_resumable}
use Rattle.ac_tree.specs.Resumable.{IsResumable}
use Rattle.ac_tree.specs.Script.{script_of}
use Rattle.ac_tree.proofs.Deciding.{script_decided}
use Rattle.ac_tree.proofs.source.Source.is_resumable.Goals as goal

pub returns-clause-rules : goal.returns-clause-rules
returns-clause-rules c =
    let script = script_of c.args.self.now in
    let is : is_resumable script ≡ c.self.inside.resumes = sym (c.self.invariant.1 ∙ ap (λ s. is_resumable (script_of s)) c.self.view_is) in
    subst (λ (b : Bool). (b ≡ true) ↔ IsResumable script) is (script_decided None [] script)
