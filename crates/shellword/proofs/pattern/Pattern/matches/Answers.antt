use Rattle.std.proofs.Common.{◌≡◌, List, sym, ap, ◌∙◌}
use Rattle.shellword.specs.declared.pattern.Piece.{Piece}
use Rattle.shellword.specs.Matcher.{matching}
use Rattle.shellword.proofs.Matcher.{matches-matching, matching-matches}
use Rattle.shellword.proofs.pattern.Pattern.matches.Goals as goal

pub returns : goal.returns
returns c =
    let is : c.match_pieces.result ≡ matching c.args.self.now c.args.text.now =
    c.match_pieces.ensures ∙ ap (λ (ps : List Piece). matching ps c.args.text.now) (c.deref.ensures.value ∙ c.self.view_is) in
    (λ h. matching-matches c.args.self.now c.args.text.now (sym is ∙ h), λ h. is ∙ matches-matching h)
