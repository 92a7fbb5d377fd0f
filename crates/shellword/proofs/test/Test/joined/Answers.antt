use Rattle.std.proofs.Common.{ap, ◌∙◌}
use Rattle.shellword.specs.Truth.{Joined, single, joined}
use Rattle.shellword.specs.Nested.{nested, nested_push}
use Rattle.shellword.proofs.test.Test.joined.Goals as goal

pub returns-clause-ok : goal.returns-clause-ok
returns-clause-ok c =
    ap (nested (single c.self.inside.first)) c.in_ok-push.ensures.items ∙ nested_push (single c.self.inside.first) c.self.inside.rest.items (c.args.joint, c.args.element)
    ∙ ap (λ (t : Joined). joined t c.args.joint c.args.element) c.self.view_is
