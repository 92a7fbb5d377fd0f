use Rattle.std.proofs.Common.{refl}
use Rattle.lint_table.specs.declared.part.WordPart.TheVariants.{AsItIs}
use Rattle.lint_templates.proofs.Lost.{warned}
use Rattle.lint_templates.proofs.headers.warn_of_definition.Goals as goal

pub returns-clause-added : goal.returns-clause-added
returns-clause-added c =
    warned c.args.key c.args.source.now c.args.name.now _ (AsItIs c.args.name) _ _ c.span_of_definition-span.ensures refl c.in_ok-warn_by_key.ensures.added
