use Rattle.std.proofs.Common.{◌∙◌, sym, subst}
use Rattle.lint_templates.specs.Unlisted.{AreLost}
use Rattle.lint_sources.specs.Definitions.{no_header, headers}
use Rattle.lint_sources.proofs.linter.warn_of_definitions.Goals as goal

pub returns-then-count-files : goal.returns-then-count-files
returns-then-count-files c = no_header (sym c.count.ensures ∙ c.if-count-files.true ∙ c.files.ensures)

pub returns : goal.returns
returns c =
    headers c.in_ok-listed.listed c.in_ok-listed.ensures
    (subst (λ all. AreLost c.args.given.now.defined all c.args.text.now c.args.out.now.items c.warn_of_unlisted.new.out.items) c.in_ok-all.ensures c.in_ok-warn_of_unlisted.ensures.added)
