use Rattle.std.proofs.Common.{subst, sym, ap, ◌∙◌}
use Rattle.options_line.specs.Slashes.{without_slashes}
use Rattle.options_line.specs.Srcdir.{srcdir_of, NamesDirectory}
use Rattle.options_line.proofs.Cuttings.{directory_named, directory_only}
use Rattle.options_line.proofs.srcdir.srcdir_of.Goals as goal

pub returns-clause-sound : goal.returns-clause-sound
unfolding srcdir_of
returns-clause-sound c =
    subst (λ d. NamesDirectory c.args.args.now d) (sym (c.without_slashes.ensures ∙ ap without_slashes c.srcdir_named.ensures)) (directory_named c.args.args.now)

pub returns-clause-complete : goal.returns-clause-complete
unfolding srcdir_of
returns-clause-complete c = λ d h. (c.without_slashes.ensures ∙ ap without_slashes c.srcdir_named.ensures) ∙ sym (directory_only c.args.args.now d h)
