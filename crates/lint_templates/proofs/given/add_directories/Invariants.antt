use Rattle.std.proofs.Common.{◌≡◌, drop, map}
use Rattle.options_line.specs.Directories.{variable_of}
use Rattle.lint_templates.specs.Names.{with_all}
use Rattle.lint_templates.proofs.given.add_directories.Given as goal

abbrev pub invariant-loop-directory : goal.invariant-loop-directory
invariant-loop-directory l = with_all l.list (map variable_of (drop l.directory-index l.directories)) ≡ with_all l.fn.list (map variable_of l.directories)
