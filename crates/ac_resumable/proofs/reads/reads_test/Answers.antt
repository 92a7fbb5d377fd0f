use Rattle.std.proofs.Common.{sym, ap, ◌∙◌}
use Rattle.shellword.specs.Truth.{single}
use Rattle.ac_tree.specs.Decide.{reads_test}
use Rattle.ac_resumable.proofs.Reading.{test_elements}
use Rattle.ac_resumable.proofs.reads.reads_test.Goals as goal

pub returns : goal.returns
returns c =
    c.reads_first.ensures
    ∙ sym (ap (reads_test c.args.tested.now) c.elements.ensures ∙ test_elements c.args.tested.now (single c.elements.result.0.now) c.elements.result.1.now)
