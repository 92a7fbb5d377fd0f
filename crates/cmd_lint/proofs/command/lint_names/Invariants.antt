use Rattle.std.proofs.Common.{◌≡◌, ◌≢◌, ◌≤◌, Bool, false, take}
use Rattle.std.specs.List.{filter}
use Rattle.cmd_lint.specs.Status.{AreLinted, is_name, status_of}
use Rattle.cmd_lint.proofs.Saying.{SaysOf}
use Rattle.cmd_lint.proofs.command.lint_names.Given as goal

abbrev pub invariant-words : goal.invariant-words
invariant-words g l = record {
  kept : (l.reads ≡ false → l.input ≡ l.fn.input) × (l.status ≤ 2) × (l.status ≢ 2 → l.errors ≡ l.fn.errors)
      × (l.status ≢ 2 → (has : Bool) × AreLinted (g.D.Disk.known l.disk) (filter is_name (take l.word-index l.words)) has × (l.status ≡ status_of has));
  said : SaysOf g.E.Write.contents g.E.Hears.has_failed l.fn.errors l.errors (g.D.Disk.known l.disk) (g.W.Hears.has_failed l.output) (filter is_name (take l.word-index l.words)) l.status;
}
