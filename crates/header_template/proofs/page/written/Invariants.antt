use Rattle.std.proofs.Common.{◌≡◌, ◌++◌, map}
use Rattle.std.specs.List.{flat_map}
use Rattle.header_template.specs.Pages.{head, lines_of, said_of}
use Rattle.header_template.proofs.Held.{seen}
use Rattle.header_template.proofs.page.written.Given as goal

abbrev pub invariant-entries : goal.invariant-entries
invariant-entries l = (l.page.items ≡ head ++ flat_map lines_of (map seen l.yielded)) × (l.said.items ≡ flat_map said_of (map seen l.yielded))
