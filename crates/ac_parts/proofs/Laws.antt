-- What a walk says of a list of parts.
use Rattle.std.proofs.Common.{◌≡◌, ◌↔◌, ℕ, Bool, List, sym, ◌∙◌}
use Rattle.std.specs.Prelude.{IsTrue}
use Rattle.ac_parts.specs.declared.kind.Part.{Part}
use Rattle.ac_parts.specs.Trees.{IsTree}
use Rattle.ac_parts.specs.Walks.{goes, first}
use Rattle.ac_parts.proofs.Sound.{walk_sound}
use Rattle.ac_parts.proofs.Complete.{walk_complete}

pub walk_is_tree : (text : List ℕ) (parts : List Part) (b : Bool) → b ≡ goes text parts (first text parts) → IsTrue b ↔ IsTree text parts
walk_is_tree text parts b e = (λ is. walk_sound text parts (sym e ∙ is), λ tree. e ∙ walk_complete text parts tree)
