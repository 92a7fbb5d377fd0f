-- The names that were tested, as the code keeps them.
use Rattle.std.specs.Prelude.{◌≡◌, ℕ, Bool, true, List, ◌++◌}
use Rattle.deftable.specs.NameList.{has_name}
use Rattle.shellword.specs.declared.part.Part.{Part}
use Rattle.shellword.specs.declared.part.Part.TheVariants.{Plain, Quoted, Variable}
use Rattle.ac_tree.specs.Decide.{may_read}

-- The same names are in both lists. (own)
abbrev pub HasSameNames : List (List ℕ) → List (List ℕ) → Type 0
HasSameNames a b = (name : List ℕ) → has_name a name ≡ has_name b name

-- The second list begins with the first. (own)
abbrev pub Extends : List (List ℕ) → List (List ℕ) → Type 0
Extends old new = (more : List (List ℕ)) × (new ≡ old ++ more)

-- The variable of a part may be read, if it is one. (own)
abbrev pub reads_part : List (List ℕ) → Part → Bool
reads_part tested (Plain b) = true
reads_part tested (Quoted b) = true
reads_part tested (Variable name) = may_read tested name
