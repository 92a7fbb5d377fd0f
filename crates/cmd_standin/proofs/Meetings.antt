-- Files by which conftests meet.
use Rattle.std.proofs.Common.{◌≡◌, ℕ, List, ◌++◌, Option, Some, None, inl, refl, subst, sym, ◌∙◌}
use Rattle.std.specs.Prelude.{codes}
use Rattle.cmd_standin.specs.Standin.{IsMade, Meets, conftest_name, seen}

-- No file was made.
pub none_made : (o : Option (List (List ℕ))) (name : List ℕ) → IsMade o o name
none_made None name = tt
none_made (Some before) name = inl refl

-- A file of this name was made.
pub made_as : (old new : Option (List (List ℕ))) (made name : List ℕ) → made ≡ name ++ codes ".seen" → IsMade old new made → IsMade old new (name ++ codes ".seen")
made_as old new made name is m = subst (IsMade old new) is m

-- So the conftest of these words is seen.
pub meets_seen : (old new : Option (List (List ℕ))) (entry : Option (List ℕ)) (slice : List ℕ) → entry ≡ Some slice → IsMade old new (slice ++ codes ".seen")
    → (words : List (List ℕ)) → entry ≡ conftest_name words → Meets old new words
meets_seen old new entry slice is made words same = seen slice (sym same ∙ is) made
