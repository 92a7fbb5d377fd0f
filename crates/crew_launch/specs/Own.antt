-- The files that a run has for itself, and the deeds that are done to no other.
use Rattle.std.specs.Prelude.{◌≡◌, ◌⊎◌, ◌==◌, ◌&&◌, ℕ, not, Bool, true, List, codes, All, Option, Some}
use Rattle.std.specs.List.{list_any, starts_with}
use Rattle.crew_jobs.specs.Probe.{file_name}
use Rattle.file_disk.specs.Known.{Deed, Failed, Filled, Made, MadeDirectories, Removed, Renamed}

-- The name of a file that a run has for itself: it begins with `conftest`, and has no slash. (own)
unfoldable pub is_own : List ℕ → Bool
is_own name = starts_with ◌==◌ name (codes "conftest") && not (list_any (λ b. b == 47) name)

-- The conftest of each job has such a name. (own)
abbrev pub ConftestsAreOwn : Type 0
ConftestsAreOwn = (number : ℕ) → is_own (file_name number) ≡ true

-- Each name of a deed has this property. (own)
abbrev pub IsDeedOn : (List ℕ → Type 0) → Deed → Type 0
IsDeedOn P (MadeDirectories name) = P name
IsDeedOn P (Made name) = P name
IsDeedOn P (Filled name mode text) = P name
IsDeedOn P (Failed name) = P name
IsDeedOn P (Renamed from to) = P from × P to
IsDeedOn P (Removed name) = P name

-- All deeds are done to the file that is stale. (own)
unfoldable pub AreOnStale : Option (List ℕ) → List Deed → Type 0
AreOnStale stale deeds = All (IsDeedOn (λ name. stale ≡ Some name)) deeds

-- All deeds are done to files that a run has for itself. (own)
unfoldable pub AreOnOwn : List Deed → Type 0
AreOnOwn deeds = All (IsDeedOn (λ name. is_own name ≡ true)) deeds

-- All deeds are done to files that a run has for itself, or to the one that is stale. (own)
unfoldable pub AreOwn : Option (List ℕ) → List Deed → Type 0
AreOwn stale deeds = All (IsDeedOn (λ name. (is_own name ≡ true) ⊎ (stale ≡ Some name))) deeds
