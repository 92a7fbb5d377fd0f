-- The names that no output may have.
use Rattle.std.specs.Prelude.{◌≡◌, ℕ, List, ◌∷◌, Option, IfSome, All, map, codes}
use Rattle.std.specs.List.{Contains}
use Rattle.file_disk.specs.Known.{Known}
use Rattle.file_texts.specs.Held.{Held}
use Rattle.file_texts.specs.Names.{IsFileName}
use Rattle.file_texts.specs.Places.{place_under}
use Rattle.file_texts.specs.declared.places.Guard.{Guard}
use Rattle.file_texts.specs.declared.places.FilePlace.{FilePlace}
use Rattle.cmd_call.specs.Supplies.{path_of}

-- The names of the templates, below the source directory. (own)
abbrev pub paths_of : List ℕ → List (List ℕ × List ℕ) → List (List ℕ)
paths_of srcdir templates = map (λ template. path_of srcdir template.0) templates

-- The names that no output of a run may have: the log, the source, and these templates. (own)
abbrev pub inputs_of : List ℕ → List (List ℕ × List ℕ) → List (List ℕ)
inputs_of srcdir templates = codes "config.log" ∷ path_of srcdir (codes "configure.ac") ∷ paths_of srcdir templates

-- The name is guarded, with the place that it has if these files are known. (own)
pub record HasGuard (files : Option Known) (guards : List Guard) (name : List ℕ) : Type 0 where
  pub place : Option FilePlace
  pub at : IfSome files (λ k. place ≡ place_under k name)
  pub guarded : Contains guards (record { name = name; place = place })

-- If a file can have the name, the receiver guards it. (own)
abbrev pub IsGuardedNow : {D : Type 0} → (D → Option Known) → Held D → List ℕ → Type 0
IsGuardedNow known o name = IsFileName name → HasGuard (known o.disk) o.guards name

-- Each of these names that a file can have is guarded. (own)
unfoldable pub AreGuarded : Option Known → List Guard → List (List ℕ) → Type 0
AreGuarded files guards names = All (λ name. IsFileName name → HasGuard files guards name) names
