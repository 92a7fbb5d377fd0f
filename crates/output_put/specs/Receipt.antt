-- What a receiver was handed.
use Rattle.std.specs.Prelude.{◌≡◌, ℕ, ◌+◌, ◌<◌, List, [], ◌∷◌, ◌++◌, length, take}
use Rattle.output_put.specs.declared.artifact.Artifact.{Artifact}

-- What was handed over, in order, and the number of puts that were refused. (own)
pub record Receipt : Type 0 where
  pub handed : List Artifact
  pub failures : ℕ

-- The receipt after a put that was taken. (own)
abbrev pub with_artifact : Receipt → Artifact → Receipt
with_artifact r artifact = record { handed = r.handed ++ artifact ∷ []; failures = r.failures }

-- The receipt after puts that were all taken. (own)
abbrev pub with_artifacts : Receipt → List Artifact → Receipt
with_artifacts r artifacts = record { handed = r.handed ++ artifacts; failures = r.failures }

-- The receipt after a put that was refused. (own)
abbrev pub with_refusal : Receipt → Receipt
with_refusal r = record { handed = r.handed; failures = r.failures + 1 }

-- Of these artifacts, put number k, counted from 1, was refused: those before it were handed over, and nothing after it. (own)
pub record IsCutAt (artifacts : List Artifact) (before now : Receipt) (k : ℕ) : Type 0 where
  pub first : ℕ
  pub number : k ≡ first + 1
  pub within : first < length artifacts
  pub receipt : now ≡ with_refusal (with_artifacts before (take first artifacts))
