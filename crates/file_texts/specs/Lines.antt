-- The lines on what was handed over.
use Rattle.std.specs.Prelude.{ℕ, List, [], ◌∷◌, ◌++◌, codes}
use Rattle.output_put.specs.declared.artifact.Artifact.{Artifact}
use Rattle.output_put.specs.declared.artifact.Kind.{Kind}
use Rattle.output_put.specs.declared.artifact.Kind.TheVariants.{Cache, Record, File, Header}

-- The line on a file or a header that was written. (Autoconf's message)
abbrev pub creating_line : List ℕ → List ℕ
creating_line name = codes "config.status: creating " ++ (name ++ 10 ∷ [])

-- The line on a header that had its text before. (Autoconf's message)
abbrev pub unchanged_line : List ℕ → List ℕ
unchanged_line name = codes "config.status: " ++ (name ++ (codes " is unchanged" ++ 10 ∷ []))

-- The text is what is said of an artifact of this kind and name. Nothing is said of a cache and of a record. (own)
pub data IsSaid : Kind → List ℕ → List ℕ → Type 0 where
  cache : {name : List ℕ} → IsSaid Cache name []
  record_made : {name : List ℕ} → IsSaid Record name []
  file : {name : List ℕ} → IsSaid File name (creating_line name)
  header : {name : List ℕ} → IsSaid Header name (creating_line name)
  unchanged : {name : List ℕ} → IsSaid Header name (unchanged_line name)

-- The text is what is said of each artifact, one after the other. (own)
pub data AreLines : List Artifact → List ℕ → Type 0 where
  none : AreLines [] []
  more : {artifact : Artifact} {artifacts : List Artifact} (line rest : List ℕ) → IsSaid artifact.kind artifact.name line → AreLines artifacts rest
      → AreLines (artifact ∷ artifacts) (line ++ rest)
