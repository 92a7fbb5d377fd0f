-- One artifact more, and what is said of it.
use Rattle.std.specs.Prelude.{ℕ, Bool, true, false, List, [], ◌∷◌, ◌++◌}
use Rattle.std.proofs.Common.{sym, subst, append-nil, append_assoc}
use Rattle.output_put.specs.declared.artifact.Artifact.{Artifact}
use Rattle.output_put.specs.declared.artifact.Kind.{Kind}
use Rattle.output_put.specs.declared.artifact.Kind.TheVariants.{Cache, Record, File, Header}
use Rattle.file_texts.specs.Lines.{IsSaid, cache, record_made, file, header, unchanged, AreLines, none, more}
use Rattle.file_texts.specs.Sayings.{saying_of, said}

pub is_said : (kind : Kind) (left : Bool) (name : List ℕ)
    → IsSaid kind name (said (saying_of kind left) name)
is_said Cache left name = cache
is_said Record left name = record_made
is_said File left name = file
is_said Header true name = unchanged
is_said Header false name = header

pub one_more : {artifacts : List Artifact} {lines : List ℕ} (artifact : Artifact) (line : List ℕ)
    → AreLines artifacts lines → IsSaid artifact.kind artifact.name line
    → AreLines (artifacts ++ artifact ∷ []) (lines ++ line)
one_more artifact line none is_line =
    let P : List ℕ → Type 0 = λ text. AreLines (artifact ∷ []) text in subst P (append-nil line) (more line [] is_line none)
one_more artifact line (more {artifact = first} {artifacts = artifacts} front rest is_front are) is_line =
    let P : List ℕ → Type 0 = λ text. AreLines (first ∷ (artifacts ++ artifact ∷ [])) text in
    subst P (sym (append_assoc front rest line)) (more front (rest ++ line) is_front (one_more artifact line are is_line))
