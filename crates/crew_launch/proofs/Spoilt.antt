-- What a new file that is not filled leaves.
use Rattle.std.proofs.Common.{◌≡◌, ◌⊎◌, List, ℕ, [], ◌∷◌, ◌++◌, Option, Result, Ok, Err, OnErr, inl, inr, refl, ap, ◌∙◌, append_assoc}
use Rattle.file_disk.specs.Known.{Known, Deed, Made, Failed, Adds}
use Rattle.file_disk.specs.Clearing.{DoesAll, clearing_now}
use Rattle.file_disk.proofs.Deeds.{does, does_then}
use Rattle.crew_launch.specs.Fresh.{DoesFront, spoiling, tearing}

-- Nothing was made, or all was that a file has which is not filled.
front : (a b : Option Known) (name : List ℕ) → (Adds a b [] ⊎ Adds a b (Made name ∷ Failed name ∷ []))
    → DoesFront a b (tearing name)
front a b name (inl none) =
    does a b [] (λ k d. (rest : List Deed) × (d ++ rest ≡ tearing name k)) none (λ k. (tearing name k, refl))
front a b name (inr torn) =
    does a b (Made name ∷ Failed name ∷ []) (λ k d. (rest : List Deed) × (d ++ rest ≡ tearing name k)) torn (λ k. ([], refl))

-- The same after what was there was removed, of an answer that is an error.
pub spoilt : {X E : Type 0} (r : Result X E) (a b c : Option Known) (name : List ℕ) → DoesAll a b (clearing_now name)
    → OnErr r (Adds b c [] ⊎ Adds b c (Made name ∷ Failed name ∷ []))
    → OnErr r (DoesFront a c (spoiling name))
spoilt (Ok x) a b c name cleared torn = tt
spoilt (Err e) a b c name cleared torn =
    does_then a b c (λ k d. d ≡ clearing_now name k) (λ k d. (rest : List Deed) × (d ++ rest ≡ tearing name k)) (λ k d. (rest : List Deed) × (d ++ rest ≡ spoiling name k)) cleared (front b c name torn)
    (λ k d e is q. (q.0, append_assoc d e q.0 ∙ ap (λ l. d ++ l) q.1 ∙ ap (λ l. l ++ Made name ∷ Failed name ∷ []) is))
