-- What contracts see of the receiver that writes to files.
use Rattle.std.specs.Prelude.{◌≡◌, ℕ, ◌+◌, Bool, true, false, List, [], ◌∷◌, ◌++◌, Option, option_map, IfSome, All}
use Rattle.file_disk.specs.Known.{Known, Files}
use Rattle.file_texts.specs.Places.{place_under, is_name_guarded}
use Rattle.file_texts.specs.declared.places.Guard.{Guard}
use Rattle.file_texts.specs.declared.places.FilePlace.{FilePlace}
use Rattle.output_put.specs.Receipt.{Receipt}
use Rattle.output_put.specs.declared.artifact.Artifact.{Artifact}

-- What it took, in order; the number of puts that it refused; the lines on what it took; the names
-- that it guards, with their places; the places of what it took; whether it is closed; and its disk.
-- (own)
pub record Held (D : Type 0) : Type 0 where
  pub handed : List Artifact
  pub failures : ℕ
  pub lines : List ℕ
  pub guards : List Guard
  pub places : List FilePlace
  pub closed : Bool
  pub disk : D

-- A receiver of nothing so far. (own)
abbrev pub fresh : {D : Type 0} → D → Held D
fresh disk = record { handed = []; failures = 0; lines = []; guards = []; places = []; closed = false; disk = disk }

-- The refusals that a closing counts as. (own)
abbrev pub closings : Bool → ℕ
closings false = 0
closings true = 1

-- Its receipt, in which the closing counts as one refusal more, since each later put is refused. (own)
abbrev pub receipt_of : {D : Type 0} → Held D → Receipt
receipt_of o = record { handed = o.handed; failures = o.failures + closings o.closed }

-- The artifact was taken, with this line on it, its places were added, and nothing else changed but
-- the disk. (own)
abbrev pub IsTaken : {D : Type 0} → Held D → Held D → Artifact → List ℕ → Type 0
IsTaken old new artifact line = new ≡ record { handed = old.handed ++ artifact ∷ []; failures = old.failures; lines = old.lines ++ line; guards = old.guards; places = new.places; closed = old.closed; disk = new.disk }

-- One refusal more is counted, and nothing else changed but the disk. (own)
abbrev pub IsCounted : {D : Type 0} → Held D → Held D → Type 0
IsCounted old new = new ≡ record { handed = old.handed; failures = old.failures + 1; lines = old.lines; guards = old.guards; places = old.places; closed = old.closed; disk = new.disk }

-- It is closed now, and nothing else changed but the disk. (own)
abbrev pub IsClosed : {D : Type 0} → Held D → Held D → Type 0
IsClosed old new = new ≡ record { handed = old.handed; failures = old.failures; lines = old.lines; guards = old.guards; places = old.places; closed = true; disk = new.disk }

-- The receiver with other guarded names.
abbrev pub with_guards : {D : Type 0} → Held D → List Guard → Held D
with_guards o guards = record { handed = o.handed; failures = o.failures; lines = o.lines; guards = guards; places = o.places; closed = o.closed; disk = o.disk }

-- The name is guarded now, with its place, if the directory of the name is there, and nothing else
-- changed. (own)
pub record IsGuarded {D : Type 0} (known : D → Option Known) (old new : Held D) (name : List ℕ) : Type 0 where
  pub place : Option FilePlace
  pub at : IfSome (known old.disk) (λ k. place ≡ place_under k name)
  pub guarded : new ≡ with_guards old (old.guards ++ record { name = name; place = place } ∷ [])

-- More names may be guarded now, and nothing else changed. (own)
abbrev pub GuardsMore : {D : Type 0} → Held D → Held D → Type 0
GuardsMore old new = (more : List Guard) × (new ≡ with_guards old (old.guards ++ more))

-- No artifact that was taken has a guarded name. (own)
abbrev pub AreUnguarded : List Guard → List Artifact → Type 0
AreUnguarded guards artifacts = All (λ artifact. is_name_guarded artifact.name guards ≡ false) artifacts

-- What no put changes: the names that are guarded, with their places; what is under the names of the
-- disk, if that is known; and whether the receiver is closed. (own)
pub record Lasting : Type 0 where
  pub guards : List Guard
  pub files : Option Files
  pub closed : Bool

abbrev pub lasting_of : {D : Type 0} → (D → Option Known) → Held D → Lasting
lasting_of known o = record { guards = o.guards; files = option_map (λ k. k.files) (known o.disk); closed = o.closed }

-- The receiver has taken nothing, and no put was refused. It may guard names. (own)
pub record IsUnused {D : Type 0} (o : Held D) : Type 0 where
  pub nothing : o.handed ≡ []
  pub unrefused : o.failures ≡ 0
  pub silent : o.lines ≡ []
  pub unplaced : o.places ≡ []
  pub opened : o.closed ≡ false
