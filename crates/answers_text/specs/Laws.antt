-- What the laws say of texts and of readings.
use Rattle.std.specs.Prelude.{◌≡◌, ℕ, ◌^◌, ◌<◌, ⊤, List, ◌++◌, Option, None, Some, length}
use Rattle.std.specs.List.{AllByRecursion}
use Rattle.sha2.specs.Sha256.{sha256}
use Rattle.crew_jobs.specs.declared.job.Job.{Job}
use Rattle.answers_text.specs.declared.record.Record.{Record}

-- The first list begins the second. (own)
pub record IsFront (front whole : List Record) : Type 0 where
  pub more : List Record
  pub is : whole ≡ front ++ more

-- The length of a word has a place in a record. (own)
abbrev pub IsSized : List ℕ → Type 0
IsSized text = length text < 2 ^ 64

-- The lengths of a program have a place in a record. (own)
abbrev pub IsSizedFile : Option (List ℕ × List ℕ) → Type 0
IsSizedFile None = ⊤
IsSizedFile (Some file) = IsSized file.0 × IsSized file.1

-- The numbers of a job have a place in a record. (own)
pub record IsSizedJob (job : Job) : Type 0 where
  pub few_words : length job.words < 2 ^ 64
  pub words : AllByRecursion IsSized job.words
  pub file : IsSizedFile job.file

-- Both are nothing, or programs of one name, one length and one digest. (own)
abbrev pub IsSameFile : Option (List ℕ × List ℕ) → Option (List ℕ × List ℕ) → Type 0
IsSameFile None None = ⊤
IsSameFile None (Some b) = ⊥
IsSameFile (Some a) None = ⊥
IsSameFile (Some a) (Some b) = (a.0 ≡ b.0) × (length a.1 ≡ length b.1) × (sha256 a.1 ≡ sha256 b.1)

-- Two jobs have the same words, and programs of one name, one length and one digest. (own)
pub record IsSameJob (a b : Job) : Type 0 where
  pub words : a.words ≡ b.words
  pub file : IsSameFile a.file b.file
