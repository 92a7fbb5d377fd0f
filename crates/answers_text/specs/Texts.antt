-- The text of the answers of a run. It has a first line, and then a record for each answer.
use Rattle.std.specs.Prelude.{ℕ, List, [], ◌∷◌, ◌++◌, Option, None, Some, codes, length}
use Rattle.std.specs.Int.{w64, to_be_bytes}
use Rattle.std.specs.List.{flat_map}
use Rattle.hex.specs.Hex.{encode_lower}
use Rattle.sha2.specs.Sha256.{sha256}
use Rattle.crew_jobs.specs.declared.job.Job.{Job}
use Rattle.answers_text.specs.declared.record.Record.{Record}

-- A number: eight bytes, the highest first. (own)
unfoldable pub number : ℕ → List ℕ
number n = to_be_bytes w64 n

-- A text, after its length. (own)
unfoldable pub sized : List ℕ → List ℕ
sized text = number (length text) ++ text

-- The program that a job reads: the name of its file, its length and its SHA-256 digest. Without a program it is a zero. (own)
abbrev pub program : Option (List ℕ × List ℕ) → List ℕ
program None = number 0
program (Some file) = number 1 ++ (sized file.0 ++ (number (length file.1) ++ sha256 file.1))

-- What a record says of a job: its words, and the program that it reads. (own)
unfoldable pub job_text : Job → List ℕ
job_text job = number (length job.words) ++ (flat_map sized job.words ++ program job.file)

-- What a record says: the number of the start, the job, and the answer. (own)
unfoldable pub body : Record → List ℕ
body r = number r.number ++ (sized r.job ++ (number r.status ++ sized r.text))

-- The digest of a record: that of the digest before it, and of what the record says. (own)
unfoldable pub digest_after : List ℕ → Record → List ℕ
digest_after before r = sha256 (before ++ body r)

-- A record: what it says, and its digest. (own)
abbrev pub record_text : List ℕ → Record → List ℕ
record_text before r = body r ++ digest_after before r

-- Records in order, after this digest. (own)
abbrev pub chain : List ℕ → List Record → List ℕ
chain before [] = []
chain before (r ∷ rs) = record_text before r ++ chain (digest_after before r) rs

-- The digest of the last record, or this one if there is none. (own)
abbrev pub last_digest : List ℕ → List Record → List ℕ
last_digest before [] = before
last_digest before (r ∷ rs) = last_digest (digest_after before r) rs

-- The first line, which names the run. (own)
unfoldable pub first_line : List ℕ → List ℕ
first_line run = codes "acrun answers 1 " ++ encode_lower run ++ codes "\n"

-- The digest before the first record: that of the first line. (own)
abbrev pub first_digest : List ℕ → List ℕ
first_digest run = sha256 (first_line run)

-- The text of a run and its records. (own)
abbrev pub answers_text : List ℕ → List Record → List ℕ
answers_text run records = first_line run ++ chain (first_digest run) records
