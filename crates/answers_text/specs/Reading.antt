-- What is read of a text that may be cut, or that others may have written.
use Rattle.std.specs.Prelude.{◌≡◌, ℕ, ◌+◌, ◌^◌, ◌<◌, List, [], ◌∷◌, ◌++◌, length}
use Rattle.std.specs.List.{AllByRecursion}
use Rattle.answers_text.specs.declared.record.Record.{Record}
use Rattle.answers_text.specs.Texts.{chain, digest_after, first_digest, first_line, last_digest, record_text}

-- The numbers and the lengths of a record have a place in it. (own)
pub record IsWritable (r : Record) : Type 0 where
  pub number_fits : r.number < 2 ^ 64
  pub job_fits : length r.job < 2 ^ 64
  pub status_fits : r.status < 2 ^ 32
  pub text_fits : length r.text < 2 ^ 64

-- No record begins the text, after this digest. (own)
abbrev pub BeginsNone : List ℕ → List ℕ → Type 0
BeginsNone before text = (r : Record) (more : List ℕ) → IsWritable r → text ≡ record_text before r ++ more → ⊥

-- These are the records of the text: each is in it, at its place and with its digest, up to the first place where no record
-- begins. This many bytes have the first line and the records. (own)
pub record IsRead (run text : List ℕ) (records : List Record) (digest : List ℕ) (used : ℕ) : Type 0 where
  pub rest : List ℕ
  pub text_is : text ≡ first_line run ++ (chain (first_digest run) records ++ rest)
  pub digest_is : digest ≡ last_digest (first_digest run) records
  pub used_is : used + length rest ≡ length text
  pub writable : AllByRecursion IsWritable records
  pub ends : BeginsNone digest rest

-- One more record was read at the front of a text: it was appended, and its digest comes after the one before. (own)
pub record IsNext (before text : List ℕ) (old new : List Record) (after rest : List ℕ) : Type 0 where
  pub it : Record
  pub writable : IsWritable it
  pub text_is : text ≡ record_text before it ++ rest
  pub records_are : new ≡ old ++ it ∷ []
  pub digest_is : after ≡ digest_after before it

-- No record begins the text, and nothing was read. (own)
pub record IsStopped (before text : List ℕ) (old new : List Record) (after : List ℕ) : Type 0 where
  pub ends : BeginsNone before text
  pub records_are : new ≡ old
  pub digest_is : after ≡ before

-- These records are at the front of the text, after this digest. (own)
pub record IsChain (before text : List ℕ) (records : List Record) (digest rest : List ℕ) : Type 0 where
  pub text_is : text ≡ chain before records ++ rest
  pub digest_is : digest ≡ last_digest before records
  pub writable : AllByRecursion IsWritable records
