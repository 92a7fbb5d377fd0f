-- What is appended to a file of answers.
use Rattle.std.specs.Prelude.{◌≡◌, ℕ, ◌+◌, ◌-◌, ◌^◌, ◌≤◌, Bool, true, List, [], ◌∷◌, ◌++◌, Option, option_map, IfSome, length, take}
use Rattle.answers_text.specs.Texts.{digest_after, last_digest, record_text}
use Rattle.answers_text.specs.declared.record.Record.{Record}

-- The texts that were appended, and one more. (own)
abbrev pub with_text : Option (List (List ℕ)) → List ℕ → Option (List (List ℕ))
with_text known text = option_map (λ texts. texts ++ text ∷ []) known

-- A text wasn't appended whole: nothing of it was, or a front. (own)
pub data IsCut (old : Option (List (List ℕ))) (text : List ℕ) : Option (List (List ℕ)) → Type 0 where
  nothing : IsCut old text old
  front : (n : ℕ) → IsCut old text (with_text old (take n text))

-- The texts of records in order, after this digest. (own)
abbrev pub record_texts : List ℕ → List Record → List (List ℕ)
record_texts before [] = []
record_texts before (r ∷ rs) = record_text before r ∷ record_texts (digest_after before r) rs

-- How many bytes texts have. (own)
abbrev pub bytes_in : List (List ℕ) → ℕ
bytes_in [] = 0
bytes_in (t ∷ ts) = length t + bytes_in ts

-- The largest number of bytes of a file of answers, 64 MiB. (own)
abbrev pub largest : ℕ
largest = 2 ^ 26

-- After the records that were written whole, nothing was written of these, or a front of the first. (own)
pub data IsPart (before : List ℕ) : List Record → List (List ℕ) → Type 0 where
  nothing : (later : List Record) → IsPart before later []
  front : (n : ℕ) (it : Record) (later : List Record) → IsPart before (it ∷ later) (take n (record_text before it) ∷ [])

-- The records were written in order, one text for each, after this digest and so many bytes: all of them as long as it goes on. Once
-- it doesn't, no more than a front of one of them was written, and nothing after it. With what was there the texts have at most
-- 64 MiB. (own)
pub record IsWritten (first : List ℕ) (before : ℕ) (is_on : Bool) (records : List Record) (texts : List (List ℕ)) : Type 0 where
  pub whole : List Record
  pub later : List Record
  pub part : List (List ℕ)
  pub records_are : records ≡ whole ++ later
  pub texts_are : texts ≡ record_texts first whole ++ part
  pub part_is : IsPart (last_digest first whole) later part
  pub all_later : is_on ≡ true → later ≡ []
  pub all_part : is_on ≡ true → part ≡ []
  pub few : bytes_in texts ≤ largest - before

-- What is known of a file to which these records were to be written: the digest of the last one and the bytes that are left, as long as
-- it goes on. (own)
pub record IsPen (first : List ℕ) (before : ℕ) (records : List Record) (texts : Option (List (List ℕ))) (digest : List ℕ) (left : ℕ) (is_on : Bool) : Type 0 where
  pub written : IfSome texts (λ ts. IsWritten first before is_on records ts)
  pub digest_is : is_on ≡ true → digest ≡ last_digest first records
  pub left_is : is_on ≡ true → IfSome texts (λ ts. before + bytes_in ts + left ≡ largest)
