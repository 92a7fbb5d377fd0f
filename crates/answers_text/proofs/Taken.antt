-- What is taken off the front of a text.
use Rattle.std.proofs.Common.{◌≡◌, ℕ, ◌+◌, ◌-◌, ◌^◌, ◌<◌, ◌≤◌, List, [], ◌∷◌, ◌++◌, Bor, length, take, drop, get_or, refl, sym, ap, ◌∙◌, subst, arith, append_assoc, append-nil, length-append, length-take, take-append-drop, ⊎_elim}
use Rattle.std.specs.Prelude.{◌≢◌, Option, Some, None, MatchOption, IfSome, IfNone}
use Rattle.std.specs.Int.{w64, to_be_bytes, from_be_bytes}
use Rattle.std.specs.List.{AllByRecursion}
use Rattle.std.proofs.lemmas.Bool.{cases_lt}
use Rattle.std.proofs.lemmas.List.{take_at, drop_at, get_or-take, get_or_past, length-take-le}
use Rattle.std.proofs.lemmas.Nat.{be_bytes_8}
use Rattle.sha2.specs.Sha256.{sha256}
use Rattle.sha2.proofs.Facts256.{length-sha256}
use Rattle.answers_text.specs.declared.record.Record.{Record}
use Rattle.answers_text.specs.Texts.{number, sized, body, digest_after, record_text, chain, last_digest, first_line, first_digest}
use Rattle.answers_text.specs.Reading.{IsWritable, BeginsNone, IsChain, IsNext, IsStopped, IsRead}
use Rattle.answers_text.proofs.TwoReadings.{shorter}
use Rattle.answers_text.proofs.Apart.{length-number, read_number, number_front, number_rest, sized_parts, body_parts, made, same_record}

-- What `strip_prefix` returns.
pub stripped_sound : (text front : List ℕ) (r : Option (Bor (List ℕ))) → MatchOption r ((rest : List ℕ) → text ≢ front ++ rest) (λ x. text ≡ front ++ x.now)
    → IfSome r (λ rest. text ≡ front ++ rest.now)
stripped_sound text front None h = tt
stripped_sound text front (Some x) h = h

pub stripped_none : (text front : List ℕ) (r : Option (Bor (List ℕ))) → MatchOption r ((rest : List ℕ) → text ≢ front ++ rest) (λ x. text ≡ front ++ x.now)
    → IfNone r ((rest : List ℕ) → text ≡ front ++ rest → ⊥)
stripped_none text front None h = h
stripped_none text front (Some x) h = tt

-- A number.
front_byte : (text front : List ℕ) → front ≡ take 8 text → ((k : ℕ) → get_or text k 0 < 256) → (i : ℕ) → get_or front i 0 < 256
front_byte text front front_is bytes i =
    ⊎_elim
    (λ low. let same : get_or front i 0 ≡ get_or text i 0 = ap (λ l. get_or l i 0) front_is ∙ get_or-take 8 text i 0 low in
    omega (arith, bytes i, same))
    (λ high.
    let short : length (take 8 text) ≤ 8 = omega (arith, length-take 8 text) in
    let past : get_or front i 0 ≡ 0 = ap (λ l. get_or l i 0) front_is ∙ get_or_past (take 8 text) i 0 (omega arith) in
    omega (arith, past))
    (cases_lt i 8)

pub number_is : (text front rest : List ℕ) (n : ℕ) → 8 ≤ length text → front ≡ take 8 text → rest ≡ drop 8 text → ((k : ℕ) → get_or text k 0 < 256) → n ≡ from_be_bytes w64 front
    → text ≡ number n ++ rest
unfolding number
number_is text front rest n long front_is rest_is bytes n_is =
    let eight : length front ≡ 8 = ap length front_is ∙ length-take-le 8 text long in
    let same : to_be_bytes w64 n ≡ front = be_bytes_8 front n eight (front_byte text front front_is bytes) n_is in
    sym (take-append-drop 8 text) ∙ ap (λ r. take 8 text ++ r) (sym rest_is) ∙ ap (λ f. f ++ rest) (sym front_is ∙ sym same)

pub number_found : (text front rest : List ℕ) (value n : ℕ) (more : List ℕ) → front ≡ take 8 text → rest ≡ drop 8 text → value ≡ from_be_bytes w64 front → n < 2 ^ 64 → text ≡ number n ++ more
    → (value ≡ n) × (rest ≡ more)
number_found text front rest value n more front_is rest_is value_is fits is =
    (value_is ∙ ap (from_be_bytes w64) (front_is ∙ number_front n text more is) ∙ read_number n fits, rest_is ∙ number_rest n text more is)

pub number_short : (text : List ℕ) (n : ℕ) (more : List ℕ) → length text < 8 → text ≡ number n ++ more → ⊥
number_short text n more short is =
    let long : length text ≡ 8 + length more = ap length is ∙ length-append (number n) more ∙ ap (λ k. k + length more) (length-number n) in
    absurd (omega (arith, long))

-- A text after its length.
pub sized_is : (text rest part more : List ℕ) (size : ℕ) → text ≡ number size ++ rest → size ≤ length rest → part ≡ take size rest → more ≡ drop size rest → text ≡ sized part ++ more
sized_is text rest part more size is fits part_is more_is =
    let long : length part ≡ size = ap length part_is ∙ length-take-le size rest fits in
    let whole : part ++ more ≡ rest = ap (λ p. p ++ more) part_is ∙ ap (λ m. take size rest ++ m) more_is ∙ take-append-drop size rest in
    is ∙ ap (λ r. number size ++ r) (sym whole) ∙ ap (λ k. number k ++ (part ++ more)) (sym long) ∙ sym (sized_parts part more)

pub sized_begins : (text t more : List ℕ) → text ≡ sized t ++ more → text ≡ number (length t) ++ (t ++ more)
sized_begins text t more is = is ∙ sized_parts t more

pub sized_found : (rest part left t more : List ℕ) (size : ℕ) → size ≡ length t → rest ≡ t ++ more → part ≡ take size rest → left ≡ drop size rest → (part ≡ t) × (left ≡ more)
sized_found rest part left t more size size_is rest_is part_is left_is =
    (part_is ∙ ap (take size) rest_is ∙ take_at t more size (sym size_is), left_is ∙ ap (drop size) rest_is ∙ drop_at t more size (sym size_is))

pub sized_long : (rest t more : List ℕ) (size : ℕ) → length rest < size → size ≡ length t → rest ≡ t ++ more → ⊥
sized_long rest t more size short size_is rest_is =
    let long : length rest ≡ length t + length more = ap length rest_is ∙ length-append t more in
    absurd (omega (arith, long))

-- What a record says.
pub body_is : (text a b c rest : List ℕ) (n : ℕ) (job : List ℕ) (status : ℕ) (said : List ℕ) → text ≡ number n ++ a → a ≡ sized job ++ b → b ≡ number status ++ c → c ≡ sized said ++ rest
    → text ≡ body (made n job status said) ++ rest
body_is text a b c rest n job status said first second third fourth =
    first ∙ ap (λ v. number n ++ v) (second ∙ ap (λ v. sized job ++ v) (third ∙ ap (λ v. number status ++ v) fourth)) ∙ sym (body_parts (made n job status said) rest)

pub body_begins : (text : List ℕ) (r : Record) (more : List ℕ) → text ≡ body r ++ more → text ≡ number r.number ++ (sized r.job ++ (number r.status ++ (sized r.text ++ more)))
body_begins text r more is = is ∙ body_parts r more

-- A body at the front of a text, as a part of the text.
pub body_slice : (text said rest part : List ℕ) → text ≡ said ++ rest → part ≡ take (length text - length rest) text → part ≡ said
body_slice text said rest part is part_is =
    let long : length text ≡ length said + length rest = ap length is ∙ length-append said rest in
    let size : length said ≡ length text - length rest = omega (arith, long) in
    part_is ∙ ap (take (length text - length rest)) is ∙ take_at said rest (length text - length rest) size

pub sized_fits : (rest part : List ℕ) (size : ℕ) → size ≤ length rest → part ≡ take size rest → size < 2 ^ 64 → length part < 2 ^ 64
sized_fits rest part size fits part_is small =
    let long : length part ≡ size = ap length part_is ∙ length-take-le size rest fits in
    omega (arith, long, small)

-- The digest of what a record says, from the bytes that say it.
digest_is : (digest given text after slice next : List ℕ) (found : Record) → text ≡ body found ++ after → given ≡ digest → slice ≡ take (length text - length after) text → next ≡ sha256 (given ++ slice)
    → next ≡ digest_after digest found
unfolding digest_after
digest_is digest given text after slice next found is given_is slice_is next_is =
    next_is ∙ ap (λ g. sha256 (g ++ slice)) given_is ∙ ap (λ s. sha256 (digest ++ s)) (body_slice text (body found) after slice is slice_is)

-- No record begins a text if the digest after what one would say is another.
pub stopped_after : (digest given text after slice next : List ℕ) (found : Record) → text ≡ body found ++ after
    → ((it : Record) (more : List ℕ) → IsWritable it → text ≡ body it ++ more → (found ≡ it) × (after ≡ more))
    → given ≡ digest → slice ≡ take (length text - length after) text → next ≡ sha256 (given ++ slice) → ((rest : List ℕ) → after ≡ next ++ rest → ⊥) → BeginsNone digest text
stopped_after digest given text after slice next found is complete given_is slice_is next_is none = λ it more fits it_is.
    let both = complete it (digest_after digest it ++ more) fits (it_is ∙ append_assoc (body it) (digest_after digest it) more) in
    let right : digest_after digest it ≡ next = ap (digest_after digest) (sym both.0) ∙ sym (digest_is digest given text after slice next found is given_is slice_is next_is) in
    none more (both.1 ∙ ap (λ d. d ++ more) right)

-- A record that was read, and copied.
pub record_next : (digest given text after slice next rest : List ℕ) (old new : List Record) (found : Record) (job said : List ℕ) → text ≡ body found ++ after → IsWritable found
    → given ≡ digest → slice ≡ take (length text - length after) text → next ≡ sha256 (given ++ slice) → after ≡ next ++ rest → job ≡ found.job → said ≡ found.text
    → new ≡ old ++ made found.number job found.status said ∷ [] → IsNext digest text old new next rest
record_next digest given text after slice next rest old new found job said is writable given_is slice_is next_is after_is job_is said_is new_is =
    let right : next ≡ digest_after digest found = digest_is digest given text after slice next found is given_is slice_is next_is in
    record {
      it = found;
      writable = writable;
      text_is = is ∙ ap (λ v. body found ++ v) (after_is ∙ ap (λ d. d ++ rest) right) ∙ sym (append_assoc (body found) (digest_after digest found) rest);
      records_are =
          new_is ∙ ap (λ j. old ++ made found.number j found.status said ∷ []) job_is
          ∙ ap (λ s. old ++ made found.number found.job found.status s ∷ []) said_is;
      digest_is = right;
    }

-- Records after records.
chain-append : (before : List ℕ) (rs : List Record) (r : Record) → chain before (rs ++ r ∷ []) ≡ chain before rs ++ record_text (last_digest before rs) r
chain-append before [] r = append-nil (record_text before r)
chain-append before (q ∷ qs) r =
    ap (λ v. record_text before q ++ v) (chain-append (digest_after before q) qs r)
    ∙ sym (append_assoc (record_text before q) (chain (digest_after before q) qs) (record_text (last_digest (digest_after before q) qs) r))

last-append : (before : List ℕ) (rs : List Record) (r : Record) → last_digest before (rs ++ r ∷ []) ≡ digest_after (last_digest before rs) r
last-append before [] r = refl
last-append before (q ∷ qs) r = last-append (digest_after before q) qs r

all-append : (rs : List Record) (r : Record) → AllByRecursion IsWritable rs → IsWritable r → AllByRecursion IsWritable (rs ++ r ∷ [])
all-append [] r all one = (one, tt)
all-append (q ∷ qs) r all one = (all.0, all-append qs r all.1 one)

pub chain_none : (before text : List ℕ) (records : List Record) → records ≡ [] → IsChain before text records before text
chain_none before text records none =
    subst (λ l. IsChain before text l before text) (sym none) (record { text_is = refl; digest_is = refl; writable = tt })

pub chain_more : (before text : List ℕ) (old new : List Record) (digest rest after left : List ℕ) → IsChain before text old digest rest → IsNext digest rest old new after left
    → IsChain before text new after left
chain_more before text old new digest rest after left so next =
    let now : IsChain before text (old ++ next.it ∷ []) after left = record {
      text_is =
          so.text_is ∙ ap (λ v. chain before old ++ v) next.text_is
          ∙ ap (λ d. chain before old ++ (record_text d next.it ++ left)) so.digest_is
          ∙ sym (append_assoc (chain before old) (record_text (last_digest before old) next.it) left)
          ∙ ap (λ v. v ++ left) (sym (chain-append before old next.it));
      digest_is = next.digest_is ∙ ap (λ d. digest_after d next.it) so.digest_is ∙ sym (last-append before old next.it);
      writable = all-append old next.it so.writable next.writable;
    } in
    subst (λ l. IsChain before text l after left) (sym next.records_are) now

pub chain_stopped : (before text : List ℕ) (old new : List Record) (digest rest after : List ℕ) → IsChain before text old digest rest → IsStopped digest rest old new after → IsChain before text new after rest
chain_stopped before text old new digest rest after so stop = record {
  text_is = so.text_is ∙ ap (λ l. chain before l ++ rest) (sym stop.records_are);
  digest_is = stop.digest_is ∙ so.digest_is ∙ ap (last_digest before) (sym stop.records_are);
  writable = subst (AllByRecursion IsWritable) (sym stop.records_are) so.writable;
}

pub ends_stopped : (old new : List Record) (digest rest after : List ℕ) → IsStopped digest rest old new after → BeginsNone after rest
ends_stopped old new digest rest after stop = subst (λ d. BeginsNone d rest) (sym stop.digest_is) stop.ends

pub next_shorter : (before text : List ℕ) (old new : List Record) (after rest : List ℕ) → IsNext before text old new after rest → length rest < length text
next_shorter before text old new after rest next = shorter before text rest next.it next.text_is

-- The records after the first line.
pub whole_read : (run text line after_line start : List ℕ) (records : List Record) (digest rest : List ℕ) (used : ℕ) → line ≡ first_line run → text ≡ line ++ after_line → start ≡ sha256 line
    → IsChain start after_line records digest rest → BeginsNone digest rest → used ≡ length text - length rest → IsRead run text records digest used
whole_read run text line after_line start records digest rest used line_is text_is start_is so ends used_is =
    let first : start ≡ first_digest run = start_is ∙ ap sha256 line_is in
    let moved : IsChain (first_digest run) after_line records digest rest = subst (λ d. IsChain d after_line records digest rest) first so in
    let whole : text ≡ first_line run ++ (chain (first_digest run) records ++ rest) = text_is ∙ ap (λ l. l ++ after_line) line_is ∙ ap (λ v. first_line run ++ v) moved.text_is in
    let long : length text ≡ length (first_line run) + (length (chain (first_digest run) records) + length rest) =
    ap length whole ∙ length-append (first_line run) (chain (first_digest run) records ++ rest) ∙ ap (λ n. length (first_line run) + n) (length-append (chain (first_digest run) records) rest) in
    record {
      rest = rest;
      text_is = whole;
      digest_is = moved.digest_is;
      used_is = omega (arith, used_is, long);
      writable = moved.writable;
      ends = ends;
    }

pub line_differs : (run text line rest : List ℕ) → line ≡ first_line run → ((more : List ℕ) → text ≡ line ++ more → ⊥) → text ≡ first_line run ++ rest → ⊥
line_differs run text line rest line_is none is = none rest (is ∙ ap (λ l. l ++ rest) (sym line_is))

pub next_at : (digest rest : List ℕ) (old new : List Record) (after : List ℕ) (found : Option (Bor (List ℕ))) (more : Bor (List ℕ)) → found ≡ Some more
    → IfSome found (λ left. IsNext digest rest old new after left.now) → IsNext digest rest old new after more.now
next_at digest rest old new after found more is h = subst (λ o. IfSome o (λ left. IsNext digest rest old new after left.now)) is h
