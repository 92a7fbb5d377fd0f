-- Two texts that begin with numbers, texts or records begin with the same.
use Rattle.std.proofs.Common.{◌≡◌, ℕ, ◌^◌, ◌<◌, ◌≤◌, List, [], ◌∷◌, ◌++◌, length, take, drop, refl, sym, ap, ◌∙◌, subst, arith, append_assoc}
use Rattle.std.specs.Int.{w64, to_be_bytes, from_be_bytes}
use Rattle.std.proofs.lemmas.List.{take_at, drop_at, append_cancel_left}
use Rattle.std.proofs.lemmas.Nat.{from_be_bytes-to_be_bytes_8}
use Rattle.sha2.specs.Sha256.{sha256}
use Rattle.answers_text.specs.declared.record.Record.{Record}
use Rattle.answers_text.specs.Texts.{number, sized, body, digest_after, record_text}
use Rattle.answers_text.specs.Reading.{IsWritable}

pub length-number : (n : ℕ) → length (number n) ≡ 8
unfolding number
length-number n = refl

pub read_number : (n : ℕ) → n < 2 ^ 64 → from_be_bytes w64 (number n) ≡ n
unfolding number
read_number n fits = from_be_bytes-to_be_bytes_8 n fits

-- The number and the rest of a text that begins with a number.
pub number_front : (n : ℕ) (text more : List ℕ) → text ≡ number n ++ more → take 8 text ≡ number n
number_front n text more is = ap (take 8) is ∙ take_at (number n) more 8 (length-number n)

pub number_rest : (n : ℕ) (text more : List ℕ) → text ≡ number n ++ more → drop 8 text ≡ more
number_rest n text more is = ap (drop 8) is ∙ drop_at (number n) more 8 (length-number n)

pub numbers_apart : (m n : ℕ) (x y : List ℕ) → m < 2 ^ 64 → n < 2 ^ 64 → number m ++ x ≡ number n ++ y → (m ≡ n) × (x ≡ y)
numbers_apart m n x y m_fits n_fits is =
    let same : number m ≡ number n = sym (number_front m (number m ++ x) x refl) ∙ number_front n (number m ++ x) y is in (
      sym (read_number m m_fits) ∙ ap (from_be_bytes w64) same ∙ read_number n n_fits,
      sym (number_rest m (number m ++ x) x refl) ∙ number_rest n (number m ++ x) y is,
    )

-- A text that begins with a text after its length.
pub sized_parts : (t more : List ℕ) → sized t ++ more ≡ number (length t) ++ (t ++ more)
unfolding sized
sized_parts t more = append_assoc (number (length t)) t more

pub sized_apart : (s t x y : List ℕ) → length s < 2 ^ 64 → length t < 2 ^ 64 → sized s ++ x ≡ sized t ++ y → (s ≡ t) × (x ≡ y)
sized_apart s t x y s_fits t_fits is =
    let flat : number (length s) ++ (s ++ x) ≡ number (length t) ++ (t ++ y) = sym (sized_parts s x) ∙ is ∙ sized_parts t y in
    let both = numbers_apart (length s) (length t) (s ++ x) (t ++ y) s_fits t_fits flat in (
      sym (take_at s x (length s) refl) ∙ ap (take (length s)) both.1 ∙ take_at t y (length s) (sym both.0),
      sym (drop_at s x (length s) refl) ∙ ap (drop (length s)) both.1 ∙ drop_at t y (length s) (sym both.0),
    )

-- The parts of what a record says.
pub body_parts : (r : Record) (more : List ℕ) → body r ++ more ≡ number r.number ++ (sized r.job ++ (number r.status ++ (sized r.text ++ more)))
unfolding body
body_parts r more =
    append_assoc (number r.number) (sized r.job ++ (number r.status ++ sized r.text)) more
    ∙ ap (λ v. number r.number ++ v) (append_assoc (sized r.job) (number r.status ++ sized r.text) more)
    ∙ ap (λ v. number r.number ++ (sized r.job ++ v)) (append_assoc (number r.status) (sized r.text) more)

abbrev pub made : ℕ → List ℕ → ℕ → List ℕ → Record
made number job status text = record { number = number; job = job; status = status; text = text }

pub same_record : (r s : Record) → r.number ≡ s.number → r.job ≡ s.job → r.status ≡ s.status → r.text ≡ s.text → r ≡ s
same_record r s number_is job_is status_is text_is =
    ap (λ n. made n r.job r.status r.text) number_is ∙ ap (λ j. made s.number j r.status r.text) job_is
    ∙ ap (λ n. made s.number s.job n r.text) status_is ∙ ap (λ t. made s.number s.job s.status t) text_is

small : (n : ℕ) → n < 2 ^ 32 → n < 2 ^ 64
small n fits = omega arith

pub body_apart : (r s : Record) (x y : List ℕ) → IsWritable r → IsWritable s → body r ++ x ≡ body s ++ y → (r ≡ s) × (x ≡ y)
body_apart r s x y r_fits s_fits is =
    let flat = sym (body_parts r x) ∙ is ∙ body_parts s y in
    let first = numbers_apart r.number s.number (sized r.job ++ (number r.status ++ (sized r.text ++ x))) (sized s.job ++ (number s.status ++ (sized s.text ++ y))) r_fits.number_fits s_fits.number_fits flat in
    let second = sized_apart r.job s.job (number r.status ++ (sized r.text ++ x)) (number s.status ++ (sized s.text ++ y)) r_fits.job_fits s_fits.job_fits first.1 in
    let third = numbers_apart r.status s.status (sized r.text ++ x) (sized s.text ++ y) (small r.status r_fits.status_fits) (small s.status s_fits.status_fits) second.1 in
    let fourth = sized_apart r.text s.text x y r_fits.text_fits s_fits.text_fits third.1 in
    (same_record r s first.0 second.0 third.0 fourth.0, fourth.1)

pub record_apart : (before : List ℕ) (r s : Record) (x y : List ℕ) → IsWritable r → IsWritable s → record_text before r ++ x ≡ record_text before s ++ y → (r ≡ s) × (x ≡ y)
record_apart before r s x y r_fits s_fits is =
    let flat = sym (append_assoc (body r) (digest_after before r) x) ∙ is ∙ append_assoc (body s) (digest_after before s) y in
    let both = body_apart r s (digest_after before r ++ x) (digest_after before s ++ y) r_fits s_fits flat in
    (both.0, append_cancel_left (digest_after before s) x y (ap (λ q. digest_after before q ++ x) (sym both.0) ∙ both.1))
