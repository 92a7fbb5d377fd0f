-- Two readings of one text, and readings of a text and of its front.
use Rattle.std.proofs.Common.{◌≡◌, ℕ, ◌+◌, ◌^◌, ◌<◌, ◌≤◌, List, [], ◌∷◌, ◌++◌, length, take, drop, refl, sym, ap, ◌∙◌, subst, arith, append_assoc, append-nil, length-append, take-append-drop}
use Rattle.std.specs.List.{AllByRecursion}
use Rattle.std.proofs.lemmas.List.{append_cancel_left}
use Rattle.answers_text.specs.declared.record.Record.{Record}
use Rattle.answers_text.specs.Laws.{IsFront}
use Rattle.answers_text.specs.Texts.{number, sized, body, digest_after, record_text, chain, last_digest, first_line, first_digest, answers_text}
use Rattle.answers_text.specs.Reading.{IsWritable, BeginsNone, IsRead}
use Rattle.answers_text.proofs.Apart.{length-number, body_parts, record_apart}

-- A record has at least one byte.
pub not_empty : (before : List ℕ) (r : Record) (more : List ℕ) → [] ≡ record_text before r ++ more → ⊥
not_empty before r more is =
    let rest : List ℕ = sized r.job ++ (number r.status ++ (sized r.text ++ (digest_after before r ++ more))) in
    let flat : [] ≡ number r.number ++ rest = is ∙ append_assoc (body r) (digest_after before r) more ∙ body_parts r (digest_after before r ++ more) in
    let long : 0 ≡ length (number r.number) + length rest = ap length flat ∙ length-append (number r.number) rest in
    absurd (omega (arith, long, length-number r.number))

-- A record makes a text longer.
pub shorter : (before text rest : List ℕ) (r : Record) → text ≡ record_text before r ++ rest → length rest < length text
shorter before text rest r is =
    let more : List ℕ = sized r.job ++ (number r.status ++ (sized r.text ++ (digest_after before r ++ rest))) in
    let flat : text ≡ number r.number ++ more = is ∙ append_assoc (body r) (digest_after before r) rest ∙ body_parts r (digest_after before r ++ rest) in
    let long : length text ≡ length (number r.number) + length more = ap length flat ∙ length-append (number r.number) more in
    let first = length-append (sized r.job) (number r.status ++ (sized r.text ++ (digest_after before r ++ rest))) in
    let second = length-append (number r.status) (sized r.text ++ (digest_after before r ++ rest)) in
    let third = length-append (sized r.text) (digest_after before r ++ rest) in
    let fourth = length-append (digest_after before r) rest in
    omega (arith, long, first, second, third, fourth, length-number r.number)

-- If the records of a text are followed by anything, they begin those of any text that begins with it.
pub begins : (before : List ℕ) (a b : List Record) (x v : List ℕ) → AllByRecursion IsWritable a → AllByRecursion IsWritable b → BeginsNone (last_digest before b) v
    → chain before a ++ x ≡ chain before b ++ v → IsFront a b
begins before [] b x v a_fits b_fits ends is = record { more = b; is = refl }
begins before (r ∷ rs) [] x v a_fits b_fits ends is =
    absurd (ends r (chain (digest_after before r) rs ++ x) a_fits.0 (sym is ∙ append_assoc (record_text before r) (chain (digest_after before r) rs) x))
begins before (r ∷ rs) (s ∷ ss) x v a_fits b_fits ends is =
    let flat = sym (append_assoc (record_text before r) (chain (digest_after before r) rs) x) ∙ is ∙ append_assoc (record_text before s) (chain (digest_after before s) ss) v in
    let both = record_apart before r s (chain (digest_after before r) rs ++ x) (chain (digest_after before s) ss ++ v) a_fits.0 b_fits.0 flat in
    let rest = begins (digest_after before s) rs ss x v a_fits.1 b_fits.1 ends (ap (λ q. chain (digest_after before q) rs ++ x) (sym both.0) ∙ both.1) in
    record { more = rest.more; is = ap (λ l. s ∷ l) rest.is ∙ ap (λ q. q ∷ (rs ++ rest.more)) (sym both.0) }

none_more : (a b c : List Record) → b ≡ a ++ c → c ≡ [] → a ≡ b
none_more a b c is none = sym (is ∙ ap (λ l. a ++ l) none ∙ append-nil a)

-- The records of two readings of one text.
pub same : (before : List ℕ) (a b : List Record) (u v : List ℕ) → AllByRecursion IsWritable a → AllByRecursion IsWritable b → BeginsNone (last_digest before a) u → BeginsNone (last_digest before b) v
    → chain before a ++ u ≡ chain before b ++ v → a ≡ b
same before [] [] u v a_fits b_fits a_ends b_ends is = refl
same before [] (s ∷ ss) u v a_fits b_fits a_ends b_ends is =
    absurd (a_ends s (chain (digest_after before s) ss ++ v) b_fits.0 (is ∙ append_assoc (record_text before s) (chain (digest_after before s) ss) v))
same before (r ∷ rs) [] u v a_fits b_fits a_ends b_ends is =
    absurd (b_ends r (chain (digest_after before r) rs ++ u) a_fits.0 (sym is ∙ append_assoc (record_text before r) (chain (digest_after before r) rs) u))
same before (r ∷ rs) (s ∷ ss) u v a_fits b_fits a_ends b_ends is =
    let flat = sym (append_assoc (record_text before r) (chain (digest_after before r) rs) u) ∙ is ∙ append_assoc (record_text before s) (chain (digest_after before s) ss) v in
    let both = record_apart before r s (chain (digest_after before r) rs ++ u) (chain (digest_after before s) ss ++ v) a_fits.0 b_fits.0 flat in
    let moved : BeginsNone (last_digest (digest_after before s) rs) u = subst (λ q. BeginsNone (last_digest (digest_after before q) rs) u) both.0 a_ends in
    let rest = same (digest_after before s) rs ss u v a_fits.1 b_fits.1 moved b_ends (ap (λ q. chain (digest_after before q) rs ++ u) (sym both.0) ∙ both.1) in
    ap (λ q. q ∷ rs) both.0 ∙ ap (λ l. s ∷ l) rest

pub one : (run text : List ℕ) (a b : List Record) (d e : List ℕ) (m n : ℕ) → IsRead run text a d m → IsRead run text b e n → a ≡ b
one run text a b d e m n first second =
    let is = append_cancel_left (first_line run) (chain (first_digest run) a ++ first.rest) (chain (first_digest run) b ++ second.rest) (sym first.text_is ∙ second.text_is) in
    same (first_digest run) a b first.rest second.rest first.writable second.writable
    (subst (λ q. BeginsNone q first.rest) first.digest_is first.ends) (subst (λ q. BeginsNone q second.rest) second.digest_is second.ends) is

pub fronts : (run text more : List ℕ) (a b : List Record) (d e : List ℕ) (m n : ℕ) → IsRead run text a d m → IsRead run (text ++ more) b e n → IsFront a b
fronts run text more a b d e m n first second =
    let flat = ap (λ t. t ++ more) (sym first.text_is) ∙ second.text_is in
    let outer = sym (append_assoc (first_line run) (chain (first_digest run) a ++ first.rest) more) ∙ flat in
    let inner = append_cancel_left (first_line run) ((chain (first_digest run) a ++ first.rest) ++ more) (chain (first_digest run) b ++ second.rest) outer in
    begins (first_digest run) a b (first.rest ++ more) second.rest first.writable second.writable (subst (λ q. BeginsNone q second.rest) second.digest_is second.ends)
    (sym (append_assoc (chain (first_digest run) a) first.rest more) ∙ inner)

pub reads_back : (run : List ℕ) (records : List Record) → AllByRecursion IsWritable records
    → IsRead run (answers_text run records) records (last_digest (first_digest run) records) (length (answers_text run records))
reads_back run records writable = record {
  rest = [];
  text_is = ap (λ v. first_line run ++ v) (sym (append-nil (chain (first_digest run) records)));
  digest_is = refl;
  used_is = omega arith;
  writable = writable;
  ends = λ r more fits is. not_empty (last_digest (first_digest run) records) r more is;
}

pub cut : (run : List ℕ) (records given : List Record) (n : ℕ) (d : List ℕ) (m : ℕ) → AllByRecursion IsWritable records → IsRead run (take n (answers_text run records)) given d m
    → IsFront given records
cut run records given n d m writable first =
    let text : List ℕ = answers_text run records in
    let whole : take n text ++ drop n text ≡ text = take-append-drop n text in
    let second : IsRead run (take n text ++ drop n text) records (last_digest (first_digest run) records) (length text) =
    subst (λ t. IsRead run t records (last_digest (first_digest run) records) (length text)) (sym whole) (reads_back run records writable) in
    fronts run (take n text) (drop n text) given records d (last_digest (first_digest run) records) m (length text) first second
