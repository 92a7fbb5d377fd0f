-- Records that are written to a file.
use Rattle.std.proofs.Common.{◌≡◌, ℕ, ◌+◌, ◌≤◌, Bool, true, false, List, [], ◌∷◌, ◌++◌, length, take, refl, sym, ap, ◌∙◌, subst, arith, append_assoc, append-nil}
use Rattle.std.specs.Prelude.{Option, Some, None, IfSome}
use Rattle.std.proofs.lemmas.List.{length-take}
use Rattle.answers_text.specs.Texts.{digest_after, last_digest, record_text}
use Rattle.answers_text.specs.declared.record.Record.{Record}
use Rattle.crew_journal.specs.Texts.{IsCut, IsPart, IsPen, IsWritten, bytes_in, largest, record_texts, with_text, nothing, front}

part_more : {before : List ℕ} {later : List Record} {part : List (List ℕ)} (more : List Record) → IsPart before later part → IsPart before (later ++ more) part
part_more more (nothing later) = nothing (later ++ more)
part_more more (front n it later) = front n it (later ++ more)

stop_written : (first : List ℕ) (before : ℕ) (on : Bool) (records more : List Record) (ts : List (List ℕ)) → IsWritten first before on records ts → IsWritten first before false (records ++ more) ts
stop_written first before on records more ts h = record {
  whole = h.whole;
  later = h.later ++ more;
  part = h.part;
  records_are = ap (λ l. l ++ more) h.records_are ∙ append_assoc h.whole h.later more;
  texts_are = h.texts_are;
  part_is = part_more more h.part_is;
  all_later = λ e. absurd (cc);
  all_part = λ e. absurd (cc);
  few = h.few;
}

pub stopped : (first : List ℕ) (before : ℕ) (records more : List Record) (texts : Option (List (List ℕ))) (digest : List ℕ) (left : ℕ) (on : Bool)
    → IsPen first before records texts digest left on → IsPen first before (records ++ more) texts digest left false
stopped first before records more None digest left on h = record { written = tt; digest_is = λ e. absurd (cc); left_is = λ e. absurd (cc) }
stopped first before records more (Some ts) digest left on h = record { written = stop_written first before on records more ts h.written; digest_is = λ e. absurd (cc); left_is = λ e. absurd (cc) }

texts_push : (first : List ℕ) (rs : List Record) (it : Record) → record_texts first (rs ++ it ∷ []) ≡ record_texts first rs ++ record_text (last_digest first rs) it ∷ []
texts_push first [] it = refl
texts_push first (r ∷ rs) it = ap (λ ts. record_text first r ∷ ts) (texts_push (digest_after first r) rs it)

digest_push : (first : List ℕ) (rs : List Record) (it : Record) → last_digest first (rs ++ it ∷ []) ≡ digest_after (last_digest first rs) it
digest_push first [] it = refl
digest_push first (r ∷ rs) it = digest_push (digest_after first r) rs it

bytes_push : (ts : List (List ℕ)) (t : List ℕ) → bytes_in (ts ++ t ∷ []) ≡ bytes_in ts + length t
bytes_push [] t = omega arith
bytes_push (s ∷ ts) t = let rest = bytes_push ts t in omega (arith, rest)

-- As long as it goes on, all records were written.
all_written : (first : List ℕ) (before : ℕ) (records : List Record) (ts : List (List ℕ)) → IsWritten first before true records ts → ts ≡ record_texts first records
all_written first before records ts h =
    let whole_is : records ≡ h.whole = h.records_are ∙ ap (λ l. h.whole ++ l) (h.all_later refl) ∙ append-nil h.whole in
    h.texts_are ∙ ap (λ p. record_texts first h.whole ++ p) (h.all_part refl) ∙ append-nil (record_texts first h.whole) ∙ ap (record_texts first) (sym whole_is)

written_whole : (first : List ℕ) (before : ℕ) (records : List Record) (ts : List (List ℕ)) (text : List ℕ) (it : Record) (left : ℕ) → IsWritten first before true records ts
    → text ≡ record_text (last_digest first records) it → before + bytes_in ts + left ≡ largest → length text ≤ left → IsWritten first before true (records ++ it ∷ []) (ts ++ text ∷ [])
written_whole first before records ts text it left h text_is room fits =
    let long = bytes_push ts text in
    record {
      whole = records ++ it ∷ [];
      later = [];
      part = [];
      records_are = sym (append-nil (records ++ it ∷ []));
      texts_are =
          ap (λ l. l ++ text ∷ []) (all_written first before records ts h) ∙ ap (λ t. record_texts first records ++ t ∷ []) text_is ∙ sym (texts_push first records it)
          ∙ sym (append-nil (record_texts first (records ++ it ∷ [])));
      part_is = nothing [];
      all_later = λ e. refl;
      all_part = λ e. refl;
      few = omega (arith, long, room, fits);
    }

written_cut : (first : List ℕ) (before : ℕ) (records : List Record) (ts : List (List ℕ)) (text : List ℕ) (it : Record) (left n : ℕ) → IsWritten first before true records ts
    → text ≡ record_text (last_digest first records) it → before + bytes_in ts + left ≡ largest → length text ≤ left → IsWritten first before false (records ++ it ∷ []) (ts ++ take n text ∷ [])
written_cut first before records ts text it left n h text_is room fits =
    let long = bytes_push ts (take n text) in
    let short : length (take n text) ≤ length text = omega (arith, length-take n text) in
    record {
      whole = records;
      later = it ∷ [];
      part = take n text ∷ [];
      records_are = refl;
      texts_are = ap (λ l. l ++ take n text ∷ []) (all_written first before records ts h);
      part_is = subst (λ t. IsPart (last_digest first records) (it ∷ []) (take n t ∷ [])) (sym text_is) (front n it []);
      all_later = λ e. absurd (cc);
      all_part = λ e. absurd (cc);
      few = omega (arith, long, room, fits, short);
    }

pub put_whole : (first : List ℕ) (before : ℕ) (records : List Record) (texts new : Option (List (List ℕ))) (digest after text : List ℕ) (left less : ℕ) (on : Bool) (it : Record)
    → on ≡ true → IsPen first before records texts digest left on → text ≡ record_text digest it → after ≡ digest_after digest it → length text ≤ left → less + length text ≡ left
    → new ≡ with_text texts text → IsPen first before (records ++ it ∷ []) new after less on
put_whole first before records None new digest after text left less false it is h text_is after_is fits less_is new_is = absurd (cc)
put_whole first before records (Some ts) new digest after text left less false it is h text_is after_is fits less_is new_is = absurd (cc)
put_whole first before records None new digest after text left less true it is h text_is after_is fits less_is new_is =
    subst (λ t. IsPen first before (records ++ it ∷ []) t after less true) (sym new_is) (record {
      written = tt;
      digest_is = λ e. after_is ∙ ap (λ d. digest_after d it) (h.digest_is refl) ∙ sym (digest_push first records it);
      left_is = λ e. tt;
    })
put_whole first before records (Some ts) new digest after text left less true it is h text_is after_is fits less_is new_is =
    let long = bytes_push ts text in
    let room : before + bytes_in ts + left ≡ largest = h.left_is refl in
    subst (λ t. IsPen first before (records ++ it ∷ []) t after less true) (sym new_is) (record {
      written = written_whole first before records ts text it left h.written (text_is ∙ ap (λ d. record_text d it) (h.digest_is refl)) room fits;
      digest_is = λ e. after_is ∙ ap (λ d. digest_after d it) (h.digest_is refl) ∙ sym (digest_push first records it);
      left_is = λ e. omega (arith, long, room, less_is);
    })

cut_in : (first : List ℕ) (before : ℕ) (records : List Record) (ts : List (List ℕ)) (new : Option (List (List ℕ))) (digest text : List ℕ) (left : ℕ) (it : Record)
    → IsPen first before records (Some ts) digest left true → text ≡ record_text digest it → length text ≤ left → IsCut (Some ts) text new
    → IsPen first before (records ++ it ∷ []) new digest left false
cut_in first before records ts _ digest text left it h text_is fits nothing = stopped first before records (it ∷ []) (Some ts) digest left true h
cut_in first before records ts _ digest text left it h text_is fits (front n) =
    record {
      written = written_cut first before records ts text it left n h.written (text_is ∙ ap (λ d. record_text d it) (h.digest_is refl)) (h.left_is refl) fits;
      digest_is = λ e. absurd (cc);
      left_is = λ e. absurd (cc);
    }

cut_unknown : (first : List ℕ) (before : ℕ) (records : List Record) (new : Option (List (List ℕ))) (digest text : List ℕ) (left : ℕ) (it : Record) → IsCut None text new
    → IsPen first before (records ++ it ∷ []) new digest left false
cut_unknown first before records _ digest text left it nothing = record { written = tt; digest_is = λ e. absurd (cc); left_is = λ e. absurd (cc) }
cut_unknown first before records _ digest text left it (front n) = record { written = tt; digest_is = λ e. absurd (cc); left_is = λ e. absurd (cc) }

pub put_cut : (first : List ℕ) (before : ℕ) (records : List Record) (texts new : Option (List (List ℕ))) (digest text : List ℕ) (left : ℕ) (on : Bool) (it : Record)
    → on ≡ true → IsPen first before records texts digest left on → text ≡ record_text digest it → length text ≤ left → IsCut texts text new
    → IsPen first before (records ++ it ∷ []) new digest left false
put_cut first before records texts new digest text left false it is h text_is fits cut = absurd (cc)
put_cut first before records None new digest text left true it is h text_is fits cut = cut_unknown first before records new digest text left it cut
put_cut first before records (Some ts) new digest text left true it is h text_is fits cut = cut_in first before records ts new digest text left it h text_is fits cut

begin_written : (first : List ℕ) (used : ℕ) (on : Bool) (ts : List (List ℕ)) → ts ≡ [] → IsWritten first used on [] ts
begin_written first used on ts none = record {
  whole = [];
  later = [];
  part = [];
  records_are = refl;
  texts_are = none;
  part_is = nothing [];
  all_later = λ e. refl;
  all_part = λ e. refl;
  few = let short : bytes_in ts ≡ 0 = ap bytes_in none in omega (arith, short);
}

pub begun : (digest : List ℕ) (used left : ℕ) (texts : Option (List (List ℕ))) → IfSome texts (λ ts. ts ≡ []) → used + left ≡ 67108864 → IsPen digest used [] texts digest left true
begun digest used left None none room = record { written = tt; digest_is = λ e. refl; left_is = λ e. tt }
begun digest used left (Some ts) none room = record {
  written = begin_written digest used true ts none;
  digest_is = λ e. refl;
  left_is = λ e. let short : bytes_in ts ≡ 0 = ap bytes_in none in omega (arith, short, room);
}

pub full : (digest : List ℕ) (used : ℕ) (texts : Option (List (List ℕ))) → IfSome texts (λ ts. ts ≡ []) → IsPen digest used [] texts digest 0 false
full digest used None none = record { written = tt; digest_is = λ e. absurd (cc); left_is = λ e. absurd (cc) }
full digest used (Some ts) none = record { written = begin_written digest used false ts none; digest_is = λ e. absurd (cc); left_is = λ e. absurd (cc) }
