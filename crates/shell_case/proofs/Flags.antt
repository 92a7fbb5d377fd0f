-- The places of a group, from those of its parts.
use Rattle.std.proofs.Common.{◌≡◌, ℕ, zero, suc, ◌+◌, ◌-◌, ◌<◌, ◌≤◌, Bool, true, false, ◌&&◌, nat_le, List, [], ◌∷◌, ◌++◌, length, get_or, take, drop, map, replicate, Option, Some, None, IfSome, Result, Ok, Err, IfOk, refl, sym, ap, subst, ◌∙◌, append_assoc, arith}
use Rattle.std.specs.Prelude.{◌≢◌}
use Rattle.std.proofs.Math.Bool.{and_assoc}
use Rattle.std.proofs.Math.Seq.{take-add}
use Rattle.std.proofs.lemmas.Bool.{le-leb, leb-true}
use Rattle.std.proofs.lemmas.List.{take_all, take_more, take_rest, length-drop, length-take-le}
use Rattle.shellword.specs.declared.pattern.Piece.{Piece}
use Rattle.shellword.specs.declared.pattern.Piece.TheVariants.{OneByte, Byte}
use Rattle.shell_case.specs.Parts.{takes, fits, IsFirstPlace, places, keep_places, unset_count, byte_of, byte_count}
use Rattle.shell_case.specs.Fronts.{shared, shares, keep_long}
use Rattle.shell_case.proofs.Groups.{IsGroup, same_truth, drop_both, fits_len}
use Rattle.shell_case.proofs.Counting.{bytes_within, bytes_front, one_byte_after, group_drop}
use Rattle.shell_case.proofs.Shared.{part_shared, shared_part, shares_drop}

-- ---- flags of which some are kept

pub keep_long_len : (len : ℕ) (flags : List Bool) (lens : List ℕ) → length flags ≤ length lens → length (keep_long len flags lens) ≡ length flags
keep_long_len len [] lens h = refl
keep_long_len len (f ∷ fs) [] h = absurd (omega (arith, h))
keep_long_len len (f ∷ fs) (l ∷ ls) h = ap suc (keep_long_len len fs ls (omega (arith, h)))

keep_long_at : (len : ℕ) (flags : List Bool) (lens : List ℕ) (i : ℕ) (d : Bool) (e : ℕ) → length flags ≤ length lens → i < length flags
    → get_or (keep_long len flags lens) i d ≡ (get_or flags i d && nat_le len (get_or lens i e))
keep_long_at len [] lens i d e h lt = absurd (omega arith)
keep_long_at len (f ∷ fs) [] i d e h lt = absurd (omega (arith, h))
keep_long_at len (f ∷ fs) (l ∷ ls) zero d e h lt = refl
keep_long_at len (f ∷ fs) (l ∷ ls) (suc i) d e h lt = keep_long_at len fs ls i d e (omega (arith, h)) (omega arith)

pub keep_one_more : (len : ℕ) (flags kept : List Bool) (lens : List ℕ) (i : ℕ) (d f : Bool) (e : ℕ) → length flags ≤ length lens → i < length flags
    → kept ≡ take i (keep_long len flags lens) → f ≡ (get_or flags i d && nat_le len (get_or lens i e)) → kept ++ f ∷ [] ≡ take (i + 1) (keep_long len flags lens)
keep_one_more len flags kept lens i d f e h lt same is =
    ap (λ (l : List Bool). l ++ f ∷ []) same
    ∙ ap (λ (f : Bool). take i (keep_long len flags lens) ++ f ∷ []) (is ∙ sym (keep_long_at len flags lens i d e h lt))
    ∙ sym (take_more (keep_long len flags lens) i d (omega (arith, lt, keep_long_len len flags lens h)))

empty_part : (flags : List Bool) (text : List ℕ) → flags ≡ keep_places [] flags text
empty_part [] text = refl
empty_part (true ∷ fs) text = ap (λ (l : List Bool). true ∷ l) (empty_part fs (drop 1 text))
empty_part (false ∷ fs) text = ap (λ (l : List Bool). false ∷ l) (empty_part fs (drop 1 text))

pub kept_empty : (part : List ℕ) (flags : List Bool) (text : List ℕ) → length part ≡ 0 → flags ≡ keep_places (map Byte part) flags text
kept_empty [] flags text e = empty_part flags text
kept_empty (c ∷ part) flags text e = absurd (omega (arith, e))

kept_shares : (part more : List ℕ) (flags : List Bool) (text : List ℕ) → length flags ≤ length text
    → keep_long (length part) flags (shares (part ++ more) text) ≡ keep_places (map Byte part) flags text
kept_shares part more [] text h = refl
kept_shares part more (f ∷ fs) [] h = absurd (omega (arith, h))
kept_shares part more (f ∷ fs) (b ∷ bs) h =
    let e : nat_le (length part) (shared (part ++ more) (b ∷ bs)) ≡ fits (map Byte part) (b ∷ bs) = same_truth _ _
    (λ k. part_shared part more (b ∷ bs) (leb-true (length part) (shared (part ++ more) (b ∷ bs)) k))
    (λ k. le-leb (length part) (shared (part ++ more) (b ∷ bs)) (shared_part part more (b ∷ bs) k)) in
    ap (λ (p : Bool). (f && p) ∷ keep_long (length part) fs (shares (part ++ more) bs)) e
    ∙ ap (λ (l : List Bool). (f && fits (map Byte part) (b ∷ bs)) ∷ l) (kept_shares part more fs bs (omega (arith, h)))

drop_part : (part text : List ℕ) → drop (length part) (part ++ text) ≡ text
drop_part [] text = refl
drop_part (c ∷ part) text = drop_part part text

pub kept_part : (part text lens : List ℕ) (flags : List Bool) → length flags ≤ length text → lens ≡ shares (part ++ text) (part ++ text)
    → keep_long (length part) flags (take (length lens - length part) (drop (length part) lens)) ≡ keep_places (map Byte part) flags text
kept_part part text lens flags h same =
    let e : drop (length part) lens ≡ shares (part ++ text) text =
    ap (drop (length part)) same ∙ shares_drop (length part) (part ++ text) (part ++ text) ∙ ap (shares (part ++ text)) (drop_part part text) in
    ap (keep_long (length part) flags) (take_rest lens (length part) ∙ e) ∙ kept_shares part text flags text h

-- ---- the places of more pieces

fits_both : (ps qs : List Piece) (text : List ℕ) → fits (ps ++ qs) text ≡ (fits ps text && fits qs (drop (length ps) text))
fits_both [] qs text = refl
fits_both (p ∷ ps) qs [] = refl
fits_both (p ∷ ps) qs (b ∷ bs) = ap (λ (t : Bool). takes p b && t) (fits_both ps qs bs) ∙ sym (and_assoc (takes p b) (fits ps bs) (fits qs (drop (length ps) bs)))

pub places_len : (ps : List Piece) (n : ℕ) (text : List ℕ) → length (places ps n text) ≡ n
places_len ps zero text = refl
places_len ps (suc n) text = ap suc (places_len ps n (drop 1 text))

pub places_none : (n : ℕ) (text : List ℕ) → replicate n true ≡ places [] n text
places_none zero text = refl
places_none (suc n) text = ap (λ (l : List Bool). true ∷ l) (places_none n (drop 1 text))

places_both : (ps qs : List Piece) (n : ℕ) (text : List ℕ) → keep_places qs (places ps n text) (drop (length ps) text) ≡ places (ps ++ qs) n text
places_both ps qs zero text = refl
places_both ps qs (suc n) text =
    ap (λ (p : Bool). p ∷ keep_places qs (places ps n (drop 1 text)) (drop 1 (drop (length ps) text))) (sym (fits_both ps qs text))
    ∙ ap (λ (t : List ℕ). fits (ps ++ qs) text ∷ keep_places qs (places ps n (drop 1 text)) t) (drop_both 1 (length ps) text)
    ∙ ap (λ (l : List Bool). fits (ps ++ qs) text ∷ l) (places_both ps qs n (drop 1 text))

one_fits : (text : List ℕ) → 1 ≤ length text → fits (OneByte ∷ []) text ≡ true
one_fits [] h = absurd (omega (arith, h))
one_fits (b ∷ bs) h = refl

and_true : (p q : Bool) → q ≡ true → (p && q) ≡ p
and_true true q h = h
and_true false q h = refl

-- a `?` fits wherever the text goes on
places_any : (ps : List Piece) (n : ℕ) (text : List ℕ) → n + length ps ≤ length text → places (ps ++ OneByte ∷ []) n text ≡ places ps n text
places_any ps zero text h = refl
places_any ps (suc n) text h =
    let more = one_fits (drop (length ps) text) (omega (arith, h, length-drop (length ps) text)) in
    ap (λ (p : Bool). p ∷ places (ps ++ OneByte ∷ []) n (drop 1 text)) (fits_both ps (OneByte ∷ []) text ∙ and_true (fits ps text) _ more)
    ∙ ap (λ (l : List Bool). fits ps text ∷ l) (places_any ps n (drop 1 text) (omega (arith, h, length-drop 1 text)))

-- ---- the first place

too_long : (ps : List Piece) (text : List ℕ) → length text < length ps → fits ps text ≡ false
too_long ps text lt = same_truth _ _ (λ h. absurd (omega (arith, lt, fits_len ps text h))) (λ h. absurd cc)

pub long_nowhere : (ps : List Piece) (text : List ℕ) → length text < length ps → IsFirstPlace ps text None
long_nowhere ps text lt = λ k le. too_long ps (drop k text) (omega (arith, lt, length-drop k text))

-- the first offset, and those of the text after its first byte
nowhere_more : (ps : List Piece) (b : ℕ) (bs : List ℕ) → fits ps (b ∷ bs) ≡ false → IsFirstPlace ps bs None → IsFirstPlace ps (b ∷ bs) None
nowhere_more ps b bs f none zero le = f
nowhere_more ps b bs f none (suc k) le = none k (omega (arith, le))

before_more : (ps : List Piece) (b : ℕ) (bs : List ℕ) (k : ℕ) → fits ps (b ∷ bs) ≡ false → ((j : ℕ) → j < k → fits ps (drop j bs) ≡ false)
    → (j : ℕ) → j < suc k → fits ps (drop j (b ∷ bs)) ≡ false
before_more ps b bs k f before zero lt = f
before_more ps b bs k f before (suc j) lt = before j (omega (arith, lt))

pub all_unset : (ps : List Piece) (n : ℕ) (text : List ℕ) → 1 ≤ length ps → n + length ps ≡ length text + 1 → unset_count (places ps n text) ≡ n → IsFirstPlace ps text None
all_unset ps zero text some long e = long_nowhere ps text (omega (arith, long))
all_unset ps (suc n) [] some long e = absurd (omega (arith, some, long))
all_unset ps (suc n) (b ∷ bs) some long e = by_first (fits ps (b ∷ bs)) refl e (all_unset ps n bs some (omega (arith, long))) where
  by_first : (p : Bool) → fits ps (b ∷ bs) ≡ p → unset_count (p ∷ places ps n bs) ≡ suc n → (unset_count (places ps n bs) ≡ n → IsFirstPlace ps bs None) → IsFirstPlace ps (b ∷ bs) None
  by_first true f k later = absurd (omega (arith, k))
  by_first false f k later = nowhere_more ps b bs f (later (omega (arith, k)))

pub one_set : (ps : List Piece) (n : ℕ) (text : List ℕ) (c : ℕ) → 1 ≤ length ps → n + length ps ≡ length text + 1 → unset_count (places ps n text) ≡ c → c < n → IsFirstPlace ps text (Some c)
one_set ps zero text c some long e lt = absurd (omega (arith, lt))
one_set ps (suc n) [] c some long e lt = absurd (omega (arith, some, long))
one_set ps (suc n) (b ∷ bs) c some long e lt = by_first (fits ps (b ∷ bs)) c refl e lt (λ d k l. one_set ps n bs d some (omega (arith, long)) k l) where
  by_first : (p : Bool) (d : ℕ) → fits ps (b ∷ bs) ≡ p → unset_count (p ∷ places ps n bs) ≡ d → d < suc n
      → ((d : ℕ) → unset_count (places ps n bs) ≡ d → d < n → IsFirstPlace ps bs (Some d)) → IsFirstPlace ps (b ∷ bs) (Some d)
  by_first true zero f k l later = (omega arith, f, λ j m. absurd (omega (arith, m)))
  by_first true (suc d) f k l later = absurd (omega (arith, k))
  by_first false zero f k l later = absurd (omega (arith, k))
  by_first false (suc d) f k l later =
      let h = later d (omega (arith, k)) (omega (arith, l)) in
      (omega (arith, h.0), h.1, before_more ps b bs d f h.2)

pub place_within : (ps : List Piece) (text : List ℕ) (r : Option ℕ) → IsFirstPlace ps text r → IfSome r (λ k. k + length ps ≤ length text)
place_within ps text None h = tt
place_within ps text (Some k) h = omega (arith, h.0, fits_len ps (drop k text) h.1, length-drop k text)

pub within_ok : {E : Type 0} (ps : List Piece) (text : List ℕ) (r : Result (Option ℕ) E) → IfOk r (λ o. IsFirstPlace ps text o) → IfOk r (λ o. IfSome o (λ k. k + length ps ≤ length text))
within_ok ps text (Ok o) h = place_within ps text o h
within_ok ps text (Err e) h = tt

unset_within : (flags : List Bool) → unset_count flags ≤ length flags
unset_within [] = omega arith
unset_within (true ∷ fs) = omega arith
unset_within (false ∷ fs) = omega (arith, unset_within fs)

module _ (ps : List Piece) (text : List ℕ) (flags : List Bool) (count : ℕ) (same : flags ≡ places ps (length text + 1 - length ps) text)
    (some : 1 ≤ length ps) (long : length ps ≤ length text) (is : count ≡ unset_count flags) where
  size : length flags ≡ length text + 1 - length ps
  size = ap length same ∙ places_len ps (length text + 1 - length ps) text

  here : unset_count (places ps (length text + 1 - length ps) text) ≡ count
  here = ap unset_count (sym same) ∙ sym is

  pub nothing_set : count ≡ length flags → IsFirstPlace ps text None
  nothing_set e = all_unset ps (length text + 1 - length ps) text some (omega (arith, long)) (here ∙ e ∙ size)

  pub count_set : count ≢ length flags → IsFirstPlace ps text (Some count)
  count_set e = one_set ps (length text + 1 - length ps) text count some (omega (arith, long)) here (omega (arith, e, size, is, unset_within flags))

-- ---- the state of the search for all parts

-- the places of the first `at` pieces are known
pub record Known (pieces : List Piece) (text : List ℕ) (flags : List Bool) (at : ℕ) : Type 0 where
  pub in_pieces : at ≤ length pieces
  pub known : flags ≡ places (take at pieces) (length text + 1 - length pieces) text

pub places_start : (pieces : List Piece) (text : List ℕ) (flags : List Bool) (n : ℕ) → n ≡ length text + 1 - length pieces → flags ≡ replicate n true → Known pieces text flags 0
places_start pieces text flags n e same = record {
  in_pieces = omega arith;
  known = same ∙ ap (λ (k : ℕ). replicate k true) e ∙ places_none (length text + 1 - length pieces) text;
}

module _ (pieces : List Piece) (text : List ℕ) (flags : List Bool) (at : ℕ) (s : Known pieces text flags at) where
  abbrev pub n : ℕ
  n = length text + 1 - length pieces

  rest_is : (len : ℕ) → len ≡ byte_count (take (length pieces - at) (drop at pieces)) → len ≡ byte_count (drop at pieces)
  rest_is len e = e ∙ ap byte_count (take_rest pieces at)

  -- the flags after the next part
  pub with_part : (len : ℕ) (part : List ℕ) (new : List Bool) → len ≡ byte_count (take (length pieces - at) (drop at pieces))
      → part ≡ map byte_of (take len (take (length pieces - at) (drop at pieces)))
      → new ≡ keep_places (map Byte part) flags (take (length text - at) (drop at text)) → new ≡ places (take (at + len) pieces) n text
  with_part len part new is same kept =
      let e = rest_is len is in
      let count = byte_count (drop at pieces) in
      let front : part ≡ map byte_of (take count (drop at pieces)) =
      same ∙ ap (λ (ps : List Piece). map byte_of (take len ps)) (take_rest pieces at) ∙ ap (λ (k : ℕ). map byte_of (take k (drop at pieces))) e in
      let whole : take at pieces ++ map Byte part ≡ take (at + len) pieces =
      ap (λ (l : List ℕ). take at pieces ++ map Byte l) front ∙ ap (λ (l : List Piece). take at pieces ++ l) (sym (bytes_front (drop at pieces)))
      ∙ ap (λ (k : ℕ). take at pieces ++ take k (drop at pieces)) (sym e) ∙ sym (take-add at len pieces) in
      let here : drop at text ≡ drop (length (take at pieces)) text = ap (λ (k : ℕ). drop k text) (sym (length-take-le at pieces s.in_pieces)) in
      kept ∙ ap (keep_places (map Byte part) flags) (take_rest text at ∙ here)
      ∙ ap (λ (l : List Bool). keep_places (map Byte part) l (drop (length (take at pieces)) text)) s.known
      ∙ places_both (take at pieces) (map Byte part) n text ∙ ap (λ (ps : List Piece). places ps n text) whole

  pub with_last : (len : ℕ) (new : List Bool) → at + len ≡ length pieces → new ≡ places (take (at + len) pieces) n text → new ≡ places pieces n text
  with_last len new e h = h ∙ ap (λ (ps : List Piece). places ps n text) (take_all (at + len) pieces (omega (arith, e)))

  pub with_any : (len : ℕ) (new : List Bool) → IsGroup pieces → length pieces ≤ length text → len ≡ byte_count (take (length pieces - at) (drop at pieces))
      → at + len ≢ length pieces → new ≡ places (take (at + len) pieces) n text → Known pieces text new (at + (len + 1))
  with_any len new g long is more h =
      let e = rest_is len is in
      let lt : at + len < length pieces = omega (arith, s.in_pieces, e, more, bytes_within (drop at pieces), length-drop at pieces) in
      let after : take (len + 1) (drop at pieces) ≡ take len (drop at pieces) ++ OneByte ∷ [] =
      subst (λ (k : ℕ). take (k + 1) (drop at pieces) ≡ take k (drop at pieces) ++ OneByte ∷ []) (sym e)
      (one_byte_after (drop at pieces) (group_drop at pieces g) (omega (arith, e, lt, length-drop at pieces))) in
      let whole : take (at + len) pieces ++ OneByte ∷ [] ≡ take (at + (len + 1)) pieces =
      ap (λ (ps : List Piece). ps ++ OneByte ∷ []) (take-add at len pieces) ∙ append_assoc (take at pieces) (take len (drop at pieces)) (OneByte ∷ [])
      ∙ ap (λ (ps : List Piece). take at pieces ++ ps) (sym after) ∙ sym (take-add at (len + 1) pieces) in
      record {
        in_pieces = omega (arith, lt);
        known = h ∙ sym (places_any (take (at + len) pieces) n text (omega (arith, lt, long, length-take-le (at + len) pieces (omega (arith, lt)))))
            ∙ ap (λ (ps : List Piece). places ps n text) whole;
      }

  -- the text is long enough for the next part, if it has a byte
  pub room : length pieces ≤ length text → (k : ℕ) → 1 ≤ k → k ≤ length pieces - at → length flags ≤ length (take (length text - at) (drop at text))
  room long k one le =
      omega (arith, long, one, le, s.in_pieces, ap length s.known, places_len (take at pieces) n text, ap length (take_rest text at), length-drop at text)
