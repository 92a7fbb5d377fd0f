-- How a filling comes from one `@` to the next.
use Rattle.std.proofs.Common.{◌≡◌, ℕ, suc, ◌+◌, ◌-◌, ◌<◌, ◌≤◌, List, [], ◌∷◌, ◌++◌, Bool, true, false, Some, None, drop, take, append_assoc, append-nil, arith, refl, sym, ◌∙◌, ap, subst}
use Rattle.std.specs.Prelude.{slice_range}
use Rattle.std.proofs.lemmas.List.{drop-drop, take-append-drop}
use Rattle.std.proofs.Math.Seq.{take-add}
use Rattle.deftable.specs.Table.{value_of}
use Rattle.template.specs.Fill.{at_sign, filled}
use Rattle.template.specs.Hops.{HasNoAt, HasAt, HasNextAt, read_to, MayFollow, HasComeTo}
use Rattle.template.proofs.Laws.{filled-plain, filled-key, filled-no_key, filled-open, filled-end, filled-[]}

pub cut : (i j : ℕ) (xs : List ℕ) → i ≤ j → drop i xs ≡ slice_range xs i j ++ drop j xs
cut i j xs le =
    let there : i + (j - i) ≡ j = omega arith in
    sym (take-append-drop (j - i) (drop i xs)) ∙ ap (λ t. take (j - i) (drop i xs) ++ t) (drop-drop (j - i) i xs ∙ ap (λ n. drop n xs) there)

pub joined : (i j k : ℕ) (xs : List ℕ) → i ≤ j → j ≤ k → slice_range xs i j ++ slice_range xs j k ≡ slice_range xs i k
joined i j k xs le le2 =
    let there : i + (j - i) ≡ j = omega arith in
    let long : (j - i) + (k - j) ≡ k - i = omega arith in
    ap (λ t. take (j - i) (drop i xs) ++ take (k - j) t) (sym (drop-drop (j - i) i xs ∙ ap (λ n. drop n xs) there))
    ∙ sym (take-add (j - i) (k - j) (drop i xs)) ∙ ap (λ n. take n (drop i xs)) long

empty : (i : ℕ) (xs : List ℕ) → slice_range xs i i ≡ []
empty i xs = let none : i - i ≡ 0 = omega arith in ap (λ n. take n (drop i xs)) none

-- the slice that begins at an `@`
at_first : (text : List ℕ) (last at : ℕ) → last < at → HasAt text last → slice_range text last at ≡ at_sign ∷ slice_range text (last + 1) at
at_first text last at lt is =
    let long : at - last ≡ suc (at - (last + 1)) = omega arith in
    ap (λ n. take n (drop last text)) long ∙ ap (λ t. take (suc (at - (last + 1))) t) is

take_more : (i j : ℕ) (xs : List ℕ) → i ≤ j → take j xs ≡ take i xs ++ slice_range xs i j
take_more i j xs le = let there : i + (j - i) ≡ j = omega arith in ap (λ n. take n xs) (sym there) ∙ take-add i (j - i) xs

-- the slice from an `@` through the next one
through : (text : List ℕ) (last at : ℕ) → last < at → HasAt text last → HasAt text at → slice_range text last (at + 1) ≡ at_sign ∷ (slice_range text (last + 1) at ++ at_sign ∷ [])
through text last at lt is there =
    let one : (at + 1) - at ≡ 1 = omega arith in
    let only : slice_range text at (at + 1) ≡ at_sign ∷ [] = ap (λ n. take n (drop at text)) one ∙ ap (λ t. take 1 t) there in
    at_first text last (at + 1) (omega arith) is
    ∙ ap (λ t. at_sign ∷ t) (sym (joined (last + 1) at (at + 1) text (omega arith) (omega arith)) ∙ ap (λ t. slice_range text (last + 1) at ++ t) only)

module _ (es : List (List ℕ × List ℕ)) where
  -- an `@` and what is no key, with what may follow
  filled-stretch : (k rest : List ℕ) → HasNoAt k → value_of es k ≡ None → MayFollow rest → filled es (at_sign ∷ (k ++ rest)) ≡ at_sign ∷ (k ++ filled es rest)
  filled-stretch k [] clean none _ =
      ap (λ t. filled es (at_sign ∷ t)) (append-nil k) ∙ filled-open es k clean
      ∙ ap (λ t. at_sign ∷ t) (filled-end es k clean ∙ sym (append-nil k) ∙ ap (λ t. k ++ t) (sym (filled-[] es)))
  filled-stretch k (b ∷ rest) clean none is =
      ap (λ x. filled es (at_sign ∷ (k ++ x ∷ rest))) is ∙ filled-no_key es k rest clean none ∙ ap (λ x. at_sign ∷ (k ++ filled es (x ∷ rest))) (sym is)

module _ (es : List (List ℕ × List ℕ)) (text : List ℕ) where
  -- a stretch that fills to itself becomes pending too
  further : (made rest : List ℕ) (start last at : ℕ) → start ≤ last → last ≤ at
      → filled es (take last text ++ (slice_range text last at ++ rest)) ≡ (made ++ slice_range text start last) ++ filled es (slice_range text last at ++ rest)
      → filled es (slice_range text last at ++ rest) ≡ slice_range text last at ++ filled es rest
      → filled es (take at text ++ rest) ≡ (made ++ slice_range text start at) ++ filled es rest
  further made rest start last at le le2 whole is =
      let s = slice_range text last at in
      let before = made ++ slice_range text start last in
      ap (λ t. filled es (t ++ rest)) (take_more last at text le2)
      ∙ ap (filled es) (append_assoc (take last text) s rest)
      ∙ whole
      ∙ ap (λ t. before ++ t) is
      ∙ sym (append_assoc before s (filled es rest))
      ∙ ap (λ t. t ++ filled es rest) (append_assoc made (slice_range text start last) s ∙ ap (λ t. made ++ t) (joined start last at text le le2))

  stretch : (last at : ℕ) (rest : List ℕ) → last < at → HasAt text last → HasNoAt (slice_range text (last + 1) at) → value_of es (slice_range text (last + 1) at) ≡ None → MayFollow rest
      → filled es (slice_range text last at ++ rest) ≡ slice_range text last at ++ filled es rest
  stretch last at rest lt is clean none follows =
      ap (λ t. filled es (t ++ rest)) (at_first text last at lt is) ∙ filled-stretch es (slice_range text (last + 1) at) rest clean none follows
      ∙ ap (λ t. t ++ filled es rest) (sym (at_first text last at lt is))

  -- an `@` is what may follow
  follows_at : (last at : ℕ) (rest : List ℕ) → last < at → HasAt text last → MayFollow (slice_range text last at ++ rest)
  follows_at last at rest lt is = subst (λ t. MayFollow (t ++ rest)) (sym (at_first text last at lt is)) refl

  -- no key is between the open `@` and the next one, which is open from there on
  pub comes_further : (made : List ℕ) (start last at : ℕ) (opened : Bool) → HasComeTo es text made start last opened → HasNextAt text (read_to last opened) at
      → (opened ≡ true → value_of es (slice_range text (last + 1) at) ≡ None) → HasComeTo es text made start at true
  comes_further made start last at true h next none =
      let lt : last < at = omega (arith, next.low) in
      record {
        ordered = omega (arith, h.ordered, next.low);
        within = omega (arith, next.high);
        at_open = λ _. next.there;
        whole = λ rest follows.
            further made rest start last at h.ordered (omega (arith, next.low)) (h.whole (slice_range text last at ++ rest) (λ _. follows_at last at rest lt (h.at_open refl)))
            (stretch last at rest lt (h.at_open refl) next.clean (none refl) (follows refl));
      }
  comes_further made start last at false h next none = record {
    ordered = omega (arith, h.ordered, next.low);
    within = omega (arith, next.high);
    at_open = λ _. next.there;
    whole = λ rest _. further made rest start last at h.ordered next.low (h.whole (slice_range text last at ++ rest) (λ not. absurd cc)) (filled-plain es (slice_range text last at) rest next.clean);
  }

  -- pending text is written
  written : (made later : List ℕ) (start last : ℕ) → later ≡ made ++ slice_range text start last → later ++ slice_range text last last ≡ made ++ slice_range text start last
  written made later start last is = ap (λ t. later ++ t) (empty last text) ∙ append-nil later ∙ is

  -- the pending text up to an open `@` is written
  pub comes_written : (made later : List ℕ) (start last : ℕ) → HasComeTo es text made start last true → later ≡ made ++ slice_range text start last → HasComeTo es text later last last true
  comes_written made later start last h is = record {
    ordered = omega arith;
    within = h.within;
    at_open = h.at_open;
    whole = λ rest follows. h.whole rest follows ∙ ap (λ t. t ++ filled es rest) (sym (written made later start last is));
  }

  -- a key is between the open `@` and the next one
  pub comes_past_key : (made front written later v : List ℕ) (start last at : ℕ) (opened : Bool) → HasComeTo es text made start last opened → HasNextAt text (read_to last opened) at → opened ≡ true
      → value_of es (slice_range text (last + 1) at) ≡ Some v → front ≡ made ++ slice_range text start last → later ≡ front ++ written → written ≡ v → HasComeTo es text later (at + 1) (at + 1) false
  comes_past_key made front written later v start last at false h next not is e f g = absurd cc
  comes_past_key made front written later v start last at true h next _ is e f g =
      let lt : last < at = omega (arith, next.low) in
      let k = slice_range text (last + 1) at in
      let s = slice_range text last (at + 1) in
      let long : s ≡ at_sign ∷ (k ++ at_sign ∷ []) = through text last at lt (h.at_open refl) next.there in
      let before = made ++ slice_range text start last in
      let given : later ++ slice_range text (at + 1) (at + 1) ≡ before ++ v =
      ap (λ t. later ++ t) (empty (at + 1) text) ∙ append-nil later ∙ f ∙ ap (λ t. t ++ written) e ∙ ap (λ t. before ++ t) g in
      record {
        ordered = omega arith;
        within = omega (arith, next.high);
        at_open = λ not. absurd cc;
        whole = λ rest _.
            ap (λ t. filled es (t ++ rest)) (take_more last (at + 1) text (omega arith))
            ∙ ap (filled es) (append_assoc (take last text) s rest)
            ∙ h.whole (s ++ rest) (λ _. follows_at last (at + 1) rest (omega arith) (h.at_open refl))
            ∙ ap (λ t. before ++ t) (
            ap (λ t. filled es (t ++ rest)) long ∙ ap (λ t. filled es (at_sign ∷ t)) (append_assoc k (at_sign ∷ []) rest) ∙ filled-key es k rest v next.clean is
            )
            ∙ sym (append_assoc before v (filled es rest))
            ∙ ap (λ t. t ++ filled es rest) (sym given);
      }

  -- the text from an open `@` on is what may follow
  follows_open : (last : ℕ) (rest : List ℕ) → HasAt text last → MayFollow (drop last text ++ rest)
  follows_open last rest is = subst (λ t. MayFollow (t ++ rest)) (sym is) refl

  -- the whole text, with any rest
  pub comes_whole : (made rest : List ℕ) (start last : ℕ) (opened : Bool) → HasComeTo es text made start last opened
      → filled es (text ++ rest) ≡ (made ++ slice_range text start last) ++ filled es (drop last text ++ rest)
  comes_whole made rest start last opened h =
      ap (λ t. filled es (t ++ rest)) (sym (take-append-drop last text)) ∙ ap (filled es) (append_assoc (take last text) (drop last text) rest)
      ∙ h.whole (drop last text ++ rest) (λ e. follows_open last rest (h.at_open e))

  -- the text after a last `@` is copied
  pub filled-last : (last : ℕ) (opened : Bool) → (opened ≡ true → HasAt text last) → HasNoAt (drop (read_to last opened) text) → filled es (drop last text) ≡ drop last text
  filled-last last true at_open clean =
      ap (filled es) (at_open refl) ∙ filled-open es (drop (last + 1) text) clean ∙ ap (λ t. at_sign ∷ t) (filled-end es (drop (last + 1) text) clean) ∙ sym (at_open refl)
  filled-last last false at_open clean = filled-end es (drop last text) clean

  -- no `@` is left
  pub comes_to_end : (made : List ℕ) (start last : ℕ) (opened : Bool) → HasComeTo es text made start last opened → HasNoAt (drop (read_to last opened) text) → made ++ drop start text ≡ filled es text
  comes_to_end made start last opened h clean =
      ap (λ t. made ++ t) (cut start last text h.ordered)
      ∙ sym (append_assoc made (slice_range text start last) (drop last text))
      ∙ ap (λ t. (made ++ slice_range text start last) ++ t) (sym (filled-last last opened h.at_open clean) ∙ ap (filled es) (sym (append-nil (drop last text))))
      ∙ sym (comes_whole made [] start last opened h)
      ∙ ap (filled es) (append-nil text)

  pub HasComeTo-start : HasComeTo es text [] 0 0 false
  HasComeTo-start = record { ordered = omega arith; within = omega arith; at_open = λ not. absurd cc; whole = λ rest _. refl }
