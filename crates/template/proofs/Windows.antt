-- What the windows on a text say about the `@` in it.
use Rattle.std.proofs.Common.{◌≡◌, ◌≢◌, ◌↔◌, ℕ, suc, ◌+◌, ◌-◌, ◌<◌, ◌≤◌, List, [], ◌∷◌, ◌++◌, Bool, true, false, cond, eqb, map, length, drop, take, get_or, length-take, add-one, arith, refl, sym, ◌∙◌, ap, subst, eqb-true, eq-eqb}
use borrow.Author.Tests.{ltb-true, ltb-false}
use Rattle.std.specs.Prelude.{ltb, slice_range, Option, Some, None, IfSome, IfNone}
use Rattle.std.specs.Int.{bit_at}
use Rattle.std.specs.Simd.Lanes.{mask_l}
use Rattle.std.proofs.lemmas.Simd.{bit_mask_l, get_or-chunk}
use Rattle.std.proofs.lemmas.Nat.Bits.{bit_at-zero}
use Rattle.std.proofs.lemmas.List.{get_or-take}
use Rattle.std.proofs.Math.ListN.{get_or-map}
use Rattle.std.proofs.Math.Seq.{drop-cons}
use Rattle.template.specs.Fill.{at_sign}
use Rattle.template.specs.Hops.{HasNoAt, HasAt, HasNextAt}
use Rattle.template.specs.Marks.{IsClear, IsWindow}
use Rattle.template.proofs.Laws.{HasNoAt-each}
use Rattle.template.proofs.Steps.{cut, joined}

-- ---- the marks of 64 bytes

abbrev is_sign : ℕ → Bool
is_sign b = eqb b 64

tells : (x : ℕ) (b : Bool) → eqb x 64 ≡ b → (cond {A = ℕ} b 1 0 ≡ 1) ↔ (x ≡ 64)
tells x true e = (λ _. eqb-true x 64 e, λ _. refl)
tells x false e = (λ h. absurd (omega arith), λ h. let t : eqb x 64 ≡ true = eq-eqb x 64 h in absurd cc)

pub bit_of_sign : (v : List ℕ) (k : ℕ) → k < 64 → (bit_at (mask_l (map is_sign (take 64 v))) k ≡ 1) ↔ (get_or v k 0 ≡ 64)
bit_of_sign v k lt =
    let e : bit_at (mask_l (map is_sign (take 64 v))) k ≡ cond (eqb (get_or v k 0) 64) 1 0 =
    bit_mask_l (map is_sign (take 64 v)) k ∙ ap (λ b. cond b 1 0) (get_or-map is_sign (take 64 v) k 0 ∙ ap is_sign (get_or-take 64 v k 0 lt)) in
    let t = tells (get_or v k 0) _ refl in
    (λ h. t.0 (sym e ∙ h), λ h. e ∙ t.1 h)

-- ---- stretches with no `@`

pub HasNoAt-append : (s t : List ℕ) → HasNoAt s → HasNoAt t → HasNoAt (s ++ t)
HasNoAt-append [] t h g = g
HasNoAt-append (b ∷ bs) t h g = (h.0, HasNoAt-append bs t h.1 g)

pub HasNoAt-clear : (text : List ℕ) (i j : ℕ) → IsClear text i j → HasNoAt (slice_range text i j)
HasNoAt-clear text i j clear = HasNoAt-each (slice_range text i j) (λ k below is.
    let low : k < j - i = omega (arith, length-take {A = ℕ}) in
    clear (i + k) (omega arith) (omega arith) (sym (get_or-chunk i (j - i) text k 0 low) ∙ eqb-true _ at_sign is))

pub HasAt-at : (text : List ℕ) (at : ℕ) → at < length text → get_or text at 0 ≡ at_sign → HasAt text at
HasAt-at text at lt is = drop-cons text at 0 lt ∙ ap (λ b. b ∷ drop (suc at) text) is ∙ ap (λ n. at_sign ∷ drop n text) (sym (add-one at))

-- ---- windows

pub IsWindow-start : (text : List ℕ) → IsWindow text 0 0 0 0
IsWindow-start text = record {
  reached = omega arith;
  ordered = omega arith;
  high = omega arith;
  short = omega arith;
  clear = λ k low high. absurd (omega arith);
  marked = λ k lt low high is. absurd (omega arith);
  told = λ k lt set. absurd (omega (arith, bit_at-zero k));
}

module _ (text : List ℕ) (base end marks from : ℕ) (w : IsWindow text base end marks from) where
  -- the text before an offset whose marks aren't set
  clear_below : (at : ℕ) → at ≤ end → ((j : ℕ) → j < 64 → base + j < at → bit_at marks j ≡ 1 → ⊥) → IsClear text from at
  clear_below at le unset k low high is =
      elim (ltb k base) as (λ b. ltb k base ≡ b → ⊥) [
        | true ↦ λ e. w.clear k low (ltb-true k base e) is
        | false ↦ λ e.
            let after : base ≤ k = ltb-false k base e in
            let j = k - base in
            let there : base + j ≡ k = omega arith in
            let short = w.short in
            unset j (omega arith) (omega arith) (w.marked j (omega arith) (omega arith) (omega arith) (subst (λ n. get_or text n 0 ≡ at_sign) (sym there) is))
      ] refl

  -- nothing is marked any more
  pub clear_if_unmarked : marks ≡ 0 → IsClear text from end
  clear_if_unmarked none = clear_below end (omega arith) (λ j lt below set. let e : bit_at marks j ≡ 0 = ap (λ m. bit_at m j) none ∙ bit_at-zero j in absurd (omega arith))

  -- the next window
  pub slides : (next later : ℕ) → marks ≡ 0 → IsWindow text end next later end → IsWindow text end next later from
  slides next later none n = record {
    reached = omega (arith, w.reached, n.ordered);
    ordered = n.ordered;
    high = n.high;
    short = n.short;
    clear = clear_if_unmarked none;
    marked = λ k lt low high is. n.marked k lt (omega arith) high is;
    told = λ k lt set. let t = n.told k lt set in (omega (arith, w.reached), t.1, t.2);
  }

  pub none_after : marks ≡ 0 → HasNoAt (drop end text) → HasNoAt (drop from text)
  none_after none clean = subst HasNoAt (sym (cut from end text w.reached)) (HasNoAt-append _ _ (HasNoAt-clear text from end (clear_if_unmarked none)) clean)

  pub next_after : (at : ℕ) → marks ≡ 0 → HasNextAt text end at → HasNextAt text from at
  next_after at none next = record {
    low = omega (arith, w.reached, next.low);
    high = next.high;
    clean = subst HasNoAt (joined from end at text w.reached next.low) (HasNoAt-append _ _ (HasNoAt-clear text from end (clear_if_unmarked none)) next.clean);
    there = next.there;
  }

  module _ (bit : ℕ) (small : bit < 64) (set : bit_at marks bit ≡ 1) (below : (k : ℕ) → k < bit → bit_at marks k ≡ 0) where
    -- the lowest mark is at the next `@`
    pub next_in : HasNextAt text from (base + bit)
    next_in =
        let t = w.told bit small set in
        let high : base + bit < length text = omega (arith, t.1, w.high) in
        record {
          low = t.0;
          high = high;
          clean = HasNoAt-clear text from (base + bit) (clear_below (base + bit) (omega (arith, t.1)) (λ j lt under is. let e : bit_at marks j ≡ 0 = below j (omega arith) in absurd (omega arith)));
          there = HasAt-at text (base + bit) high t.2;
        }

    -- the marks that are left
    pub left : (later : ℕ) → bit_at later bit ≡ 0 → ((k : ℕ) → k < 64 → k ≢ bit → bit_at later k ≡ bit_at marks k) → IsWindow text base end later (base + bit + 1)
    left later cleared kept =
        let t = w.told bit small set in
        record {
          reached = omega (arith, t.1);
          ordered = w.ordered;
          high = w.high;
          short = w.short;
          clear = λ k low high. absurd (omega arith);
          marked = λ k lt low high is.
              let apart : k ≢ bit = omega arith in
              kept k lt apart ∙ w.marked k lt (omega (arith, t.0)) high is;
          told = λ k lt is.
              let apart : k ≢ bit = λ e. let z : bit_at later k ≡ 0 = ap (bit_at later) e ∙ cleared in absurd (omega arith) in
              let was : bit_at marks k ≡ 1 = sym (kept k lt apart) ∙ is in
              let s = w.told k lt was in
              let above : bit < k = above_bit k apart was in
              (omega arith, s.1, s.2);
        }
      where
        above_bit : (k : ℕ) → k ≢ bit → bit_at marks k ≡ 1 → bit < k
        above_bit k apart was =
            elim (ltb k bit) as (λ b. ltb k bit ≡ b → bit < k) [
              | true ↦ λ e. let z = below k (ltb-true k bit e) in absurd (omega arith)
              | false ↦ λ e. omega (arith, ltb-false k bit e)
            ] refl

-- ---- the result of a search

pub IfSome-weaker : {X : Type 0} (P Q : X → Type 0) → ((x : X) → P x → Q x) → (r : Option X) → IfSome r P → IfSome r Q
IfSome-weaker P Q f None h = tt
IfSome-weaker P Q f (Some x) h = f x h

pub IfNone-weaker : {X : Type 0} {P Q : Type 0} → (P → Q) → (r : Option X) → IfNone r P → IfNone r Q
IfNone-weaker f None h = f h
IfNone-weaker f (Some x) h = tt
