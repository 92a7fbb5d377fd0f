-- Which text a filled template is: stretch by stretch, and by the relation.
use Rattle.std.proofs.Common.{◌≡◌, ℕ, zero, suc, List, [], ◌∷◌, ◌++◌, Bool, true, false, cond, length, drop, take, get_or, ◌<◌, ◌≤◌, arith, length-take, refl, sym, ◌∙◌, ap, subst, Option, Some, None, eqb-true, append-nil}
use Rattle.std.specs.Prelude.{◌==◌, bytes_eq, option_map, option_and_then}
use Rattle.std.specs.Option.{option_map_or}
use Rattle.std.specs.List.{list_all}
use Rattle.std.proofs.lemmas.Slice.Eq.{bytes_eq-Decides}
use Rattle.std.proofs.lemmas.List.{get_or-take}
use Rattle.memchr.specs.Find.{Nowhere, Passes, is_byte}
use Rattle.deftable.specs.ShellName.{IsShellName, starts_name, continues_name}
use Rattle.deftable.specs.Table.{value_of, HasShellNames}
use Rattle.std.proofs.lemmas.Bool.{and_parts}
use Rattle.template.specs.Fill.{at_sign, BeginsWithKey, Fills, before_at, key_at_front, filled_after, filled, entry_of}
use Rattle.template.specs.Hops.{HasNoAt}
use Rattle.template.specs.Fill.Fills.{nothing, key, byte}

module _ (es : List (List ℕ × List ℕ)) where
  -- ---- stretches

  before_at-none : (s : List ℕ) → HasNoAt s → before_at s ≡ None
  unfolding before_at
  before_at-none [] h = refl
  before_at-none (b ∷ bs) h =
      ap (λ t. cond t (Some []) (option_map (λ k. b ∷ k) (before_at bs))) h.0 ∙ ap (option_map (λ k. b ∷ k)) (before_at-none bs h.1)

  before_at-some : (s t : List ℕ) → HasNoAt s → before_at (s ++ at_sign ∷ t) ≡ Some s
  unfolding before_at
  before_at-some [] t h = refl
  before_at-some (b ∷ bs) t h =
      ap (λ x. cond x (Some []) (option_map (λ k. b ∷ k) (before_at (bs ++ at_sign ∷ t)))) h.0 ∙ ap (option_map (λ k. b ∷ k)) (before_at-some bs t h.1)

  filled_after-key : (k t : List ℕ) → filled_after es (suc (length k)) (k ++ at_sign ∷ t) ≡ filled es t
  unfolding filled_after
  filled_after-key [] t = refl
  filled_after-key (b ∷ bs) t = filled_after-key bs t

  -- the step at the front of a text
  filled-cons : (b : ℕ) (bs : List ℕ) → filled es (b ∷ bs) ≡ option_map_or (λ p. p.1 ++ filled_after es (suc (length p.0)) bs) (key_at_front es (b ∷ bs)) (b ∷ filled es bs)
  unfolding filled_after
  filled-cons b bs = refl

  filled-byte : (b : ℕ) (bs : List ℕ) → key_at_front es (b ∷ bs) ≡ None → filled es (b ∷ bs) ≡ b ∷ filled es bs
  filled-byte b bs h = filled-cons b bs ∙ ap (λ o. option_map_or (λ p. p.1 ++ filled_after es (suc (length p.0)) bs) o (b ∷ filled es bs)) h

  key_at_front-apart : (b : ℕ) (bs : List ℕ) → (b == at_sign) ≡ false → key_at_front es (b ∷ bs) ≡ None
  unfolding key_at_front
  key_at_front-apart b bs h = ap (λ t. cond t (option_and_then (entry_of es) (before_at bs)) None) h

  -- a stretch without an `@` is copied
  pub filled-plain : (s t : List ℕ) → HasNoAt s → filled es (s ++ t) ≡ s ++ filled es t
  filled-plain [] t h = refl
  filled-plain (b ∷ bs) t h = filled-byte b (bs ++ t) (key_at_front-apart b (bs ++ t) h.0) ∙ ap (λ x. b ∷ x) (filled-plain bs t h.1)

  key_at_front-between : (k t : List ℕ) → HasNoAt k → key_at_front es (at_sign ∷ (k ++ at_sign ∷ t)) ≡ entry_of es k
  unfolding key_at_front
  key_at_front-between k t h = ap (option_and_then (entry_of es)) (before_at-some k t h)

  -- a key between two `@` gives its value
  pub filled-key : (k t v : List ℕ) → HasNoAt k → value_of es k ≡ Some v → filled es (at_sign ∷ (k ++ at_sign ∷ t)) ≡ v ++ filled es t
  filled-key k t v h is =
      filled-cons at_sign (k ++ at_sign ∷ t)
      ∙ ap (λ o. option_map_or (λ p. p.1 ++ filled_after es (suc (length p.0)) (k ++ at_sign ∷ t)) o (at_sign ∷ filled es (k ++ at_sign ∷ t))) (key_at_front-between k t h ∙ ap (option_map (λ w. (k, w))) is)
      ∙ ap (λ x. v ++ x) (filled_after-key k t)

  -- an `@`, and no key before the next one
  pub filled-no_key : (k t : List ℕ) → HasNoAt k → value_of es k ≡ None → filled es (at_sign ∷ (k ++ at_sign ∷ t)) ≡ at_sign ∷ (k ++ filled es (at_sign ∷ t))
  filled-no_key k t h is =
      filled-byte at_sign (k ++ at_sign ∷ t) (key_at_front-between k t h ∙ ap (option_map (λ w. (k, w))) is)
      ∙ ap (λ x. at_sign ∷ x) (filled-plain k (at_sign ∷ t) h)

  key_at_front-open : (s : List ℕ) → HasNoAt s → key_at_front es (at_sign ∷ s) ≡ None
  unfolding key_at_front
  key_at_front-open s h = ap (option_and_then (entry_of es)) (before_at-none s h)

  -- an `@`, and no other one after it
  pub filled-open : (s : List ℕ) → HasNoAt s → filled es (at_sign ∷ s) ≡ at_sign ∷ filled es s
  filled-open s h = filled-byte at_sign s (key_at_front-open s h)

  pub filled-[] : filled es [] ≡ []
  unfolding filled_after
  filled-[] = refl

  pub filled-end : (s : List ℕ) → HasNoAt s → filled es s ≡ s
  filled-end s h = ap (filled es) (sym (append-nil s)) ∙ filled-plain s [] h ∙ ap (λ x. s ++ x) filled-[] ∙ append-nil s

  before_at-after : (s t : List ℕ) → HasNoAt s → before_at (s ++ t) ≡ option_map (λ k. s ++ k) (before_at t)
  unfolding before_at
  before_at-after [] t h = elim (before_at t) as (λ o. o ≡ option_map (λ k. k) o) [ None ↦ refl | Some k ↦ refl ]
  before_at-after (b ∷ bs) t h =
      ap (λ x. cond x (Some []) (option_map (λ k. b ∷ k) (before_at (bs ++ t)))) h.0 ∙ ap (option_map (λ k. b ∷ k)) (before_at-after bs t h.1)
      ∙ elim (before_at t) as (λ o. option_map (λ k. b ∷ k) (option_map (λ k. bs ++ k) o) ≡ option_map (λ k. b ∷ (bs ++ k)) o) [ None ↦ refl | Some k ↦ refl ]

  key_at_front-no_front : (s t : List ℕ) → HasNoAt s → ((k : List ℕ) → value_of es (s ++ k) ≡ None) → key_at_front es (at_sign ∷ (s ++ t)) ≡ None
  unfolding key_at_front
  key_at_front-no_front s t h none =
      ap (option_and_then (entry_of es)) (before_at-after s t h)
      ∙ elim (before_at t) as (λ o. option_and_then (entry_of es) (option_map (λ k. s ++ k) o) ≡ None) [
        | None ↦ refl
        | Some k ↦ ap (option_map (λ v. let pair : List ℕ × List ℕ = (s ++ k, v) in pair)) (none k)
      ]

  -- an `@`, and no key begins with the text after it
  pub filled-no_front : (s t : List ℕ) → HasNoAt s → ((k : List ℕ) → value_of es (s ++ k) ≡ None) → filled es (at_sign ∷ (s ++ t)) ≡ at_sign ∷ (s ++ filled es t)
  filled-no_front s t h none = filled-byte at_sign (s ++ t) (key_at_front-no_front s t h none) ∙ ap (λ x. at_sign ∷ x) (filled-plain s t h)

  -- ---- the relation

  -- the result of a search for the first `@` ends before one
  before_at-front : (s k : List ℕ) → before_at s ≡ Some k → (t : List ℕ) × (s ≡ k ++ at_sign ∷ t)
  unfolding before_at
  before_at-front [] k h = absurd cc
  before_at-front (b ∷ bs) k h =
      elim (b == at_sign) as (λ x. (b == at_sign) ≡ x → cond x (Some []) (option_map (λ q. b ∷ q) (before_at bs)) ≡ Some k → (t : List ℕ) × (b ∷ bs ≡ k ++ at_sign ∷ t)) [
        | true ↦ λ is e. let none : [] ≡ k = cc in (bs, ap (λ x. x ∷ bs) (eqb-true b at_sign is) ∙ ap (λ q. q ++ at_sign ∷ bs) none)
        | false ↦ λ _ e.
            elim (before_at bs) as (λ o. before_at bs ≡ o → option_map (λ q. b ∷ q) o ≡ Some k → (t : List ℕ) × (b ∷ bs ≡ k ++ at_sign ∷ t)) [
              | None ↦ λ _ f. absurd cc
              | Some q ↦ λ here f.
                  let later = before_at-front bs q here in
                  let is : b ∷ q ≡ k = cc in
                  (later.0, ap (λ x. b ∷ x) later.1 ∙ ap (λ x. x ++ at_sign ∷ later.0) is)
            ] refl e
      ] refl h

  entry_of-some : (o : Option (List ℕ)) (k v : List ℕ) → option_and_then (entry_of es) o ≡ Some (k, v) → (o ≡ Some k) × (value_of es k ≡ Some v)
  entry_of-some None k v h = absurd cc
  entry_of-some (Some q) k v h =
      elim (value_of es q) as (λ p. value_of es q ≡ p → option_map (λ w. let pair : List ℕ × List ℕ = (q, w) in pair) p ≡ Some (k, v) → (Some q ≡ Some k) × (value_of es k ≡ Some v)) [
        | None ↦ λ _ f. absurd cc
        | Some w ↦ λ is f.
            let pair : ◌≡◌ {A = List ℕ × List ℕ} (q, w) (k, v) = cc in
            let name_is : q ≡ k = ap (λ (x : List ℕ × List ℕ). x.0) pair in
            let value_is : w ≡ v = ap (λ (x : List ℕ × List ℕ). x.1) pair in
            (ap (λ x. Some x) name_is, ap (value_of es) (sym name_is) ∙ is ∙ ap (λ x. Some x) value_is)
      ] refl h

  -- the front of a text that begins with a key
  record Front (b : ℕ) (bs k v : List ℕ) : Type 0 where
    rest : List ℕ
    opens : b ≡ at_sign
    follows : bs ≡ k ++ at_sign ∷ rest
    is_key : value_of es k ≡ Some v

  key_at_front-Front : (b : ℕ) (bs k v : List ℕ) → key_at_front es (b ∷ bs) ≡ Some (k, v) → Front b bs k v
  unfolding key_at_front
  key_at_front-Front b bs k v h =
      elim (b == at_sign) as (λ x. (b == at_sign) ≡ x → cond x (option_and_then (entry_of es) (before_at bs)) None ≡ Some (k, v) → Front b bs k v) [
        | true ↦ λ is e.
            let found = entry_of-some (before_at bs) k v e in
            let stands = before_at-front bs k found.0 in
            record { rest = stands.0; opens = eqb-true b at_sign is; follows = stands.1; is_key = found.1 }
        | false ↦ λ _ e. absurd (none_is_some e)
      ] refl h
    where
      none_is_some : {p : List ℕ × List ℕ} → None ≡ Some p → ⊥
      none_is_some e = cc

  no_key-none : (b : ℕ) (bs : List ℕ) → ¬ BeginsWithKey es (b ∷ bs) → key_at_front es (b ∷ bs) ≡ None
  no_key-none b bs without =
      elim (key_at_front es (b ∷ bs)) as (λ o. key_at_front es (b ∷ bs) ≡ o → o ≡ None) [
        | None ↦ λ _. refl
        | Some p ↦ λ is.
            let w = key_at_front-Front b bs p.0 p.1 is in
            absurd (without record {
              key = p.0;
              value = p.1;
              rest = w.rest;
              is_key = w.is_key;
              front = ap (λ x. x ∷ bs) w.opens ∙ ap (λ x. at_sign ∷ x) w.follows;
            })
      ] refl

-- a byte that passes a test that `@` fails isn't `@`
no_at_byte : (passes : ℕ → Bool) → passes at_sign ≡ false → (b : ℕ) → passes b ≡ true → (b == at_sign) ≡ false
no_at_byte passes fails b h =
    elim (b == at_sign) as (λ x. (b == at_sign) ≡ x → x ≡ false) [
      | true ↦ λ is. let e : false ≡ true = sym fails ∙ subst (λ y. passes y ≡ true) (eqb-true b at_sign is) h in absurd cc
      | false ↦ λ _. refl
    ] refl

no_at_bytes : (bs : List ℕ) → list_all continues_name bs ≡ true → HasNoAt bs
no_at_bytes [] h = tt
no_at_bytes (b ∷ bs) h = let p = and_parts _ _ h in (no_at_byte continues_name refl b p.0, no_at_bytes bs p.1)

pub IsShellName-HasNoAt : (k : List ℕ) → IsShellName k → HasNoAt k
IsShellName-HasNoAt [] h = absurd cc
IsShellName-HasNoAt (b ∷ bs) h = let p = and_parts _ _ h in (no_at_byte starts_name refl b p.0, no_at_bytes bs p.1)

-- a key is a shell name
pub value_of-IsShellName : (es : List (List ℕ × List ℕ)) (k v : List ℕ) → HasShellNames es → value_of es k ≡ Some v → IsShellName k
unfolding value_of
value_of-IsShellName [] k v h is = absurd cc
value_of-IsShellName (e ∷ es) k v h is =
    elim (bytes_eq k e.0) as (λ b. bytes_eq k e.0 ≡ b → cond b (Some e.1) (value_of es k) ≡ Some v → IsShellName k) [
      | true ↦ λ same _. subst IsShellName (sym ((bytes_eq-Decides k e.0).0 same)) h.0
      | false ↦ λ _ later. value_of-IsShellName es k v h.1 later
    ] refl is

drop-key : (k t : List ℕ) → drop (suc (length k)) (k ++ at_sign ∷ t) ≡ t
drop-key [] t = refl
drop-key (b ∷ bs) t = drop-key bs t

module _ (es : List (List ℕ × List ℕ)) (names : HasShellNames es) where
  key-HasNoAt : (k v : List ℕ) → value_of es k ≡ Some v → HasNoAt k
  key-HasNoAt k v is = IsShellName-HasNoAt k (value_of-IsShellName es k v names is)

  -- only the function's text satisfies the relation
  pub Fills-only : (text made : List ℕ) → Fills es text made → made ≡ filled es text
  Fills-only [] [] nothing = sym (filled-[] es)
  Fills-only text made (key k v {rest = rest} {made = later} is r) = ap (λ x. v ++ x) (Fills-only rest later r) ∙ sym (filled-key es k rest v (key-HasNoAt k v is) is)
  Fills-only text made (byte {b = b} {rest = rest} {made = later} without r) = ap (λ x. b ∷ x) (Fills-only rest later r) ∙ sym (filled-byte es b rest (no_key-none es b rest without))

  BeginsWithKey-some : (text : List ℕ) → BeginsWithKey es text → key_at_front es text ≡ None → ⊥
  BeginsWithKey-some text w none =
      let there : key_at_front es text ≡ Some (w.key, w.value) =
      ap (key_at_front es) w.front ∙ key_at_front-between es w.key w.rest (key-HasNoAt w.key w.value w.is_key) ∙ ap (option_map (λ x. (w.key, x))) w.is_key in
      absurd cc

  Fills-after : (text : List ℕ) (n : ℕ) → Fills es (drop n text) (filled_after es n text)
  unfolding filled_after
  Fills-after [] zero = nothing
  Fills-after [] (suc n) = nothing
  Fills-after (b ∷ bs) (suc n) = Fills-after bs n
  Fills-after (b ∷ bs) zero =
      elim (key_at_front es (b ∷ bs)) as (λ o. key_at_front es (b ∷ bs) ≡ o → Fills es (b ∷ bs) (option_map_or (λ p. p.1 ++ filled_after es (suc (length p.0)) bs) o (b ∷ filled_after es 0 bs))) [
        | None ↦ λ is. byte (λ w. BeginsWithKey-some (b ∷ bs) w is) (Fills-after bs zero)
        | Some p ↦ λ is.
            let w = key_at_front-Front es b bs p.0 p.1 is in
            let after : drop (suc (length p.0)) bs ≡ w.rest = ap (drop (suc (length p.0))) w.follows ∙ drop-key p.0 w.rest in
            let later : Fills es w.rest (filled_after es (suc (length p.0)) bs) =
            subst (λ x. Fills es x (filled_after es (suc (length p.0)) bs)) after (Fills-after bs (suc (length p.0))) in
            subst (λ x. Fills es x (p.1 ++ filled_after es (suc (length p.0)) bs)) (sym (ap (λ x. x ∷ bs) w.opens ∙ ap (λ x. at_sign ∷ x) w.follows)) (key p.0 p.1 w.is_key later)
      ] refl

  -- the function's text satisfies the relation
  pub filled-Fills : (text : List ℕ) → Fills es text (filled es text)
  filled-Fills text = Fills-after text zero

-- ---- stretches as a search gives them

never_true : (b : Bool) → (b ≡ true → ⊥) → b ≡ false
never_true true h = absurd (h refl)
never_true false h = refl

pub HasNoAt-each : (s : List ℕ) → ((k : ℕ) → k < length s → (get_or s k 0 == at_sign) ≡ true → ⊥) → HasNoAt s
HasNoAt-each [] h = tt
HasNoAt-each (b ∷ bs) h = (never_true (b == at_sign) (h 0 (omega arith)), HasNoAt-each bs (λ k below is. h (suc k) (omega arith) is))

pub HasNoAt-nowhere : (s : List ℕ) → Nowhere (Passes (is_byte at_sign) s) 0 (length s) → HasNoAt s
HasNoAt-nowhere s h = HasNoAt-each s (λ k below is. h k (omega arith) below is)

pub HasNoAt-before : (s : List ℕ) (n : ℕ) → n ≤ length s → Nowhere (Passes (is_byte at_sign) s) 0 n → HasNoAt (take n s)
HasNoAt-before s n le h = HasNoAt-each (take n s) (λ k below is.
    let low : k < n = omega (arith, length-take {A = ℕ}) in
    h k (omega arith) low (ap (λ b. b == at_sign) (sym (get_or-take n s k 0 low)) ∙ is))
