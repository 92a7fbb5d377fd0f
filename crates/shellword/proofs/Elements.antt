-- Words compared with constants, and the elements of a test after `!`.
use Rattle.std.proofs.Common.{◌≡◌, ℕ, ◌+◌, ◌<◌, ◌≤◌, ◌≢◌, Bool, true, false, not, ◌&&◌, List, [], ◌∷◌, length, get_or, drop, Option, Some, None, option_map, codes, refl, sym, ap, ◌∙◌, arith}
use Rattle.std.proofs.lemmas.List.{drop_more, drop_all}
use Rattle.shellword.specs.declared.part.Part.{Part}
use Rattle.shellword.specs.declared.element.Element.{Element}
use Rattle.shellword.specs.Element.{part_is, word_is, negated, negated_if, command_of, element_of}

pub word_is-len : (parts : List Part) (text : List ℕ) → length parts ≢ length text → word_is parts text ≡ false
word_is-len [] [] h = absurd (h refl)
word_is-len [] (c ∷ cs) h = refl
word_is-len (p ∷ ps) [] h = refl
word_is-len (p ∷ ps) (c ∷ cs) h = by_first (part_is p c) (word_is-len ps cs (λ e. h (omega (arith, e)))) where
  by_first : (b : Bool) → word_is ps cs ≡ false → (b && word_is ps cs) ≡ false
  by_first true e = e
  by_first false e = refl

pub word_is-more : (parts : List Part) (text : List ℕ) (i : ℕ) (p : Part) → i < length parts → i < length text → p ≡ get_or parts i p
    → word_is (drop i parts) (drop i text) ≡ (part_is p (get_or text i 0) && word_is (drop (i + 1) parts) (drop (i + 1) text))
word_is-more parts text i p h k is =
    rw (drop_more parts i p h, drop_more text i 0 k) (ap (λ (q : Part). part_is q (get_or text i 0) && word_is (drop (i + 1) parts) (drop (i + 1) text)) (sym is))

pub word_is-all : (parts : List Part) (text : List ℕ) (i : ℕ) → length parts ≤ i → length text ≤ i → word_is (drop i parts) (drop i text) ≡ true
word_is-all parts text i h k = rw (drop_all i parts h, drop_all i text k) refl

not_not : (b : Bool) → not (not b) ≡ b
not_not true = refl
not_not false = refl

twice : (b : Bool) (e : Element) → negated_if b (negated e) ≡ negated_if (not b) e
twice true e = ap (λ (n : Bool). record { negated = n; condition = e.condition }) (not_not e.negated)
twice false e = refl

twice_map : (b : Bool) (e : Option Element) → option_map (negated_if b) (option_map negated e) ≡ option_map (negated_if (not b)) e
twice_map b None = refl
twice_map b (Some e) = ap (λ (x : Element). Some x) (twice b e)

once : (e : Option Element) → option_map (negated_if false) e ≡ e
once None = refl
once (Some e) = refl

abbrev pub bang : List ℕ
bang = codes "!"

pub no_words : element_of [] ≡ None
unfolding element_of
no_words = refl

pub negated_once : (words : List (List Part)) → option_map (negated_if false) (element_of words) ≡ element_of words
negated_once words = once (element_of words)

module _ (n : Bool) (all : List (List Part)) (word : List Part) (words : List (List Part)) (total : Option Element) (is : all ≡ word ∷ words) (so_far : option_map (negated_if n) (element_of all) ≡ total) where
  pub loop_bang : word_is word bang ≡ true → option_map (negated_if (not n)) (element_of words) ≡ total
  unfolding element_of
  loop_bang h = sym (twice_map n (element_of words)) ∙ sym (rw (is, h) refl) ∙ so_far

  pub loop_command : word_is word bang ≡ false → option_map (negated_if n) (command_of word words) ≡ total
  unfolding element_of
  loop_command h = sym (rw (is, h) refl) ∙ so_far

pub loop_none : (n : Bool) (all : List (List Part)) (total : Option Element) → all ≡ [] → option_map (negated_if n) (element_of all) ≡ total → None ≡ total
loop_none n all total is so_far = sym (ap (λ (ws : List (List Part)). option_map (negated_if n) (element_of ws)) is ∙ ap (option_map (negated_if n)) no_words) ∙ so_far

pub none_left : {A : Type 0} (xs : List A) → length xs ≡ 0 → xs ≡ []
none_left [] h = refl
none_left (x ∷ xs) h = absurd (omega arith)
