-- What several writes of one text write together.
use Rattle.std.proofs.Common.{◌≡◌, ℕ, ◌+◌, ◌-◌, ◌≤◌, List, [], ◌++◌, length, take, drop, sym, ap, ◌∙◌, refl, subst, arith, append_assoc, append-nil, take-add, length-drop, Option, Some, None}
use Rattle.std.specs.Io.KnownBytes.{Appends}
use Rattle.std.proofs.lemmas.List.{take_all}
use Rattle.std.proofs.lemmas.List.Sums.{fold-append}
use Rattle.text_controls.specs.declared.awaited.Awaited.{Awaited}
use Rattle.text_controls.specs.Form.{shown, awaited_after, after}
use Rattle.text_controls.proofs.Plain.{shown-append}

pub appends_nothing : (known : Option (List ℕ)) → Appends known known []
appends_nothing None = tt
appends_nothing (Some xs) = sym (append-nil xs)

pub appends_both : (first second third : Option (List ℕ)) (xs ys : List ℕ) → Appends first second xs → Appends second third ys → Appends first third (xs ++ ys)
appends_both None second third xs ys one two = tt
appends_both (Some a) None third xs ys one two = absurd one
appends_both (Some a) (Some b) None xs ys one two = absurd two
appends_both (Some a) (Some b) (Some c) xs ys one two = two ∙ ap (λ v. v ++ ys) one ∙ append_assoc a xs ys

-- The front of a text was put.
pub record IsPut (before now : Option (List ℕ)) (w lacking : Awaited) (text : List ℕ) (n : ℕ) : Type 0 where
  pub within : n ≤ length text
  pub lacks : lacking ≡ awaited_after w (take n text)
  pub put : Appends before now (shown w (take n text))

pub put_nothing : (known : Option (List ℕ)) (w : Awaited) (text : List ℕ) → IsPut known known w w text 0
put_nothing known w text = record { within = omega arith; lacks = refl; put = appends_nothing known }

-- All that follows the first n bytes, as a slice of the text gives it.
abbrev rest_of : ℕ → List ℕ → List ℕ
rest_of n text = take (length text - n) (drop n text)

rest_is : (n : ℕ) (text : List ℕ) → rest_of n text ≡ drop n text
rest_is n text = take_all (length text - n) (drop n text) (omega (arith, length-drop n text))

pub put_more : (before now next : Option (List ℕ)) (w lacking new : Awaited) (text : List ℕ) (n k : ℕ) → IsPut before now w lacking text n
    → k ≤ length (take (length text - n) (drop n text)) → Appends now next (shown lacking (take k (take (length text - n) (drop n text))))
    → new ≡ awaited_after lacking (take k (take (length text - n) (drop n text))) → IsPut before next w new text (n + k)
put_more before now next w lacking new text n k h le put_is new_is =
    let front : List ℕ = take n text in
    let piece : List ℕ = take k (drop n text) in
    let cut : take k (rest_of n text) ≡ piece = ap (take k) (rest_is n text) in
    let within : n + k ≤ length text = let at = h.within in omega (arith, length-drop n text, ap length (rest_is n text)) in
    let more : take (n + k) text ≡ front ++ piece = take-add n k text in
    let lacks : lacking ≡ awaited_after w front = h.lacks in
    let form : shown lacking (take k (rest_of n text)) ≡ shown (awaited_after w front) piece = ap (shown lacking) cut ∙ ap (λ v. shown v piece) lacks in
    let same : Appends now next (shown (awaited_after w front) piece) = subst (λ v. Appends now next v) form put_is in
    record {
      within = within;
      lacks = new_is ∙ ap (awaited_after lacking) cut ∙ ap (λ v. awaited_after v piece) lacks ∙ sym (ap (awaited_after w) more ∙ fold-append after w front piece);
      put = subst (λ v. Appends before next v) (sym (ap (shown w) more ∙ shown-append w front piece)) (appends_both _ _ _ (shown w front) (shown (awaited_after w front) piece) h.put same);
    }

pub put_whole : (before now : Option (List ℕ)) (w lacking : Awaited) (text : List ℕ) (n : ℕ) → IsPut before now w lacking text n → length text ≤ n → Appends before now (shown w text)
put_whole before now w lacking text n h le = subst (λ v. Appends before now (shown w v)) (take_all n text le) h.put
