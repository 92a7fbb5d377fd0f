-- What is clear before and after a call, as tests of signs.
use Rattle.std.proofs.Common.{◌≡◌, ℕ, Bool, true, false, ◌||◌, eqb, inl, inr, List, [], ◌∷◌, ◌++◌, reverse, refl, sym, ap, subst, ◌∙◌, append_assoc}
use Rattle.std.specs.List.{list_all}
use Rattle.std.proofs.lemmas.Bool.{eqb-true}
use Rattle.std.proofs.lemmas.List.{reverse-append, reverse-reverse, append-nil, map-append}
use Rattle.std.proofs.lemmas.List.Folds.{list_all-append}
use Rattle.ac_statement.specs.Stand.{is_space}
use Rattle.ac_statement.proofs.Runs.{either}
use Rattle.ac_laws.specs.Signs.{Sign, call_sign, byte_sign, bytes}
use Rattle.ac_laws.specs.Position.{AreSpaces, MayPrecede, MayFollow, IsClearBefore, from_start, from_sign, IsClearAfter, to_end, to_sign}
use Rattle.ac_laws.proofs.Opens.{ends_before, ends_after, signs_open, both_true, list_all-reverse}
use Rattle.ac_laws.proofs.Founds.{reverse-bytes}

spaces_open : (test : ℕ → Bool) (spaces : List ℕ) (signs : List Sign) → AreSpaces spaces
    → signs_open test (bytes spaces ++ signs) ≡ signs_open test signs
spaces_open test [] signs h = refl
spaces_open test (b ∷ bs) signs h =
    let both =
    both_true (is_space b) (list_all is_space bs) h in rw both.0 (spaces_open test bs signs both.1)

only_spaces_open : (test : ℕ → Bool) (spaces : List ℕ) → AreSpaces spaces
    → signs_open test (bytes spaces) ≡ true
only_spaces_open test spaces h =
    ap (signs_open test) (sym (append-nil (bytes spaces))) ∙ spaces_open test spaces [] h

-- ---- after a call

follow_opens : (sign : Sign) (rest : List Sign) → MayFollow sign
    → signs_open ends_after (sign ∷ rest) ≡ true
follow_opens (call_sign at) rest h = refl
follow_opens (byte_sign b) rest (inl line) = rw line refl
follow_opens (byte_sign b) rest (inr (inl semicolon)) = rw semicolon refl
follow_opens (byte_sign b) rest (inr (inr comment)) = rw comment refl

pub clear_after-opens : (signs : List Sign) → IsClearAfter signs
    → signs_open ends_after signs ≡ true
clear_after-opens signs (to_end spaces all) = only_spaces_open ends_after spaces all
clear_after-opens signs (to_sign spaces sign rest all may) =
    spaces_open ends_after spaces (sign ∷ rest) all ∙ follow_opens sign rest may

ends_after-may : (b : ℕ) → ends_after b ≡ true → MayFollow (byte_sign b)
ends_after-may b h = by (eqb b 10) (eqb b 59) (eqb b 35) refl refl refl h where
  by : (x y z : Bool) → eqb b 10 ≡ x → eqb b 59 ≡ y → eqb b 35 ≡ z → (x || y || z) ≡ true
      → MayFollow (byte_sign b)
  by true y z line semicolon comment e = inl (eqb-true b 10 line)
  by false true z line semicolon comment e = inr (inl (eqb-true b 59 semicolon))
  by false false z line semicolon comment e = inr (inr (eqb-true b 35 (comment ∙ e)))

space_first : (b : ℕ) (signs : List Sign) → is_space b ≡ true → IsClearAfter signs
    → IsClearAfter (byte_sign b ∷ signs)
space_first b signs space (to_end spaces all) = to_end (b ∷ spaces) (rw space all)
space_first b signs space (to_sign spaces sign rest all may) =
    to_sign (b ∷ spaces) sign rest (rw space all) may

pub opens-clear_after : (signs : List Sign) → signs_open ends_after signs ≡ true
    → IsClearAfter signs
opens-clear_after [] h = to_end [] refl
opens-clear_after (call_sign at ∷ signs) h = to_sign [] (call_sign at) signs refl tt
opens-clear_after (byte_sign b ∷ signs) h =
    elim (either (is_space b)) [
      | inl space ↦ space_first b signs space (opens-clear_after signs (rw space at h))
      | inr other ↦ to_sign [] (byte_sign b) signs refl (ends_after-may b (rw other at h))
    ]

-- ---- before a call

precede_opens : (sign : Sign) (rest : List Sign) → MayPrecede sign
    → signs_open ends_before (sign ∷ rest) ≡ true
precede_opens (call_sign at) rest h = refl
precede_opens (byte_sign b) rest (inl line) = rw line refl
precede_opens (byte_sign b) rest (inr semicolon) = rw semicolon refl

reversed : (front : List Sign) (sign : Sign) (spaces : List ℕ)
    → reverse (front ++ sign ∷ bytes spaces) ≡ bytes (reverse spaces) ++ sign ∷ reverse front
reversed front sign spaces =
    reverse-append front (sign ∷ bytes spaces)
    ∙ ap (λ l. l ++ reverse front)
    (reverse-append (sign ∷ []) (bytes spaces) ∙ ap (λ l. l ++ sign ∷ []) (reverse-bytes spaces))
    ∙ append_assoc (bytes (reverse spaces)) (sign ∷ []) (reverse front)

pub clear_before-opens : (signs : List Sign) → IsClearBefore signs
    → signs_open ends_before (reverse signs) ≡ true
clear_before-opens signs (from_start spaces all) =
    ap (signs_open ends_before) (reverse-bytes spaces)
    ∙ only_spaces_open ends_before (reverse spaces) (list_all-reverse is_space spaces all)
clear_before-opens signs (from_sign front sign spaces may all) =
    ap (signs_open ends_before) (reversed front sign spaces)
    ∙ spaces_open ends_before (reverse spaces) (sign ∷ reverse front)
    (list_all-reverse is_space spaces all)
    ∙ precede_opens sign (reverse front) may

ends_before-may : (b : ℕ) → ends_before b ≡ true → MayPrecede (byte_sign b)
ends_before-may b h = by (eqb b 10) (eqb b 59) refl refl h where
  by : (x y : Bool) → eqb b 10 ≡ x → eqb b 59 ≡ y → (x || y) ≡ true → MayPrecede (byte_sign b)
  by true y line semicolon e = inl (eqb-true b 10 line)
  by false y line semicolon e = inr (eqb-true b 59 (semicolon ∙ e))

spaces_more : (spaces : List ℕ) (b : ℕ) → AreSpaces spaces → is_space b ≡ true
    → AreSpaces (spaces ++ b ∷ [])
spaces_more spaces b all space = list_all-append is_space spaces (b ∷ []) ∙ rw (all, space) refl

space_last : (b : ℕ) (signs : List Sign) → is_space b ≡ true → IsClearBefore signs
    → IsClearBefore (signs ++ byte_sign b ∷ [])
space_last b signs space (from_start spaces all) =
    subst IsClearBefore (map-append byte_sign spaces (b ∷ []))
    (from_start (spaces ++ b ∷ []) (spaces_more spaces b all space))
space_last b signs space (from_sign front sign spaces may all) =
    subst IsClearBefore
    (ap (λ l. front ++ sign ∷ l) (map-append byte_sign spaces (b ∷ []))
    ∙ sym (append_assoc front (sign ∷ bytes spaces) (byte_sign b ∷ [])))
    (from_sign front sign (spaces ++ b ∷ []) may (spaces_more spaces b all space))

opens-clear_reversed : (signs : List Sign) → signs_open ends_before signs ≡ true
    → IsClearBefore (reverse signs)
opens-clear_reversed [] h = from_start [] refl
opens-clear_reversed (call_sign at ∷ signs) h =
    subst IsClearBefore (sym (reverse-append (call_sign at ∷ []) signs))
    (from_sign (reverse signs) (call_sign at) [] tt refl)
opens-clear_reversed (byte_sign b ∷ signs) h =
    subst IsClearBefore (sym (reverse-append (byte_sign b ∷ []) signs))
    (elim (either (is_space b)) [
      | inl space ↦ space_last b (reverse signs) space (opens-clear_reversed signs (rw space at h))
      | inr other ↦ from_sign (reverse signs) (byte_sign b) []
          (ends_before-may b (rw other at h)) refl
    ])

pub opens-clear_before : (signs : List Sign) → signs_open ends_before (reverse signs) ≡ true
    → IsClearBefore signs
opens-clear_before signs h =
    subst IsClearBefore (reverse-reverse signs) (opens-clear_reversed (reverse signs) h)
