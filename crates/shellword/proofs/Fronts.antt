-- What begins a text is what the reader finds there.
use Rattle.std.proofs.Common.{◌≡◌, ℕ, suc, ◌+◌, ◌<◌, ◌≤◌, Bool, true, false, ◌||◌, ◌&&◌, not, eqb, ◌==◌, ltb, cond, ◌⊎◌, inl, inr, List, [], ◌∷◌, length, drop, Some, None, Ok, refl, sym, ap, subst, arith}
use Rattle.std.specs.List.{prefix_len}
use Rattle.std.proofs.lemmas.Bool.{eqb-true, ltb-true, lt-ltb, and_parts}
use Rattle.std.proofs.lemmas.List.{length-drop}
use Rattle.std.proofs.lemmas.List.Sums.{prefix_len-le-length}
use Rattle.deftable.specs.ShellName.{starts_name, continues_name}
use Rattle.shellword.specs.declared.front.Context.{Context}
use Rattle.shellword.specs.declared.front.Context.TheVariants.{Bare, Single, Double, Here}
use Rattle.shellword.specs.declared.front.WordFront.{WordFront}
use Rattle.shellword.specs.Text.{single_quote, double_quote, backslash, dollar, backquote, open_brace, close_brace, name_len, follows_dollar, stands_alone}
use Rattle.shellword.specs.Contexts.{is_special, escapes, escapes_front, escaped_part, byte_in, closes_brace}
use Rattle.shellword.specs.Scan.{front, backslash_front, braced_front, dollar_front, quote_context, front_of}
use Rattle.shellword.proofs.Steps.{IsFront, single_opens, double_opens, single_closes, double_closes, escaped, kept, variable, in_braces, lone_dollar, ordinary}
use Rattle.fallible.proofs.Binds.{chosen, failed, ok_is}

pub name_len-le-length : (text : List ℕ) → name_len text ≤ length text
name_len-le-length [] = omega arith
name_len-le-length (b ∷ bs) = by_start (starts_name b) where
  by_start : (s : Bool) → cond s (prefix_len continues_name bs + 1) 0 ≤ suc (length bs)
  by_start true = omega (arith, prefix_len-le-length continues_name bs)
  by_start false = omega arith

-- ---- what is at the front is found

escapes_special : (c : Context) (b : ℕ) → escapes c b ≡ true → is_special c backslash ≡ true
escapes_special Single b h = absurd cc
escapes_special other b h = refl

kept_front : (c : Context) (rest : List ℕ) → escapes_front c rest ≡ false → backslash_front c rest ≡ front (Some (byte_in c backslash)) 1 c
kept_front c [] h = refl
kept_front c (b ∷ bs) h = rw h refl

starts_no_name : (b s : Bool) → not (b || s) ≡ true → b ≡ false
starts_no_name true s h = absurd cc
starts_no_name false s h = refl

alone_len : (rest : List ℕ) → stands_alone rest ≡ true → name_len rest ≡ 0
alone_len [] h = refl
alone_len (b ∷ bs) h = rw (starts_no_name (starts_name b) (follows_dollar b) h) refl

closed_by : (n : ℕ) (inside rest : List ℕ) → drop n inside ≡ close_brace ∷ rest → closes_brace (drop n inside) ≡ true
closed_by n inside rest e = ap closes_brace e

-- what the reader finds at the front of this text
abbrev pub Begins : ℕ → Context → List ℕ → WordFront → Type 0
Begins at c [] f = ⊥
Begins at c (b ∷ bs) f = front_of at c b bs ≡ Ok f

pub front-read : {c : Context} {text : List ℕ} {f : WordFront} → IsFront c text f → (at : ℕ) → Begins at c text f
unfolding front_of
front-read (escaped {c} {b} {rest} h) at = rw (escapes_special c b h, h) refl
front-read (kept {c} {rest} special h) at = rw (special, kept_front c rest h) refl
front-read (variable {c} {rest} special some) at = rw (special, lt-ltb 0 (name_len rest) some) refl
front-read (in_braces {c} {inside} {rest} special some closes) at = rw (special, lt-ltb 0 (name_len inside) some, closed_by (name_len inside) inside rest closes) refl
front-read (lone_dollar {c} {rest} special alone) at = rw (special, alone_len rest alone, alone) refl
front-read (ordinary {c} {b} {rest} h) at = rw h refl
front-read other at = refl

-- ---- what is found is at the front

read-backslash : (c : Context) (bs : List ℕ) → is_special c backslash ≡ true → IsFront c (backslash ∷ bs) (backslash_front c bs)
read-backslash c [] special = kept special refl
read-backslash c (b ∷ bs) special = by_escape (escapes c b) refl where
  by_escape : (e : Bool) → escapes c b ≡ e → IsFront c (backslash ∷ b ∷ bs) (cond e (front (escaped_part c b) 2 c) (front (Some (byte_in c backslash)) 1 c))
  by_escape true h = escaped h
  by_escape false h = kept special h

pub brace_there : (text : List ℕ) → closes_brace text ≡ true → (rest : List ℕ) × (text ≡ close_brace ∷ rest)
brace_there [] h = absurd cc
brace_there (b ∷ bs) h = (bs, ap (λ (x : ℕ). x ∷ bs) (eqb-true b close_brace h))

read-braced : (at : ℕ) (c : Context) (bs : List ℕ) (f : WordFront) → is_special c dollar ≡ true → braced_front at c bs ≡ Ok f → IsFront c (dollar ∷ bs) f
read-braced at c [] f special e = absurd cc
read-braced at c (b ∷ inside) f special e =
    elim (chosen (b == open_brace && ltb 0 (name_len inside) && closes_brace (drop (name_len inside) inside)) _ _ _ e) [
      | inl h ↦
          let p = and_parts (b == open_brace && ltb 0 (name_len inside)) (closes_brace (drop (name_len inside) inside)) h.0 in
          let q = and_parts (b == open_brace) (ltb 0 (name_len inside)) p.0 in
          let rest = brace_there (drop (name_len inside) inside) p.1 in
          subst (λ (x : ℕ). IsFront c (dollar ∷ x ∷ inside) f) (sym (eqb-true b open_brace q.0))
          (subst (IsFront c (dollar ∷ open_brace ∷ inside)) (ok_is _ _ h.1) (in_braces special (ltb-true 0 (name_len inside) q.1) rest.1))
      | inr h ↦ absurd (failed h.1)
    ]

read-dollar : (at : ℕ) (c : Context) (bs : List ℕ) (f : WordFront) → is_special c dollar ≡ true → dollar_front at c bs ≡ Ok f → IsFront c (dollar ∷ bs) f
read-dollar at c bs f special e =
    elim (chosen (ltb 0 (name_len bs)) _ _ _ e) [
      | inl h ↦ subst (IsFront c (dollar ∷ bs)) (ok_is _ _ h.1) (variable special (ltb-true 0 (name_len bs) h.0))
      | inr none ↦
          (elim (chosen (stands_alone bs) _ _ _ none.1) [
            | inl h ↦ subst (IsFront c (dollar ∷ bs)) (ok_is _ _ h.1) (lone_dollar special h.0)
            | inr h ↦ read-braced at c bs f special h.1
          ])
    ]

one_of_five : (p q r s t : Bool) → (p || q || r || s || t) ≡ true → r ≡ false → s ≡ false → t ≡ false → (p ≡ true) ⊎ ((p ≡ false) × (q ≡ true))
one_of_five true q r s t h x y z = inl refl
one_of_five false true r s t h x y z = inr (refl, refl)
one_of_five false false r s t h x y z = absurd cc

one_of_four : (q r s t : Bool) → (q || r || s || t) ≡ true → r ≡ false → s ≡ false → t ≡ false → q ≡ true
one_of_four true r s t h x y z = refl
one_of_four false r s t h x y z = absurd cc

none_of_three : (r s t : Bool) → (r || s || t) ≡ true → r ≡ false → s ≡ false → t ≡ false → ⊥
none_of_three r s t h x y z = cc

read-quote : (c : Context) (b : ℕ) (bs : List ℕ) → is_special c b ≡ true → eqb b backslash ≡ false → eqb b dollar ≡ false → eqb b backquote ≡ false
    → IsFront c (b ∷ bs) (front None 1 (quote_context c b))
read-quote Bare b bs special x y z =
    elim (one_of_five (b == single_quote) (b == double_quote) _ _ _ special x y z) [
      | inl h ↦ subst (λ (n : ℕ). IsFront Bare (n ∷ bs) (front None 1 (quote_context Bare n))) (sym (eqb-true b single_quote h)) single_opens
      | inr h ↦ subst (λ (n : ℕ). IsFront Bare (n ∷ bs) (front None 1 (quote_context Bare n))) (sym (eqb-true b double_quote h.1)) double_opens
    ]
read-quote Single b bs special x y z = subst (λ (n : ℕ). IsFront Single (n ∷ bs) (front None 1 Bare)) (sym (eqb-true b single_quote special)) single_closes
read-quote Double b bs special x y z =
    subst (λ (n : ℕ). IsFront Double (n ∷ bs) (front None 1 Bare)) (sym (eqb-true b double_quote (one_of_four (b == double_quote) _ _ _ special x y z))) double_closes
read-quote Here b bs special x y z = absurd (none_of_three _ _ _ special x y z)

pub read-front : (at : ℕ) (c : Context) (b : ℕ) (bs : List ℕ) (f : WordFront) → front_of at c b bs ≡ Ok f → IsFront c (b ∷ bs) f
unfolding front_of
read-front at c b bs f e =
    elim (chosen (is_special c b) _ _ _ e) [
      | inr plain ↦ subst (IsFront c (b ∷ bs)) (ok_is _ _ plain.1) (ordinary plain.0)
      | inl special ↦
          (elim (chosen (b == backslash) _ _ _ special.1) [
            | inl h ↦
                let is = eqb-true b backslash h.0 in
                subst (λ (x : ℕ). IsFront c (x ∷ bs) f) (sym is) (subst (IsFront c (backslash ∷ bs)) (ok_is _ _ h.1) (read-backslash c bs (subst (λ (x : ℕ). is_special c x ≡ true) is special.0)))
            | inr no_backslash ↦
                (elim (chosen (b == dollar) _ _ _ no_backslash.1) [
                  | inl h ↦
                      let is = eqb-true b dollar h.0 in
                      subst (λ (x : ℕ). IsFront c (x ∷ bs) f) (sym is) (read-dollar at c bs f (subst (λ (x : ℕ). is_special c x ≡ true) is special.0) h.1)
                  | inr no_dollar ↦
                      (elim (chosen (b == backquote) _ _ _ no_dollar.1) [
                        | inl h ↦ absurd (failed h.1)
                        | inr h ↦ subst (IsFront c (b ∷ bs)) (ok_is _ _ h.1) (read-quote c b bs special.0 no_backslash.0 no_dollar.0 h.0)
                      ])
                ])
          ])
    ]

-- ---- a front is as long as it may be

inside_len : (n : ℕ) (inside rest : List ℕ) → drop n inside ≡ close_brace ∷ rest → n < length inside
inside_len n inside rest e = let h = length-drop n inside in let k : length (drop n inside) ≡ suc (length rest) = ap length e in omega arith

pub front-len : {c : Context} {text : List ℕ} {f : WordFront} → IsFront c text f → (0 < f.len) × (f.len ≤ length text)
front-len (variable {c} {rest} special some) = (omega arith, omega (arith, name_len-le-length rest))
front-len (in_braces {c} {inside} {rest} special some closes) = (omega arith, omega (arith, inside_len (name_len inside) inside rest closes))
front-len other = (omega arith, omega arith)
