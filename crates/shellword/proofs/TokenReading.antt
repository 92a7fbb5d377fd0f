-- The tokens of a text are those that the reader splits it into.
use Rattle.std.proofs.Common.{◌≡◌, ℕ, zero, suc, ◌+◌, ◌-◌, ◌<◌, ◌≤◌, Bool, true, false, ◌==◌, inl, inr, List, [], ◌∷◌, length, drop, Result, Ok, refl, sym, ap, subst, ◌∙◌, arith}
use Rattle.std.proofs.lemmas.Bool.{eqb-true, or_parts}
use Rattle.shellword.specs.declared.fault.ShellFault.{ShellFault}
use Rattle.shellword.specs.declared.front.Context.TheVariants.{Bare}
use Rattle.shellword.specs.declared.token.Joint.TheVariants.{And, Or}
use Rattle.shellword.specs.declared.token.Token.{Token}
use Rattle.shellword.specs.declared.token.Token.TheVariants.{Word, Join, Bar}
use Rattle.shellword.specs.Text.{is_space, newline, ampersand, bar, ends_word, begins_with}
use Rattle.shellword.specs.Scan.{scan}
use Rattle.fallible.specs.Reading.{◌>>=◌}
use Rattle.shellword.specs.Cut.{ampersand_at, bar_at, token_at, tokens_of}
use Rattle.shellword.proofs.Parts.{run-word, word_runs}
use Rattle.shellword.specs.Tokens.{IsToken, line_end, both, either, lone_bar, a_word, AreTokens, no_more, space, next}
use Rattle.fallible.proofs.Binds.{chosen, failed, ok_is, bind_ok}
use Rattle.shellword.proofs.Words.{run-scan, scan-found, moved}
use Rattle.shellword.proofs.Tokens.{tokens_space, tokens_token}

-- ---- bytes

pub record EndsNone (b : ℕ) : Type 0 where
  pub space : is_space b ≡ false
  pub line : (b == newline) ≡ false
  pub both : (b == ampersand) ≡ false
  pub either : (b == bar) ≡ false

pub ends_none : (b : ℕ) → ends_word b ≡ false → EndsNone b
ends_none b h =
    let p = or_parts _ (b == bar) (or_parts _ _ (or_parts _ _ (or_parts _ _ (or_parts _ _ h).0).0).0).0 in
    let q = or_parts _ (b == ampersand) p.0 in
    let r = or_parts (is_space b) (b == newline) (or_parts _ _ q.0).0 in
    record { space = r.0; line = r.1; both = q.1; either = p.1 }

pub token-len : {bars : Bool} {at : ℕ} {text : List ℕ} {t : Token} {k : ℕ} → IsToken bars at text t k → k ≤ length text
token-len (a_word x word over place) = omega (arith, place)
token-len other = omega arith

begins : (b : ℕ) (text : List ℕ) → begins_with b text ≡ true → (rest : List ℕ) × (text ≡ b ∷ rest)
begins b [] h = absurd cc
begins b (c ∷ cs) h = (cs, ap (λ (x : ℕ). x ∷ cs) (eqb-true c b h))

-- ---- one token

-- the result of the reader for a text that begins with a token
abbrev Begins : Bool → ℕ → List ℕ → Token → ℕ → Type 0
Begins bars at [] t n = ⊥
Begins bars at (b ∷ bs) t n = (is_space b ≡ false) × (token_at bars at b bs ≡ Ok (t, at + n)) × (0 < n) × (n ≤ suc (length bs))

token-read : {bars : Bool} {at : ℕ} {text : List ℕ} {t : Token} {n : ℕ} → IsToken bars at text t n → Begins bars at text t n
unfolding token_at
token-read (lone_bar {at} {rest} h) = (refl, rw h refl, omega arith, omega arith)
token-read (a_word {lone_bars} {at} {b} {n} {text} {rest} {parts} h word over place) =
    let e = ends_none b h in
    let run = word_runs word over place in
    (e.space, rw (h, e.line, e.both, e.either, run-scan run at) refl, moved run h, omega (arith, place))
token-read other = (refl, refl, omega arith, omega arith)

-- what the reader found, from offset `at` on
abbrev pub TokenFound : Bool → ℕ → List ℕ → Token × ℕ → Type 0
TokenFound bars at text r = (n : ℕ) × IsToken bars at text r.0 n × (r.1 ≡ at + n)

read-ampersand : (bars : Bool) (at : ℕ) (bs : List ℕ) (r : Token × ℕ) → ampersand_at at bs ≡ Ok r → TokenFound bars at (ampersand ∷ bs) r
read-ampersand bars at bs r e =
    elim (chosen (begins_with ampersand bs) _ _ _ e) [
      | inl h ↦
          let rest = begins ampersand bs h.0 in
          subst (TokenFound bars at (ampersand ∷ bs)) (ok_is _ _ h.1) (subst (λ (s : List ℕ). TokenFound bars at (ampersand ∷ s) (Join And (at + 2), at + 2)) (sym rest.1) (2, both, refl))
      | inr h ↦ absurd (failed h.1)
    ]

read-bar : (bars : Bool) (at : ℕ) (bs : List ℕ) (r : Token × ℕ) → bar_at bars at bs ≡ Ok r → TokenFound bars at (bar ∷ bs) r
read-bar bars at bs r e =
    elim (chosen (begins_with bar bs) _ _ _ e) [
      | inl h ↦
          let rest = begins bar bs h.0 in
          subst (TokenFound bars at (bar ∷ bs)) (ok_is _ _ h.1) (subst (λ (s : List ℕ). TokenFound bars at (bar ∷ s) (Join Or (at + 2), at + 2)) (sym rest.1) (2, either, refl))
      | inr one ↦
          (elim (chosen bars _ _ _ one.1) [
            | inl h ↦ subst (TokenFound bars at (bar ∷ bs)) (ok_is _ _ h.1) (1, subst (λ (x : Bool). IsToken x at (bar ∷ bs) (Bar (at + 1)) 1) (sym h.0) (lone_bar one.0), refl)
            | inr h ↦ absurd (failed h.1)
          ])
    ]

pub read-token : (bars : Bool) (at b : ℕ) (bs : List ℕ) (r : Token × ℕ) → token_at bars at b bs ≡ Ok r → TokenFound bars at (b ∷ bs) r
unfolding token_at
read-token bars at b bs r e =
    elim (chosen (b == newline) _ _ _ e) [
      | inl h ↦ subst (λ (x : ℕ). TokenFound bars at (x ∷ bs) r) (sym (eqb-true b newline h.0)) (subst (TokenFound bars at (newline ∷ bs)) (ok_is _ _ h.1) (1, line_end, refl))
      | inr no_line ↦
          (elim (chosen (b == ampersand) _ _ _ no_line.1) [
            | inl h ↦ subst (λ (x : ℕ). TokenFound bars at (x ∷ bs) r) (sym (eqb-true b ampersand h.0)) (read-ampersand bars at bs r h.1)
            | inr no_and ↦
                (elim (chosen (b == bar) _ _ _ no_and.1) [
                  | inl h ↦ subst (λ (x : ℕ). TokenFound bars at (x ∷ bs) r) (sym (eqb-true b bar h.0)) (read-bar bars at bs r h.1)
                  | inr no_bar ↦
                      (elim (chosen (ends_word b) _ _ _ no_bar.1) [
                        | inl h ↦ absurd (failed h.1)
                        | inr h ↦
                            let q = bind_ok (scan 0 Bare at (b ∷ bs)) (λ r. Ok (Word r.0, r.1)) r h.1 in
                            let f = scan-found 0 Bare at (b ∷ bs) q.0.0 q.0.1 (omega arith) q.1 in
                            subst (TokenFound bars at (b ∷ bs)) (ok_is _ _ q.2) (let w = run-word f.1 in (f.0, a_word h.0 w.0 w.1 w.2, omega (arith, f.2)))
                      ])
                ])
          ])
    ]

-- ---- all of a text

after_token : (bars : Bool) (at : ℕ) (text : List ℕ) (t : Token) (n : ℕ) (tokens : List Token) → IsToken bars at text t n
    → tokens_of bars 0 (at + n) (drop n text) ≡ Ok tokens → tokens_of bars 0 at text ≡ Ok (t ∷ tokens)
after_token bars at [] t n tokens h e = absurd (token-read h)
after_token bars at (b ∷ bs) t n tokens h e =
    let p = token-read h in
    let one : at + n - at ≡ n = omega arith in
    tokens_token bars at b bs (t, at + n) p.0 p.1 (omega (arith, p.2)) (omega (arith, p.3))
    ∙ ap (λ (k : ℕ). tokens_of bars 0 (at + n) (drop k (b ∷ bs)) >>= λ ts. Ok (t ∷ ts)) one
    ∙ ap (λ (r : Result (List Token) ShellFault). r >>= λ ts. Ok (t ∷ ts)) e

pub tokens-read : {bars : Bool} {at : ℕ} {text : List ℕ} {tokens : List Token} → AreTokens bars at text tokens → tokens_of bars 0 at text ≡ Ok tokens
unfolding tokens_of
tokens-read (no_more) = refl
tokens-read (space {lone_bars} {at} {b} {rest} {tokens} h more) = tokens_space lone_bars at b rest h ∙ tokens-read more
tokens-read (next {lone_bars} {at} {n} {text} {t} {tokens} h more) = after_token lone_bars at text t n tokens h (tokens-read more)

pub read-tokens : (bars : Bool) (k at : ℕ) (text : List ℕ) (tokens : List Token) → k ≤ length text → tokens_of bars k at text ≡ Ok tokens → AreTokens bars (at + k) (drop k text) tokens
unfolding tokens_of
read-tokens bars zero at [] tokens h e = subst (AreTokens bars (at + 0) []) (ok_is _ _ e) no_more
read-tokens bars (suc k) at [] tokens h e = absurd (omega arith)
read-tokens bars (suc k) at (b ∷ bs) tokens h e =
    let n : at + 1 + k ≡ at + suc k = omega arith in
    subst (λ (m : ℕ). AreTokens bars m (drop k bs) tokens) n (read-tokens bars k (at + 1) bs tokens (omega arith) e)
read-tokens bars zero at (b ∷ bs) tokens h e =
    let here : at ≡ at + 0 = omega arith in
    subst (λ (m : ℕ). AreTokens bars m (b ∷ bs) tokens) here
    (elim (chosen (is_space b) _ _ _ e) [
      | inl s ↦
          let n : at + 1 + 0 ≡ at + 1 = omega arith in
          space s.0 (subst (λ (m : ℕ). AreTokens bars m bs tokens) n (read-tokens bars zero (at + 1) bs tokens (omega arith) s.1))
      | inr s ↦
          let t = bind_ok (token_at bars at b bs) (λ t. tokens_of bars (t.1 - (at + 1)) (at + 1) bs >>= λ ts. Ok (t.0 ∷ ts)) tokens s.1 in
          let f = read-token bars at b bs t.0 t.1 in
          let p = token-read f.1 in
          let rest = bind_ok (tokens_of bars (t.0.1 - (at + 1)) (at + 1) bs) (λ ts. Ok (t.0.0 ∷ ts)) tokens t.2 in
          let more = read-tokens bars (t.0.1 - (at + 1)) (at + 1) bs rest.0 (omega (arith, f.2, p.2, p.3)) rest.1 in
          let n : at + 1 + (t.0.1 - (at + 1)) ≡ at + f.0 = omega (arith, f.2, p.2) in
          let k : suc (t.0.1 - (at + 1)) ≡ f.0 = omega (arith, f.2, p.2) in
          subst (AreTokens bars at (b ∷ bs)) (ok_is _ _ rest.2)
          (next f.1 (subst (λ (m : ℕ). AreTokens bars (at + f.0) (drop m (b ∷ bs)) rest.0) k (subst (λ (m : ℕ). AreTokens bars m (drop (t.0.1 - (at + 1)) bs) rest.0) n more)))
    ])

pub cut-read : (bars : Bool) (text : List ℕ) (tokens : List Token) → tokens_of bars 0 0 text ≡ Ok tokens → AreTokens bars 0 text tokens
cut-read bars text tokens e = let n : 0 + 0 ≡ 0 = omega arith in subst (λ (m : ℕ). AreTokens bars m text tokens) n (read-tokens bars 0 0 text tokens (omega arith) e)
