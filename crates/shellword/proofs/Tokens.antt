-- A text split into tokens, as the loop does it.
use Rattle.std.proofs.Common.{◌≡◌, ℕ, zero, suc, ◌+◌, ◌-◌, ◌<◌, ◌≤◌, Bool, true, false, List, [], ◌∷◌, ◌++◌, length, get_or, drop, Result, Ok, Err, refl, sym, ap, ◌∙◌, append_assoc, arith}
use Rattle.std.proofs.lemmas.List.{drop_more, drop-drop, drop_all, length-drop, append-nil}
use Rattle.shellword.specs.declared.fault.ShellFault.{ShellFault}
use Rattle.shellword.specs.declared.token.Token.{Token}
use Rattle.shellword.specs.Text.{is_space}
use Rattle.fallible.specs.Reading.{◌>>=◌}
use Rattle.shellword.specs.Cut.{token_at, tokens_of}

-- what was read before, and what is still read
abbrev pub with_tokens : List Token → Result (List Token) ShellFault → Result (List Token) ShellFault
with_tokens tokens read = read >>= λ more. Ok (tokens ++ more)

with_tokens-push : (a : List Token) (t : Token) (read : Result (List Token) ShellFault) → with_tokens (a ++ t ∷ []) read ≡ with_tokens a (read >>= λ ts. Ok (t ∷ ts))
with_tokens-push a t (Ok more) = ap (λ (ts : List Token). Ok ts) (append_assoc a (t ∷ []) more)
with_tokens-push a t (Err f) = refl

pub skip_tokens : (bars : Bool) (k at : ℕ) (text : List ℕ) → k ≤ length text → tokens_of bars k at text ≡ tokens_of bars 0 (at + k) (drop k text)
unfolding tokens_of
skip_tokens bars zero at text h = ap (λ n. tokens_of bars 0 n text) (omega arith)
skip_tokens bars (suc k) at [] h = absurd (omega arith)
skip_tokens bars (suc k) at (b ∷ bs) h =
    skip_tokens bars k (at + 1) bs (omega arith) ∙ ap (λ n. tokens_of bars 0 n (drop k bs)) (omega arith)

pub tokens_space : (bars : Bool) (at b : ℕ) (bs : List ℕ) → is_space b ≡ true → tokens_of bars 0 at (b ∷ bs) ≡ tokens_of bars 0 (at + 1) bs
unfolding tokens_of
tokens_space bars at b bs h = rw h refl

pub tokens_failed : (bars : Bool) (at b : ℕ) (bs : List ℕ) (f : ShellFault) → is_space b ≡ false → token_at bars at b bs ≡ Err f → tokens_of bars 0 at (b ∷ bs) ≡ Err f
unfolding tokens_of
tokens_failed bars at b bs f h found = rw (h, found) refl

pub tokens_token : (bars : Bool) (at b : ℕ) (bs : List ℕ) (t : Token × ℕ) → is_space b ≡ false → token_at bars at b bs ≡ Ok t → at < t.1 → t.1 ≤ at + 1 + length bs
    → tokens_of bars 0 at (b ∷ bs) ≡ (tokens_of bars 0 t.1 (drop (t.1 - at) (b ∷ bs)) >>= λ ts. Ok (t.0 ∷ ts))
unfolding tokens_of
tokens_token bars at b bs t h found some within =
    let there : tokens_of bars (t.1 - (at + 1)) (at + 1) bs ≡ tokens_of bars 0 t.1 (drop (t.1 - at) (b ∷ bs)) =
    skip_tokens bars (t.1 - (at + 1)) (at + 1) bs (omega arith) ∙ ap (λ m. tokens_of bars 0 m (drop (t.1 - (at + 1)) bs)) (omega arith)
    ∙ ap (λ m. tokens_of bars 0 t.1 (drop m (b ∷ bs))) (let e : suc (t.1 - (at + 1)) ≡ t.1 - at = omega arith in e) in
    rw (h, found, there) refl

module _ (bars : Bool) (tokens : List Token) (at : ℕ) (text : List ℕ) (total : Result (List Token) ShellFault) (so_far : with_tokens tokens (tokens_of bars 0 at (drop at text)) ≡ total) where
  module _ (lt : at < length text) where
    here : drop at text ≡ get_or text at 0 ∷ drop (at + 1) text
    here = drop_more text at 0 lt

    pub loop_space : is_space (get_or text at 0) ≡ true → with_tokens tokens (tokens_of bars 0 (at + 1) (drop (at + 1) text)) ≡ total
    loop_space h = sym (ap (with_tokens tokens) (ap (tokens_of bars 0 at) here ∙ tokens_space bars at (get_or text at 0) (drop (at + 1) text) h)) ∙ so_far

    pub loop_failed : (f : ShellFault) → is_space (get_or text at 0) ≡ false → token_at bars at (get_or text at 0) (drop (at + 1) text) ≡ Err f → total ≡ Err f
    loop_failed f h found = sym so_far ∙ ap (with_tokens tokens) (ap (tokens_of bars 0 at) here ∙ tokens_failed bars at (get_or text at 0) (drop (at + 1) text) f h found)

    pub loop_token : (t : Token × ℕ) (pushed : List Token) → is_space (get_or text at 0) ≡ false → token_at bars at (get_or text at 0) (drop (at + 1) text) ≡ Ok t
        → at < t.1 → t.1 ≤ length text → pushed ≡ tokens ++ t.0 ∷ [] → with_tokens pushed (tokens_of bars 0 t.1 (drop t.1 text)) ≡ total
    loop_token t pushed h found some within e =
        let one = tokens_token bars at (get_or text at 0) (drop (at + 1) text) t h found some (omega (arith, length-drop (at + 1) text)) in
        let there : drop (t.1 - at) (drop at text) ≡ drop t.1 text = drop-drop (t.1 - at) at text ∙ ap (λ n. drop n text) (omega arith) in
        ap (λ (ts : List Token). with_tokens ts (tokens_of bars 0 t.1 (drop t.1 text))) e
        ∙ with_tokens-push tokens t.0 (tokens_of bars 0 t.1 (drop t.1 text))
        ∙ ap (λ (s : List ℕ). with_tokens tokens (tokens_of bars 0 t.1 s >>= λ ts. Ok (t.0 ∷ ts))) (sym there)
        ∙ ap (λ (s : List ℕ). with_tokens tokens (tokens_of bars 0 t.1 (drop (t.1 - at) s) >>= λ ts. Ok (t.0 ∷ ts))) here
        ∙ ap (with_tokens tokens) (sym one)
        ∙ ap (λ (s : List ℕ). with_tokens tokens (tokens_of bars 0 at s)) (sym here)
        ∙ so_far

  pub loop_ended : length text ≤ at → total ≡ Ok tokens
  unfolding tokens_of
  loop_ended past = sym so_far ∙ rw (drop_all at text past) (ap (λ (ts : List Token). Ok ts) (append-nil tokens))
