-- The text without line continuations: the relation, the function, and the loop that writes it.
use Rattle.std.proofs.Common.{◌≡◌, ℕ, ◌+◌, ◌<◌, ◌≤◌, Bool, true, false, ◌&&◌, ◌==◌, List, [], ◌∷◌, ◌++◌, length, drop, get_or, ◌↔◌, refl, sym, ap, subst, ◌∙◌, append_assoc, arith}
use Rattle.std.proofs.lemmas.Bool.{eqb-true, and_parts}
use Rattle.std.proofs.lemmas.List.{drop_more, drop_all}
use Rattle.shellword.specs.Text.{backslash, newline}
use Rattle.shell_bare.specs.declared.continuation.BareContext.{BareContext}
use Rattle.shell_bare.specs.declared.continuation.BareContext.TheVariants.{Start}
use Rattle.shell_bare.specs.declared.continuation.State.{State}
use Rattle.shell_bare.specs.Continuation.{escapes, following, after_quoted, IsJoined, at_end, continued, quoted, last, other}
use Rattle.shell_bare.specs.Joining.{state, written, next, bytes_left, joined_from, joined}

joined-read : {p : BareContext} {text out : List ℕ} → IsJoined p text out → joined_from (state p false) text ≡ out
unfolding joined_from
joined-read at_end = refl
joined-read (continued h j) = rw h (joined-read j)
joined-read (quoted {p} {b} {rest} {out} h line j) = rw (h, line) (ap (λ (t : List ℕ). backslash ∷ b ∷ t) (joined-read j))
joined-read (last h) = rw h refl
joined-read (other {p} {b} {rest} {out} h j) = rw h (ap (λ (t : List ℕ). b ∷ t) (joined-read j))

-- what is written, after a backslash or not
abbrev Reads : Bool → BareContext → List ℕ → Type 0
Reads true p text = escapes p ≡ true → IsJoined p (backslash ∷ text) (joined_from (state p true) text)
Reads false p text = IsJoined p text (joined_from (state p false) text)

reads : (escaped : Bool) (p : BareContext) (text : List ℕ) → Reads escaped p text
unfolding joined_from
reads true p [] = λ h. last h
reads true p (b ∷ bs) = by_line (b == newline) refl (reads false p bs) (reads false (after_quoted p) bs) where
  by_line : (e : Bool) → (b == newline) ≡ e → Reads false p bs → Reads false (after_quoted p) bs → Reads true p (b ∷ bs)
  by_line true e same following = λ h.
      rw e (subst (λ (x : ℕ). IsJoined p (backslash ∷ x ∷ bs) (joined_from (state p false) bs)) (sym (eqb-true b newline e)) (continued h same))
  by_line false e same following = λ h. rw e (quoted h e following)
reads false p [] = at_end
reads false p (b ∷ bs) = by_escape (b == backslash && escapes p) refl (reads true p bs) (reads false (following p b) bs) where
  by_escape : (e : Bool) → (b == backslash && escapes p) ≡ e → Reads true p bs → Reads false (following p b) bs → Reads false p (b ∷ bs)
  by_escape true e escaped rest =
      let both = and_parts (b == backslash) (escapes p) e in
      rw e (subst (λ (x : ℕ). IsJoined p (x ∷ bs) (joined_from (state p true) bs)) (sym (eqb-true b backslash both.0)) (escaped both.1))
  by_escape false e escaped rest = rw e (other e rest)

pub joined_reading : (text out : List ℕ) → (joined text ≡ out) ↔ IsJoined Start text out
unfolding joined
joined_reading text out = (λ e. subst (IsJoined Start text) e (reads false Start text), λ j. joined-read j)

-- ---- the result is no longer than the text

abbrev held : Bool → ℕ
held true = 1
held false = 0

joined_len : (escaped : Bool) (p : BareContext) (text : List ℕ) → length (joined_from (state p escaped) text) ≤ held escaped + length text
unfolding joined_from
joined_len true p [] = omega arith
joined_len true p (b ∷ bs) = by_line (b == newline) refl (joined_len false p bs) (joined_len false (after_quoted p) bs) where
  by_line : (e : Bool) → (b == newline) ≡ e → length (joined_from (state p false) bs) ≤ 0 + length bs → length (joined_from (state (after_quoted p) false) bs) ≤ 0 + length bs
      → length (joined_from (state p true) (b ∷ bs)) ≤ 1 + length (b ∷ bs)
  by_line true e same following = rw e (omega (arith, same))
  by_line false e same following = rw e (omega (arith, following))
joined_len false p [] = omega arith
joined_len false p (b ∷ bs) = by_escape (b == backslash && escapes p) refl (joined_len true p bs) (joined_len false (following p b) bs) where
  by_escape : (e : Bool) → (b == backslash && escapes p) ≡ e → length (joined_from (state p true) bs) ≤ 1 + length bs → length (joined_from (state (following p b) false) bs) ≤ 0 + length bs
      → length (joined_from (state p false) (b ∷ bs)) ≤ 0 + length (b ∷ bs)
  by_escape true e escaped rest = rw e (omega (arith, escaped))
  by_escape false e escaped rest = rw e (omega (arith, rest))

pub joined-len : (text : List ℕ) → length (joined text) ≤ length text
unfolding joined
joined-len text = omega (arith, joined_len false Start text)

-- ---- byte after byte

pub begun : (text : List ℕ) → [] ++ joined_from (state Start false) text ≡ joined text
unfolding joined
begun text = refl

pub lines_more : (out pushed : List ℕ) (s t : State) (i : ℕ) (text : List ℕ) → i < length text → pushed ≡ out ++ written s (get_or text i 0) → t ≡ next s (get_or text i 0)
    → pushed ++ joined_from t (drop (i + 1) text) ≡ out ++ joined_from s (drop i text)
unfolding joined_from
lines_more out pushed s t i text lt e following =
    let b = get_or text i 0 in
    ap (λ (r : State). pushed ++ joined_from r (drop (i + 1) text)) following
    ∙ ap (λ (r : List ℕ). r ++ joined_from (next s b) (drop (i + 1) text)) e
    ∙ append_assoc out (written s b) (joined_from (next s b) (drop (i + 1) text))
    ∙ ap (λ (r : List ℕ). out ++ joined_from s r) (sym (drop_more text i 0 lt))

pub lines_end : (out pushed : List ℕ) (s : State) (i : ℕ) (text : List ℕ) → length text ≤ i → pushed ≡ out ++ bytes_left s → pushed ≡ out ++ joined_from s (drop i text)
unfolding joined_from
lines_end out pushed s i text le e = e ∙ ap (λ (t : List ℕ). out ++ joined_from s t) (sym (drop_all i text le))

pub no_longer : (out text : List ℕ) → out ≡ joined text → length out ≤ length text
no_longer out text e = subst (λ (t : List ℕ). length t ≤ length text) (sym e) (joined-len text)
