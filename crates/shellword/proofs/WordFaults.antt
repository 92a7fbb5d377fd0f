-- The error of a text that isn't a word or a here text, and its offset.
use Rattle.std.proofs.Common.{◌≡◌, ℕ, zero, suc, ◌+◌, ◌-◌, ◌≤◌, Bool, true, ◌==◌, cond, inl, inr, List, [], ◌∷◌, length, drop, Result, Ok, Err, refl, sym, ap, ◌∙◌, arith}
use Rattle.std.specs.List.{list_all}
use Rattle.shellword.specs.declared.fault.ShellFault.{ShellFault}
use Rattle.shellword.specs.declared.fault.ShellFault.TheVariants.{BadWord}
use Rattle.shellword.specs.declared.part.Part.{Part}
use Rattle.shellword.specs.declared.front.Context.{Context}
use Rattle.shellword.specs.declared.front.Context.TheVariants.{Bare, Here}
use Rattle.shellword.specs.declared.token.Token.TheVariants.{Word}
use Rattle.shellword.specs.Text.{newline, ampersand, bar, is_blank, is_space, begins_with, ends_word, word_ends, is_parted}
use Rattle.shellword.specs.Scan.{scan, word_of, word_front_of, here_of}
use Rattle.fallible.specs.Reading.{◌>>=◌}
use Rattle.shellword.specs.Cut.{ampersand_at, bar_at, token_at, tokens_of}
use Rattle.shellword.specs.Word.{AreWordParts, BeginsAt}
use Rattle.shellword.specs.WordFaults.{WordBreaks, IsRejected, breaks, goes_on, IsBadWord, IsBadFront, IsBadHere}
use Rattle.fallible.proofs.Binds.{chosen, passed, err_is, bind_err}
use Rattle.shellword.proofs.Words.{run-front, front-run}
use Rattle.shellword.proofs.Parts.{word-run, run-word}
use Rattle.shellword.proofs.WordBreaks.{BreaksAt, scan-breaks, breaks-scan, word-breaks, here-breaks, breaks-word, breaks-here}
use Rattle.shellword.proofs.TokenReading.{token-len, read-token}

-- an error of a word, at an offset of at most n
abbrev pub Fault : ℕ → ShellFault → Type 0
Fault n f = (at : ℕ) × (f ≡ BadWord at) × (at ≤ n)

abbrev pub placed : {A : Type 0} → ℕ → Result A ShellFault
placed at = Err (BadWord at)

at_place : {A : Type 0} (at n : ℕ) (f : ShellFault) → placed {A = A} at ≡ Err f → at ≤ n → Fault n f
at_place {A} at n f e h = (at, sym (err_is {A = A} _ _ e), h)

further : (m n : ℕ) (f : ShellFault) → Fault m f → m ≤ n → Fault n f
further m n f p h = (p.0, p.1, omega (arith, p.2))

-- ---- whole texts: the offset of the error

-- a run that is rejected
run_refused : (c : Context) (text : List ℕ) (f : ShellFault) → scan 0 c 0 text ≡ Err f → BreaksAt c (length text) text f
run_refused c text f e = let b = scan-breaks 0 c 0 text f (omega arith) e in record { rest = b.rest; at = b.at; fault = b.fault; breaks = b.breaks; place = b.place ∙ omega arith }

word_refused : {text rest : List ℕ} → WordBreaks text rest → (at : ℕ) → BeginsAt at rest text → scan 0 Bare 0 text ≡ Err (BadWord at)
word_refused h at place = breaks-scan (word-breaks h) 0 at (place ∙ omega arith)

-- a word that ends before what may not follow it
word_found : {text rest : List ℕ} {parts : List Part} → AreWordParts text parts rest → word_ends rest ≡ true → (at : ℕ) → BeginsAt at rest text → (scan 0 Bare 0 text ≡ Ok (parts, at)) × (drop at text ≡ rest)
word_found {text} {rest} {parts} word over at place =
    let r = word-run word over in
    let len : r.len ≡ at = omega (arith, place, r.place) in
    (run-front r.run ∙ ap (λ (n : ℕ). Ok (parts, n)) len, ap (λ (n : ℕ). drop n text) (sym len) ∙ r.ends)

-- a word with what may follow it
module _ {A : Type 0} (may_follow : List ℕ → Bool) (made : List Part × ℕ → A) where
  abbrev reading : List ℕ → Result A ShellFault
  reading text = scan 0 Bare 0 text >>= λ r. cond (may_follow (drop r.1 text)) (Ok (made r)) (Err (BadWord r.1))

  reading-rejected : (text : List ℕ) (f : ShellFault) → reading text ≡ Err f → (at : ℕ) × (f ≡ BadWord at) × IsRejected may_follow text at
  reading-rejected text f e =
      elim (bind_err (scan 0 Bare 0 text) (λ r. cond (may_follow (drop r.1 text)) (Ok (made r)) (Err (BadWord r.1))) f e) [
        | inl x ↦ let b = run_refused Bare text f x in (b.at, b.fault, breaks (breaks-word b.breaks) b.place)
        | inr x ↦
            (elim (chosen (may_follow (drop x.0.1 text)) _ _ _ x.2) [
              | inl h ↦ absurd (passed h.1)
              | inr h ↦ let w = run-word (front-run Bare text x.0 x.1) in (x.0.1, sym (err_is {A = A} _ _ h.1), goes_on w.0 w.1 h.0 w.2)
            ])
      ]

  rejected-reading : {text : List ℕ} {at : ℕ} → IsRejected may_follow text at → reading text ≡ Err (BadWord at)
  rejected-reading (breaks {at = at} h place) = rw (word_refused h at place) refl
  rejected-reading (goes_on {at = at} word over more place) = let p = word_found word over at place in rw (p.0, p.1, more) refl

pub word-bad : (text : List ℕ) (f : ShellFault) → word_of text ≡ Err f → (at : ℕ) × (f ≡ BadWord at) × IsBadWord text at
unfolding word_of
word-bad = reading-rejected (list_all is_blank) (λ r. r.0)

pub bad-word : {text : List ℕ} {at : ℕ} → IsBadWord text at → word_of text ≡ Err (BadWord at)
unfolding word_of
bad-word = rejected-reading (list_all is_blank) (λ r. r.0)

pub front-bad : (text : List ℕ) (f : ShellFault) → word_front_of text ≡ Err f → (at : ℕ) × (f ≡ BadWord at) × IsBadFront text at
unfolding word_front_of
front-bad = reading-rejected is_parted (λ r. r)

pub bad-front : {text : List ℕ} {at : ℕ} → IsBadFront text at → word_front_of text ≡ Err (BadWord at)
unfolding word_front_of
bad-front = rejected-reading is_parted (λ r. r)

pub here-bad : (text : List ℕ) (f : ShellFault) → here_of text ≡ Err f → (at : ℕ) × (f ≡ BadWord at) × IsBadHere text at
unfolding here_of
here-bad text f e =
    elim (bind_err (scan 0 Here 0 text) (λ r. Ok r.0) f e) [
      | inl x ↦ let b = run_refused Here text f x in (b.at, b.fault, record { rest = b.rest; breaks = breaks-here b.breaks; place = b.place })
      | inr x ↦ absurd (passed x.2)
    ]

pub bad-here : {text : List ℕ} {at : ℕ} → IsBadHere text at → here_of text ≡ Err (BadWord at)
unfolding here_of
bad-here {text} {at} h = rw (breaks-scan (here-breaks h.breaks) 0 at (h.place ∙ omega arith)) refl

-- ---- the offset is in the text or at its end

rejected-place : {may_follow : List ℕ → Bool} {text : List ℕ} {at : ℕ} → IsRejected may_follow text at → at ≤ length text
rejected-place (breaks h place) = omega (arith, place)
rejected-place (goes_on word over more place) = omega (arith, place)

pub word-fault : (text : List ℕ) (f : ShellFault) → word_of text ≡ Err f → Fault (length text) f
word-fault text f e = let p = word-bad text f e in (p.0, p.1, rejected-place p.2)

pub word_front-fault : (text : List ℕ) (f : ShellFault) → word_front_of text ≡ Err f → Fault (length text) f
word_front-fault text f e = let p = front-bad text f e in (p.0, p.1, rejected-place p.2)

pub here-fault : (text : List ℕ) (f : ShellFault) → here_of text ≡ Err f → Fault (length text) f
here-fault text f e = let p = here-bad text f e in (p.0, p.1, omega (arith, p.2.place))

-- ---- tokens

ampersand-fault : (at : ℕ) (bs : List ℕ) (f : ShellFault) → ampersand_at at bs ≡ Err f → Fault at f
ampersand-fault at bs f e = elim (chosen (begins_with ampersand bs) _ _ _ e) [ inl h ↦ absurd (passed h.1) | inr h ↦ at_place at at f h.1 (omega arith) ]

bar-fault : (bars : Bool) (at : ℕ) (bs : List ℕ) (f : ShellFault) → bar_at bars at bs ≡ Err f → Fault at f
bar-fault bars at bs f e =
    elim (chosen (begins_with bar bs) _ _ _ e) [
      | inl h ↦ absurd (passed h.1)
      | inr one ↦ (elim (chosen bars _ _ _ one.1) [ inl h ↦ absurd (passed h.1) | inr h ↦ at_place at at f h.1 (omega arith) ])
    ]

token-fault : (bars : Bool) (at b : ℕ) (bs : List ℕ) (f : ShellFault) → token_at bars at b bs ≡ Err f → Fault (at + suc (length bs)) f
unfolding token_at
token-fault bars at b bs f e =
    elim (chosen (b == newline) _ _ _ e) [
      | inl h ↦ absurd (passed h.1)
      | inr no_line ↦
          (elim (chosen (b == ampersand) _ _ _ no_line.1) [
            | inl h ↦ further at (at + suc (length bs)) f (ampersand-fault at bs f h.1) (omega arith)
            | inr no_and ↦
                (elim (chosen (b == bar) _ _ _ no_and.1) [
                  | inl h ↦ further at (at + suc (length bs)) f (bar-fault bars at bs f h.1) (omega arith)
                  | inr no_bar ↦
                      (elim (chosen (ends_word b) _ _ _ no_bar.1) [
                        | inl h ↦ at_place at (at + suc (length bs)) f h.1 (omega arith)
                        | inr h ↦
                            (elim (bind_err (scan 0 Bare at (b ∷ bs)) (λ r. Ok (Word r.0, r.1)) f h.1) [
                              | inl x ↦ let b = scan-breaks 0 Bare at (b ∷ bs) f (omega arith) x in (b.at, b.fault, omega (arith, b.place))
                              | inr x ↦ absurd (passed x.2)
                            ])
                      ])
                ])
          ])
    ]

tokens-fault : (bars : Bool) (k at : ℕ) (text : List ℕ) (f : ShellFault) → k ≤ length text → tokens_of bars k at text ≡ Err f → Fault (at + length text) f
unfolding tokens_of
tokens-fault bars zero at [] f h e = absurd (passed e)
tokens-fault bars (suc k) at [] f h e = absurd (omega arith)
tokens-fault bars (suc k) at (b ∷ bs) f h e = further (at + 1 + length bs) (at + suc (length bs)) f (tokens-fault bars k (at + 1) bs f (omega arith) e) (omega arith)
tokens-fault bars zero at (b ∷ bs) f h e =
    elim (chosen (is_space b) _ _ _ e) [
      | inl s ↦ further (at + 1 + length bs) (at + suc (length bs)) f (tokens-fault bars zero (at + 1) bs f (omega arith) s.1) (omega arith)
      | inr s ↦
          (elim (bind_err (token_at bars at b bs) (λ t. tokens_of bars (t.1 - (at + 1)) (at + 1) bs >>= λ ts. Ok (t.0 ∷ ts)) f s.1) [
            | inl x ↦ token-fault bars at b bs f x
            | inr x ↦
                let t = read-token bars at b bs x.0 x.1 in
                (elim (bind_err (tokens_of bars (x.0.1 - (at + 1)) (at + 1) bs) (λ ts. Ok (x.0.0 ∷ ts)) f x.2) [
                  | inl y ↦ further (at + 1 + length bs) (at + suc (length bs)) f (tokens-fault bars (x.0.1 - (at + 1)) (at + 1) bs f (omega (arith, t.2, token-len t.1)) y) (omega arith)
                  | inr y ↦ absurd (passed y.2)
                ])
          ])
    ]

pub cut-fault : (bars : Bool) (text : List ℕ) (f : ShellFault) → tokens_of bars 0 0 text ≡ Err f → Fault (length text) f
cut-fault bars text f e = further (0 + length text) (length text) f (tokens-fault bars 0 0 text f (omega arith) e) (omega arith)
