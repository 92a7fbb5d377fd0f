-- The error of a text that isn't a test, and its offset.
use Rattle.std.proofs.Common.{◌≡◌, ℕ, ◌+◌, ◌≤◌, Bool, false, inl, inr, List, [], ◌∷◌, ◌++◌, length, Option, Some, None, Result, Ok, Err, refl, sym, subst, ◌∙◌, arith}
use Rattle.std.specs.Prelude.{IfErr}
use Rattle.std.specs.List.{list_all, list_any}
use Rattle.std.proofs.lemmas.List.{length-drop}
use Rattle.shellword.specs.declared.fault.ShellFault.{ShellFault}
use Rattle.shellword.specs.declared.fault.ShellFault.TheVariants.{BadWord, BadTest, BadPattern, OutOfMemory}
use Rattle.shellword.specs.declared.part.Part.{Part}
use Rattle.shellword.specs.declared.element.Element.{Element}
use Rattle.shellword.specs.declared.token.Joint.{Joint}
use Rattle.shellword.specs.declared.token.Token.{Token}
use Rattle.shellword.specs.declared.token.Token.TheVariants.{Word, Join, Bar, Newline}
use Rattle.shellword.specs.Faults.{IsWordFault}
use Rattle.shellword.specs.Gives.{Gives, Fails}
use Rattle.shellword.specs.Element.{element_of}
use Rattle.shellword.specs.Cut.{tokens_of}
use Rattle.shellword.specs.Tokens.{IsToken, line_end, lone_bar, a_word, AreTokens, no_more, space, next}
use Rattle.shellword.specs.Truth.{Joined}
use Rattle.shellword.specs.Test.{IsCut, IsFaultOfTest}
use Rattle.shellword.specs.Joining.{element_or, with_element, ended, joining}
use Rattle.shellword.specs.Tokens.{is_newline, is_bar}
use Rattle.fallible.proofs.Binds.{chosen, failed, passed, err_is, bind_err}
use Rattle.shellword.proofs.TokenReading.{tokens-read, cut-read, token-len}

-- ---- the offsets after tokens

abbrev pub Within : ℕ → List Token → Type 0
Within n [] = Unit {0}
Within n (Word w ∷ ts) = Within n ts
Within n (Join joint after ∷ ts) = (after ≤ n) × Within n ts
Within n (Bar after ∷ ts) = (after ≤ n) × Within n ts
Within n (Newline ∷ ts) = Within n ts

token-within : {bars : Bool} {at : ℕ} {text : List ℕ} {t : Token} {k : ℕ} → IsToken bars at text t k → (n : ℕ) (ts : List Token) → at + length text ≤ n → Within n ts → Within n (t ∷ ts)
token-within (line_end) n ts h w = w
token-within (a_word x word over place) n ts h w = w
token-within other n ts h w = (omega arith, w)

pub tokens-within : {bars : Bool} {at : ℕ} {text : List ℕ} {tokens : List Token} → AreTokens bars at text tokens → (n : ℕ) → at + length text ≤ n → Within n tokens
tokens-within (no_more) n h = tt
tokens-within (space x more) n h = tokens-within more n (omega arith)
tokens-within (next {at = at} {n = k} {text = text} {tokens = tokens} one more) n h =
    token-within one n tokens h (tokens-within more n (omega (arith, token-len one, length-drop k text)))

-- ---- no lone bar

no_bar : {bars : Bool} {at : ℕ} {text : List ℕ} {t : Token} {k : ℕ} → IsToken bars at text t k → bars ≡ false → is_bar t ≡ false
no_bar (lone_bar x) e = absurd cc
no_bar other e = refl

pub no_bars : {bars : Bool} {at : ℕ} {text : List ℕ} {tokens : List Token} → AreTokens bars at text tokens → bars ≡ false → list_any is_bar tokens ≡ false
no_bars (no_more) e = refl
no_bars (space x more) e = no_bars more e
no_bars (next one more) e = rw (no_bar one e, no_bars more e) refl

-- ---- tokens that aren't a test

-- an error of the test, at an offset of at most n
abbrev Fault : ℕ → ShellFault → Type 0
Fault n f = (at : ℕ) × (f ≡ BadTest at) × (at ≤ n)

element-fault : (at n : ℕ) (o : Option Element) (f : ShellFault) → at ≤ n → element_or at o ≡ Err f → Fault n f
element-fault at n None f h e = (at, sym (err_is {A = Element} _ _ e), h)
element-fault at n (Some x) f h e = absurd (passed e)

ended-fault : (before : Option (Joined × Joint)) (words : List (List Part)) (at n : ℕ) (f : ShellFault) → at ≤ n → ended before words at ≡ Err f → Fault n f
ended-fault before words at n f h e =
    elim (bind_err (element_or at (element_of words)) (λ e. Ok (with_element before e)) f e) [
      | inl x ↦ element-fault at n (element_of words) f h x
      | inr x ↦ absurd (passed x.2)
    ]

joining-fault : (ts : List Token) (before : Option (Joined × Joint)) (words : List (List Part)) (at n : ℕ) (f : ShellFault) → at ≤ n → Within n ts → joining before words at ts ≡ Err f → Fault n f
unfolding joining
joining-fault [] before words at n f h w e = ended-fault before words at n f h e
joining-fault (Word x ∷ ts) before words at n f h w e = joining-fault ts before (words ++ x ∷ []) at n f h w e
joining-fault (Join joint after ∷ ts) before words at n f h w e =
    elim (bind_err (ended before words at) (λ test. joining (Some (test, joint)) [] after ts) f e) [
      | inl x ↦ ended-fault before words at n f h x
      | inr x ↦ joining-fault ts (Some (x.0, joint)) [] after n f w.0 w.1 x.2
    ]
joining-fault (Bar after ∷ ts) before words at n f h w e = (at, sym (err_is {A = Joined} _ _ e), h)
joining-fault (Newline ∷ ts) before [] at n f h w e = joining-fault ts before [] at n f h w e
joining-fault (Newline ∷ ts) before (x ∷ ws) at n f h w e =
    elim (chosen (list_all is_newline ts) _ _ _ e) [
      | inl all ↦ ended-fault before (x ∷ ws) at n f h all.1
      | inr some ↦ (at, sym (err_is {A = Joined} _ _ some.1), h)
    ]

-- ---- whole texts

uncut : (text : List ℕ) (f : ShellFault) → tokens_of false 0 0 text ≡ Err f → IsCut text → ⊥
uncut text f e cut = failed (sym e ∙ tokens-read cut.1)

word-fault : (text : List ℕ) (f : ShellFault) → IsWordFault (length text) f → tokens_of false 0 0 text ≡ Err f → IsFaultOfTest text f
word-fault text (BadWord at) h e = (uncut text (BadWord at) e, h)
word-fault text (BadTest at) h e = absurd h
word-fault text (BadPattern at) h e = absurd h
word-fault text OutOfMemory h e = tt

-- the error of a text that can be split into tokens
pub joined-fault : (text : List ℕ) (tokens : List Token) (f : ShellFault) → tokens_of false 0 0 text ≡ Ok tokens → joining None [] 0 tokens ≡ Err f → IsFaultOfTest text f
joined-fault text tokens f cut e =
    let are = cut-read false text tokens cut in
    let p = joining-fault tokens None [] 0 (length text) f (omega arith) (tokens-within are (length text) (omega arith)) e in
    subst (IsFaultOfTest text) (sym p.1) ((tokens, are), p.2)

-- the error of a text that can't be split into tokens
pub cut-fault : (text : List ℕ) (f : ShellFault) → IsWordFault (length text) f → Fails f (tokens_of false 0 0 text) → IsFaultOfTest text f
cut-fault text OutOfMemory h e = tt
cut-fault text (BadWord at) h e = word-fault text (BadWord at) h e
cut-fault text (BadTest at) h e = absurd h
cut-fault text (BadPattern at) h e = absurd h

pub joined-faults : {X : Type 0} (text : List ℕ) (tokens : List Token) (view : X → Joined) (r : Result X ShellFault) → tokens_of false 0 0 text ≡ Ok tokens → Gives view r (joining None [] 0 tokens) → IfErr r (IsFaultOfTest text)
joined-faults text tokens view (Ok x) cut given = tt
joined-faults text tokens view (Err OutOfMemory) cut given = tt
joined-faults text tokens view (Err f) cut given = joined-fault text tokens f cut given
