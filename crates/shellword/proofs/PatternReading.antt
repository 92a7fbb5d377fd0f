-- The patterns that a text lists are what the reader gives.
use Rattle.std.proofs.Common.{◌≡◌, ℕ, ◌≤◌, true, inl, inr, List, [], ◌∷◌, length, Option, Some, None, Result, Ok, Err, refl, sym, ap, subst, ◌∙◌, arith}
use Rattle.std.specs.Prelude.{IfErr}
use Rattle.shellword.specs.declared.fault.ShellFault.{ShellFault}
use Rattle.shellword.specs.declared.fault.ShellFault.TheVariants.{BadWord, BadTest, BadPattern, OutOfMemory}
use Rattle.shellword.specs.declared.part.Part.{Part}
use Rattle.shellword.specs.declared.pattern.Piece.{Piece}
use Rattle.shellword.specs.declared.token.Token.{Token}
use Rattle.shellword.specs.declared.token.Token.TheVariants.{Word, Bar}
use Rattle.shellword.specs.Faults.{IsWordFault, IsPatternFault}
use Rattle.shellword.specs.Gives.{Gives}
use Rattle.fallible.specs.Reading.{◌>>=◌}
use Rattle.shellword.specs.Cut.{tokens_of}
use Rattle.shellword.specs.Pattern.{AreAlternatives, last, more, ArePatterns}
use Rattle.shellword.specs.Listing.{in_pattern, or_in_pattern, pieces_or, alternatives, patterns_of}
use Rattle.shellword.specs.Pieces.{pieces_of}
use Rattle.fallible.proofs.Binds.{failed, passed, ok_is, err_is, bind_ok, bind_err}
use Rattle.shellword.proofs.TokenReading.{tokens-read, cut-read}
use Rattle.shellword.proofs.TestFaults.{Within, tokens-within}

-- ---- what is listed is read

listed-read : {tokens : List Token} {patterns : List (List Piece)} → AreAlternatives tokens patterns → (at : ℕ) → alternatives at tokens ≡ Ok patterns
unfolding alternatives
listed-read (last h) at = rw h refl
listed-read (more after h rest) at = rw (h, listed-read rest after) refl

pub patterns-read : (text : List ℕ) (patterns : List (List Piece)) → ArePatterns text patterns → patterns_of text ≡ Ok patterns
unfolding patterns_of
patterns-read text patterns h = rw (tokens-read h.cut) (listed-read h.alternatives 0)

-- ---- what is read is listed

pieces_found : (at : ℕ) (parts : List Part) (pieces : List Piece) (o : Option (List Piece)) → pieces_of parts ≡ o → pieces_or at o ≡ Ok pieces → pieces_of parts ≡ Some pieces
pieces_found at parts pieces None is h = absurd cc
pieces_found at parts pieces (Some x) is h = is ∙ ap (λ (y : List Piece). Some y) (ok_is x pieces h)

read-listed : (tokens : List Token) (at : ℕ) (patterns : List (List Piece)) → alternatives at tokens ≡ Ok patterns → AreAlternatives tokens patterns
unfolding alternatives
read-listed (Word parts ∷ []) at patterns e =
    let p = bind_ok (pieces_or at (pieces_of parts)) (λ pieces. Ok (pieces ∷ [])) patterns e in
    subst (AreAlternatives (Word parts ∷ [])) (ok_is _ _ p.2) (last (pieces_found at parts p.0 (pieces_of parts) refl p.1))
read-listed (Word parts ∷ Bar after ∷ ts) at patterns e =
    let p = bind_ok (pieces_or at (pieces_of parts)) (λ pieces. alternatives after ts >>= λ rest. Ok (pieces ∷ rest)) patterns e in
    let r = bind_ok (alternatives after ts) (λ rest. Ok (p.0 ∷ rest)) patterns p.2 in
    subst (AreAlternatives (Word parts ∷ Bar after ∷ ts)) (ok_is _ _ r.2) (more after (pieces_found at parts p.0 (pieces_of parts) refl p.1) (read-listed ts after r.0 r.1))
read-listed (Word parts ∷ other ∷ ts) at patterns e = absurd (failed (bind_ok (pieces_or at (pieces_of parts)) (λ pieces. Err (BadPattern at)) patterns e).2)
read-listed other at patterns e = absurd cc

pub cut_found : (r : Result (List Token) ShellFault) (tokens : List Token) → or_in_pattern r ≡ Ok tokens → r ≡ Ok tokens
cut_found (Ok ts) tokens e = e
cut_found (Err f) tokens e = absurd cc

pub read-patterns : (text : List ℕ) (patterns : List (List Piece)) → patterns_of text ≡ Ok patterns → ArePatterns text patterns
unfolding patterns_of
read-patterns text patterns e =
    let ts = bind_ok (or_in_pattern (tokens_of true 0 0 text)) (λ tokens. alternatives 0 tokens) patterns e in
    record { tokens = ts.0; cut = cut-read true text ts.0 (cut_found (tokens_of true 0 0 text) ts.0 ts.1); alternatives = read-listed ts.0 0 patterns ts.2 }

-- ---- errors

-- an error of a pattern, at an offset of at most n
abbrev pub Fault : ℕ → ShellFault → Type 0
Fault n f = (at : ℕ) × (f ≡ BadPattern at) × (at ≤ n)

pieces-fault : (at n : ℕ) (o : Option (List Piece)) (f : ShellFault) → at ≤ n → pieces_or at o ≡ Err f → Fault n f
pieces-fault at n None f h e = (at, sym (err_is {A = List Piece} _ _ e), h)
pieces-fault at n (Some x) f h e = absurd (passed e)

listed-fault : (tokens : List Token) (at n : ℕ) (f : ShellFault) → at ≤ n → Within n tokens → alternatives at tokens ≡ Err f → Fault n f
unfolding alternatives
listed-fault (Word parts ∷ []) at n f h w e =
    elim (bind_err (pieces_or at (pieces_of parts)) (λ pieces. Ok (pieces ∷ [])) f e) [ inl x ↦ pieces-fault at n (pieces_of parts) f h x | inr x ↦ absurd (passed x.2) ]
listed-fault (Word parts ∷ Bar after ∷ ts) at n f h w e =
    elim (bind_err (pieces_or at (pieces_of parts)) (λ pieces. alternatives after ts >>= λ rest. Ok (pieces ∷ rest)) f e) [
      | inl x ↦ pieces-fault at n (pieces_of parts) f h x
      | inr x ↦ (elim (bind_err (alternatives after ts) (λ rest. Ok (x.0 ∷ rest)) f x.2) [ inl y ↦ listed-fault ts after n f w.0 w.1 y | inr y ↦ absurd (passed y.2) ])
    ]
listed-fault (Word parts ∷ other ∷ ts) at n f h w e =
    elim (bind_err (pieces_or at (pieces_of parts)) (λ pieces. Err (BadPattern at)) f e) [ inl x ↦ pieces-fault at n (pieces_of parts) f h x | inr x ↦ (at, sym (err_is {A = List (List Piece)} _ _ x.2), h) ]
listed-fault other at n f h w e = (at, sym (err_is {A = List (List Piece)} _ _ e), h)

-- the error of a word is an error of a pattern, at the same offset
pub in_pattern-fault : (n : ℕ) (f : ShellFault) → IsWordFault n f → IsPatternFault n (in_pattern f)
in_pattern-fault n (BadWord at) h = h
in_pattern-fault n (BadTest at) h = absurd h
in_pattern-fault n (BadPattern at) h = absurd h
in_pattern-fault n OutOfMemory h = tt

-- the error of a text that can be split into tokens
pub alternatives-fault : (text : List ℕ) (tokens : List Token) (f : ShellFault) → tokens_of true 0 0 text ≡ Ok tokens → alternatives 0 tokens ≡ Err f → Fault (length text) f
alternatives-fault text tokens f cut e =
    listed-fault tokens 0 (length text) f (omega arith) (tokens-within (cut-read true text tokens cut) (length text) (omega arith)) e

listed : (text : List ℕ) (tokens : List Token) (f : ShellFault) → tokens_of true 0 0 text ≡ Ok tokens → alternatives 0 tokens ≡ Err f → IsPatternFault (length text) f
listed text tokens f cut e = let p = alternatives-fault text tokens f cut e in subst (IsPatternFault (length text)) (sym p.1) p.2

-- the error of a text that can't be split into tokens
pub uncut-fault : (n : ℕ) (r : Result (List Token) ShellFault) (f : ShellFault) → ((g : ShellFault) → r ≡ Err g → (at : ℕ) × (g ≡ BadWord at) × (at ≤ n)) → or_in_pattern r ≡ Err f → Fault n f
uncut-fault n (Ok ts) f known e = absurd (passed e)
uncut-fault n (Err g) f known e =
    let p = known g refl in
    (p.0, sym (err_is {A = List Token} _ _ e) ∙ ap in_pattern p.1, p.2)

pub listed-faults : {X : Type 0} (text : List ℕ) (tokens : List Token) (view : X → List (List Piece)) (r : Result X ShellFault) → tokens_of true 0 0 text ≡ Ok tokens → Gives view r (alternatives 0 tokens) → IfErr r (IsPatternFault (length text))
listed-faults text tokens view (Ok x) cut given = tt
listed-faults text tokens view (Err OutOfMemory) cut given = tt
listed-faults text tokens view (Err f) cut given = listed text tokens f cut given
