-- The reading functions, and what they read: laws that the crates above may cite.
use Rattle.std.proofs.Common.{◌≡◌, ℕ, ◌≤◌, List, length, true, false, Result, Ok, Err, refl, sym, subst, ◌∙◌, inl, inr, ◌↔◌, None, []}
use Rattle.std.specs.Prelude.{IfErr}
use Rattle.shellword.specs.declared.fault.ShellFault.{ShellFault}
use Rattle.shellword.specs.declared.fault.ShellFault.TheVariants.{BadWord, BadTest, BadPattern, OutOfMemory}
use Rattle.shellword.specs.declared.part.Part.{Part}
use Rattle.shellword.specs.declared.pattern.Piece.{Piece}
use Rattle.shellword.specs.Scan.{word_of, word_front_of, here_of}
use Rattle.shellword.specs.Cut.{tokens_of}
use Rattle.shellword.specs.Word.{IsWord, IsWordFront, IsHere}
use Rattle.shellword.specs.Truth.{Joined}
use Rattle.shellword.specs.Test.{IsCut, IsTest, IsFaultOfTest}
use Rattle.shellword.specs.Joining.{joining, test_of}
use Rattle.shellword.specs.Pattern.{ArePatterns}
use Rattle.shellword.specs.Listing.{or_in_pattern, alternatives, patterns_of}
use Rattle.fallible.proofs.Binds.{failed, bind_err}
use Rattle.shellword.proofs.Words.{word-read, read-word, word_front-read, read-word_front, here-read, read-here}
use Rattle.shellword.proofs.TokenReading.{tokens-read}
use Rattle.shellword.proofs.TestReading.{test-read, read-test}
use Rattle.shellword.proofs.PatternReading.{patterns-read, read-patterns, cut_found, alternatives-fault, uncut-fault}
use Rattle.shellword.proofs.TestFaults.{joined-fault}
use Rattle.shellword.specs.WordFaults.{IsBadWord, IsBadFront, IsBadHere, IsRefusal}
use Rattle.shellword.specs.Gives.{Gives}
use Rattle.shellword.proofs.WordFaults.{Fault, word-fault, word_front-fault, here-fault, cut-fault, word-bad, bad-word, front-bad, bad-front, here-bad, bad-here}

pub word_reading : (text : List ℕ) (parts : List Part) → (word_of text ≡ Ok parts) ↔ IsWord text parts
word_reading text parts = (read-word text parts, word-read text parts)

pub front_reading : (text : List ℕ) (parts : List Part) (n : ℕ) → (word_front_of text ≡ Ok (parts, n)) ↔ IsWordFront text parts n
front_reading text parts n = (read-word_front text (parts, n), word_front-read text parts n)

pub here_reading : (text : List ℕ) (parts : List Part) → (here_of text ≡ Ok parts) ↔ IsHere text parts
here_reading text parts = (read-here text parts, here-read text parts)

pub test_reading : (text : List ℕ) (test : Joined) → (test_of text ≡ Ok test) ↔ IsTest text test
test_reading text test = (read-test text test, test-read text test)

pub pattern_reading : (text : List ℕ) (patterns : List (List Piece)) → (patterns_of text ≡ Ok patterns) ↔ ArePatterns text patterns
pattern_reading text patterns = (read-patterns text patterns, patterns-read text patterns)

pub word_faults : (text : List ℕ) (f : ShellFault) → word_of text ≡ Err f → Fault (length text) f
word_faults text f e = word-fault text f e

pub front_faults : (text : List ℕ) (f : ShellFault) → word_front_of text ≡ Err f → Fault (length text) f
front_faults text f e = word_front-fault text f e

pub here_faults : (text : List ℕ) (f : ShellFault) → here_of text ≡ Err f → Fault (length text) f
here_faults text f e = here-fault text f e

pub test_faults : (text : List ℕ) (f : ShellFault) → test_of text ≡ Err f → IsFaultOfTest text f
unfolding test_of
test_faults text f e =
    elim (bind_err (tokens_of false 0 0 text) (λ tokens. joining None [] 0 tokens) f e) [
      | inl x ↦ let p = cut-fault false text f x in subst (IsFaultOfTest text) (sym p.1) (λ (cut : IsCut text). failed (sym x ∙ tokens-read cut.1), p.2)
      | inr x ↦ joined-fault text x.0 f x.1 x.2
    ]

pub pattern_faults : (text : List ℕ) (f : ShellFault) → patterns_of text ≡ Err f → (at : ℕ) × (f ≡ BadPattern at) × (at ≤ length text)
unfolding patterns_of
pattern_faults text f e =
    elim (bind_err (or_in_pattern (tokens_of true 0 0 text)) (λ tokens. alternatives 0 tokens) f e) [
      | inl x ↦ uncut-fault (length text) (tokens_of true 0 0 text) f (cut-fault true text) x
      | inr x ↦ alternatives-fault text x.0 f (cut_found (tokens_of true 0 0 text) x.0 x.1) x.2
    ]

-- ---- the errors of a text

-- the offset of an error
refused_at : (Bad : ℕ → Type 0) (at : ℕ) (f : ShellFault) → BadWord at ≡ f → ((k : ℕ) × (f ≡ BadWord k) × Bad k) → Bad at
refused_at Bad at f e p = let same : p.0 ≡ at = let whole : BadWord p.0 ≡ BadWord at = sym p.1 ∙ sym e in cc in subst Bad same p.2

pub word_refusal : (text : List ℕ) (at : ℕ) → (word_of text ≡ Err (BadWord at)) ↔ IsBadWord text at
word_refusal text at = (λ e. refused_at (IsBadWord text) at (BadWord at) refl (word-bad text (BadWord at) e), bad-word)

pub front_refusal : (text : List ℕ) (at : ℕ) → (word_front_of text ≡ Err (BadWord at)) ↔ IsBadFront text at
front_refusal text at = (λ e. refused_at (IsBadFront text) at (BadWord at) refl (front-bad text (BadWord at) e), bad-front)

pub here_refusal : (text : List ℕ) (at : ℕ) → (here_of text ≡ Err (BadWord at)) ↔ IsBadHere text at
here_refusal text at = (λ e. refused_at (IsBadHere text) at (BadWord at) refl (here-bad text (BadWord at) e), bad-here)

-- the error of an answer
pub refusal_of : {X Y : Type 0} (Bad : ℕ → Type 0) (view : X → Y) (r : Result X ShellFault) (read : Result Y ShellFault) → ((f : ShellFault) → read ≡ Err f → (at : ℕ) × (f ≡ BadWord at) × Bad at) → Gives view r read
    → IfErr r (IsRefusal Bad)
refusal_of Bad view (Ok x) read known given = tt
refusal_of Bad view (Err OutOfMemory) read known given = tt
refusal_of Bad view (Err (BadWord at)) read known given = refused_at Bad at (BadWord at) refl (known (BadWord at) given)
refusal_of Bad view (Err (BadTest at)) read known given = let p = known (BadTest at) given in let e = p.1 in absurd cc
refusal_of Bad view (Err (BadPattern at)) read known given = let p = known (BadPattern at) given in let e = p.1 in absurd cc
