-- What is said of a call of one kind, for a call of another kind.
use Rattle.std.specs.Prelude.{◌≡◌, ◌⊎◌, ℕ, List, length, refl}
use Rattle.std.proofs.Common.{◌≢◌, ◌≤◌, ◌<◌, ◌∙◌, arith, inr, subst, sym}
use Rattle.cmd_call.specs.Calls.{ProgramCall, Why, Help, Header, Lint, Port, IfWhy, IfHeader, IfHelp, IfLint}
use Rattle.cmd_call.specs.Lent.{call_seen}
use Rattle.tools_runner.specs.Ports.{IfPort}
use Rattle.cmd_call.specs.declared.call.ProgramCall as lent
use Rattle.cmd_call.specs.declared.call.ProgramCall.TheVariants as lends

pub no_why : (call : lent.ProgramCall) (seen : ProgramCall) (P : List (List ℕ) → Type 0) → ((words : _) → call ≡ lends.Why words → ⊥) → call_seen call ≡ seen → IfWhy seen P
no_why (lends.Why words) seen P ne e = absurd (ne words refl)
no_why call seen P ne e = subst (λ s. IfWhy s P) e tt

pub no_lint : (call : lent.ProgramCall) (seen : ProgramCall) (P : List (List ℕ) → Type 0) → ((words : _) → call ≡ lends.Lint words → ⊥) → call_seen call ≡ seen → IfLint seen P
no_lint (lends.Lint words) seen P ne e = absurd (ne words refl)
no_lint call seen P ne e = subst (λ s. IfLint s P) e tt

pub no_port : (call : lent.ProgramCall) (seen : ProgramCall) (P : List (List ℕ) → Type 0) → ((words : _) → call ≡ lends.Port words → ⊥) → call_seen call ≡ seen → IfPort seen P
no_port (lends.Port words) seen P ne e = absurd (ne words refl)
no_port call seen P ne e = subst (λ s. IfPort s P) e tt

pub no_header : (call : lent.ProgramCall) (seen : ProgramCall) (P : List (List ℕ) → Type 0) → ((words : _) → call ≡ lends.Header words → ⊥) → call_seen call ≡ seen → IfHeader seen P
no_header (lends.Header words) seen P ne e = absurd (ne words refl)
no_header call seen P ne e = subst (λ s. IfHeader s P) e tt

pub failed_why : (n : ℕ) (P : Type 0) (seen : ProgramCall) → n ≡ 2 → IfWhy seen (λ words. (n ≤ 2) × (n ≢ 2 → P))
failed_why n P (Why words) e = (omega (arith, e), λ ne. absurd (ne e))
failed_why n P call e = tt

pub failed_lint : (n : ℕ) (P : Type 0) (seen : ProgramCall) → n ≡ 2 → IfLint seen (λ words. (n ≤ 2) × (n ≢ 2 → P))
failed_lint n P (Lint words) e = (omega (arith, e), λ ne. absurd (ne e))
failed_lint n P call e = tt

pub failed_help : (n : ℕ) (P : Type 0) (seen : ProgramCall) → n ≡ 2 → IfHelp seen (λ words. ((n ≡ 0) ⊎ (n ≡ 2)) × (1 < length words → n ≡ 2) × (n ≡ 0 → P))
failed_help n P (Help words) e = (inr e, λ more. e, λ z. absurd (not_both n z e))
  where
    not_both : (n : ℕ) → n ≡ 0 → n ≡ 2 → ⊥
    not_both n z e = let c : 0 ≡ 2 = sym z ∙ e in cc
failed_help n P call e = tt

pub unanswered_why : (n : ℕ) (P : List (List ℕ) → Type 0) (seen : ProgramCall) → n ≡ 2 → IfWhy seen (λ words. n ≢ 2 → P words)
unanswered_why n P (Why words) e = λ ne. absurd (ne e)
unanswered_why n P call e = tt

pub failed_port : (n : ℕ) (P : Type 0) (seen : ProgramCall) → n ≡ 2 → IfPort seen (λ words. (n ≤ 2) × (n ≢ 2 → P))
failed_port n P (Port words) e = (omega (arith, e), λ ne. absurd (ne e))
failed_port n P call e = tt

pub unanswered_port : (n : ℕ) (P Q : List (List ℕ) → Type 0) (seen : ProgramCall) → n ≡ 2 → IfPort seen (λ words. (P words → n ≡ 2) × (n ≢ 2 → Q words))
unanswered_port n P Q (Port words) e = (λ wrong. e, λ ne. absurd (ne e))
unanswered_port n P Q call e = tt

pub unanswered_lint : (n : ℕ) (P Q : List (List ℕ) → Type 0) (seen : ProgramCall) → n ≡ 2 → IfLint seen (λ words. (P words → n ≡ 2) × (n ≢ 2 → Q words))
unanswered_lint n P Q (Lint words) e = (λ unknown. e, λ ne. absurd (ne e))
unanswered_lint n P Q call e = tt

pub unanswered_header : (n : ℕ) (P Q : List (List ℕ) → Type 0) (R : Type 0) (seen : ProgramCall) → n ≡ 2 → IfHeader seen (λ words. (P words → n ≡ 2) × (n ≢ 2 → R) × (n ≢ 2 → Q words))
unanswered_header n P Q R (Header words) e = (λ wrong. e, λ ne. absurd (ne e), λ ne. absurd (ne e))
unanswered_header n P Q R call e = tt
