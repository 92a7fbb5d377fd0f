-- What is said of a call of one kind, for a call of another kind.
use Rattle.std.specs.Prelude.{◌≡◌, ◌⊎◌, ℕ, List, length, refl}
use Rattle.std.proofs.Common.{◌<◌, ◌∙◌, ap, inr, subst, sym}
use Rattle.cmd_call.specs.Calls.{ProgramCall, Help, IfFilter, IfStandIn, IfConfigure, IfStatus, IfRecheck, IfHelp}
use Rattle.cmd_call.specs.Lent.{call_seen}
use Rattle.cmd_call.specs.declared.call.ProgramCall as lent
use Rattle.cmd_call.specs.declared.call.ProgramCall.TheVariants as lends

-- What is said of a call, by another one that it is.
pub by_call : (P : ProgramCall → Type 0) (call other : lent.ProgramCall) (seen : ProgramCall) → call ≡ other → call_seen call ≡ seen → P (call_seen other) → P seen
by_call P call other seen is e p = subst P (sym (ap call_seen is) ∙ e) p

-- What is said of a call of this kind.
pub is_filter : (call : lent.ProgramCall) (seen : ProgramCall) (P : Type 0) → call ≡ lends.Filter → call_seen call ≡ seen → P → IfFilter seen P
is_filter call seen P is e p = subst (λ s. IfFilter s P) (sym (ap call_seen is) ∙ e) p

pub is_status : (call : lent.ProgramCall) (seen : ProgramCall) (P : List (List ℕ) → Type 0) (tags : _) → call ≡ lends.Status tags → call_seen call ≡ seen → P tags.now → IfStatus seen P
is_status call seen P tags is e p = subst (λ s. IfStatus s P) (sym (ap call_seen is) ∙ e) p

pub no_filter : (call : lent.ProgramCall) (seen : ProgramCall) (P : Type 0) → (call ≡ lends.Filter → ⊥) → call_seen call ≡ seen → IfFilter seen P
no_filter lends.Filter seen P ne e = absurd (ne refl)
no_filter call seen P ne e = subst (λ s. IfFilter s P) e tt

pub no_standin : (call : lent.ProgramCall) (seen : ProgramCall) (P : List (List ℕ) → Type 0) → ((words : _) → call ≡ lends.StandIn words → ⊥) → call_seen call ≡ seen → IfStandIn seen P
no_standin (lends.StandIn words) seen P ne e = absurd (ne words refl)
no_standin call seen P ne e = subst (λ s. IfStandIn s P) e tt

pub no_configure : (call : lent.ProgramCall) (seen : ProgramCall) (P : ℕ → List (List ℕ) → Type 0) → ((window : ℕ) (words : _) → call ≡ lends.Configure window words → ⊥) → call_seen call ≡ seen → IfConfigure seen P
no_configure (lends.Configure window words) seen P ne e = absurd (ne window words refl)
no_configure call seen P ne e = subst (λ s. IfConfigure s P) e tt

pub no_status : (call : lent.ProgramCall) (seen : ProgramCall) (P : List (List ℕ) → Type 0) → ((tags : _) → call ≡ lends.Status tags → ⊥) → call_seen call ≡ seen → IfStatus seen P
no_status (lends.Status tags) seen P ne e = absurd (ne tags refl)
no_status call seen P ne e = subst (λ s. IfStatus s P) e tt

pub no_recheck : (call : lent.ProgramCall) (seen : ProgramCall) (P : Type 0) → (call ≡ lends.Recheck → ⊥) → call_seen call ≡ seen → IfRecheck seen P
no_recheck lends.Recheck seen P ne e = absurd (ne refl)
no_recheck call seen P ne e = subst (λ s. IfRecheck s P) e tt

pub failed_help : (n : ℕ) (P : Type 0) (seen : ProgramCall) → n ≡ 2 → IfHelp seen (λ words. ((n ≡ 0) ⊎ (n ≡ 2)) × (1 < length words → n ≡ 2) × (n ≡ 0 → P))
failed_help n P (Help words) e = (inr e, λ more. e, λ z. absurd (not_both n z e))
  where
    not_both : (n : ℕ) → n ≡ 0 → n ≡ 2 → ⊥
    not_both n z e = let c : 0 ≡ 2 = sym z ∙ e in cc
failed_help n P call e = tt
