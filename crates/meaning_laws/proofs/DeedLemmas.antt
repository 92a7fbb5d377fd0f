-- Deeds, one after the other.
use Rattle.std.proofs.Common.{◌≡◌, ℕ, Some, None, List, [], ◌∷◌, ◌++◌, length, take, drop, ◌⊎◌, inl, inr, sym, ap, ◌∙◌, subst, ⊎_elim}
use Rattle.std.specs.Prelude.{bytes_eq}
use Rattle.std.proofs.lemmas.Bool.{cases_Bool}
use Rattle.std.proofs.lemmas.List.{append-nil}
use Rattle.crew_trait.specs.declared.reply.Reply.{Reply}
use Rattle.deftable.specs.Table.{value_of, with_entry}
use Rattle.meaning.specs.State.{State, How, Goes_on, Run, Ends, Asks, then_run}
use Rattle.meaning.specs.Play.{play}
use Rattle.meaning_laws.specs.Ends.{AtEnds, Breaks}
use Rattle.meaning_laws.specs.Cached.{IsSet, IsUnset}
use Rattle.meaning_laws.specs.Deeds.{Deed, Assigned, Tested, deeds_after, Among, ComesFrom, Accounts}
use Rattle.meaning_laws.proofs.Values.{same_text, cases_value, value_here, value_there, set_write}

abbrev pub Variables : Type 0
Variables = List (List ℕ × List ℕ)

-- The name of a deed.
abbrev pub name_in : Deed → List ℕ
name_in (Assigned name) = name
name_in (Tested name) = name

-- A deed among those of two parts.
pub among_left : (d : Deed) (a b : List Deed) → Among d a → Among d (a ++ b)
among_left d [] b h = absurd h
among_left d (e ∷ a) b h = ⊎_elim (λ x. inl x) (λ k. inr (among_left d a b k)) h

pub among_right : (d : Deed) (a b : List Deed) → Among d b → Among d (a ++ b)
among_right d [] b h = h
among_right d (e ∷ a) b h = inr (among_right d a b h)

pub among_either : (d : Deed) (a b : List Deed) → Among d (a ++ b) → Among d a ⊎ Among d b
among_either d [] b h = inr h
among_either d (e ∷ a) b h = ⊎_elim (λ x. inl (inl x)) (λ k. ⊎_elim (λ l. inl (inr l)) (λ r. inr r) (among_either d a b k)) h

-- Where a name comes from, by both ways.
from_left : (n : List ℕ) (before : Variables) (a b : List Deed) → ComesFrom n before a → ComesFrom n before (a ++ b)
from_left n before a b h = ⊎_elim (λ k. inl k) (λ k. inr (⊎_elim (λ l. inl (among_left (Assigned n) a b l)) (λ l. inr (among_left (Tested n) a b l)) k)) h

from_right : (n : List ℕ) (before mid : Variables) (a b : List Deed) → (IsSet n mid → ComesFrom n before a) → ComesFrom n mid b → ComesFrom n before (a ++ b)
from_right n before mid a b first h =
    ⊎_elim (λ k. from_left n before a b (first k)) (λ k. inr (⊎_elim (λ l. inl (among_right (Assigned n) a b l)) (λ l. inr (among_right (Tested n) a b l)) k)) h

from_both : (n : List ℕ) (before mid : Variables) (a b : List Deed) → (ComesFrom n before a → IsSet n mid) → ComesFrom n before (a ++ b) → ComesFrom n mid b
from_both n before mid a b first h =
    ⊎_elim
    (λ k. inl (first (inl k)))
    (λ k. ⊎_elim
    (λ l. ⊎_elim (λ x. inl (first (inr (inl x)))) (λ x. inr (inl x)) (among_either (Assigned n) a b l))
    (λ l. ⊎_elim (λ x. inl (first (inr (inr x)))) (λ x. inr (inr x)) (among_either (Tested n) a b l))
    k)
    h

-- A name that comes from one test.
pub from_test : (n name : List ℕ) (before : Variables) → ComesFrom n before (Tested name ∷ []) → IsSet n before ⊎ (name ≡ n)
from_test n name before h =
    ⊎_elim (λ k. inl k) (λ k. ⊎_elim (λ l. ⊎_elim (λ e. cc) (λ z. absurd z) l) (λ l. ⊎_elim (λ e. inr (ap name_in e)) (λ z. absurd z) l) k) h

unset_before : (n : List ℕ) (before mid : Variables) → (IsSet n before → IsSet n mid) → IsUnset n mid → IsUnset n before
unset_before n before mid stays u =
    ⊎_elim (λ e. e) (λ some. let z : None ≡ Some (stays some).0 = sym u ∙ (stays some).1 in cc) (cases_value (value_of before n))

pub joined : (before mid now : Variables) (a b : List Deed) → Accounts before a mid → Accounts mid b now → Accounts before (a ++ b) now
joined before mid now a b x y = record {
  only = λ n h. from_right n before mid a b (x.only n) (y.only n h);
  all = λ n h. y.all n (from_both n before mid a b (x.all n) h);
  tested = λ n h. ⊎_elim (λ l. x.tested n l) (λ r. unset_before n before mid (λ k. x.all n (inl k)) (y.tested n r)) (among_either (Tested n) a b h);
  keeps = λ n v e no. y.keeps n v (x.keeps n v e (λ l. no (among_left (Assigned n) a b l))) (λ r. no (among_right (Assigned n) a b r));
}

pub nothing : (vars : Variables) → Accounts vars [] vars
nothing vars = record {
  only = λ n h. inl h;
  all = λ n h. ⊎_elim (λ k. k) (λ k. ⊎_elim (λ l. absurd l) (λ l. absurd l) k) h;
  tested = λ n h. absurd h;
  keeps = λ n v e no. e;
}

pub unchanged : (before now : Variables) → now ≡ before → Accounts before [] now
unchanged before now e = subst (Accounts before []) (sym e) (nothing before)

pub ended_there : (before now : Variables) (a : List Deed) → Accounts before a now → Accounts before (a ++ []) now
ended_there before now a h = subst (λ l. Accounts before l now) (sym (append-nil a)) h

-- A name that is set after a write is the one that was written, or was set before.
pub written_or : (vars : Variables) (name value n : List ℕ) → IsSet n (with_entry vars name value) → (name ≡ n) ⊎ IsSet n vars
written_or vars name value n h = ⊎_elim (λ t. inl (sym (same_text n name t))) (λ f. inr (h.0, sym (value_there vars name value n f) ∙ h.1)) (cases_Bool (bytes_eq n name))

pub written_here : (vars : Variables) (name value n : List ℕ) → name ≡ n → IsSet n (with_entry vars name value)
written_here vars name value n e = (value, ap (value_of (with_entry vars name value)) (sym e) ∙ value_here vars name value)

-- Writes.
pub writes : (vars : Variables) (name value : List ℕ) → Accounts vars (Assigned name ∷ []) (with_entry vars name value)
writes vars name value = record {
  only = λ n h. ⊎_elim (λ e. inr (inl (inl (ap Assigned e)))) (λ k. inl k) (written_or vars name value n h);
  all = λ n h. ⊎_elim
      (λ k. set_write vars name value n k)
      (λ k. ⊎_elim (λ l. ⊎_elim (λ e. written_here vars name value n (ap name_in e)) (λ z. absurd z) l) (λ l. ⊎_elim (λ e. cc) (λ z. absurd z) l) k)
      h;
  tested = λ n h. ⊎_elim (λ e. cc) (λ z. absurd z) h;
  keeps = λ n v e no. ⊎_elim
      (λ t. absurd (no (inl (ap Assigned (sym (same_text n name t))))))
      (λ f. value_there vars name value n f ∙ e)
      (cases_Bool (bytes_eq n name));
}

-- A write after deeds.
pub writes_more : (before mid : Variables) (a : List Deed) (name value : List ℕ) → Accounts before a mid → Accounts before (a ++ Assigned name ∷ []) (with_entry mid name value)
writes_more before mid a name value x = joined before mid (with_entry mid name value) a (Assigned name ∷ []) x (writes mid name value)

-- A run, by what holds at its ends.
pub ends_account : (P : How → State → Type 0) (r : Run) (rs : List Reply) (before : Variables) (own : State → List Deed) → AtEnds P r
    → ((st : State) → P Goes_on st → Accounts before (own st) st.vars) → ((how : How) (st : State) → Breaks how → P how st → Accounts before [] st.vars)
    → Accounts before (deeds_after r rs (λ now left. own now)) (play r rs).state.vars
ends_account P (Ends Goes_on st) rs before own h on off = on st h
ends_account P (Ends how st) rs before own h on off = off how st (λ e. cc) h
ends_account P (Asks jobs ask) rs before own h on off = ends_account P (ask (take (length jobs) rs)) (drop (length jobs) rs) before own (h (take (length jobs) rs)) on off

-- A run, and what follows.
abbrev pub Follow : (State → Run) → (State → List Reply → List Deed) → Type 0
Follow rest did = (st : State) (rs : List Reply) → Accounts st.vars (did st rs) (play (rest st) rs).state.vars

pub then_accounts : (r : Run) (rs : List Reply) (before : Variables) (a : List Deed) (rest : State → Run) (did : State → List Reply → List Deed)
    → Accounts before a (play r rs).state.vars → Follow rest did → Accounts before (a ++ deeds_after r rs did) (play (then_run r rest) rs).state.vars
then_accounts (Ends Goes_on st) rs before a rest did x y = joined before st.vars (play (rest st) rs).state.vars a (did st rs) x (y st rs)
then_accounts (Ends _ st) rs before a rest did x y = ended_there before st.vars a x
then_accounts (Asks jobs ask) rs before a rest did x y = then_accounts (ask (take (length jobs) rs)) (drop (length jobs) rs) before a rest did x y
