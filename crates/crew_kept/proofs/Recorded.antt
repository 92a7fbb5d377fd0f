-- Replies that are taken.
use Rattle.std.proofs.Common.{◌≡◌, ℕ, ◌+◌, ◌==◌, Bool, true, false, cond, List, [], ◌∷◌, ◌++◌, refl, sym, ap, ◌∙◌, subst, eqb-true, eq-eqb}
use Rattle.std.specs.Prelude.{Option, Some, None, bytes_eq, is_some, unwrap_or}
use Rattle.std.proofs.lemmas.Slice.Eq.{bytes_eq-Decides}
use Rattle.answers_text.specs.Texts.{job_text}
use Rattle.answers_text.specs.declared.record.Record.{Record}
use Rattle.crew_jobs.specs.declared.job.Job.{Job}
use Rattle.crew_trait.specs.declared.reply.Reply.{Reply}
use Rattle.crew_trait.specs.declared.reply.Reply.TheVariants.{Answer}
use Rattle.crew_kept.specs.Links.{is_link}
use Rattle.crew_kept.specs.Offers.{IsOffer, reply_in, state_in}
use Rattle.crew_kept.specs.Records.{HasNumber, HasReply, IsOf, IsOnlyOf, MayPass, after_start, answer_in, answer_of, first_of, is_followed, passes}
use Rattle.crew_kept.specs.declared.supply.Offer.{Offer}
use Rattle.crew_kept.specs.declared.state.State.{State}
use Rattle.crew_kept.specs.declared.state.State.TheVariants.{Open, Differed, Lacked}

some_is : {A : Type 0} (a b : A) → Some a ≡ Some b → a ≡ b
some_is a b is = ap (λ o. unwrap_or o a) is

-- The first record of a number is one of them.
later_of : (r : Record) (records : List Record) (number : ℕ) (it : Record) → IsOf records number it → IsOf (r ∷ records) number it
later_of r records number it h = record { earlier = r ∷ h.earlier; later = h.later; is_one = ap (λ l. r ∷ l) h.is_one; number_is = h.number_is }

here_of : (t : Bool) (r : Record) (records : List Record) (number : ℕ) (it : Record) → (r.number == number) ≡ t → cond t (Some r) (first_of number records) ≡ Some it
    → (first_of number records ≡ Some it → IsOf records number it) → IsOf (r ∷ records) number it
here_of true r records number it same is rest =
    let front : r ≡ it = some_is r it is in
    record { earlier = []; later = records; is_one = ap (λ x. x ∷ records) front; number_is = ap (λ x. x.number) (sym front) ∙ eqb-true r.number number same }
here_of false r records number it same is rest = later_of r records number it (rest is)

first_is : (number : ℕ) (records : List Record) (it : Record) → first_of number records ≡ Some it → IsOf records number it
first_is number [] it is = absurd (cc)
first_is number (r ∷ rs) it is = here_of (r.number == number) r rs number it refl is (first_is number rs it)

number_in : (records : List Record) (number : ℕ) (found : Option Record) → first_of number records ≡ found → is_some found ≡ true → HasNumber records number
number_in records number None is some = absurd (cc)
number_in records number (Some it) is some = record { it = it; is_of = first_is number records it is }

has_followed : (link : Bool) (records : List Record) (number : ℕ) → cond link (is_some (first_of (number + 1) records)) true ≡ true → link ≡ true → HasNumber records (number + 1)
has_followed true records number some link = number_in records (number + 1) (first_of (number + 1) records) refl some
has_followed false records number some link = absurd (cc)

has_reply : (same followed : Bool) (records : List Record) (number : ℕ) (job : Job) (reply : Reply) (it : Record) → IsOf records number it → bytes_eq (job_text job) it.job ≡ same
    → is_followed records number job ≡ followed → cond same (cond followed (Some (Answer it.status it.text)) None) None ≡ Some reply → HasReply records number job reply
has_reply true true records number job reply it of same follows is = record {
  it = it;
  is_of = of;
  job_is = sym ((bytes_eq-Decides (job_text job) it.job).0 same);
  reply_is = sym (some_is (Answer it.status it.text) reply is);
  followed = has_followed (is_link job) records number follows;
}
has_reply true false records number job reply it of same follows is = absurd (cc)
has_reply false followed records number job reply it of same follows is = absurd (cc)

sound_in : (records : List Record) (number : ℕ) (job : Job) (reply : Reply) (found : Option Record) → first_of number records ≡ found → answer_in records number job found ≡ Some reply
    → HasReply records number job reply
sound_in records number job reply None first is = absurd (cc)
sound_in records number job reply (Some it) first is =
    has_reply (bytes_eq (job_text job) it.job) (is_followed records number job) records number job reply it (first_is number records it first) refl refl is

pub sound : (state : State) (records : List Record) (number : ℕ) (job : Job) (reply : Reply) → answer_of state records number job ≡ Some reply → HasReply records number job reply
sound Open records number job reply is = sound_in records number job reply (first_of number records) refl is
sound Differed records number job reply is = absurd (cc)
sound Lacked records number job reply is = absurd (cc)

-- If a number has a record, it has a first one.
none_here : (t : Bool) (r : Record) (first : Option Record) → cond t (Some r) first ≡ None → t ≡ true → ⊥
none_here true r first is t_is = absurd (cc)
none_here false r first is t_is = absurd (cc)

none_later : (t : Bool) (r : Record) (first : Option Record) → cond t (Some r) first ≡ None → first ≡ None
none_later true r first is = absurd (cc)
none_later false r first is = is

none_of : (number : ℕ) (earlier later : List Record) (it : Record) → it.number ≡ number → first_of number (earlier ++ it ∷ later) ≡ None → ⊥
none_of number [] later it is none = none_here (it.number == number) it (first_of number later) none (eq-eqb it.number number is)
none_of number (r ∷ rs) later it is none = none_of number rs later it is (none_later (r.number == number) r (first_of number (rs ++ it ∷ later)) none)

only_in : (records : List Record) (number : ℕ) (it : Record) (found : Option Record) → IsOnlyOf records number it → first_of number records ≡ found → found ≡ Some it
only_in records number it None only is =
    absurd (none_of number only.is_of.earlier only.is_of.later it only.is_of.number_is (ap (first_of number) (sym only.is_of.is_one) ∙ is))
only_in records number it (Some other) only is = ap Some (only.alone other (first_is number records other is))

exists_in : (records : List Record) (number : ℕ) (found : Option Record) → HasNumber records number → first_of number records ≡ found → is_some found ≡ true
exists_in records number None has is =
    absurd (none_of number has.is_of.earlier has.is_of.later has.it has.is_of.number_is (ap (first_of number) (sym has.is_of.is_one) ∙ is))
exists_in records number (Some it) has is = refl

follows_in : (link : Bool) (records : List Record) (number : ℕ) → (link ≡ true → HasNumber records (number + 1)) → cond link (is_some (first_of (number + 1) records)) true ≡ true
follows_in true records number has = exists_in records (number + 1) (first_of (number + 1) records) (has refl) refl
follows_in false records number has = refl

pub complete : (records : List Record) (number : ℕ) (job : Job) (it : Record) → IsOnlyOf records number it → it.job ≡ job_text job
    → (is_link job ≡ true → HasNumber records (number + 1)) → answer_of Open records number job ≡ Some (Answer it.status it.text)
complete records number job it only job_is followed =
    ap (answer_in records number job) (only_in records number it (first_of number records) only refl)
    ∙ ap (λ t. cond t (cond (is_followed records number job) (Some (Answer it.status it.text)) None) None) ((bytes_eq-Decides (job_text job) it.job).1 (sym job_is))
    ∙ ap (λ t. cond t (Some (Answer it.status it.text)) None) (follows_in (is_link job) records number followed)

-- What is known after a start that wasn't taken.
pub passed_closed : (records : List Record) (number : ℕ) (job : Job) (state : State) → (state ≡ Open → ⊥) → MayPass records number job state state
passed_closed records number job Open not_open = absurd (not_open refl)
passed_closed records number job Differed not_open = passes refl
passed_closed records number job Lacked not_open = passes refl

pub passed : (records given : List Record) (number : ℕ) (job : Job) (offer : Offer) (old new : State) → given ≡ records → IsOffer given number job offer → reply_in offer ≡ None → old ≡ Open → new ≡ state_in offer
    → MayPass records number job old new
passed records given number job offer old new given_is is none old_is new_is =
    let done : MayPass given number job Open (after_start Open given number job) = passes (is.reply_is ∙ none) in
    subst (λ rs. MayPass rs number job old new) given_is
    (subst (λ s. MayPass given number job s new) (sym old_is) (subst (λ s. MayPass given number job Open s) (is.state_is ∙ sym new_is) done))
