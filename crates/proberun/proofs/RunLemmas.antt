-- A run, group by group.
use Rattle.std.proofs.Common.{◌≡◌, ℕ, zero, suc, ◌+◌, ◌-◌, ◌<◌, ◌≤◌, Bool, true, false, cond, eqb, List, [], ◌∷◌, ◌++◌, length, fold, take, drop, Option, Some, refl, sym, ap, ◌∙◌, subst, ⊎_elim, arith, append_assoc, length-append, map, None, option_map}
use Rattle.std.specs.Prelude.{slice_get, ◌==◌}
use Rattle.std.proofs.lemmas.List.{append-nil}
use Rattle.std.proofs.lemmas.List.Sums.{fold-append}
use Rattle.std.proofs.lemmas.Option.{slice_get_within}
use Rattle.std.proofs.lemmas.Bool.{cases_eq}
use Rattle.crew_jobs.specs.declared.job.Job.{Job}
use Rattle.crew_trait.specs.declared.reply.Reply.{Reply}
use Rattle.crew_trait.specs.declared.reply.Reply.TheVariants.{Answer, StartRefused, EndRefused}
use Rattle.meaning.specs.State.{Run, Asks}
use Rattle.meaning.specs.Play.{Played, play, after, all_jobs, first_refused, refused_here}
use Rattle.crew_trait.specs.declared.event.CrewEvent.{CrewEvent}
use Rattle.crew_trait.specs.declared.event.CrewEvent.TheVariants.{Started, Ended}
use Rattle.crew_trait.specs.Events.{Account, Fate, Unstarted, Running, Replied, fate_after, fate_of, ended_by, busy_after, busy, IsIdle, reply_in, replies_in, flying_after}
use Rattle.meaning.specs.Asking.{success}
use Rattle.proberun.specs.Starts.{StartsAre, TakesLeast, Fills, EndsGroup, failures_in}
use Rattle.proberun.proofs.EventLemmas.{if_same, if_other, ended-other, least-both, fills-both, fills-weaken, ends_left, ends_last}
use Rattle.proberun.specs.Serving.{Served, failed_count}
use Rattle.proberun.specs.Progress.{Progress}

-- A start that is running has a busy slot.
abbrev Busies : Fate → ℕ → Bool → Type 0
Busies f s b = f ≡ Running s → b ≡ true

busies_started : (n s slot number : ℕ) (f : Fate) (b : Bool) → Busies f s b → Busies (cond (eqb number n) (Running slot) f) s (cond (eqb slot s) true b)
busies_started n s slot number f b h e = ⊎_elim
    (λ same. if_same slot s true b same)
    (λ other. if_other slot s true b other ∙ ⊎_elim
    (λ here. let is : Running slot ≡ Running s = sym (if_same number n (Running slot) f here) ∙ e in absurd (other (cc)))
    (λ away. h (sym (if_other number n (Running slot) f away) ∙ e))
    (cases_eq number n))
    (cases_eq slot s)

busies_ended : (s slot : ℕ) (reply : Reply) (f : Fate) (b : Bool) → Busies f s b → Busies (ended_by slot reply f) s (cond (eqb slot s) false b)
busies_ended s slot reply Unstarted b h e = cc
busies_ended s slot reply (Replied r) b h e = cc
busies_ended s slot reply (Running x) b h e = ⊎_elim
    (λ same. let is : Replied reply ≡ Running s = sym (if_same x slot (Replied reply) (Running x) same) ∙ e in cc)
    (λ other.
    let is : Running x ≡ Running s = sym (if_other x slot (Replied reply) (Running x) other) ∙ e in
    let x_is : x ≡ s = cc in
    if_other slot s false b (λ y. other (x_is ∙ sym y)) ∙ h is)
    (cases_eq x slot)

busies_all : (n s : ℕ) (es : List CrewEvent) (f : Fate) (b : Bool) → Busies f s b → Busies (fold (fate_after n) f es) s (fold (busy_after s) b es)
busies_all n s [] f b h = h
busies_all n s (Started slot job number ∷ es) f b h = busies_all n s es _ _ (busies_started n s slot number f b h)
busies_all n s (Ended slot reply number ∷ es) f b h = busies_all n s es _ _ (busies_ended s slot reply f b h)

-- If no child is in flight, no start is running.
not_running : (n s : ℕ) (before es now : List CrewEvent) → now ≡ before ++ es → IsIdle now → fate_of n es ≡ Running s → ⊥
not_running n s before es now is idle e =
    let b = busies_all n s es Unstarted (fold (busy_after s) false before) (λ x. cc) e in
    let whole : busy s now ≡ true = ap (busy s) is ∙ fold-append (busy_after s) false before es ∙ b in
    let both : true ≡ false = sym whole ∙ idle.free s in
    cc

-- Later starts change no reply that exists.
keeps : (n base : ℕ) (jobs : List Job) (es : List CrewEvent) (f : Fate) → n ≤ base → StartsAre jobs base es → ((s : ℕ) → f ≡ Running s → ⊥) → fold (fate_after n) f es ≡ f
keeps n base jobs [] f le h still = refl
keeps n base jobs (Started slot job number ∷ es) f le h still =
    let e : cond (eqb number n) (Running slot) f ≡ f = if_other number n (Running slot) f (λ x. let lt = h.0 in absurd (omega arith)) in
    ap (λ g. fold (fate_after n) g es) e ∙ keeps n base jobs es f le h.2 still
keeps n base jobs (Ended slot reply number ∷ es) f le h still =
    ap (λ g. fold (fate_after n) g es) (ended-other slot reply f (λ s is same. still s is)) ∙ keeps n base jobs es f le h still

-- A start that has not been attempted doesn't exist.
not_yet : (n base : ℕ) (jobs : List Job) (es : List CrewEvent) → base + length jobs < n → StartsAre jobs base es → fate_of n es ≡ Unstarted
not_yet n base jobs [] lt h = refl
not_yet n base jobs (Started slot job number ∷ es) lt h =
    let within = slice_get_within jobs (number - (base + 1)) job h.1 in
    let after_base = h.0 in
    let e : cond (eqb number n) (Running slot) Unstarted ≡ Unstarted = if_other number n (Running slot) Unstarted (λ x. absurd (omega arith)) in
    ap (λ g. fold (fate_after n) g es) e ∙ not_yet n base jobs es lt h.2
not_yet n base jobs (Ended slot reply number ∷ es) lt h = not_yet n base jobs es lt h

-- Replies before and after an offset.
replies_split : (base c n : ℕ) (es : List CrewEvent) → replies_in base (c + n) es ≡ replies_in base c es ++ replies_in (base + c) n es
replies_split base zero n es =
    let a : 0 + n ≡ n = omega arith in
    let b : base ≡ base + 0 = omega arith in
    ap (λ k. replies_in base k es) a ∙ ap (λ k. replies_in k n es) b
replies_split base (suc c) n es =
    let a : suc c + n ≡ suc (c + n) = omega arith in
    let b : base + 1 + c ≡ base + suc c = omega arith in
    ap (λ k. replies_in base k es) a
    ∙ ap (λ l. reply_in (fate_of (base + 1) es) ∷ l) (replies_split (base + 1) c n es ∙ ap (λ k. replies_in (base + 1) c es ++ replies_in k n es) b)

replies_keep : (base c top : ℕ) (jobs : List Job) (es more : List CrewEvent) → base + c ≤ top → StartsAre jobs top more → ((n s : ℕ) → fate_of n es ≡ Running s → ⊥) → replies_in base c (es ++ more) ≡ replies_in base c es
replies_keep base zero top jobs es more le h still = refl
replies_keep base (suc c) top jobs es more le h still =
    let one : fate_of (base + 1) (es ++ more) ≡ fate_of (base + 1) es = fold-append (fate_after (base + 1)) Unstarted es more ∙ keeps (base + 1) top jobs more (fate_of (base + 1) es) (omega arith) h (still (base + 1)) in
    ap (λ f. reply_in f ∷ replies_in (base + 1) c (es ++ more)) one
    ∙ ap (λ l. reply_in (fate_of (base + 1) es) ∷ l) (replies_keep (base + 1) c top jobs es more (omega arith) h still)

replies_new : (base c n : ℕ) (jobs : List Job) (es more : List CrewEvent) → base + length jobs ≤ c → StartsAre jobs base es → replies_in c n (es ++ more) ≡ replies_in c n more
replies_new base c zero jobs es more le h = refl
replies_new base c (suc n) jobs es more le h =
    let one : fate_of (c + 1) (es ++ more) ≡ fate_of (c + 1) more = fold-append (fate_after (c + 1)) Unstarted es more ∙ ap (λ f. fold (fate_after (c + 1)) f more) (not_yet (c + 1) base jobs es (omega arith) h) in
    ap (λ f. reply_in f ∷ replies_in (c + 1) n (es ++ more)) one
    ∙ ap (λ l. reply_in (fate_of (c + 1) more) ∷ l) (replies_new base (c + 1) n jobs es more (omega arith) h)

-- Jobs of several groups.
all_jobs-push : (groups : List (List Job)) (jobs : List Job) → all_jobs (groups ++ jobs ∷ []) ≡ all_jobs groups ++ jobs
all_jobs-push [] jobs = append-nil jobs
all_jobs-push (g ∷ groups) jobs = ap (λ l. g ++ l) (all_jobs-push groups jobs) ∙ sym (append_assoc g (all_jobs groups) jobs)

get-left : (xs ys : List Job) (i : ℕ) (x : Job) → slice_get xs i ≡ Some x → slice_get (xs ++ ys) i ≡ Some x
get-left [] ys i x e = cc
get-left (z ∷ xs) ys zero x e = e
get-left (z ∷ xs) ys (suc i) x e = get-left xs ys i x e

get-right : (xs ys : List Job) (i : ℕ) → slice_get (xs ++ ys) (length xs + i) ≡ slice_get ys i
get-right [] ys i = let e : 0 + i ≡ i = omega arith in ap (slice_get ys) e
get-right (z ∷ xs) ys i = let e : length (z ∷ xs) + i ≡ suc (length xs + i) = omega arith in ap (slice_get (z ∷ (xs ++ ys))) e ∙ get-right xs ys i

starts_left : (xs ys : List Job) (base : ℕ) (es : List CrewEvent) → StartsAre xs base es → StartsAre (xs ++ ys) base es
starts_left xs ys base [] h = tt
starts_left xs ys base (Started slot job number ∷ es) h = (h.0, get-left xs ys _ job h.1, starts_left xs ys base es h.2)
starts_left xs ys base (Ended slot reply number ∷ es) h = starts_left xs ys base es h

starts_right : (xs ys : List Job) (base : ℕ) (es : List CrewEvent) → StartsAre ys (base + length xs) es → StartsAre (xs ++ ys) base es
starts_right xs ys base [] h = tt
starts_right xs ys base (Started slot job number ∷ es) h =
    let lt = h.0 in
    let place : number - (base + 1) ≡ length xs + (number - (base + length xs + 1)) = omega arith in
    (omega arith, ap (slice_get (xs ++ ys)) place ∙ get-right xs ys (number - (base + length xs + 1)) ∙ h.1, starts_right xs ys base es h.2)
starts_right xs ys base (Ended slot reply number ∷ es) h = starts_right xs ys base es h

starts_both : (jobs : List Job) (base : ℕ) (es more : List CrewEvent) → StartsAre jobs base es → StartsAre jobs base more → StartsAre jobs base (es ++ more)
starts_both jobs base [] more h k = k
starts_both jobs base (Started slot job number ∷ es) more h k = (h.0, h.1, starts_both jobs base es more h.2 k)
starts_both jobs base (Ended slot reply number ∷ es) more h k = starts_both jobs base es more h k

pub length-replies : (base n : ℕ) (es : List CrewEvent) → length (replies_in base n es) ≡ n
length-replies base zero es = refl
length-replies base (suc n) es = let e = length-replies (base + 1) n es in omega arith

take-front : (xs ys : List Reply) → take (length xs) (xs ++ ys) ≡ xs
take-front [] ys = refl
take-front (x ∷ xs) ys = ap (λ l. x ∷ l) (take-front xs ys)

drop-front : (xs ys : List Reply) → drop (length xs) (xs ++ ys) ≡ ys
drop-front [] ys = refl
drop-front (x ∷ xs) ys = drop-front xs ys

play_group : (jobs : List Job) (next : List Reply → Run) (rs more : List Reply) → length rs ≡ length jobs → play (Asks jobs next) (rs ++ more) ≡ after (jobs ∷ []) (play (next rs) more)
play_group jobs next rs more len =
    ap (λ n. after (jobs ∷ []) (play (next (take n (rs ++ more))) (drop n (rs ++ more)))) (sym len)
    ∙ ap (λ l. after (jobs ∷ []) (play (next l) (drop (length rs) (rs ++ more)))) (take-front rs more)
    ∙ ap (λ l. after (jobs ∷ []) (play (next rs) l)) (drop-front rs more)

after-after : (a b : List (List Job)) (p : Played) → after a (after b p) ≡ after (a ++ b) p
after-after a b p = ap (λ g. record { how = p.how; state = p.state; groups = g }) (sym (append_assoc a b p.groups))

-- Replies that are no answers.
failures-both : (xs ys : List Reply) → failures_in (xs ++ ys) ≡ failures_in xs + failures_in ys
failures-both [] ys = omega arith
failures-both (x ∷ xs) ys = let e = failures-both xs ys in omega arith

failed-somes : (rs : List Reply) → failed_count (map Some rs) ≡ failures_in rs
failed-somes [] = refl
failed-somes (r ∷ rs) = let e = failed-somes rs in omega arith

answered_rest : (here : Option Bool) (later : Option ℕ) → refused_here here later ≡ None → later ≡ None
answered_rest None later e = cc
answered_rest (Some b) None e = refl
answered_rest (Some b) (Some k) e = cc

answered_here : (here : Option Bool) (later other : Option ℕ) → refused_here here later ≡ None → refused_here here other ≡ option_map suc other
answered_here None later other e = cc
answered_here (Some b) later other e = refl

-- If no reply is refused, none is a failure.
pub no_failures : (rs : List Reply) → first_refused rs ≡ None → failures_in rs ≡ 0
no_failures [] e = refl
no_failures (Answer status text ∷ rs) e =
    let rest = no_failures rs (answered_rest (Some (status == 0)) (first_refused rs) e) in
    let sum : 0 + failures_in rs ≡ 0 = omega (arith, rest) in
    sum
no_failures (StartRefused ∷ rs) e = absurd cc
no_failures (EndRefused ∷ rs) e = absurd cc

pub answered_both : (xs ys : List Reply) → first_refused xs ≡ None → first_refused ys ≡ None → first_refused (xs ++ ys) ≡ None
answered_both [] ys a b = b
answered_both (x ∷ xs) ys a b =
    answered_here (success x) (first_refused xs) (first_refused (xs ++ ys)) a
    ∙ ap (option_map suc) (answered_both xs ys (answered_rest (success x) (first_refused xs) a) b)

pub refused_later : (xs ys : List Reply) (k : ℕ) → first_refused xs ≡ None → first_refused ys ≡ Some k → first_refused (xs ++ ys) ≡ Some (length xs + k)
refused_later [] ys k a b = let z : k ≡ 0 + k = omega arith in b ∙ ap Some z
refused_later (x ∷ xs) ys k a b =
    let n : suc (length xs + k) ≡ length (x ∷ xs) + k = omega arith in
    answered_here (success x) (first_refused xs) (first_refused (xs ++ ys)) a
    ∙ ap (option_map suc) (refused_later xs ys k (answered_rest (success x) (first_refused xs) a) b)
    ∙ ap Some n

-- Nothing has happened yet.
pub progress_begins : (w : ℕ) (run left : Run) (now : Account) → left ≡ run → IsIdle now.events → Progress w run left 0 [] now now
progress_begins w run left now same idle = record {
  since = [];
  events = sym (append-nil now.events);
  groups = [];
  attempts = omega arith;
  plays = λ more. ap (λ r. play r more) (sym same);
  heeded = record { earlier = []; whole = refl; count = refl; answered = refl };
  starts = tt;
  least = tt;
  idle = idle;
  landed = λ n. refl;
  fills = tt;
  failures = omega arith;
}

-- What is left, under another name.
pub progress_same : (w : ℕ) (run left left' : Run) (asked : ℕ) (latest : List Reply) (before now : Account) → left' ≡ left → Progress w run left asked latest before now → Progress w run left' asked latest before now
progress_same w run left left' asked latest before now e p = subst (λ r. Progress w run r asked latest before now) (sym e) p

-- The latest replies are taken, and none of them is refused.
pub progress_heard : (w : ℕ) (run left : Run) (asked asked' : ℕ) (latest : List Reply) (before now : Account) → first_refused latest ≡ None → asked' ≡ asked + length latest → Progress w run left asked latest before now → Progress w run left asked' [] before now
progress_heard w run left asked asked' latest before now none count p =
    let h = p.heeded in
    let all = replies_in before.attempts (length (all_jobs p.groups)) p.since in
    record {
      since = p.since;
      events = p.events;
      groups = p.groups;
      attempts = p.attempts;
      plays = p.plays;
      heeded = record {
        earlier = all;
        whole = sym (append-nil all);
        count = ap length h.whole ∙ length-append h.earlier latest ∙ omega (arith, h.count, count);
        answered = ap first_refused h.whole ∙ answered_both h.earlier latest h.answered none;
      };
      starts = p.starts;
      least = p.least;
      idle = p.idle;
      landed = p.landed;
      fills = p.fills;
      failures = p.failures;
    }

-- One more group.
pub progress_group : (w : ℕ) (run : Run) (jobs : List Job) (next : List Reply → Run) (asked : ℕ) (before mid now : Account) (replies : List (Option Reply)) → Progress w run (Asks jobs next) asked [] before mid → (served : Served w mid jobs replies now) → Progress w run (next (replies_in mid.attempts (length jobs) served.since)) asked (replies_in mid.attempts (length jobs) served.since) before now
progress_group w run jobs next asked before mid now replies p served =
    let c = length (all_jobs p.groups) in
    let base = before.attempts in
    let new = served.since in
    let rs = replies_in mid.attempts (length jobs) new in
    let jobs_are = all_jobs-push p.groups jobs in
    let count : length (all_jobs (p.groups ++ jobs ∷ [])) ≡ c + length jobs = ap length jobs_are ∙ length-append (all_jobs p.groups) jobs in
    let later : StartsAre jobs (base + c) new = subst (λ n. StartsAre jobs n new) p.attempts served.starts in
    let whole : replies_in base (length (all_jobs (p.groups ++ jobs ∷ []))) (p.since ++ new) ≡ replies_in base c p.since ++ rs =
    ap (λ n. replies_in base n (p.since ++ new)) count
    ∙ replies_split base c (length jobs) (p.since ++ new)
    ∙ ap (λ l. l ++ replies_in (base + c) (length jobs) (p.since ++ new)) (replies_keep base c (base + c) jobs p.since new (omega arith) later (λ n s. not_running n s before.events p.since mid.events p.events p.idle))
    ∙ ap (λ l. replies_in base c p.since ++ l) (replies_new base (base + c) (length jobs) (all_jobs p.groups) p.since new (omega arith) p.starts ∙ ap (λ n. replies_in n (length jobs) new) (sym p.attempts)) in
    record {
      since = p.since ++ new;
      events = served.events ∙ ap (λ l. l ++ new) p.events ∙ append_assoc before.events p.since new;
      groups = p.groups ++ jobs ∷ [];
      attempts = omega (arith, served.attempts, p.attempts, count);
      plays = λ more.
          ap (λ l. play run (l ++ more)) whole
          ∙ ap (play run) (append_assoc (replies_in base c p.since) rs more)
          ∙ p.plays (rs ++ more)
          ∙ ap (after p.groups) (play_group jobs next rs more (length-replies mid.attempts (length jobs) new))
          ∙ after-after p.groups (jobs ∷ []) (play (next rs) more);
      heeded = record {
        earlier = p.heeded.earlier;
        whole = whole ∙ ap (λ l. l ++ rs) (p.heeded.whole ∙ append-nil p.heeded.earlier);
        count = p.heeded.count;
        answered = p.heeded.answered;
      };
      least = least-both before.events p.since new p.least (subst (λ l. TakesLeast l new) p.events served.least);
      failures =
          let earlier = replies_in base c p.since in
          let failed : failed_count replies ≡ failures_in rs = ap failed_count served.replied ∙ failed-somes rs in
          let all : failures_in (replies_in base (length (all_jobs (p.groups ++ jobs ∷ []))) (p.since ++ new)) ≡ failures_in earlier + failures_in rs = ap failures_in whole ∙ failures-both earlier rs in
          omega (arith, served.failures, p.failures, failed, all);
      starts = subst (λ js. StartsAre js base (p.since ++ new)) (sym jobs_are)
          (starts_both (all_jobs p.groups ++ jobs) base p.since new (starts_left (all_jobs p.groups) jobs base p.since p.starts) (starts_right (all_jobs p.groups) jobs base new later));
      idle = served.idle;
      landed = λ n. fold-append flying_after n p.since new ∙ ap (λ m. fold flying_after m new) (p.landed n) ∙ served.landed n;
      fills =
          let ends = EndsGroup base (p.groups ++ jobs ∷ []) in
          fills-both w ends 0 p.since new
          (fills-weaken w (EndsGroup base p.groups) ends 0 p.since (λ m. ends_left base p.groups jobs m) p.fills)
          (subst (λ n. Fills w ends n new) (sym (p.landed 0))
          (fills-weaken w (λ m. m ≡ mid.attempts + length jobs) ends 0 new (λ m e. ends_last base p.groups jobs m (omega (arith, e, p.attempts))) served.fills));
    }
