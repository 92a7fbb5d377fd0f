-- Whole runs that are played, and the runs of their statements.
use Rattle.std.proofs.Common.{◌≡◌, ℕ, suc, ◌+◌, ◌≤◌, Bool, List, ◌∷◌, [], ◌++◌, length, take, drop, Option, Some, None, refl, sym, ap, ◌∙◌, append_assoc, arith, length-append}
use Rattle.std.specs.Prelude.{option_map}
use Rattle.std.proofs.lemmas.List.{length-drop, length-take-le, take-append-drop, append-nil}
use Rattle.crew_trait.specs.declared.reply.Reply.{Reply}
use Rattle.meaning.specs.State.{State, How, Cut, Run, Ends, Asks}
use Rattle.meaning.specs.Asking.{success}
use Rattle.meaning.specs.Play.{Played, play, all_jobs, first_refused, refused_here, first_number, refused_after, with_cut_line, last_words, whole}
use Rattle.meaning_laws.specs.Finished.{Finished, finish, Enough}
use Rattle.meaning_laws.specs.Refusals.{HasReplies}

-- A run with its last words ends in the same way, with the same variables and definitions.
pub record SameEnd (p : Played) (f : Finished) : Type 0 where
  pub how : p.how ≡ f.how
  pub vars : p.state.vars ≡ f.state.vars
  pub defs : p.state.defs ≡ f.state.defs

pub line_vars : (o : Option ℕ) (st : State) → (with_cut_line o st).vars ≡ st.vars
line_vars None st = refl
line_vars (Some k) st = refl

line_defs : (o : Option ℕ) (st : State) → (with_cut_line o st).defs ≡ st.defs
line_defs None st = refl
line_defs (Some k) st = refl

pub same_end : (run : Run) (before : ℕ) (refused : Option ℕ) (rs : List Reply) → SameEnd (play (last_words before refused run) rs) (finish run rs)
same_end (Ends Cut st) before refused rs = record { how = refl; vars = line_vars refused st; defs = line_defs refused st }
same_end (Ends _ st) before refused rs = record { how = refl; vars = refl; defs = refl }
same_end (Asks jobs next) before refused rs =
    let t = take (length jobs) rs in
    let later = same_end (next t) (before + length jobs) (first_number refused (refused_after before t)) (drop (length jobs) rs) in
    record { how = later.how; vars = later.vars; defs = later.defs }

-- There are enough replies.
pub enough_of : (run : Run) (before : ℕ) (refused : Option ℕ) (rs : List Reply) → length rs ≡ length (all_jobs (play (last_words before refused run) rs).groups) → Enough run rs
enough_of (Ends how st) before refused rs e = tt
enough_of (Asks jobs next) before refused rs e =
    let t = take (length jobs) rs in
    let rest = play (last_words (before + length jobs) (first_number refused (refused_after before t)) (next t)) (drop (length jobs) rs) in
    let both = length-append jobs (all_jobs rest.groups) in
    let left = length-drop (length jobs) rs in
    let few : length jobs ≤ length rs = omega (arith, e, both) in
    let later : length (drop (length jobs) rs) ≡ length (all_jobs rest.groups) = omega (arith, e, both, left) in
    (few, enough_of (next t) (before + length jobs) (first_number refused (refused_after before t)) (drop (length jobs) rs) later)

-- If there are as many replies as jobs, none is left, and the other way round.
none_of : (rs : List Reply) → length rs ≡ 0 → rs ≡ []
none_of [] e = refl
none_of (r ∷ rs) e = absurd (omega (arith, e))

pub none_left : (run : Run) (before : ℕ) (refused : Option ℕ) (rs : List Reply) → length rs ≡ length (all_jobs (play (last_words before refused run) rs).groups) → (finish run rs).left ≡ []
none_left (Ends Cut st) before refused rs e = none_of rs e
none_left (Ends _ st) before refused rs e = none_of rs e
none_left (Asks jobs next) before refused rs e =
    let t = take (length jobs) rs in
    let rest = play (last_words (before + length jobs) (first_number refused (refused_after before t)) (next t)) (drop (length jobs) rs) in
    let both = length-append jobs (all_jobs rest.groups) in
    let left = length-drop (length jobs) rs in
    let later : length (drop (length jobs) rs) ≡ length (all_jobs rest.groups) = omega (arith, e, both, left) in
    none_left (next t) (before + length jobs) (first_number refused (refused_after before t)) (drop (length jobs) rs) later

pub as_many : (run : Run) (before : ℕ) (refused : Option ℕ) (rs : List Reply) → Enough run rs → (finish run rs).left ≡ [] → length rs ≡ length (all_jobs (play (last_words before refused run) rs).groups)
as_many (Ends Cut st) before refused rs h e = ap length e
as_many (Ends _ st) before refused rs h e = ap length e
as_many (Asks jobs next) before refused rs h e =
    let t = take (length jobs) rs in
    let rest = play (last_words (before + length jobs) (first_number refused (refused_after before t)) (next t)) (drop (length jobs) rs) in
    let both = length-append jobs (all_jobs rest.groups) in
    let left = length-drop (length jobs) rs in
    let later : length (drop (length jobs) rs) ≡ length (all_jobs rest.groups) = as_many (next t) (before + length jobs) (first_number refused (refused_after before t)) (drop (length jobs) rs) h.1 e in
    let few = h.0 in
    omega (arith, few, both, left, later)

-- The same of whole runs.
pub whole_how : (run : Run) (rs : List Reply) → (play (whole run) rs).how ≡ (finish run rs).how
whole_how run rs = (same_end run 0 None rs).how

pub whole_enough : (run : Run) (rs : List Reply) → HasReplies (play (whole run) rs) rs → Enough run rs
whole_enough run rs e = enough_of run 0 None rs e

pub whole_left : (run : Run) (rs : List Reply) → HasReplies (play (whole run) rs) rs → (finish run rs).left ≡ []
whole_left run rs e = none_left run 0 None rs e

-- The replies that it took, and those that it left, are all.
pub taken_left : (run : Run) (rs : List Reply) → (finish run rs).taken ++ (finish run rs).left ≡ rs
taken_left (Ends how st) rs = refl
taken_left (Asks jobs next) rs =
    let f = finish (next (take (length jobs) rs)) (drop (length jobs) rs) in
    append_assoc (take (length jobs) rs) f.taken f.left ∙ ap (λ l. take (length jobs) rs ++ l) (taken_left (next (take (length jobs) rs)) (drop (length jobs) rs)) ∙ take-append-drop (length jobs) rs

-- ---- the last line

-- The state of a run at its end, with its line if it is cut.
abbrev pub with_line : How → Option ℕ → State → State
with_line Cut number st = with_cut_line number st
with_line how number st = st

number_or : (o : Option ℕ) → first_number o None ≡ o
number_or None = refl
number_or (Some k) = refl

number_third : (a b c : Option ℕ) → first_number (first_number a b) c ≡ first_number a (first_number b c)
number_third None b c = refl
number_third (Some k) b c = refl

-- The first refused reply of two groups.
moved_on : (before : ℕ) (o : Option ℕ) → option_map (λ k. before + k) (option_map suc o) ≡ option_map (λ k. suc before + k) o
moved_on before None = refl
moved_on before (Some k) = let e : before + suc k ≡ suc before + k = omega arith in ap Some e

after_here : (before n : ℕ) (s : Option Bool) (t all u : List Reply)
    → refused_after (suc before) all ≡ first_number (refused_after (suc before) t) (refused_after (suc before + n) u)
    → option_map (λ k. before + k) (refused_here s (first_refused all)) ≡ first_number (option_map (λ k. before + k) (refused_here s (first_refused t))) (refused_after (before + suc n) u)
after_here before n None t all u h = refl
after_here before n (Some b) t all u h =
    let e : suc before + n ≡ before + suc n = omega arith in
    moved_on before (first_refused all) ∙ h
    ∙ ap (λ o. first_number o (refused_after (suc before + n) u)) (sym (moved_on before (first_refused t)))
    ∙ ap (λ k. first_number (option_map (λ k. before + k) (option_map suc (first_refused t))) (refused_after k u)) e

after_both : (before : ℕ) (t u : List Reply) → refused_after before (t ++ u) ≡ first_number (refused_after before t) (refused_after (before + length t) u)
after_both before [] u = let e : before ≡ before + 0 = omega arith in ap (λ k. refused_after k u) e
after_both before (r ∷ t) u = after_here before (length t) (success r) t (t ++ u) u (after_both (suc before) t u)

-- Where the line says that a run was cut: at the first refused one of the replies that it took.
pub line_of : (run : Run) (before : ℕ) (refused : Option ℕ) (rs : List Reply) → Enough run rs
    → (play (last_words before refused run) rs).state ≡ with_line (finish run rs).how (first_number refused (refused_after before (finish run rs).taken)) (finish run rs).state
line_of (Ends Cut st) before refused rs h = ap (λ o. with_cut_line o st) (sym (number_or refused))
line_of (Ends _ st) before refused rs h = refl
line_of (Asks jobs next) before refused rs h =
    let t = take (length jobs) rs in
    let f = finish (next t) (drop (length jobs) rs) in
    let same : length jobs ≡ length t = sym (length-take-le (length jobs) rs h.0) in
    line_of (next t) (before + length jobs) (first_number refused (refused_after before t)) (drop (length jobs) rs) h.1
    ∙ ap (λ o. with_line f.how o f.state)
    (number_third refused (refused_after before t) (refused_after (before + length jobs) f.taken)
    ∙ ap (first_number refused) (ap (λ n. first_number (refused_after before t) (refused_after (before + n) f.taken)) same ∙ sym (after_both before t f.taken)))

from_none : (o : Option ℕ) → option_map (λ k. 0 + k) o ≡ o
from_none None = refl
from_none (Some k) = let e : 0 + k ≡ k = omega arith in ap Some e

-- The replies that a run took, if there are as many as jobs.
pub whole_taken : (run : Run) (rs : List Reply) → HasReplies (play (whole run) rs) rs → (finish run rs).taken ≡ rs
whole_taken run rs e = sym (append-nil (finish run rs).taken) ∙ ap (λ l. (finish run rs).taken ++ l) (sym (whole_left run rs e)) ∙ taken_left run rs

pub whole_line : (run : Run) (rs : List Reply) → HasReplies (play (whole run) rs) rs → (play (whole run) rs).state ≡ with_line (finish run rs).how (first_refused rs) (finish run rs).state
whole_line run rs e =
    line_of run 0 None rs (whole_enough run rs e)
    ∙ ap (λ l. with_line (finish run rs).how (refused_after 0 l) (finish run rs).state) (whole_taken run rs e)
    ∙ ap (λ o. with_line (finish run rs).how o (finish run rs).state) (from_none (first_refused rs))
