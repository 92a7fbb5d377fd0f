-- How the states of two runs are related to each other, and to the end of the first.
use Rattle.std.proofs.Common.{◌≡◌, ◌⊎◌, ℕ, true, List, Some, None, refl}
use Rattle.cachefile.specs.Text.{saved_value}
use Rattle.crew_trait.specs.declared.reply.Reply.{Reply}
use Rattle.deftable.specs.CacheName.{is_cache_name}
use Rattle.deftable.specs.Table.{value_of}
use Rattle.ac_tree.specs.Resumable.{Among, IsOrdinary}
use Rattle.meaning.specs.State.{State, How, Goes_on, Cut, Run, Ends, Asks}
use Rattle.meaning_resumption.specs.Finished.{Finished, finish, with_taken, Enough}
use Rattle.meaning_resumption.specs.Joint.{Joint, Past, Whole, Pair}

abbrev pub IsCached : List ℕ → Type 0
IsCached name = is_cache_name name ≡ true

-- Each name of the first list is in the second.
abbrev pub Within : List (List ℕ) → List (List ℕ) → Type 0
Within few more = (n : List ℕ) → Among n few → Among n more

-- Equal definitions, and equal values of these names; messages, log and the order of the variables may differ.
pub record Alike (at : List ℕ → Type 0) (a b : State) : Type 0 where
  pub defs : a.defs ≡ b.defs
  pub value : (n : List ℕ) → at n → value_of a.vars n ≡ value_of b.vars n

abbrev pub Every : List ℕ → Type 0
Every n = Unit {0}

-- Runs that ask for the same jobs, and end alike under the same replies.
abbrev pub Like : (List ℕ → Type 0) → Run → Run → Type 0
Like at (Ends h a) (Ends g b) = (h ≡ g) × Alike at a b
Like at (Asks js n) (Asks ks m) = (js ≡ ks) × ((rs : List Reply) → Like at (n rs) (m rs))
Like at a b = ⊥

-- What follows a run that continues.
abbrev pub follow : How → Finished → (State → Run) → Finished
follow Goes_on f rest = with_taken f.taken (finish (rest f.state) f.left)
follow how f rest = f

-- The first run is in one state, the second in another, and the first ends in `end`. Ordinary names have equal values. A
-- cache name has the value of that end in the second run, or neither run has set it yet and it isn't saved. Those that were
-- tested before have the value of that end in the first run too.
abbrev pub Saved : State → State → State → List ℕ → Type 0
Saved first second end n =
    (value_of second.vars n ≡ value_of end.vars n)
    ⊎ ((value_of second.vars n ≡ None) × ((value_of first.vars n ≡ None) × (saved_value n (value_of end.vars n) ≡ None)))

pub record Near (tested : List (List ℕ)) (first second end : State) : Type 0 where
  pub alike : Alike IsOrdinary first second
  pub saved : (n : List ℕ) → IsCached n → Saved first second end n
  pub known : (n : List ℕ) → IsCached n → Among n tested → value_of first.vars n ≡ value_of end.vars n

-- Cache names that are set stay as they are, and so do all but these.
pub record Sets (names : List (List ℕ)) (old new : State) : Type 0 where
  pub keeps : (n v : List ℕ) → IsCached n → value_of old.vars n ≡ Some v → value_of new.vars n ≡ Some v
  pub others : (n : List ℕ) → IsCached n → (Among n names → ⊥) → value_of new.vars n ≡ value_of old.vars n

abbrev pub leads_by : How → List (List ℕ) → State → State → Type 0
leads_by Goes_on later now end = Sets later now end
leads_by Cut later now end = now ≡ end
leads_by how later now end = ⊥

-- A part of the run that ends in `end`, where it is cut; `later` are the names that are tested after the part.
abbrev pub Leads : List (List ℕ) → Finished → State → Type 0
Leads later f end = leads_by f.how later f.state end

-- Two parts end alike, with equal values of these names.
pub record Both (at : List ℕ → Type 0) (a b : Finished) : Type 0 where
  pub how : a.how ≡ b.how
  pub state : Alike at a.state b.state
  pub left : a.left ≡ b.left

abbrev pub EndsAlike : Finished → Finished → Type 0
EndsAlike a b = Both Every a b

pub record Ready (later : List (List ℕ)) (end : State) (a : Run) (rs : List Reply) (b : Run) (qs : List Reply) : Type 0 where
  pub enough : Enough a rs
  pub again : Enough b qs
  pub leads : Leads later (finish a rs) end
  pub uncut : (finish b qs).how ≡ Cut → ⊥

-- Both runs went through a part.
pub record Passes (tested : List (List ℕ)) (end : State) (f s : Finished) (taken : List Reply) (p : Pair) : Type 0 where
  pub first : f.how ≡ Goes_on
  pub state : f.state ≡ p.first
  pub left : f.left ≡ p.replies
  pub took : f.taken ≡ taken
  pub second : s.how ≡ Goes_on
  pub state2 : s.state ≡ p.second
  pub left2 : s.left ≡ p.again
  pub near : Near tested p.first p.second end

-- If each continues in it, they went through it.
pub passed : (tested : List (List ℕ)) (end : State) (f s : Finished) → f.how ≡ Goes_on → s.how ≡ Goes_on → Near tested f.state s.state end
    → Passes tested end f s f.taken (record { first = f.state; replies = f.left; second = s.state; again = s.left })
passed tested end f s first second near = record { first = first; state = refl; left = refl; took = refl; second = second; state2 = refl; left2 = refl; near = near }

-- What comes of a part of both runs: they went through it, or the first was cut in it and, under the joint replies, which are
-- enough, ends as the second does.
abbrev pub Comes : List (List ℕ) → State → Run → List Reply → Run → List Reply → Joint → Type 0
Comes tested end first replies second again (Past taken p) = Passes tested end (finish first replies) (finish second again) taken p
Comes tested end first replies second again (Whole all) = ((finish first replies).how ≡ Cut) × (Enough first all × EndsAlike (finish first all) (finish second again))

-- A part of the statements: the names that are known to be tested before and after it, those that it may set, its joint
-- replies, what is given of its replies, and of the names that are tested later.
pub record IsPart (before after names : List (List ℕ)) (part : State → Run) (joins : Pair → Joint) (same : Pair → Type 0) (fits : List (List ℕ) → Type 0) : Type 0 where
  pub like : (s t : State) → Alike Every s t → Like Every (part s) (part t)
  pub sets : (st : State) (rs : List Reply) → Enough (part st) rs → Sets names st (finish (part st) rs).state
  pub comes : (later : List (List ℕ)) (end : State) (p : Pair) → fits later → Near before p.first p.second end → Ready later end (part p.first) p.replies (part p.second) p.again → same p
      → Comes after end (part p.first) p.replies (part p.second) p.again (joins p)
