-- What the cache says of a source with one cached name, AC_INIT, AC_CACHE_CHECK and AC_OUTPUT: it holds no name but those from
-- before, and that one. If the commands came to their end and left the name set, it is there.
use Rattle.std.proofs.Common.{◌≡◌, ℕ, List, [], ◌∷◌, ◌++◌, codes, Option, Some, None, Bool, true, false, cond, ◌⊎◌, inl, inr, refl, sym, subst, ◌∙◌, ⊎_elim, length, take, drop}
use Rattle.std.specs.List.{AllByRecursion}
use Rattle.crew_trait.specs.declared.reply.Reply.{Reply}
use Rattle.deftable.specs.CacheName.{is_cache_name, has_cv}
use Rattle.deftable.specs.Table.{value_of}
use Rattle.meaning.specs.State.{State, Goes_on, Run, Ends, Asks, opened}
use Rattle.meaning.specs.Meaning.{is_unsettled, settled, effect, check, meaning}
use Rattle.meaning.specs.Tests.{cached_test}
use Rattle.ac_tree.specs.declared.statement.Declares.TheVariants as declares
use Rattle.ac_tree.specs.declared.statement.Effect.TheVariants as effects
use Rattle.ac_tree.specs.Script.{Script, Done, Then, Check}
use Rattle.meaning_laws.specs.Cached.{IsSet}
use Rattle.meaning_laws.specs.Deeds.{Deed, Assigned, Tested, deeds_after, left_set, prefix_deeds, effect_deeds, check_deeds, deeds, Among}
use Rattle.engine_frame.specs.declared.starting.Start.{Start}
use Rattle.engine.specs.Kept.{WasTested, IsThere, HoldsSet}

-- The deed is a completed test of this name, or assigns a name that is no cache name.
abbrev IsOf : List ℕ → Deed → Type 0
IsOf name (Assigned other) = is_cache_name other ≡ false
IsOf name (Tested other) = name ≡ other

abbrev AreOf : List ℕ → List Deed → Type 0
AreOf name ds = AllByRecursion (IsOf name) ds

of_both : (name : List ℕ) (a b : List Deed) → AreOf name a → AreOf name b → AreOf name (a ++ b)
of_both name [] b h k = k
of_both name (d ∷ a) b h k = (h.0, of_both name a b h.1 k)

of_after : (name : List ℕ) (r : Run) (rs : List Reply) (rest : State → List Reply → List Deed) → ((now : State) (left : List Reply) → AreOf name (rest now left)) → AreOf name (deeds_after r rs rest)
of_after name (Ends Goes_on st) rs rest h = h st rs
of_after name (Ends _ st) rs rest h = tt
of_after name (Asks jobs ask) rs rest h = of_after name (ask (take (length jobs) rs)) (drop (length jobs) rs) rest h

of_left : (name : List ℕ) (before now : Option (List ℕ)) → AreOf name (left_set name before now)
of_left name (Some value) now = tt
of_left name None None = tt
of_left name None (Some value) = (refl, tt)

of_prefix : (name prefix : List ℕ) (st : State) → is_cache_name prefix ≡ false → AreOf name (prefix_deeds prefix st)
of_prefix name prefix st e = by_test (is_unsettled (value_of st.vars prefix))
  where
    by_test : (b : Bool) → AreOf name (cond b (Assigned prefix ∷ []) [])
    by_test true = (e, tt)
    by_test false = tt

-- The end of the source, and all of it.
abbrev output : Script
output = Then declares.End effects.Complete Done

of_output : (name : List ℕ) (st : State) (rs : List Reply) → AreOf name (deeds output st rs)
unfolding deeds effect_deeds is_cache_name has_cv
of_output name st rs =
    let first = settled (codes "prefix") (codes "/usr/local") st in
    of_both name (effect_deeds effects.Complete st rs) _
    (of_both name (prefix_deeds (codes "prefix") st) (prefix_deeds (codes "exec_prefix") first) (of_prefix name (codes "prefix") st refl) (of_prefix name (codes "exec_prefix") first refl))
    (of_after name (effect effects.Complete st) rs (deeds Done) (λ now left. tt))

of_check : (name : List ℕ) (commands : Script) (st : State) (rs : List Reply) → AreOf name (deeds (Check [] name commands output) st rs)
unfolding deeds
of_check name commands st rs =
    let run = cached_test (check [] name (meaning commands) st) st in
    of_both name (check_deeds name st run rs) (deeds_after run rs (deeds output))
    (of_after name run rs (λ now left. left_set name (value_of st.vars name) (value_of now.vars name)) (λ now left. of_left name (value_of st.vars name) (value_of now.vars name)))
    (of_after name run rs (deeds output) (λ now left. of_output name now left))

abbrev source : (title : List ℕ) (name : List ℕ) (commands : Script) → Script
source title name commands = Then declares.Begin (effects.Package title title title title title) (Check [] name commands output)

of_source : (title : List ℕ) (name : List ℕ) (commands : Script) (st : State) (rs : List Reply) → AreOf name (deeds (source title name commands) st rs)
unfolding deeds effect_deeds is_cache_name has_cv
of_source title name commands st rs =
    let begins = effects.Package title title title title title in
    of_both name (effect_deeds begins st rs) (deeds_after (effect begins st) rs (deeds (Check [] name commands output))) (refl, (refl, (refl, (refl, (refl, (refl, tt))))))
    (of_after name (effect begins st) rs (deeds (Check [] name commands output)) (λ now left. of_check name commands now left))

one_of : (name : List ℕ) (d : Deed) (ds : List Deed) → AreOf name ds → Among d ds → IsOf name d
one_of name d [] h k = absurd k
one_of name d (e ∷ ds) h k = ⊎_elim (λ same. subst (IsOf name) same h.0) (λ l. one_of name d ds h.1 l) k

no_other_name : (title : List ℕ) (name : List ℕ) (commands : Script) (start : Start) (replies : List Reply) (vars : List (List ℕ × List ℕ)) (text : List ℕ)
    (holds : HoldsSet (source title name commands) start replies vars text) → (other value : List ℕ) → value_of holds.entries other ≡ Some value → IsSet other start.vars ⊎ (name ≡ other)
no_other_name title name commands start replies vars text holds other value e =
    let entry = holds.only other value e in
    let all = of_source title name commands (opened start.vars) replies in
    ⊎_elim
    (λ k. inl k)
    (λ k. inr (⊎_elim
    (λ a. let z : true ≡ false = sym entry.1 ∙ one_of name (Assigned other) _ all a in cc)
    (λ t. one_of name (Tested other) _ all t)
    k))
    entry.0

its_name_is_there : (script : Script) (start : Start) (replies : List Reply) (vars : List (List ℕ × List ℕ)) (text : List ℕ) (holds : HoldsSet script start replies vars text) (name : List ℕ)
    → WasTested script start replies name → IsThere vars holds.entries name
its_name_is_there script start replies vars text holds name t = (holds.tested name t).1
