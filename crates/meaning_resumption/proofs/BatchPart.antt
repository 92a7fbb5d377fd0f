-- A batch as a part of the statements.
use Rattle.std.proofs.Common.{◌≡◌, ℕ, ◌≤◌, List, [], ◌∷◌, ◌++◌, codes, Bool, true, false, cond, length, take, drop, map, Option, Some, None, inl, inr, refl, sym, ap, ◌∙◌, subst, ⊎_elim, arith}
use Rattle.std.specs.Prelude.{◌&&◌, ◌==◌, option_map, is_some, option_to_list, unwrap_or}
use Rattle.std.proofs.lemmas.Bool.{cases_Bool}
use Rattle.std.proofs.lemmas.List.{length-take-le}
use Rattle.std.proofs.Math.Seq.{take-append_seam, drop-append_seam}
use Rattle.std.proofs.Math.ListN.{length-append}
use Rattle.cachefile.specs.Text.{saved_value}
use Rattle.crew_trait.specs.declared.reply.Reply.{Reply}
use Rattle.deftable.specs.CacheName.{is_cache_name}
use Rattle.deftable.specs.Table.{value_of}
use Rattle.crew_jobs.specs.Probe.{words_of}
use Rattle.text_cut.specs.Cuts.{fields}
use Rattle.shellword.specs.declared.part.Part.{Part}
use Rattle.ac_tree.specs.declared.listed.Listed.{Listed}
use Rattle.ac_tree.specs.Resumable.{Among, ReadsAll}
use Rattle.ac_tree.specs.TestNames.{entry_name}
use Rattle.meaning.specs.State.{State, How, Goes_on, Stopped, Cut, Run}
use Rattle.meaning.specs.Asking.{success}
use Rattle.meaning.specs.Forms.{FormTest, form_name}
use Rattle.meaning.specs.Entries.{tests_of}
use Rattle.meaning.specs.Batches.{AreBatched, asking, jobs_in, yes_or_no, batched}
use Rattle.meaning_laws.specs.Batched.{lacks_compiler, answer_to, value_by, all_set, defs_all}
use Rattle.meaning.proofs.Batches.{entries_are}
use Rattle.meaning_laws.proofs.Values.{cases_value}
use Rattle.meaning_laws.proofs.BatchEntries.{how_if, flag_of, refused_in}
use Rattle.meaning_laws.proofs.BatchLemmas.{batch_stops}
use Rattle.meaning_resumption.specs.Finished.{Finished, finish, Enough}
use Rattle.meaning_resumption.specs.Joint.{Pair, joint_by, answer_or, joint_entries, joint_batch}
use Rattle.meaning_resumption.proofs.Near.{IsCached, Near, Sets, leads_by, EndsAlike, Ready, passed, Comes, IsPart}
use Rattle.meaning_resumption.proofs.Names.{among_either, cached_apart, cc_plain, entry_named}
use Rattle.meaning_resumption.proofs.Parts.{sets_none}
use Rattle.meaning_resumption.proofs.Batched.{ReadsBatch, DoneWith, Cached, names_in, AllThere, with_replies, batch_enough, enough_asks, batch_like, cached_run, defs_same, names_cached, among_or_not, other_name, unset_asks, answered_well, answer_value, joint_length, joint_answer, joint_ok}

-- A batch that continued.
record Filled (tests : List FormTest) (st now : State) : Type 0 where
  there : AllThere tests now
  others : (n : List ℕ) → (Among n (names_in tests) → ⊥) → value_of now.vars n ≡ value_of st.vars n
  defined : now.defs ≡ defs_all tests (value_of now.vars) st.defs
  fresh : (n : List ℕ) → Among n (names_in tests) → value_of st.vars n ≡ None → saved_value n (value_of now.vars n) ≡ None → ⊥

answer_kept : (n : List ℕ) → IsCached n → (o : Option Bool) → flag_of o ≡ false → saved_value n (option_map yes_or_no o) ≡ None → ⊥
answer_kept n c None e k = cc
answer_kept n c (Some true) e k = let z : Some (codes "yes") ≡ None = sym (ap (λ b. cond (b && true) (Some (codes "yes")) None) c) ∙ k in cc
answer_kept n c (Some false) e k = let z : Some (codes "no") ≡ None = sym (ap (λ b. cond (b && true) (Some (codes "no")) None) c) ∙ k in cc

lost_answer : (n : List ℕ) → IsCached n → (s : Option Bool) → saved_value n (option_map yes_or_no s) ≡ None → option_map yes_or_no s ≡ None
lost_answer n c None e = refl
lost_answer n c (Some b) e = absurd (answer_kept n c (Some b) refl e)

lost_by : (n : List ℕ) → IsCached n → (a : Option Reply) → saved_value n (value_by None a) ≡ None → value_by None a ≡ None
lost_by n c None e = refl
lost_by n c (Some r) e = lost_answer n c (success r) e

filled_done : (tests : List FormTest) → AreBatched tests → (st : State) (t l : List Reply) (f : Finished) → lacks_compiler st ≡ false → length t ≡ length (jobs_in (asking 1 [] tests st)) → refused_in t ≡ false → (d : DoneWith tests st t l f) → Filled tests st d.end
filled_done tests may st t l f c len ok d =
    let a = asking 1 [] tests st in
    record {
      there = λ n h. ⊎_elim
          (λ none.
          let r = unset_asks tests may st n t c none h in
          let v = answer_value (success r.0) (answered_well n a t r.0 len ok r.1) in
          (v.0, d.value n ∙ ap (λ o. value_by o (answer_to n a t)) none ∙ ap (value_by None) r.1 ∙ v.1))
          (λ some. (some.0, d.value n ∙ ap (λ o. value_by o (answer_to n a t)) some.1))
          (cases_value (value_of st.vars n));
      others = λ n none. d.value n ∙ other_name tests may st n t c none;
      defined = d.defined;
      fresh = λ n h none k.
          let r = unset_asks tests may st n t c none h in
          answer_kept n (names_cached tests n h) (success r.0) (answered_well n a t r.0 len ok r.1) (ap (saved_value n) (sym (d.value n ∙ ap (λ o. value_by o (answer_to n a t)) none ∙ ap (value_by None) r.1)) ∙ k);
    }

filled_cached : (tests : List FormTest) (st : State) (run : Run) → AllThere tests st → (c : Cached tests st run) → Filled tests st c.end
filled_cached tests st run all c = record {
  there = λ n h. let v = all n h in (v.0, ap (λ l. value_of l n) c.vars ∙ v.1);
  others = λ n none. ap (λ l. value_of l n) c.vars;
  defined = c.defined ∙ ap (λ l. defs_all tests (value_of l) st.defs) (sym c.vars);
  fresh = λ n h none k. let v = all n h in let z : None ≡ Some v.0 = sym none ∙ v.1 in cc;
}

set_of : (tests : List FormTest) (st : State) → all_set tests st ≡ true → (n : List ℕ) → Among n (names_in tests) → (v : List ℕ) × (value_of st.vars n ≡ Some v)
set_of [] st e n h = absurd h
set_of (test ∷ more) st e n h =
    ⊎_elim
    (λ none. let z : false ≡ true = sym (ap (λ o. cond (is_some o) (all_set more st) false) none) ∙ e in cc)
    (λ some.
    ⊎_elim (λ same. (some.0, ap (value_of st.vars) (sym same) ∙ some.1))
    (λ k. set_of more st (sym (ap (λ o. cond (is_some o) (all_set more st) false) some.1) ∙ e) n k) h)
    (cases_value (value_of st.vars (form_name test.form)))

lacks_same : (s t : State) → value_of s.vars (codes "CC") ≡ value_of t.vars (codes "CC") → lacks_compiler s ≡ lacks_compiler t
unfolding words_of
lacks_same s t e = ap (λ o. length (fields (unwrap_or o [])) == 0) e

how_not : (b : Bool) → how_if b ≡ Goes_on → b ≡ false
how_not true e = cc
how_not false e = refl

how_uncut : (b : Bool) → (how_if b ≡ Cut → ⊥) → b ≡ false
how_uncut true e = absurd (e refl)
how_uncut false e = refl

stop_goes : (b : Bool) → cond b Goes_on (Stopped 1) ≡ Goes_on → b ≡ true
stop_goes true e = refl
stop_goes false e = cc

stop_cut : (b : Bool) → cond b Goes_on (Stopped 1) ≡ Cut → ⊥
stop_cut true e = cc
stop_cut false e = cc

-- Without a compiler, too.
goes_filled : (tests : List FormTest) → AreBatched tests → (st : State) (rs : List Reply) → Enough (batched tests st) rs → (finish (batched tests st) rs).how ≡ Goes_on → Filled tests st (finish (batched tests st) rs).state
goes_filled tests may st rs enough is =
    ⊎_elim
    (λ none.
    let s = batch_stops tests st may none in
    let all = set_of tests st (stop_goes (all_set tests st) (sym (ap (λ r. (finish r rs).how) s.is) ∙ is)) in
    let c = cached_run tests may st all in
    subst (Filled tests st) (sym (ap (λ r. (finish r rs).state) c.is)) (filled_cached tests st (batched tests st) all c))
    (λ some.
    let jobs = jobs_in (asking 1 [] tests st) in
    let few = enough_asks jobs _ rs enough in
    let d = with_replies tests may st rs some few in
    subst (Filled tests st) (sym (ap (λ f. f.state) d.is))
    (filled_done tests may st (take (length jobs) rs) (drop (length jobs) rs) (finish (batched tests st) rs) some (length-take-le (length jobs) rs few) (how_not (refused_in (take (length jobs) rs)) (sym (ap (λ f. f.how) d.is) ∙ is)) d))
    (cases_Bool (lacks_compiler st))

kept_by : (o : Option (List ℕ)) (v : List ℕ) (a : Option Reply) → o ≡ Some v → value_by o a ≡ Some v
kept_by o v a e = ap (λ x. value_by x a) e

batch_sets : (tests : List FormTest) → AreBatched tests → (st : State) (rs : List Reply) → Enough (batched tests st) rs → Sets (names_in tests) st (finish (batched tests st) rs).state
batch_sets tests may st rs enough =
    ⊎_elim
    (λ none.
    let s = batch_stops tests st may none in
    sets_none (names_in tests) st (finish (batched tests st) rs).state (λ n c. ap (λ r. value_of (finish r rs).state.vars n) s.is ∙ ap (λ l. value_of l n) s.vars))
    (λ some.
    let jobs = jobs_in (asking 1 [] tests st) in
    let d = with_replies tests may st rs some (enough_asks jobs _ rs enough) in
    record {
      keeps = λ n v c e. ap (λ f. value_of f.state.vars n) d.is ∙ d.value n ∙ kept_by (value_of st.vars n) v _ e;
      others = λ n c none. ap (λ f. value_of f.state.vars n) d.is ∙ d.value n ∙ other_name tests may st n (take (length jobs) rs) some none;
    })
    (cases_Bool (lacks_compiler st))

-- Both runs are past it.
batch_near : (known : List (List ℕ)) (tests : List FormTest) (f s E f2 s2 : State) → Near known f s E → Filled tests f f2 → ((n : List ℕ) → Among n (names_in tests) → value_of f2.vars n ≡ value_of E.vars n) → ((n : List ℕ) → Among n (names_in tests) → value_of s.vars n ≡ value_of E.vars n)
    → s2.vars ≡ s.vars → s2.defs ≡ defs_all tests (value_of s.vars) s.defs → Near (names_in tests ++ known) f2 s2 E
batch_near known tests f s E f2 s2 near filled at_end saved vars defined = record {
  alike = record {
    defs = filled.defined
        ∙ defs_same tests (value_of f2.vars) (value_of s.vars) f.defs (λ n a. at_end n a ∙ sym (saved n a))
        ∙ ap (defs_all tests (value_of s.vars)) near.alike.defs ∙ sym defined;
    value = λ n p. filled.others n (λ a. cached_apart n n (names_cached tests n a) p refl) ∙ near.alike.value n p ∙ ap (λ l. value_of l n) (sym vars);
  };
  saved = λ n c.
      ⊎_elim (λ h. inl (ap (λ l. value_of l n) vars ∙ saved n h))
      (λ none. ⊎_elim (λ e. inl (ap (λ l. value_of l n) vars ∙ e)) (λ h. inr (ap (λ l. value_of l n) vars ∙ h.0, (filled.others n none ∙ h.1.0, h.1.1))) (near.saved n c))
      (among_or_not n (names_in tests));
  known = λ n c a. ⊎_elim (λ h. at_end n h)
      (λ none. filled.others n none ∙ near.known n c (⊎_elim (λ h. absurd (none h)) (λ k. k) (among_either n (names_in tests) known a)))
      (among_or_not n (names_in tests));
}

-- These replies are enough for the batch, and it ends with them in this way.
abbrev Mended : List FormTest → State → List Reply → Finished → Type 0
Mended tests st rs s = Enough (batched tests st) rs × EndsAlike (finish (batched tests st) rs) s

-- The first run was cut in it.
cut_ends : (known : List (List ℕ)) (tests : List FormTest) → AreBatched tests → (F S E : State) (t l t2 l2 : List Reply) (f s : Finished) → lacks_compiler F ≡ false → lacks_compiler S ≡ false → Near known F S E
    → length t ≡ length (jobs_in (asking 1 [] tests F)) → length t2 ≡ length (jobs_in (asking 1 [] tests S)) → (d : DoneWith tests F t l f) → d.end ≡ E → (d2 : DoneWith tests S t2 l2 s) → refused_in t2 ≡ false
    → Mended tests F (joint_entries (asking 1 [] tests F) t (asking 1 [] tests S) t2 ++ l2) s
cut_ends known tests may F S E t l t2 l2 f s cf cs near len len2 d at_e d2 ok =
    let a = asking 1 [] tests F in
    let a2 = asking 1 [] tests S in
    let j = joint_entries a t a2 t2 in
    let jl : length j ≡ length (jobs_in a) = joint_length a t a2 t2 in
    let few : length (jobs_in a) ≤ length (j ++ l2) = let e = length-append j l2 in omega (arith, e, jl) in
    let tk : take (length (jobs_in a)) (j ++ l2) ≡ j = ap (λ k. take k (j ++ l2)) (sym jl) ∙ take-append_seam j l2 in
    let dr : drop (length (jobs_in a)) (j ++ l2) ≡ l2 = ap (λ k. drop k (j ++ l2)) (sym jl) ∙ drop-append_seam j l2 in
    let d3 : DoneWith tests F j l2 (finish (batched tests F) (j ++ l2)) =
    subst (λ x. DoneWith tests F x l2 (finish (batched tests F) (j ++ l2))) tk
    (subst (λ y. DoneWith tests F (take (length (jobs_in a)) (j ++ l2)) y (finish (batched tests F) (j ++ l2))) dr (with_replies tests may F (j ++ l2) cf few)) in
    let saved : (n : List ℕ) → IsCached n → value_of S.vars n ≡ value_by (value_of F.vars n) (answer_to n a t) =
    λ n c.
    let en : value_of E.vars n ≡ value_by (value_of F.vars n) (answer_to n a t) = ap (λ x. value_of x.vars n) (sym at_e) ∙ d.value n in
    ⊎_elim (λ e. e ∙ en)
    (λ h.
    let unset : value_by (value_of F.vars n) (answer_to n a t) ≡ value_by None (answer_to n a t) = ap (λ o. value_by o (answer_to n a t)) h.1.0 in
    h.0 ∙ sym (unset ∙ lost_by n c (answer_to n a t) (ap (saved_value n) (sym (en ∙ unset)) ∙ h.1.1)))
    (near.saved n c) in
    let well : refused_in j ≡ false =
    joint_ok tests may 1 [] F t a2 t2 (λ m. answer_to m a t) cf len (λ m e. refl)
    (λ m r none e refused h.
    let sm : value_of S.vars m ≡ None = saved m (names_cached tests m h) ∙ ap (λ o. value_by o (answer_to m a t)) none ∙ ap (value_by None) e ∙ ap (option_map yes_or_no) refused in
    let r2 = unset_asks tests may S m t2 cs sm h in
    record { reply = r2.0; is = r2.1; well = answered_well m a2 t2 r2.0 len2 ok r2.1 }) in
    let values : (n : List ℕ) → value_of d3.end.vars n ≡ value_of d2.end.vars n =
    λ n. ⊎_elim
    (λ h. d3.value n ∙ entry_value n h (value_of F.vars n) refl (saved n (names_cached tests n h)) ∙ sym (d2.value n))
    (λ none. d3.value n ∙ other_name tests may F n j cf none
    ∙ ⊎_elim (λ c. sym (saved n c ∙ other_name tests may F n t cf none)) (λ p. near.alike.value n p) (cases_Bool (is_cache_name n))
    ∙ sym (other_name tests may S n t2 cs none) ∙ sym (d2.value n))
    (among_or_not n (names_in tests)) in
    let ends : EndsAlike (record { how = how_if (refused_in j); state = d3.end; taken = j; left = l2 }) (record { how = how_if (refused_in t2); state = d2.end; taken = t2; left = l2 }) = record {
      how = ap how_if (well ∙ sym ok);
      state = record {
        defs = d3.defined ∙ defs_same tests (value_of d3.end.vars) (value_of d2.end.vars) F.defs (λ n h. values n)
            ∙ ap (defs_all tests (value_of d2.end.vars)) near.alike.defs ∙ sym d2.defined;
        value = λ n e. values n;
      };
      left = refl;
    } in
    (batch_enough tests may F (j ++ l2) cf few, subst (λ x. EndsAlike x s) (sym d3.is) (subst (λ y. EndsAlike (record { how = how_if (refused_in j); state = d3.end; taken = j; left = l2 }) y) (sym d2.is) ends))
  where
    by_success : (n : List ℕ) → Among n (names_in tests) → (r : Reply) (o : Option Bool) → success r ≡ o → value_of S.vars n ≡ option_map yes_or_no o
        → option_map yes_or_no (success (answer_or o r (answer_to n (asking 1 [] tests S) t2))) ≡ value_by (value_of S.vars n) (answer_to n (asking 1 [] tests S) t2)
    by_success n h r (Some b) e sn = ap (option_map yes_or_no) e ∙ sym (ap (λ o. value_by o (answer_to n (asking 1 [] tests S) t2)) sn)
    by_success n h r None e sn =
        let a2 = asking 1 [] tests S in
        let r2 = unset_asks tests may S n t2 cs sn h in
        ap (λ o. option_map yes_or_no (success (answer_or None r o))) r2.1 ∙ sym (ap (λ o. value_by o (answer_to n a2 t2)) sn ∙ ap (value_by None) r2.1)

    entry_value : (n : List ℕ) → Among n (names_in tests) → (o : Option (List ℕ)) → value_of F.vars n ≡ o → value_of S.vars n ≡ value_by (value_of F.vars n) (answer_to n (asking 1 [] tests F) t)
        → value_by (value_of F.vars n) (answer_to n (asking 1 [] tests F) (joint_entries (asking 1 [] tests F) t (asking 1 [] tests S) t2)) ≡ value_by (value_of S.vars n) (answer_to n (asking 1 [] tests S) t2)
    entry_value n h (Some v) e sn =
        ap (λ o. value_by o (answer_to n (asking 1 [] tests F) (joint_entries (asking 1 [] tests F) t (asking 1 [] tests S) t2))) e
        ∙ sym (ap (λ o. value_by o (answer_to n (asking 1 [] tests S) t2)) (sn ∙ ap (λ o. value_by o (answer_to n (asking 1 [] tests F) t)) e))
    entry_value n h None e sn =
        let a = asking 1 [] tests F in
        let a2 = asking 1 [] tests S in
        let r = unset_asks tests may F n t cf e h in
        ap (λ o. value_by o (answer_to n a (joint_entries a t a2 t2))) e
        ∙ ap (value_by None) (joint_answer n a t a2 t2 ∙ ap (option_map (λ x. answer_or (success x) x (answer_to n a2 t2))) r.1)
        ∙ by_success n h r.0 (success r.0) refl (sn ∙ ap (λ o. value_by o (answer_to n a t)) e ∙ ap (value_by None) r.1)

batch_by : (known later : List (List ℕ)) (tests : List FormTest) → AreBatched tests → (p : Pair) (E : State) (how : How) → Near known p.first p.second E → Ready later E (batched tests p.first) p.replies (batched tests p.second) p.again → (finish (batched tests p.first) p.replies).how ≡ how
    → Comes (names_in tests ++ known) E (batched tests p.first) p.replies (batched tests p.second) p.again
    (joint_by how (finish (batched tests p.first) p.replies) (finish (batched tests p.second) p.again)
    (joint_entries (asking 1 [] tests p.first) (finish (batched tests p.first) p.replies).taken (asking 1 [] tests p.second) (finish (batched tests p.second) p.again).taken ++ (finish (batched tests p.second) p.again).left))
batch_by known later tests may p E Goes_on near ready is =
    let f = finish (batched tests p.first) p.replies in
    let ahead : Sets later f.state E = subst (λ h. leads_by h later f.state E) is ready.leads in
    let filled = goes_filled tests may p.first p.replies ready.enough is in
    let at_end : (n : List ℕ) → Among n (names_in tests) → (v : List ℕ) × (value_of E.vars n ≡ Some v) =
    λ n h. let v = filled.there n h in (v.0, ahead.keeps n v.0 (names_cached tests n h) v.1) in
    let saved : (n : List ℕ) → Among n (names_in tests) → value_of p.second.vars n ≡ value_of E.vars n =
    λ n h. ⊎_elim (λ e. e)
    (λ k. absurd (filled.fresh n h k.1.0 (ap (saved_value n) ((filled.there n h).1 ∙ sym (at_end n h).1) ∙ k.1.1))) (near.saved n (names_cached tests n h)) in
    let all : AllThere tests p.second = λ n h. let v = at_end n h in (v.0, saved n h ∙ v.1) in
    let c = cached_run tests may p.second all in
    passed (names_in tests ++ known) E f (finish (batched tests p.second) p.again) is (ap (λ r. (finish r p.again).how) c.is)
    (subst (λ x. Near (names_in tests ++ known) f.state x E) (sym (ap (λ r. (finish r p.again).state) c.is))
    (batch_near known tests p.first p.second E f.state c.end near filled (λ n h. (filled.there n h).1 ∙ sym (at_end n h).1) saved c.vars c.defined))
batch_by known later tests may p E Cut near ready is =
    let f = finish (batched tests p.first) p.replies in
    let s = finish (batched tests p.second) p.again in
    let ends : f.state ≡ E = subst (λ h. leads_by h later f.state E) is ready.leads in
    ⊎_elim
    (λ none.
    let st = batch_stops tests p.first may none in
    absurd (stop_cut (all_set tests p.first) (sym (ap (λ r. (finish r p.replies).how) st.is) ∙ is)))
    (λ some.
    let jobs = jobs_in (asking 1 [] tests p.first) in
    let jobs2 = jobs_in (asking 1 [] tests p.second) in
    let few = enough_asks jobs _ p.replies ready.enough in
    let few2 = enough_asks jobs2 _ p.again ready.again in
    let cs : lacks_compiler p.second ≡ false = sym (lacks_same p.first p.second (near.alike.value (codes "CC") cc_plain)) ∙ some in
    let d = with_replies tests may p.first p.replies some few in
    let d2 = with_replies tests may p.second p.again cs few2 in
    let whole = cut_ends known tests may p.first p.second E (take (length jobs) p.replies) (drop (length jobs) p.replies) (take (length jobs2) p.again) (drop (length jobs2) p.again) f s some cs near
    (length-take-le (length jobs) p.replies few) (length-take-le (length jobs2) p.again few2) d (sym (ap (λ x. x.state) d.is) ∙ ends) d2
    (how_uncut (refused_in (take (length jobs2) p.again)) (λ c. ready.uncut (ap (λ x. x.how) d2.is ∙ c))) in (
      is,
      subst (λ x. Mended tests p.first (joint_entries (asking 1 [] tests p.first) f.taken (asking 1 [] tests p.second) s.taken ++ x) s) (sym (ap (λ x. x.left) d2.is))
          (subst (λ x. Mended tests p.first (joint_entries (asking 1 [] tests p.first) f.taken (asking 1 [] tests p.second) x ++ drop (length jobs2) p.again) s) (sym (ap (λ x. x.taken) d2.is))
          (subst (λ x. Mended tests p.first (joint_entries (asking 1 [] tests p.first) x (asking 1 [] tests p.second) (take (length jobs2) p.again) ++ drop (length jobs2) p.again) s) (sym (ap (λ x. x.taken) d.is)) whole)),
    ))
    (cases_Bool (lacks_compiler p.first))
batch_by known later tests may p E how near ready is = absurd (subst (λ h. leads_by h later (finish (batched tests p.first) p.replies).state E) is ready.leads)

pub batch_part : (tested known : List (List ℕ)) (tests : List FormTest) → AreBatched tests → (fits : List (List ℕ) → Type 0) → ReadsBatch tested tests → IsPart known (names_in tests ++ known) (names_in tests) (batched tests) (joint_batch tests) (λ p. Unit {0}) fits
batch_part tested known tests may fits r = record {
  like = λ s t h. batch_like tested tests s t r h;
  sets = batch_sets tests may;
  comes = λ later E p fit near ready same. batch_by known later tests may p E (finish (batched tests p.first) p.replies).how near ready refl;
}

-- ---- the entries of a list

entries_named : (listed : Listed) (entries : List (List ℕ)) (includes : Option (List Part)) → names_in (tests_of listed entries includes) ≡ map (entry_name listed) entries
entries_named listed [] includes = refl
entries_named listed (entry ∷ more) includes =
    ap (λ name. name ∷ names_in (tests_of listed more includes)) (entry_named listed entry true) ∙ ap (λ l. entry_name listed entry ∷ l) (entries_named listed more includes)

reads_entries : (names : List (List ℕ)) (listed : Listed) (entries : List (List ℕ)) (includes : Option (List Part)) → ReadsAll names (option_to_list includes) → ReadsBatch names (tests_of listed entries includes)
reads_entries names listed [] includes r = tt
reads_entries names listed (entry ∷ more) includes r = (r, reads_entries names listed more includes r)

pub list_part : (tested known : List (List ℕ)) (listed : Listed) (entries : List (List ℕ)) (includes : Option (List Part)) (fits : List (List ℕ) → Type 0) → ReadsAll tested (option_to_list includes)
    → IsPart known (map (entry_name listed) entries ++ known) (map (entry_name listed) entries) (batched (tests_of listed entries includes)) (joint_batch (tests_of listed entries includes)) (λ p. Unit {0}) fits
list_part tested known listed entries includes fits r =
    let tests = tests_of listed entries includes in
    subst (λ names. IsPart known (names ++ known) names (batched tests) (joint_batch tests) (λ p. Unit {0}) fits) (entries_named listed entries includes)
    (batch_part tested known tests (entries_are listed entries includes) fits (reads_entries tested listed entries includes r))
