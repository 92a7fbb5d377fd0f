-- Parts that ask for nothing, and tests of one name.
use Rattle.std.proofs.Common.{◌≡◌, ℕ, List, [], ◌∷◌, ◌++◌, length, take, drop, Option, Some, None, ◌⊎◌, inl, inr, refl, sym, ap, ◌∙◌, subst, ⊎_elim, arith}
use Rattle.std.proofs.lemmas.Bool.{cases_Bool}
use Rattle.std.proofs.lemmas.List.{length-take-le}
use Rattle.cachefile.specs.Text.{saved_value}
use Rattle.crew_trait.specs.declared.reply.Reply.{Reply}
use Rattle.deftable.specs.CacheName.{is_cache_name}
use Rattle.deftable.specs.Table.{value_of}
use Rattle.ac_tree.specs.Resumable.{Among, IsOrdinary, MayRead}
use Rattle.meaning.specs.State.{State, How, Goes_on, Cut, Run, Ends, Asks}
use Rattle.meaning_laws.specs.Cached.{IsSet}
use Rattle.meaning_laws.proofs.Values.{cases_value}
use Rattle.meaning_resumption.specs.Finished.{Finished, finish, Enough}
use Rattle.meaning_resumption.specs.Joint.{both_past, Pair, joint_by, joint_one}
use Rattle.meaning_resumption.specs.Same.{SameOne}
use Rattle.meaning_resumption.proofs.Near.{Within, IsCached, Alike, Every, Like, Near, Sets, leads_by, Ready, passed, Comes, IsPart}
use Rattle.meaning_resumption.proofs.Names.{same_or_not}
use Rattle.meaning_resumption.proofs.Runs.{at_end}
use Rattle.meaning_resumption.proofs.Forms.{Own, own_else, Went, Still, Form, IsTest, Settles}
use Rattle.meaning_resumption.proofs.Liking.{like_finish, like_enough, Reads, wider_reads}
use Rattle.meaning_resumption.proofs.Parts.{sets_none, readable_same}

-- ---- parts that ask nothing

pub all_readable : (known : List (List ℕ)) (f s E : State) → Near known f s E → Alike (MayRead known) f s
all_readable known f s E near = record { defs = near.alike.defs; value = λ n r. readable_same known f s E n near r }

pub ordinary : (known : List (List ℕ)) (s t : State) → Alike (MayRead known) s t → Alike IsOrdinary s t
ordinary known s t h = record { defs = h.defs; value = λ n p. h.value n (inl p) }

-- A change that leaves cache names as they are, and reads these names alone.
pub still_part : (tested known : List (List ℕ)) (f : State → State) (fits : List (List ℕ) → Type 0) → Within tested known → ((at : List ℕ → Type 0) → Reads at tested → (s t : State) → Alike at s t → Alike at (f s) (f t)) → ((n : List ℕ) (st : State) → IsCached n → value_of (f st).vars n ≡ value_of st.vars n)
    → IsPart known known [] (λ st. Ends Goes_on (f st)) (joint_one (λ st. Ends Goes_on (f st))) (λ p. Unit {0}) fits
still_part tested known f fits w alike values = record {
  like = λ s t h. (refl, alike Every (λ n r. tt) s t h);
  sets = λ st rs enough. sets_none [] st (f st) (λ n c. values n st c);
  comes = λ later E p fit near ready same. passed known E (finish (Ends Goes_on (f p.first)) p.replies) (finish (Ends Goes_on (f p.second)) p.again) refl refl
      (record {
        alike = ordinary known (f p.first) (f p.second) (alike (MayRead known) (wider_reads tested known w) p.first p.second (all_readable known p.first p.second E near));
        saved = λ n c. ⊎_elim (λ e. inl (values n p.second c ∙ e)) (λ h. inr (values n p.second c ∙ h.0, (values n p.first c ∙ h.1.0, h.1.1))) (near.saved n c);
        known = λ n c a. values n p.first c ∙ near.known n c a;
      });
}

-- A part that ends the run otherwise than by a cut.
pub ends_part : (known : List (List ℕ)) (how : How) (f : State → State) (fits : List (List ℕ) → Type 0) → ((later : List (List ℕ)) (now E : State) → leads_by how later now E → ⊥) → ((s t : State) → Alike Every s t → Alike Every (f s) (f t)) → ((n : List ℕ) (st : State) → IsCached n → value_of (f st).vars n ≡ value_of st.vars n)
    → IsPart known known [] (λ st. Ends how (f st)) (joint_one (λ st. Ends how (f st))) (λ p. Unit {0}) fits
ends_part known how f fits never every values = record {
  like = λ s t h. (refl, every s t h);
  sets = λ st rs enough. sets_none [] st (f st) (λ n c. values n st c);
  comes = λ later E p fit near ready same. absurd (never later (f p.first) E ready.leads);
}

-- ---- the same replies again

same_front : (a b x y : List Reply) → length a ≡ length b → a ++ x ≡ b ++ y → (a ≡ b) × (x ≡ y)
same_front [] [] x y l e = (refl, e)
same_front (r ∷ a) [] x y l e = absurd (omega (arith, l))
same_front [] (r ∷ b) x y l e = absurd (omega (arith, l))
same_front (r ∷ a) (q ∷ b) x y l e =
    let head : r ≡ q = cc in
    let tail : a ++ x ≡ b ++ y = cc in
    let rest = same_front a b x y (omega (arith, l)) tail in
    (ap (λ z. z ∷ a) head ∙ ap (λ z. q ∷ z) rest.0, rest.1)

pub record Twice (at : List ℕ → Type 0) (a b : Finished) : Type 0 where
  pub how : a.how ≡ b.how
  pub state : Alike at a.state b.state

like_twice : (at : List ℕ → Type 0) (a b : Run) (rs qs : List Reply) → Like at a b → Enough a rs → Enough b qs → (finish b qs).taken ≡ (finish a rs).taken → Twice at (finish a rs) (finish b qs)
like_twice at (Ends h a) (Ends g b) rs qs t ea eb e = record { how = t.0; state = t.1 }
like_twice at (Asks js n) (Asks ks m) rs qs t ea eb e =
    let lb : length (take (length ks) qs) ≡ length ks = length-take-le (length ks) qs eb.0 in
    let la : length (take (length js) rs) ≡ length js = length-take-le (length js) rs ea.0 in
    let parts = same_front (take (length ks) qs) (take (length js) rs) _ _ (lb ∙ ap length (sym t.0) ∙ sym la) e in
    let on = like_twice at (n (take (length js) rs)) (m (take (length ks) qs)) (drop (length js) rs) (drop (length ks) qs)
    (subst (λ z. Like at (n (take (length js) rs)) (m z)) (sym parts.0) (t.1 (take (length js) rs))) ea.1 eb.1 parts.1 in
    record { how = on.how; state = on.state }
like_twice at _ _ rs qs t ea eb e = absurd t

-- ---- a test of one name

form_sets : (known : List (List ℕ)) (name : List ℕ) (after : Option (List ℕ) → State → State) (part : State → Run) (st now : State) (how : How) → IsTest known name after part → value_of st.vars name ≡ None → Form after name st how now → Sets (name ∷ []) st now
form_sets known name after part st now Goes_on test none w =
    let other : (n : List ℕ) → IsCached n → (name ≡ n → ⊥) → value_of now.vars n ≡ value_of st.vars n =
    λ n c ne. w.is.value n tt ∙ test.values (value_of w.mid.vars name) n w.mid c ∙ own_else name st w.mid n w.own ne in
    record {
      keeps = λ n v c e. other n c (λ same. let z : None ≡ Some v = sym none ∙ ap (value_of st.vars) same ∙ e in cc) ∙ e;
      others = λ n c no_name. other n c (λ same. no_name (inl same));
    }
form_sets known name after part st now _ test none w = sets_none (name ∷ []) st now w

test_sets : (known : List (List ℕ)) (name : List ℕ) (after : Option (List ℕ) → State → State) (part : State → Run) (st : State) (rs : List Reply) → IsTest known name after part → Sets (name ∷ []) st (finish (part st) rs).state
test_sets known name after part st rs test =
    ⊎_elim
    (λ none. form_sets known name after part st (finish (part st) rs).state (finish (part st) rs).how test none (at_end (Form after name st) (part st) rs (test.form st none)))
    (λ some.
    let o = test.set st some.0 some.1 in
    sets_none (name ∷ []) st (finish (part st) rs).state (λ n c. ap (λ x. value_of (finish x rs).state.vars n) o.run_is ∙ o.is.value n tt ∙ test.values (Some some.0) n st c))
    (cases_value (value_of st.vars name))

own_refl : (name : List ℕ) (st : State) → Own name st st
own_refl name st = record { others = λ n ne. refl; defs = refl }

-- A test that continued.
test_went : (known : List (List ℕ)) (name : List ℕ) (after : Option (List ℕ) → State → State) (part : State → Run) (st : State) (rs : List Reply) → IsTest known name after part → (finish (part st) rs).how ≡ Goes_on → Went after name st (finish (part st) rs).state
test_went known name after part st rs test is =
    ⊎_elim
    (λ none. let w : Form after name st Goes_on (finish (part st) rs).state = subst (λ h. Form after name st h (finish (part st) rs).state) is (at_end (Form after name st) (part st) rs (test.form st none)) in w)
    (λ some.
    let o = test.set st some.0 some.1 in
    record {
      mid = st;
      own = own_refl name st;
      is = subst (λ x. Alike Every (finish x rs).state (after (value_of st.vars name) st)) (sym o.run_is) (subst (λ v. Alike Every o.now (after v st)) (sym some.1) o.is);
    })
    (cases_value (value_of st.vars name))

one_near : (known : List (List ℕ)) (name : List ℕ) (after : Option (List ℕ) → State → State) (part : State → Run) (f s E f2 s2 mid : State) → IsTest known name after part → Near known f s E → (w : Went after name f f2) → Own name s mid → Alike Every s2 (after (value_of w.mid.vars name) mid)
    → value_of mid.vars name ≡ value_of w.mid.vars name → value_of w.mid.vars name ≡ value_of E.vars name → Near (name ∷ known) f2 s2 E
one_near known name after part f s E f2 s2 mid test near w own is same_value at_name =
    let o = value_of w.mid.vars name in
    let plain : Alike (MayRead (name ∷ known)) w.mid mid = record {
      defs = w.own.defs ∙ near.alike.defs ∙ sym own.defs;
      value = λ n r. ⊎_elim
          (λ same. subst (λ x. value_of w.mid.vars x ≡ value_of mid.vars x) same (sym same_value))
          (λ other. own_else name f w.mid n w.own other
          ∙ readable_same known f s E n near (⊎_elim (λ p. inl p) (λ a. ⊎_elim (λ e. absurd (other e)) (λ k. inr k) a) r)
          ∙ sym (own_else name s mid n own other))
          (same_or_not name n);
    } in
    let done = test.follow o w.mid mid plain in
    record {
      alike = record { defs = w.is.defs ∙ done.defs ∙ sym is.defs; value = λ n p. w.is.value n tt ∙ done.value n (inl p) ∙ sym (is.value n tt) };
      saved = λ n c.
          ⊎_elim
          (λ same. inl (is.value n tt ∙ test.values o n mid c ∙ subst (λ x. value_of mid.vars x ≡ value_of E.vars x) same (same_value ∙ at_name)))
          (λ other.
          let s_is = is.value n tt ∙ test.values o n mid c ∙ own_else name s mid n own other in
          let f_is = w.is.value n tt ∙ test.values o n w.mid c ∙ own_else name f w.mid n w.own other in
          ⊎_elim (λ e. inl (s_is ∙ e)) (λ h. inr (s_is ∙ h.0, (f_is ∙ h.1.0, h.1.1))) (near.saved n c))
          (same_or_not name n);
      known = λ n c a. w.is.value n tt ∙ test.values o n w.mid c
          ∙ ⊎_elim (λ same. subst (λ x. value_of w.mid.vars x ≡ value_of E.vars x) same at_name)
          (λ other. own_else name f w.mid n w.own other ∙ near.known n c (⊎_elim (λ x. absurd (other x)) (λ k. k) a)) (same_or_not name n);
    }

-- The second run makes the test too, and gets the same replies.
test_twin : (known later : List (List ℕ)) (name : List ℕ) (after : Option (List ℕ) → State → State) (part : State → Run) (p : Pair) (E : State) → IsTest known name after part → Near known p.first p.second E → Ready later E (part p.first) p.replies (part p.second) p.again → SameOne name part p → (is : (finish (part p.first) p.replies).how ≡ Goes_on)
    → value_of p.first.vars name ≡ None → value_of p.second.vars name ≡ None → saved_value name (value_of (finish (part p.first) p.replies).state.vars name) ≡ None → value_of (finish (part p.first) p.replies).state.vars name ≡ value_of E.vars name
    → Comes (name ∷ known) E (part p.first) p.replies (part p.second) p.again (both_past (finish (part p.first) p.replies) (finish (part p.second) p.again))
test_twin known later name after part p E test near ready same is fn sn lost at_end =
    let f = finish (part p.first) p.replies in
    let s = finish (part p.second) p.again in
    let w = test_went known name after part p.first p.replies test is in
    let at_f : value_of f.state.vars name ≡ value_of w.mid.vars name = w.is.value name tt ∙ test.values (value_of w.mid.vars name) name w.mid test.cached in
    let readable : Alike (MayRead (name ∷ known)) p.first p.second = record {
      defs = near.alike.defs;
      value = λ n r. ⊎_elim (λ q. near.alike.value n q)
          (λ a. ⊎_elim (λ e. subst (λ x. value_of p.first.vars x ≡ value_of p.second.vars x) e (fn ∙ sym sn)) (λ k. readable_same known p.first p.second E n near (inr k)) a) r;
    } in
    let two = like_twice (MayRead (name ∷ known)) (part p.first) (part p.second) p.replies p.again (test.twin p.first p.second readable) ready.enough ready.again (same is lost) in
    let w2 = test_went known name after part p.second p.again test (sym two.how ∙ is) in
    let mid_is : value_of w2.mid.vars name ≡ value_of w.mid.vars name = sym (test.values (value_of w2.mid.vars name) name w2.mid test.cached) ∙ sym (w2.is.value name tt) ∙ sym (two.state.value name (inr (inl refl))) ∙ at_f in
    passed (name ∷ known) E f s is (sym two.how ∙ is)
    (one_near known name after part p.first p.second E f.state s.state w2.mid test near w w2.own (subst (λ o. Alike Every s.state (after o w2.mid)) mid_is w2.is) mid_is (sym at_f ∙ at_end))

test_by : (known later : List (List ℕ)) (name : List ℕ) (after : Option (List ℕ) → State → State) (part : State → Run) (p : Pair) (E : State) (how : How) → IsTest known name after part → (Among name later → ⊥) ⊎ Settles name part → Near known p.first p.second E → Ready later E (part p.first) p.replies (part p.second) p.again → SameOne name part p → (finish (part p.first) p.replies).how ≡ how
    → Comes (name ∷ known) E (part p.first) p.replies (part p.second) p.again (joint_by how (finish (part p.first) p.replies) (finish (part p.second) p.again) p.again)
test_by known later name after part p E Cut test apart near ready same is =
    let f = finish (part p.first) p.replies in
    let ends : f.state ≡ E = subst (λ h. leads_by h later f.state E) is ready.leads in
    ⊎_elim
    (λ none.
    let kept : Still p.first f.state = subst (λ h. Form after name p.first h f.state) is (at_end (Form after name p.first) (part p.first) p.replies (test.form p.first none)) in
    let alike : Alike Every p.first p.second = record {
      defs = near.alike.defs;
      value = λ n a. ⊎_elim (λ c. ⊎_elim (λ e. sym (kept n c) ∙ ap (λ x. value_of x.vars n) ends ∙ sym e) (λ h. h.1.0 ∙ sym h.0) (near.saved n c)) (λ q. near.alike.value n q) (cases_Bool (is_cache_name n));
    } in
    (is, (like_enough Every (part p.first) (part p.second) p.again (test.every p.first p.second alike) ready.again, like_finish Every (part p.first) (part p.second) p.again (test.every p.first p.second alike))))
    (λ some. let z : Goes_on ≡ Cut = sym (ap (λ w. (finish w p.replies).how) (test.set p.first some.0 some.1).run_is) ∙ is in cc)
    (cases_value (value_of p.first.vars name))
test_by known later name after part p E Goes_on test apart near ready same is =
    let f = finish (part p.first) p.replies in
    let s = finish (part p.second) p.again in
    let ahead : Sets later f.state E = subst (λ h. leads_by h later f.state E) is ready.leads in
    let w = test_went known name after part p.first p.replies test is in
    let at_f : value_of f.state.vars name ≡ value_of w.mid.vars name = w.is.value name tt ∙ test.values (value_of w.mid.vars name) name w.mid test.cached in
    ⊎_elim
    (λ none.
    let fnone : value_of f.state.vars name ≡ None = at_f ∙ none in
    let en : value_of E.vars name ≡ None = ⊎_elim (λ far. ahead.others name test.cached far ∙ fnone)
    (λ settles. let set = at_end (λ how now. how ≡ Goes_on → IsSet name now.vars) (part p.first) p.replies (settles p.first) is in let z : None ≡ Some set.0 = sym fnone ∙ set.1 in cc) apart in
    let sn : value_of p.second.vars name ≡ None = ⊎_elim (λ e. e ∙ en) (λ h. h.0) (near.saved name test.cached) in
    let fn : value_of p.first.vars name ≡ None =
    ⊎_elim (λ x. x) (λ x. let z : None ≡ Some x.0 = sym fnone ∙ (test_sets known name after part p.first p.replies test).keeps name x.0 test.cached x.1 in cc) (cases_value (value_of p.first.vars name)) in
    test_twin known later name after part p E test near ready same is fn sn (ap (saved_value name) fnone) (fnone ∙ sym en))
    (λ some.
    let en : value_of E.vars name ≡ Some some.0 = ahead.keeps name some.0 test.cached (at_f ∙ some.1) in
    ⊎_elim
    (λ saved.
    let sv = saved ∙ en in
    let o = test.set p.second some.0 sv in
    passed (name ∷ known) E f s is (ap (λ x. (finish x p.again).how) o.run_is)
    (one_near known name after part p.first p.second E f.state s.state p.second test near w (own_refl name p.second)
    (subst (λ x. Alike Every (finish x p.again).state (after (value_of w.mid.vars name) p.second)) (sym o.run_is) (subst (λ v. Alike Every o.now (after v p.second)) (sym some.1) o.is)) (sv ∙ sym some.1) (some.1 ∙ sym en)))
    (λ h. test_twin known later name after part p E test near ready same is h.1.0 h.0 (ap (saved_value name) (at_f ∙ some.1 ∙ sym en) ∙ h.1.1) (at_f ∙ some.1 ∙ sym en))
    (near.saved name test.cached))
    (cases_value (value_of w.mid.vars name))
test_by known later name after part p E how test apart near ready same is = absurd (subst (λ h. leads_by h later (finish (part p.first) p.replies).state E) is ready.leads)

pub test_part : (known : List (List ℕ)) (name : List ℕ) (after : Option (List ℕ) → State → State) (part : State → Run) (fits : List (List ℕ) → Type 0) → IsTest known name after part → ((later : List (List ℕ)) → fits later → (Among name later → ⊥) ⊎ Settles name part) → IsPart known (name ∷ known) (name ∷ []) part (joint_one part) (SameOne name part) fits
test_part known name after part fits test apart = record {
  like = test.every;
  sets = λ st rs enough. test_sets known name after part st rs test;
  comes = λ later E p fit near ready same. test_by known later name after part p E (finish (part p.first) p.replies).how test (apart later fit) near ready same refl;
}
