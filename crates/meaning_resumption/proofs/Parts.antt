-- Parts of the statements, and what is made of them.
use Rattle.std.proofs.Common.{◌≡◌, ℕ, List, ◌++◌, Bool, true, false, cond, refl, sym, ap, ◌∙◌, subst, ⊎_elim}
use Rattle.std.proofs.lemmas.Bool.{cases_Bool}
use Rattle.crew_trait.specs.declared.reply.Reply.{Reply}
use Rattle.deftable.specs.CacheName.{is_cache_name}
use Rattle.deftable.specs.Table.{value_of}
use Rattle.ac_tree.specs.Resumable.{MayRead}
use Rattle.meaning.specs.State.{State, Scope, How, Goes_on, Completed, Stopped, Cut, Run, then_run}
use Rattle.meaning_resumption.specs.Finished.{Finished, finish, with_taken, Enough}
use Rattle.meaning_resumption.specs.Joint.{Joint, Past, Whole, Pair, in_front, joint_then}
use Rattle.meaning_resumption.specs.Same.{Chosen, AndThen}
use Rattle.meaning_resumption.proofs.Near.{Within, IsCached, Alike, Every, Like, follow, Near, Sets, leads_by, Leads, EndsAlike, Ready, Passes, Comes, IsPart}
use Rattle.meaning_resumption.proofs.Names.{among_left, among_right}
use Rattle.meaning_resumption.proofs.Runs.{finish_then, enough_first, enough_rest, finish_again, enough_again, enough_then}
use Rattle.meaning_resumption.proofs.Liking.{like_then, like_cond, with_both, like_finish, like_enough}

-- ---- names that may be set

pub sets_then : (a b : List (List ℕ)) (x y z : State) → Sets a x y → Sets b y z → Sets (a ++ b) x z
sets_then a b x y z p q = record {
  keeps = λ n v c e. q.keeps n v c (p.keeps n v c e);
  others = λ n c none. q.others n c (λ h. none (among_right n a b h)) ∙ p.others n c (λ h. none (among_left n a b h));
}

pub sets_wider : (a b : List (List ℕ)) (x y : State) → Within a b → Sets a x y → Sets b x y
sets_wider a b x y w p = record { keeps = p.keeps; others = λ n c none. p.others n c (λ h. none (w n h)) }

pub sets_none : (a : List (List ℕ)) (x y : State) → ((n : List ℕ) → IsCached n → value_of y.vars n ≡ value_of x.vars n) → Sets a x y
sets_none a x y e = record { keeps = λ n v c h. e n c ∙ h; others = λ n c none. e n c }

sets_follow : (a b : List (List ℕ)) (st : State) (how : How) (f : Finished) (k : State → Run) → f.how ≡ how → Sets a st f.state → (f.how ≡ Goes_on → Sets b f.state (finish (k f.state) f.left).state) → Sets (a ++ b) st (follow how f k).state
sets_follow a b st Goes_on f k e p q = sets_then a b st f.state _ p (q e)
sets_follow a b st _ f k e p q = sets_wider a (a ++ b) st f.state (λ n h. among_left n a b h) p

sets_run : (a b : List (List ℕ)) (st : State) (run : Run) (k : State → Run) (rs : List Reply) → Enough (then_run run k) rs → Sets a st (finish run rs).state → ((now : State) (qs : List Reply) → Enough (k now) qs → Sets b now (finish (k now) qs).state) → Sets (a ++ b) st (finish (then_run run k) rs).state
sets_run a b st run k rs enough p q =
    subst (λ f. Sets (a ++ b) st f.state) (sym (finish_then run k rs)) (sets_follow a b st (finish run rs).how (finish run rs) k refl p (λ on. q (finish run rs).state (finish run rs).left (enough_rest run k rs enough on)))

-- ---- what is ahead

ahead_by : (names later : List (List ℕ)) (E : State) (how : How) (st now : State) → Sets names st now → leads_by how later now E → Sets (names ++ later) st E
ahead_by names later E Goes_on st now s h = sets_then names later st now E s h
ahead_by names later E Cut st now s h = subst (λ x. Sets (names ++ later) st x) h (sets_wider names (names ++ later) st now (λ n k. among_left n names later k) s)
ahead_by names later E _ st now s h = absurd h

leads_follow : (later names : List (List ℕ)) (E : State) (how : How) (f : Finished) (k : State → Run) → f.how ≡ how → Leads later (follow how f k) E → (f.how ≡ Goes_on → Sets names f.state (finish (k f.state) f.left).state) → leads_by how (names ++ later) f.state E
leads_follow later names E Goes_on f k e h s = ahead_by names later E _ f.state _ (s e) h
leads_follow later names E _ f k e h s = subst (λ x. leads_by x later f.state E) e h

follow_cut : (how : How) (f : Finished) (k : State → Run) → how ≡ Cut → f.how ≡ how → (follow how f k).how ≡ Cut
follow_cut Cut f k e h = h
follow_cut _ f k e h = cc

ready_first : (later names : List (List ℕ)) (E : State) (a b : Run) (k : State → Run) (rs qs : List Reply) → Ready later E (then_run a k) rs (then_run b k) qs → ((st : State) (ts : List Reply) → Enough (k st) ts → Sets names st (finish (k st) ts).state) → Ready (names ++ later) E a rs b qs
ready_first later names E a b k rs qs h s = record {
  enough = enough_first a k rs h.enough;
  again = enough_first b k qs h.again;
  leads = leads_follow later names E (finish a rs).how (finish a rs) k refl (subst (λ f. Leads later f E) (finish_then a k rs) h.leads) (λ on. s (finish a rs).state (finish a rs).left (enough_rest a k rs h.enough on));
  uncut = λ cut. h.uncut (ap (λ f. f.how) (finish_then b k qs) ∙ follow_cut (finish b qs).how (finish b qs) k cut refl);
}

went : (f : Finished) (t : List Reply) (st : State) (l : List Reply) (k : State → Run) → f.how ≡ Goes_on → f.state ≡ st → f.left ≡ l → f.taken ≡ t → follow f.how f k ≡ with_taken t (finish (k st) l)
went f t st l k h s e t2 =
    ap (λ x. follow x f k) h ∙ ap (λ x. with_taken x (finish (k f.state) f.left)) t2 ∙ ap (λ x. with_taken t (finish (k x) f.left)) s ∙ ap (λ x. with_taken t (finish (k st) x)) e

ready_rest : (later seen : List (List ℕ)) (E : State) (a b : Run) (k : State → Run) (rs qs taken : List Reply) (p : Pair) → Ready later E (then_run a k) rs (then_run b k) qs → Passes seen E (finish a rs) (finish b qs) taken p → Ready later E (k p.first) p.replies (k p.second) p.again
ready_rest later seen E a b k rs qs taken p h passes =
    let eqa = finish_then a k rs ∙ went (finish a rs) taken p.first p.replies k passes.first passes.state passes.left passes.took in
    let eqb = finish_then b k qs ∙ went (finish b qs) (finish b qs).taken p.second p.again k passes.second passes.state2 passes.left2 refl in
    record {
      enough = subst (λ x. Enough (k p.first) x) passes.left (subst (λ x. Enough (k x) (finish a rs).left) passes.state (enough_rest a k rs h.enough passes.first));
      again = subst (λ x. Enough (k p.second) x) passes.left2 (subst (λ x. Enough (k x) (finish b qs).left) passes.state2 (enough_rest b k qs h.again passes.second));
      leads = subst (λ f. Leads later f E) eqa h.leads;
      uncut = λ cut. h.uncut (ap (λ f. f.how) eqb ∙ cut);
    }

front : (seen mid : List (List ℕ)) (E : State) (a b : Run) (k : State → Run) (rs qs taken : List Reply) (p : Pair) (j : Joint) → Enough a rs → Passes mid E (finish a rs) (finish b qs) taken p → Comes seen E (k p.first) p.replies (k p.second) p.again j → Comes seen E (then_run a k) rs (then_run b k) qs (in_front taken j)
front seen mid E a b k rs qs taken p (Past t q) enough passes h =
    let eqa = finish_then a k rs ∙ went (finish a rs) taken p.first p.replies k passes.first passes.state passes.left passes.took in
    let eqb = finish_then b k qs ∙ went (finish b qs) (finish b qs).taken p.second p.again k passes.second passes.state2 passes.left2 refl in
    record {
      first = ap (λ f. f.how) eqa ∙ h.first;
      state = ap (λ f. f.state) eqa ∙ h.state;
      left = ap (λ f. f.left) eqa ∙ h.left;
      took = ap (λ f. f.taken) eqa ∙ ap (λ l. taken ++ l) h.took;
      second = ap (λ f. f.how) eqb ∙ h.second;
      state2 = ap (λ f. f.state) eqb ∙ h.state2;
      left2 = ap (λ f. f.left) eqb ∙ h.left2;
      near = h.near;
    }
front seen mid E a b k rs qs taken p (Whole w) enough passes h =
    let eqa = finish_then a k rs ∙ went (finish a rs) taken p.first p.replies k passes.first passes.state passes.left passes.took in
    let eqb = finish_then b k qs ∙ went (finish b qs) (finish b qs).taken p.second p.again k passes.second passes.state2 passes.left2 refl in
    let same = ap (λ t. finish a (t ++ w)) (sym passes.took) ∙ finish_again a rs w enough in
    let state = ap (λ f. f.state) same ∙ passes.state in
    let eqc : finish (then_run a k) (taken ++ w) ≡ with_taken taken (finish (k p.first) w) =
    finish_then a k (taken ++ w) ∙ went (finish a (taken ++ w)) taken p.first w k (ap (λ f. f.how) same ∙ passes.first) state (ap (λ f. f.left) same) (ap (λ f. f.taken) same ∙ passes.took) in
    let first_enough : Enough a (taken ++ w) = subst (λ t. Enough a (t ++ w)) passes.took (enough_again a rs w enough) in (
      ap (λ f. f.how) eqa ∙ h.0,
      (
        enough_then a k (taken ++ w) first_enough
            (λ on. subst (λ x. Enough (k x) (finish a (taken ++ w)).left) (sym state) (subst (λ l. Enough (k p.first) l) (sym (ap (λ f. f.left) same)) h.1.0)),
        subst (λ x. EndsAlike x (finish (then_run b k) qs)) (sym eqc)
            (subst (λ y. EndsAlike (with_taken taken (finish (k p.first) w)) y) (sym eqb) (with_both Every taken (finish b qs).taken _ _ h.1.1)),
      ),
    )

follow_alike : (x y : How) (f g : Finished) (k : State → Run) → x ≡ y → EndsAlike f g → ((s t : State) → Alike Every s t → Like Every (k s) (k t)) → EndsAlike (follow x f k) (follow y g k)
follow_alike Goes_on Goes_on f g k e h ext =
    with_both Every f.taken g.taken _ _ (subst (λ l. EndsAlike (finish (k f.state) f.left) (finish (k g.state) l)) h.left (like_finish Every (k f.state) (k g.state) f.left (ext f.state g.state h.state)))
follow_alike Completed Completed f g k e h ext = h
follow_alike (Stopped n) (Stopped m) f g k e h ext = h
follow_alike Cut Cut f g k e h ext = h
follow_alike _ _ f g k e h ext = cc

comes_then : (seen mid : List (List ℕ)) (E : State) (a b : Run) (k : State → Run) (rs qs : List Reply) (j : Joint) (rest : Pair → Joint) → Enough a rs → Enough (then_run b k) qs → ((s t : State) → Alike Every s t → Like Every (k s) (k t)) → Comes mid E a rs b qs j → ((taken : List Reply) (p : Pair) → j ≡ Past taken p → Passes mid E (finish a rs) (finish b qs) taken p → Comes seen E (k p.first) p.replies (k p.second) p.again (rest p)) → Comes seen E (then_run a k) rs (then_run b k) qs (joint_then j rest)
comes_then seen mid E a b k rs qs (Past taken p) rest enough again ext h next =
    front seen mid E a b k rs qs taken p (rest p) enough h (next taken p refl h)
comes_then seen mid E a b k rs qs (Whole w) rest enough again ext h next =
    let ends = h.1.1 in (
      ap (λ f. f.how) (finish_then a k rs) ∙ follow_cut (finish a rs).how (finish a rs) k h.0 refl,
      (
        enough_then a k w h.1.0
            (λ on. like_enough Every (k (finish a w).state) (k (finish b qs).state) (finish a w).left (ext (finish a w).state (finish b qs).state ends.state)
            (subst (λ l. Enough (k (finish b qs).state) l) (sym ends.left) (enough_rest b k qs again (sym ends.how ∙ on)))),
        subst (λ x. EndsAlike x (finish (then_run b k) qs)) (sym (finish_then a k w))
            (subst (λ y. EndsAlike (follow (finish a w).how (finish a w) k) y) (sym (finish_then b k qs))
            (follow_alike (finish a w).how (finish b qs).how (finish a w) (finish b qs) k ends.how ends ext)),
      ),
    )

and_then : (j : Joint) (P : Pair → Type 0) (taken : List Reply) (p : Pair) → j ≡ Past taken p → AndThen j P → P p
and_then j P taken p e h = let x : AndThen (Past taken p) P = subst (λ y. AndThen y P) e h in x

-- ---- one part after the other

pub part_then : (before mid after n1 n2 : List (List ℕ)) (a b : State → Run) (ja jb : Pair → Joint) (sa sb : Pair → Type 0) (fa fb : List (List ℕ) → Type 0) → IsPart before mid n1 a ja sa fa → IsPart mid after n2 b jb sb fb
    → IsPart before after (n1 ++ n2) (λ st. then_run (a st) b) (λ p. joint_then (ja p) jb) (λ p. sa p × AndThen (ja p) sb) (λ later. fa (n2 ++ later) × fb later)
part_then before mid after n1 n2 a b ja jb sa sb fa fb x y = record {
  like = λ s t h. like_then Every (a s) (a t) b b (x.like s t h) y.like;
  sets = λ st rs enough. sets_run n1 n2 st (a st) b rs enough (x.sets st rs (enough_first (a st) b rs enough)) y.sets;
  comes = λ later E p fits near ready same.
      let first_ready = ready_first later n2 E (a p.first) (a p.second) b p.replies p.again ready y.sets in
      comes_then after mid E (a p.first) (a p.second) b p.replies p.again (ja p) jb first_ready.enough ready.again y.like
      (x.comes (n2 ++ later) E p fits.0 near first_ready same.0)
      (λ taken q is passes. y.comes later E q fits.1 passes.near (ready_rest later mid E (a p.first) (a p.second) b p.replies p.again taken q ready passes) (and_then (ja p) sb taken q is same.1));
}

near_less : (seen more : List (List ℕ)) (f s E : State) → Within seen more → Near more f s E → Near seen f s E
near_less seen more f s E w h = record { alike = h.alike; saved = h.saved; known = λ n c a. h.known n c (w n a) }

comes_less : (seen more : List (List ℕ)) (E : State) (a b : Run) (rs qs : List Reply) (j : Joint) → Within seen more → Comes more E a rs b qs j → Comes seen E a rs b qs j
comes_less seen more E a b rs qs (Past taken p) w h = record { first = h.first; state = h.state; left = h.left; took = h.took; second = h.second; state2 = h.state2; left2 = h.left2; near = near_less seen more p.first p.second E w h.near }
comes_less seen more E a b rs qs (Whole x) w h = h

-- less is known after it, more is given, and more names may be set
pub part_less : (before after less names more : List (List ℕ)) (a : State → Run) (j : Pair → Joint) (s s2 : Pair → Type 0) (f f2 : List (List ℕ) → Type 0) → Within less after → Within names more → ((p : Pair) → s2 p → s p) → ((later : List (List ℕ)) → f2 later → f later) → IsPart before after names a j s f
    → IsPart before less more a j s2 f2
part_less before after less names more a j s s2 f f2 w v sames fits x = record {
  like = x.like;
  sets = λ st rs enough. sets_wider names more st _ v (x.sets st rs enough);
  comes = λ later E p h near ready same. comes_less less after E (a p.first) (a p.second) p.replies p.again (j p) w (x.comes later E p (fits later h) near ready (sames p same));
}

-- the same runs
pub part_is : (before after names : List (List ℕ)) (a b : State → Run) (j : Pair → Joint) (s : Pair → Type 0) (f : List (List ℕ) → Type 0) → ((st : State) → a st ≡ b st) → IsPart before after names a j s f → IsPart before after names b j s f
part_is before after names a b j s f e x = record {
  like = λ u t h. subst (λ z. Like Every z (b t)) (e u) (subst (λ z. Like Every (a u) z) (e t) (x.like u t h));
  sets = λ st rs enough. subst (λ z. Sets names st (finish z rs).state) (e st) (x.sets st rs (subst (λ z. Enough z rs) (sym (e st)) enough));
  comes = λ later E p fits near ready same.
      subst (λ z. Comes after E z p.replies (b p.second) p.again (j p)) (e p.first)
      (subst (λ z. Comes after E (a p.first) p.replies z p.again (j p)) (e p.second)
      (x.comes later E p fits near
      (subst (λ z. Ready later E z p.replies (a p.second) p.again) (sym (e p.first)) (subst (λ z. Ready later E (b p.first) p.replies z p.again) (sym (e p.second)) ready)) same));
}

-- ---- a choice that both runs make alike

if_sets : (n m : List (List ℕ)) (b : Bool) (st : State) (x y : Run) (rs : List Reply) → Enough (cond b x y) rs → (Enough x rs → Sets n st (finish x rs).state) → (Enough y rs → Sets m st (finish y rs).state) → Sets (n ++ m) st (finish (cond b x y) rs).state
if_sets n m true st x y rs e p q = sets_wider n (n ++ m) st _ (λ k h. among_left k n m h) (p e)
if_sets n m false st x y rs e p q = sets_wider m (n ++ m) st _ (λ k h. among_right k n m h) (q e)

if_comes : (later seen : List (List ℕ)) (E : State) (b c : Bool) (a1 a2 b1 b2 : Run) (rs qs : List Reply) (j1 j2 : Joint) (S1 S2 : Type 0) → b ≡ c → Ready later E (cond b a1 a2) rs (cond c b1 b2) qs → Chosen b S1 S2
    → (Ready later E a1 rs b1 qs → S1 → Comes seen E a1 rs b1 qs j1) → (Ready later E a2 rs b2 qs → S2 → Comes seen E a2 rs b2 qs j2) → Comes seen E (cond b a1 a2) rs (cond c b1 b2) qs (cond b j1 j2)
if_comes later seen E true true a1 a2 b1 b2 rs qs j1 j2 S1 S2 e ready s x y = x ready s
if_comes later seen E false false a1 a2 b1 b2 rs qs j1 j2 S1 S2 e ready s x y = y ready s
if_comes later seen E _ _ a1 a2 b1 b2 rs qs j1 j2 S1 S2 e ready s x y = cc

pub part_if : (before after n m : List (List ℕ)) (b : State → Bool) (x y : State → Run) (jx jy : Pair → Joint) (sx sy : Pair → Type 0) (fx fy : List (List ℕ) → Type 0)
    → ((s t : State) → Alike Every s t → b s ≡ b t) → ((E : State) (p : Pair) → Near before p.first p.second E → b p.first ≡ b p.second) → IsPart before after n x jx sx fx → IsPart before after m y jy sy fy
    → IsPart before after (n ++ m) (λ st. cond (b st) (x st) (y st)) (λ p. cond (b p.first) (jx p) (jy p)) (λ p. Chosen (b p.first) (sx p) (sy p)) (λ later. fx later × fy later)
part_if before after n m b x y jx jy sx sy fx fy every nears px py = record {
  like = λ s t h. like_cond Every (b s) (b t) (x s) (x t) (y s) (y t) (every s t h) (px.like s t h) (py.like s t h);
  sets = λ st rs enough. if_sets n m (b st) st (x st) (y st) rs enough (px.sets st rs) (py.sets st rs);
  comes = λ later E p fits near ready same.
      if_comes later after E (b p.first) (b p.second) (x p.first) (y p.first) (x p.second) (y p.second) p.replies p.again (jx p) (jy p) (sx p) (sy p) (nears E p near) ready same
      (λ r s. px.comes later E p fits.0 near r s) (λ r s. py.comes later E p fits.1 near r s);
}

-- a scope that both runs come to alike
pub part_scope : (before after names : List (List ℕ)) (scope : State → Scope) (go : Scope → State → Run) (j : Scope → Pair → Joint) (s : Scope → Pair → Type 0) (f : List (List ℕ) → Type 0)
    → ((x y : State) → Alike Every x y → scope x ≡ scope y) → ((E : State) (p : Pair) → Near before p.first p.second E → scope p.first ≡ scope p.second) → ((c : Scope) → IsPart before after names (go c) (j c) (s c) f)
    → IsPart before after names (λ st. go (scope st) st) (λ p. j (scope p.first) p) (λ p. s (scope p.first) p) f
part_scope before after names scope go j s f every nears parts = record {
  like = λ x y h. subst (λ c. Like Every (go (scope x) x) (go c y)) (every x y h) ((parts (scope x)).like x y h);
  sets = λ st rs enough. (parts (scope st)).sets st rs enough;
  comes = λ later E p fits near ready same.
      let e = nears E p near in
      subst (λ c. Comes after E (go (scope p.first) p.first) p.replies (go c p.second) p.again (j (scope p.first) p)) e
      ((parts (scope p.first)).comes later E p fits near (subst (λ c. Ready later E (go (scope p.first) p.first) p.replies (go c p.second) p.again) (sym e) ready) same);
}

-- a readable name has the same value in both runs
pub readable_same : (known : List (List ℕ)) (f s E : State) (n : List ℕ) → Near known f s E → MayRead known n → value_of f.vars n ≡ value_of s.vars n
readable_same known f s E n near r =
    ⊎_elim (λ p. near.alike.value n p)
    (λ a. ⊎_elim (λ c. ⊎_elim (λ e. near.known n c a ∙ sym e) (λ h. h.1.0 ∙ sym h.0) (near.saved n c)) (λ p. near.alike.value n p) (cases_Bool (is_cache_name n))) r
