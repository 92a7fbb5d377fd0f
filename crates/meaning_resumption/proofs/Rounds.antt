-- Choices as parts: their beginnings, and their rounds.
use Rattle.std.proofs.Common.{◌≡◌, ℕ, List, [], ◌∷◌, ◌++◌, Bool, true, false, Option, Some, None, ◌⊎◌, inl, inr, refl, sym, ap, ◌∙◌, subst, ⊎_elim, map}
use Rattle.std.specs.Prelude.{is_some, option_to_list}
use Rattle.deftable.specs.CacheName.{is_cache_name, has_cv}
use Rattle.deftable.specs.Table.{value_of}
use Rattle.shellword.specs.declared.part.Part.{Part}
use Rattle.ac_tree.specs.declared.feature.OptionKind.{OptionKind}
use Rattle.ac_tree.specs.declared.feature.OptionKind.TheVariants.{Feature, Package}
use Rattle.ac_tree.specs.declared.listed.Sought.{Sought}
use Rattle.ac_tree.specs.declared.statement.Question.TheVariants as questions
use Rattle.ac_tree.specs.declared.statement.Question.TheVariants.{Given, Tries, Checks, ChecksEach}
use Rattle.ac_tree.specs.declared.tree.Subject.{Subject}
use Rattle.ac_tree.specs.declared.tree.Subject.TheVariants.{Nothing, Word, Asked}
use Rattle.ac_tree.specs.Resumable.{Among, IsOrdinary, MayRead, ReadsAll, tests_at, first_alone, ResumableSubject}
use Rattle.ac_tree.specs.TestNames.{sought_name}
use Rattle.meaning.specs.State.{State, Scope, answered, about, with_variable, Run, then_run, as_is}
use Rattle.meaning.specs.Tests.{tested}
use Rattle.test_forms.specs.Macros.{library_form, search_form}
use Rattle.meaning.specs.Forms.{FormTest, form_name, form_used, says_found}
use Rattle.meaning.specs.Entries.{sought_form, sought_test, library_test, search_test}
use Rattle.meaning.specs.Rows.{Formed, row_of}
use Rattle.meaning.specs.Meaning.{value_name, after_option, found_by, after_subject, rounds_of, in_turn}
use Rattle.meaning_laws.proofs.Values.{value_here}
use Rattle.meaning_laws.proofs.Statements.{ended_as_is}
use Rattle.meaning_resumption.specs.Alone.{tested_rounds, AloneAt, AloneRounds}
use Rattle.meaning_resumption.specs.Joint.{Joint, Pair, joint_then, joint_one, given_then, begins_test, begins, scope_at, joint_rounds}
use Rattle.meaning_resumption.specs.Same.{AndThen, SameOne, SameAt, SameRounds}
use Rattle.meaning_resumption.proofs.Near.{Within, IsCached, Alike, Every, IsPart}
use Rattle.meaning_laws.proofs.Names.{form_cached}
use Rattle.meaning_resumption.proofs.Names.{same_or_not, among_left, among_right, among_wider, value_else, sought_named}
use Rattle.meaning_resumption.proofs.Liking.{Reads, wider_reads, variable_alike, text_same}
use Rattle.meaning_resumption.proofs.Forms.{formed_settles, row_test}
use Rattle.meaning_resumption.proofs.Parts.{part_then, part_is, part_scope}
use Rattle.meaning_resumption.proofs.Single.{all_readable, still_part, test_part}
use Rattle.meaning_resumption.proofs.Statements.{id_part, write_values, may_assign}

-- ---- the beginning of a round

-- A round asks about one entry at most.
abbrev pub IsRound : Subject → Type 0
IsRound (Asked (ChecksEach sought (a ∷ b ∷ more) includes)) = ⊥
IsRound subject = Unit {0}

value_plain : (kind : OptionKind) → IsOrdinary (value_name kind)
unfolding is_cache_name has_cv
value_plain Feature = refl
value_plain Package = refl

given_alike : (at : List ℕ → Type 0) (kind : OptionKind) (o : Option (List ℕ)) (s t : State) → Alike at s t → Alike at (given_then kind o s) (given_then kind o t)
given_alike at kind None s t h = h
given_alike at kind (Some v) s t h = variable_alike at (value_name kind) v s t h

given_same : (at : List ℕ → Type 0) (kind : OptionKind) (variable : List ℕ) (s t : State) → at variable → Alike at s t → Alike at (given_then kind (value_of s.vars variable) s) (given_then kind (value_of t.vars variable) t)
given_same at kind variable s t a h =
    subst (λ o. Alike at (given_then kind (value_of s.vars variable) s) (given_then kind o t)) (h.value variable a) (given_alike at kind (value_of s.vars variable) s t h)

given_values : (kind : OptionKind) (o : Option (List ℕ)) (n : List ℕ) (st : State) → IsCached n → value_of (given_then kind o st).vars n ≡ value_of st.vars n
given_values kind None n st c = refl
given_values kind (Some v) n st c = write_values (value_name kind) v n st (value_plain kind) c

form_part : (tested_before known : List (List ℕ)) (t : FormTest) (fits : List (List ℕ) → Type 0) → Within tested_before known → ReadsAll tested_before (option_to_list t.given)
    → IsPart known (form_name t.form ∷ known) (form_name t.form ∷ []) (begins_test (Some t)) (joint_one (begins_test (Some t))) (SameOne (form_name t.form) (begins_test (Some t))) fits
form_part tested_before known t fits w r =
    let c = form_cached t.form in
    test_part known (form_name t.form) (form_used t.form) (begins_test (Some t)) fits (row_test tested_before known (Formed t) w c tt r) (λ later f. inr (formed_settles t c))

sought_part : (tested_before known : List (List ℕ)) (sought : Sought) (entry : List ℕ) (includes : Option (List Part)) (defines : Bool) (fits : List (List ℕ) → Type 0) → Within tested_before known → ReadsAll tested_before (option_to_list includes)
    → (let t = sought_test sought entry includes defines in
    IsPart known (sought_name sought entry ∷ known) (sought_name sought entry ∷ []) (begins_test (Some t)) (joint_one (begins_test (Some t))) (SameOne (form_name t.form) (begins_test (Some t))) fits)
sought_part tested_before known sought entry includes defines fits w r =
    let t = sought_test sought entry includes defines in
    subst (λ name. IsPart known (name ∷ known) (name ∷ []) (begins_test (Some t)) (joint_one (begins_test (Some t))) (SameOne (form_name t.form) (begins_test (Some t))) fits) (sought_named sought entry defines)
    (form_part tested_before known t fits w r)

begin_part : (tested_before known : List (List ℕ)) (r : Subject) (fits : List (List ℕ) → Type 0) → Within tested_before known → IsRound r → ResumableSubject None tested_before r
    → IsPart known (tests_at r ++ known) (tests_at r) (begins r) (joint_one (begins r)) (SameAt r) fits
unfolding begins
begin_part tested_before known Nothing fits w one h = id_part known fits
begin_part tested_before known (Word word) fits w one h = id_part known fits
begin_part tested_before known (Asked (Given kind variable)) fits w one h =
    still_part tested_before known (λ st. given_then kind (value_of st.vars variable) st) fits w
    (λ at reads s t a. given_same at kind variable s t (reads variable (inl (may_assign variable h.1.0))) a)
    (λ n st c. given_values kind (value_of st.vars variable) n st c)
begin_part tested_before known (Asked (Tries kind program)) fits w one h = absurd h.0
begin_part tested_before known (Asked (Checks sought entry includes)) fits w one h = sought_part tested_before known sought entry includes false fits w h.1.1
begin_part tested_before known (Asked (ChecksEach sought [] includes)) fits w one h = id_part known fits
begin_part tested_before known (Asked (ChecksEach sought (entry ∷ []) includes)) fits w one h = sought_part tested_before known sought entry includes true fits w h.1.1
begin_part tested_before known (Asked (ChecksEach sought (a ∷ b ∷ more) includes)) fits w one h = absurd one
begin_part tested_before known (Asked (questions.Library library function others adds)) fits w one h =
    form_part tested_before known (library_test library function others adds) fits w h.1.1
begin_part tested_before known (Asked (questions.Libraries function libraries others)) fits w one h =
    form_part tested_before known (search_test function libraries others) fits w h.1.1

-- ---- what a choice is about

sought_same : (at : List ℕ → Type 0) (sought : Sought) (entry : List ℕ) (defines : Bool) (x y : State) → at (sought_name sought entry) → Alike at x y
    → (let f = sought_form sought entry defines in says_found f.says (value_of x.vars (form_name f)) ≡ says_found f.says (value_of y.vars (form_name f)))
sought_same at sought entry defines x y own a =
    let f = sought_form sought entry defines in
    ap (says_found f.says) (a.value (form_name f) (subst at (sym (sought_named sought entry defines)) own))

scope_same : (at : List ℕ → Type 0) (names : List (List ℕ)) (r : Subject) (x y : State) → Reads at names → ((n : List ℕ) → Among n (tests_at r) → at n) → IsRound r → ResumableSubject None names r → Alike at x y → scope_at r x ≡ scope_at r y
unfolding scope_at
scope_same at names Nothing x y reads own one h a = refl
scope_same at names (Word word) x y reads own one h a = ap about (text_same at names word x y reads h a)
scope_same at names (Asked (Given kind variable)) x y reads own one h a = ap (λ o. answered (is_some o)) (a.value variable (reads variable (inl (may_assign variable h.1.0))))
scope_same at names (Asked (Tries kind program)) x y reads own one h a = refl
scope_same at names (Asked (Checks sought entry includes)) x y reads own one h a = ap answered (sought_same at sought entry false x y (own (sought_name sought entry) (inl refl)) a)
scope_same at names (Asked (ChecksEach sought [] includes)) x y reads own one h a = refl
scope_same at names (Asked (ChecksEach sought (entry ∷ more) includes)) x y reads own one h a = ap answered (sought_same at sought entry true x y (own (sought_name sought entry) (inl refl)) a)
scope_same at names (Asked (questions.Library library function others adds)) x y reads own one h a = ap (λ o. answered (says_found (library_form library function adds).says o)) (a.value _ (own _ (inl refl)))
scope_same at names (Asked (questions.Libraries function libraries others)) x y reads own one h a = ap (λ o. answered (says_found (search_form function libraries).says o)) (a.value _ (own _ (inl refl)))

given_begun : (kind : OptionKind) (variable : List ℕ) (o : Option (List ℕ)) (st : State) (go : Scope → State → Run) → value_of st.vars variable ≡ o → after_option o kind st go ≡ go (answered (is_some (value_of (given_then kind o st).vars variable))) (given_then kind o st)
given_begun kind variable None st go e = ap (λ o. go (answered (is_some o)) st) (sym e)
given_begun kind variable (Some v) st go e = ap (λ b. go (answered b) (with_variable (value_name kind) v st)) (sym (by_name (same_or_not (value_name kind) variable)))
  where
    by_name : (value_name kind ≡ variable) ⊎ (value_name kind ≡ variable → ⊥) → is_some (value_of (with_variable (value_name kind) v st).vars variable) ≡ true
    by_name (inl same) = ap is_some (ap (value_of (with_variable (value_name kind) v st).vars) (sym same) ∙ value_here st.vars (value_name kind) v)
    by_name (inr other) = ap is_some (value_else st.vars (value_name kind) v variable other ∙ e)

test_begun : (t : FormTest) (st : State) (go : Scope → State → Run) → then_run (tested (row_of (Formed t) st) st) (λ now. go (answered (says_found t.form.says (value_of now.vars (form_name t.form)))) now) ≡ found_by as_is t st go
test_begun t st go = ap (λ run. then_run run (λ now. go (answered (says_found t.form.says (value_of now.vars (form_name t.form)))) now)) (sym (ended_as_is (tested (row_of (Formed t) st) st)))

begun_is : (names : List (List ℕ)) (r : Subject) (st : State) (go : Scope → State → Run) → ResumableSubject None names r → then_run (begins r st) (λ now. go (scope_at r now) now) ≡ after_subject as_is r st go
unfolding begins scope_at after_subject
begun_is names Nothing st go h = refl
begun_is names (Word word) st go h = refl
begun_is names (Asked (Given kind variable)) st go h = sym (given_begun kind variable (value_of st.vars variable) st go refl)
begun_is names (Asked (Tries kind program)) st go h = absurd h.0
begun_is names (Asked (Checks sought entry includes)) st go h = test_begun (sought_test sought entry includes false) st go
begun_is names (Asked (ChecksEach sought [] includes)) st go h = refl
begun_is names (Asked (ChecksEach sought (entry ∷ more) includes)) st go h = test_begun (sought_test sought entry includes true) st go
begun_is names (Asked (questions.Library library function others adds)) st go h = test_begun (library_test library function others adds) st go
begun_is names (Asked (questions.Libraries function libraries others)) st go h = test_begun (search_test function libraries others) st go

-- ---- rounds

round_part : (tested_before known inside : List (List ℕ)) (r : Subject) (go : Scope → State → Run) (jgo : Scope → Pair → Joint) (sgo : Scope → Pair → Type 0) (fgo : List (List ℕ) → Type 0) → Within tested_before known → IsRound r → ResumableSubject None tested_before r
    → ((c : Scope) → IsPart (tests_at r ++ known) (tests_at r ++ known) inside (go c) (jgo c) (sgo c) fgo)
    → IsPart known (tests_at r ++ known) (tests_at r ++ inside) (λ st. after_subject as_is r st go) (λ p. joint_then (joint_one (begins r) p) (λ q. jgo (scope_at r q.first) q)) (λ p. SameAt r p × AndThen (joint_one (begins r) p) (λ q. sgo (scope_at r q.first) q)) (λ later. AloneAt r (inside ++ later) × fgo later)
round_part tested_before known inside r go jgo sgo fgo w one h inner =
    let more = tests_at r ++ known in
    part_is known more (tests_at r ++ inside) (λ st. then_run (begins r st) (λ now. go (scope_at r now) now)) (λ st. after_subject as_is r st go) _ _ _ (λ st. begun_is tested_before r st go h)
    (part_then known more more (tests_at r) inside (begins r) (λ now. go (scope_at r now) now) (joint_one (begins r)) (λ q. jgo (scope_at r q.first) q) (SameAt r) (λ q. sgo (scope_at r q.first) q) (AloneAt r) fgo
    (begin_part tested_before known r (AloneAt r) w one h)
    (part_scope more more inside (scope_at r) go jgo sgo fgo
    (λ x y a. scope_same Every tested_before r x y (λ n k. tt) (λ n k. tt) one h a)
    (λ E p near. scope_same (MayRead more) tested_before r p.first p.second (λ n k. wider_reads tested_before more (λ m a. among_right m (tests_at r) known (w m a)) n k) (λ n a. inr (among_left n (tests_at r) known a)) one h (all_readable more p.first p.second E near))
    inner))

-- The names that were tested after all rounds, and the name that the first one tests.
abbrev pub after_rounds : List Subject → List (List ℕ) → List (List ℕ)
after_rounds [] known = known
after_rounds (r ∷ rs) known = after_rounds rs (tests_at r ++ known)

abbrev pub first_at : List Subject → List (List ℕ)
first_at [] = []
first_at (r ∷ rs) = tests_at r

-- Each is a round, and keeps the rules.
abbrev pub AllRounds : List (List ℕ) → List Subject → Type 0
AllRounds names [] = Unit {0}
AllRounds names (r ∷ rs) = (IsRound r × ResumableSubject None names r) × AllRounds names rs

one_turn : (tested_before known inside : List (List ℕ)) (r : Subject) (rs : List Subject) (go : Scope → State → Run) (jgo : Scope → Pair → Joint) (sgo : Scope → Pair → Type 0) (fgo : List (List ℕ) → Type 0) → Within tested_before known → IsRound r → ResumableSubject None tested_before r
    → ((c : Scope) → IsPart (tests_at r ++ known) (tests_at r ++ known) inside (go c) (jgo c) (sgo c) fgo)
    → IsPart (tests_at r ++ known) (after_rounds rs (tests_at r ++ known)) (tested_rounds rs inside) (in_turn rs go) (joint_rounds rs jgo) (SameRounds rs jgo sgo) (AloneRounds rs inside fgo)
    → IsPart known (after_rounds (r ∷ rs) known) (tested_rounds (r ∷ rs) inside) (in_turn (r ∷ rs) go) (joint_rounds (r ∷ rs) jgo) (SameRounds (r ∷ rs) jgo sgo) (AloneRounds (r ∷ rs) inside fgo)
one_turn tested_before known inside r rs go jgo sgo fgo w one h inner rest =
    let more = tests_at r ++ known in
    part_then known more (after_rounds rs more) (tests_at r ++ inside) (tested_rounds rs inside) (λ st. after_subject as_is r st go) (in_turn rs go)
    (λ p. joint_then (joint_one (begins r) p) (λ q. jgo (scope_at r q.first) q)) (joint_rounds rs jgo)
    (λ p. SameAt r p × AndThen (joint_one (begins r) p) (λ q. sgo (scope_at r q.first) q)) (SameRounds rs jgo sgo)
    (λ later. AloneAt r (inside ++ later) × fgo later) (AloneRounds rs inside fgo)
    (round_part tested_before known inside r go jgo sgo fgo w one h inner) rest

later_turns : (tested_before needs known inside : List (List ℕ)) (rs : List Subject) (go : Scope → State → Run) (jgo : Scope → Pair → Joint) (sgo : Scope → Pair → Type 0) (fgo : List (List ℕ) → Type 0) → Within tested_before known → Within needs known → AllRounds tested_before rs
    → ((more : List (List ℕ)) → Within needs more → (c : Scope) → IsPart more more inside (go c) (jgo c) (sgo c) fgo)
    → IsPart known (after_rounds rs known) (tested_rounds rs inside) (in_turn rs go) (joint_rounds rs jgo) (SameRounds rs jgo sgo) (AloneRounds rs inside fgo)
later_turns tested_before needs known inside [] go jgo sgo fgo w v h inner = id_part known (AloneRounds [] inside fgo)
later_turns tested_before needs known inside (r ∷ rs) go jgo sgo fgo w v h inner =
    one_turn tested_before known inside r rs go jgo sgo fgo w h.0.0 h.0.1 (inner (tests_at r ++ known) (λ n a. among_right n (tests_at r) known (v n a)))
    (later_turns tested_before needs (tests_at r ++ known) inside rs go jgo sgo fgo (λ n a. among_right n (tests_at r) known (w n a)) (λ n a. among_right n (tests_at r) known (v n a)) h.1 inner)

pub turns_part : (tested_before known inside : List (List ℕ)) (rs : List Subject) (go : Scope → State → Run) (jgo : Scope → Pair → Joint) (sgo : Scope → Pair → Type 0) (fgo : List (List ℕ) → Type 0) → Within tested_before known → AllRounds tested_before rs
    → ((more : List (List ℕ)) → Within (first_at rs ++ tested_before) more → (c : Scope) → IsPart more more inside (go c) (jgo c) (sgo c) fgo)
    → IsPart known (after_rounds rs known) (tested_rounds rs inside) (in_turn rs go) (joint_rounds rs jgo) (SameRounds rs jgo sgo) (AloneRounds rs inside fgo)
turns_part tested_before known inside [] go jgo sgo fgo w h inner = id_part known (AloneRounds [] inside fgo)
turns_part tested_before known inside (r ∷ rs) go jgo sgo fgo w h inner =
    let needed : Within (tests_at r ++ tested_before) (tests_at r ++ known) = λ n a. among_wider n (tests_at r) tested_before known (w n) a in
    one_turn tested_before known inside r rs go jgo sgo fgo w h.0.0 h.0.1 (inner (tests_at r ++ known) needed)
    (later_turns tested_before (tests_at r ++ tested_before) (tests_at r ++ known) inside rs go jgo sgo fgo (λ n a. among_right n (tests_at r) known (w n a)) needed h.1 inner)

pub after_more : (rs : List Subject) (a : List (List ℕ)) (n : List ℕ) → Among n a → Among n (after_rounds rs a)
after_more [] a n h = h
after_more (r ∷ rs) a n h = after_more rs (tests_at r ++ a) n (among_right n (tests_at r) a h)

-- ---- the rounds of a choice

each_rounds : (names : List (List ℕ)) (sought : Sought) (entries : List (List ℕ)) (includes : Option (List Part)) → ReadsAll names (option_to_list includes) → AllRounds names (map (λ entry. Asked (ChecksEach sought (entry ∷ []) includes)) entries)
each_rounds names sought [] includes r = tt
each_rounds names sought (entry ∷ more) includes r = ((tt, (tt, (tt, r))), each_rounds names sought more includes r)

pub rounds_keep : (names : List (List ℕ)) (subject : Subject) → ResumableSubject None names subject → AllRounds names (rounds_of subject)
rounds_keep names Nothing h = ((tt, h), tt)
rounds_keep names (Word word) h = ((tt, h), tt)
rounds_keep names (Asked (Given kind variable)) h = ((tt, h), tt)
rounds_keep names (Asked (Tries kind program)) h = ((tt, h), tt)
rounds_keep names (Asked (Checks sought entry includes)) h = ((tt, h), tt)
rounds_keep names (Asked (ChecksEach sought entries includes)) h = each_rounds names sought entries includes h.1.1
rounds_keep names (Asked (questions.Library library function others adds)) h = ((tt, h), tt)
rounds_keep names (Asked (questions.Libraries function libraries others)) h = ((tt, h), tt)

each_first : (sought : Sought) (entries : List (List ℕ)) (includes : Option (List Part)) → first_alone (map (sought_name sought) entries) ≡ first_at (map (λ entry. Asked (ChecksEach sought (entry ∷ []) includes)) entries)
each_first sought [] includes = refl
each_first sought (entry ∷ more) includes = refl

-- The first name alone is that of the first round.
pub rounds_first : (subject : Subject) → first_alone (tests_at subject) ≡ first_at (rounds_of subject)
rounds_first Nothing = refl
rounds_first (Word word) = refl
rounds_first (Asked (Given kind variable)) = refl
rounds_first (Asked (Tries kind program)) = refl
rounds_first (Asked (Checks sought entry includes)) = refl
rounds_first (Asked (ChecksEach sought entries includes)) = each_first sought entries includes
rounds_first (Asked (questions.Library library function others adds)) = refl
rounds_first (Asked (questions.Libraries function libraries others)) = refl

each_after : (sought : Sought) (entries : List (List ℕ)) (includes : Option (List Part)) (a b : List (List ℕ)) → Within a b → (n : List ℕ) → Among n (map (sought_name sought) entries ++ a) → Among n (after_rounds (map (λ entry. Asked (ChecksEach sought (entry ∷ []) includes)) entries) b)
each_after sought [] includes a b w n h = w n h
each_after sought (entry ∷ more) includes a b w n h =
    ⊎_elim (λ e. after_more (map (λ x. Asked (ChecksEach sought (x ∷ []) includes)) more) (sought_name sought entry ∷ b) n (inl e))
    (λ k. each_after sought more includes a (sought_name sought entry ∷ b) (λ m x. inr (w m x)) n k) h

-- All names that the subject tests are known after its rounds.
pub rounds_after : (subject : Subject) (a b : List (List ℕ)) → Within a b → (n : List ℕ) → Among n (tests_at subject ++ a) → Among n (after_rounds (rounds_of subject) b)
rounds_after Nothing a b w n h = w n h
rounds_after (Word word) a b w n h = w n h
rounds_after (Asked (Given kind variable)) a b w n h = w n h
rounds_after (Asked (Tries kind program)) a b w n h = w n h
rounds_after (Asked (Checks sought entry includes)) a b w n h = ⊎_elim (λ e. inl e) (λ k. inr (w n k)) h
rounds_after (Asked (ChecksEach sought entries includes)) a b w n h = each_after sought entries includes a b w n h
rounds_after (Asked (questions.Library library function others adds)) a b w n h = ⊎_elim (λ e. inl e) (λ k. inr (w n k)) h
rounds_after (Asked (questions.Libraries function libraries others)) a b w n h = ⊎_elim (λ e. inl e) (λ k. inr (w n k)) h
