-- What the deeds of one test account for.
use Rattle.std.proofs.Common.{◌≡◌, ℕ, Option, Some, None, List, [], ◌∷◌, ◌++◌, codes, Bool, true, false, ◌⊎◌, inl, inr, refl, sym, ap, ◌∙◌, subst, ⊎_elim}
use Rattle.std.specs.Prelude.{bytes_eq, unwrap_or}
use Rattle.std.proofs.lemmas.Bool.{cases_Bool}
use Rattle.std.proofs.lemmas.List.{append-nil}
use Rattle.crew_trait.specs.declared.reply.Reply.{Reply}
use Rattle.deftable.specs.Table.{value_of, with_entry}
use Rattle.meaning.specs.State.{State, How, Goes_on, Completed}
use Rattle.meaning.specs.Tests.{Test, checking, cached_test, tested_by, may_begin, tested}
use Rattle.test_forms.specs.declared.form.Gives.{Gives}
use Rattle.test_forms.specs.declared.form.Gives.TheVariants.{Nothing, Have, HaveOrNot, AddsLibrary, AddsValue}
use Rattle.meaning.specs.Forms.{form_name, says_found}
use Rattle.meaning.specs.Rows.{TestKind, Program, Formed, name_of, after_of, row_of, attempts_of, otherwise_of}
use Rattle.meaning.proofs.Forms.{name_apart}
use Rattle.meaning.specs.Play.{play}
use Rattle.meaning_laws.specs.Ends.{AtEnds, Breaks}
use Rattle.meaning_laws.specs.Cached.{IsSet, IsUnset}
use Rattle.meaning_laws.specs.Commands.{WritesOwn}
use Rattle.meaning_laws.specs.Deeds.{Deed, Assigned, Tested, left_set, is_added, libs_if, added_deeds, assigned_by, kind_deeds, Accounts}
use Rattle.meaning_laws.proofs.Values.{same_text, cases_value, value_here, value_there, set_write, rewritten}
use Rattle.meaning_laws.proofs.Endings.{ends_then, ends_map, ends_attempted}
use Rattle.meaning_laws.proofs.CachedTests.{set_cached, broken_ends, broken_vars}
use Rattle.meaning_laws.proofs.CommandLemmas.{own_unset, row_alone}
use Rattle.meaning_laws.proofs.LinkLemmas.{put_if, put_other, given_vars, used_vars}
use Rattle.meaning_laws.proofs.DeedLemmas.{Variables, name_in, nothing, unchanged, from_test, written_or, written_here, writes, writes_more, ends_account}

-- One test.
tested_more : (before now : Variables) (ds : List Deed) (name : List ℕ) → IsUnset name before → IsSet name now → Accounts before ds now → Accounts before (Tested name ∷ ds) now
tested_more before now ds name u set x = record {
  only = λ n h. ⊎_elim (λ k. inl k) (λ k. inr (⊎_elim (λ l. inl (inr l)) (λ l. inr (inr l)) k)) (x.only n h);
  all = λ n h. ⊎_elim
      (λ k. x.all n (inl k))
      (λ k. ⊎_elim
      (λ l. ⊎_elim (λ e. cc) (λ m. x.all n (inr (inl m))) l)
      (λ l. ⊎_elim (λ e. subst (λ q. IsSet q now) (ap name_in e) set) (λ m. x.all n (inr (inr m))) l)
      k)
      h;
  tested = λ n h. ⊎_elim (λ e. subst (λ q. IsUnset q before) (ap name_in e) u) (λ k. x.tested n k) h;
  keeps = λ n v e no. x.keeps n v e (λ k. no (inr k));
}

-- The variables after a test: those from before, or its name alone was set, which was unset.
abbrev pub TestWrites : List ℕ → Variables → Variables → Type 0
TestWrites name before now = (now ≡ before) ⊎ ((value : List ℕ) × (IsUnset name before × (now ≡ with_entry before name value)))

test_writes : (name : List ℕ) (before now : Variables) → IsUnset name before → WritesOwn name before now → TestWrites name before now
test_writes name before now u own = ⊎_elim (λ same. inl same) (λ set. inr (set.0, (u, set.1))) own

new_deed : (name : List ℕ) (before : Variables) (w : List ℕ) → IsUnset name before → Accounts before (Tested name ∷ []) (with_entry before name w)
new_deed name before w u = record {
  only = λ n h. ⊎_elim (λ e. inr (inr (inl (ap Tested e)))) (λ k. inl k) (written_or before name w n h);
  all = λ n h. ⊎_elim (λ k. set_write before name w n k) (λ e. written_here before name w n e) (from_test n name before h);
  tested = λ n h. ⊎_elim (λ e. subst (λ q. IsUnset q before) (ap name_in e) u) (λ z. absurd z) h;
  keeps = λ n v e no. ⊎_elim
      (λ t. let z : None ≡ Some v = sym u ∙ ap (value_of before) (sym (same_text n name t)) ∙ e in cc)
      (λ f. value_there before name w n f ∙ e)
      (cases_Bool (bytes_eq n name));
}

no_deed : (name : List ℕ) (before : Variables) (o : Option (List ℕ)) → Accounts before (left_set name o o) before
no_deed name before None = nothing before
no_deed name before (Some v) = nothing before

pub set_deeds : (name : List ℕ) (before mid : Variables) → TestWrites name before mid → Accounts before (left_set name (value_of before name) (value_of mid name)) mid
set_deeds name before mid own =
    ⊎_elim
    (λ same. subst (λ l. Accounts before (left_set name (value_of before name) (value_of l name)) l) (sym same) (no_deed name before (value_of before name)))
    (λ set. subst (λ l. Accounts before (left_set name (value_of before name) (value_of l name)) l) (sym set.1.1)
    (subst (λ o. Accounts before (left_set name o (value_of (with_entry before name set.0) name)) (with_entry before name set.0)) (sym set.1.0)
    (subst (λ o. Accounts before (left_set name None o) (with_entry before name set.0)) (sym (value_here before name set.0)) (new_deed name before set.0 set.1.0))))
    own

-- How a test in a statement ends: it leaves the variables, or wrote its name alone and then what follows.
abbrev pub AfterVars : TestKind → Variables → Variables → Type 0
AfterVars (Program s own) mid now = (value : List ℕ) × (now ≡ with_entry mid s.variable value)
AfterVars (Formed t) mid now =
    let value = value_of mid (form_name t.form) in
    now ≡ given_vars t.form.gives (says_found t.form.says value) value mid

after_through : (kind : TestKind) (st : State) → AfterVars kind st.vars (after_of kind (value_of st.vars (name_of kind)) st).vars
after_through (Program s own) st = (unwrap_or (value_of st.vars s.name) [], refl)
after_through (Formed t) st = used_vars t.form (value_of st.vars (form_name t.form)) st

pub record KindEnds (kind : TestKind) (before : Variables) (how : How) (now : Variables) : Type 0 where
  pub breaks : Breaks how → now ≡ before
  pub goes : how ≡ Goes_on → (mid : Variables) × (TestWrites (name_of kind) before mid × AfterVars kind mid now)

pub record CachedEnds (name : List ℕ) (before : Variables) (how : How) (now : Variables) : Type 0 where
  pub breaks : Breaks how → now ≡ before
  pub own : TestWrites name before now

pub cached_ends : (t : Test) (st : State) → AtEnds (λ how now. WritesOwn t.name st.vars now.vars) (t.body (checking t.message st)) → AtEnds (λ how now. CachedEnds t.name st.vars how now.vars) (cached_test t st)
cached_ends t st alone =
    ⊎_elim
    (λ e. broken_ends (λ how now. WritesOwn t.name st.vars now.vars) (λ how now. CachedEnds t.name st.vars how now.vars) t st e alone
    (λ how now breaks w. let same = broken_vars t.name how now breaks ∙ own_unset st.vars now.vars t.name e w in record { breaks = λ b. same; own = inl same })
    (λ now w. record { breaks = λ b. absurd (b refl); own = test_writes t.name st.vars now.vars e w }))
    (λ some. subst (AtEnds (λ how now. CachedEnds t.name st.vars how now.vars)) (sym (set_cached t some.0 st some.1)) (record { breaks = λ b. refl; own = inl refl }))
    (cases_value (value_of st.vars t.name))

pub kind_ends : (kind : TestKind) (first st : State) (b : Bool) → AtEnds (λ how now. KindEnds kind st.vars how now.vars) (tested_by b (row_of kind first) st)
kind_ends kind first st true =
    let t = (row_of kind first).test in
    ends_then (λ how now. CachedEnds (name_of kind) st.vars how now.vars) (λ how now. KindEnds kind st.vars how now.vars) (cached_test t st) _
    (cached_ends t st (ends_map (λ how now. WritesOwn (name_of kind) st.vars now.vars × (now.defs ≡ st.defs)) (λ how now. WritesOwn (name_of kind) st.vars now.vars) ((row_of kind first).test.body (checking t.message st)) (row_alone kind first (checking t.message st)) (λ how now h. h.0)))
    (λ now c. record { breaks = λ b. absurd (b refl); goes = λ g. (now.vars, (c.own, after_through kind now)) })
    (λ how now b c. record { breaks = λ k. c.breaks b; goes = λ g. absurd (b g) })
kind_ends kind first st false = record { breaks = λ b. refl; goes = λ g. cc }

-- A program's test, and then its variable. The two may have one name.
one_name : (name variable value : List ℕ) (before mid : Variables) → name ≡ variable → TestWrites name before mid → with_entry mid variable value ≡ with_entry before variable value
one_name name variable value before mid e own =
    ⊎_elim
    (λ same. ap (λ l. with_entry l variable value) same)
    (λ set. ap (λ l. with_entry l variable value) set.1.1 ∙ ap (λ q. with_entry (with_entry before q set.0) variable value) e ∙ rewritten before variable set.0 value)
    own

with_test : (name : List ℕ) (before now : Variables) (ds : List Deed) (o : Option (List ℕ)) → value_of before name ≡ o → IsSet name now → Accounts before ds now → Accounts before (left_set name o (value_of now name) ++ ds) now
with_test name before now ds (Some v) e set x = x
with_test name before now ds None e set x = subst (λ o. Accounts before (left_set name None o ++ ds) now) (sym set.1) (tested_more before now ds name e set x)

variable_accounts : (name variable value : List ℕ) (before mid : Variables) → TestWrites name before mid
    → Accounts before (left_set name (value_of before name) (value_of (with_entry mid variable value) name) ++ Assigned variable ∷ []) (with_entry mid variable value)
variable_accounts name variable value before mid own =
    ⊎_elim
    (λ t.
    let e = same_text name variable t in
    with_test name before (with_entry mid variable value) (Assigned variable ∷ []) (value_of before name) refl (value, ap (value_of (with_entry mid variable value)) e ∙ value_here mid variable value)
    (subst (Accounts before (Assigned variable ∷ [])) (sym (one_name name variable value before mid e own)) (writes before variable value)))
    (λ f. subst (λ o. Accounts before (left_set name (value_of before name) o ++ Assigned variable ∷ []) (with_entry mid variable value)) (sym (value_there mid variable value name f))
    (writes_more before mid (left_set name (value_of before name) (value_of mid name)) variable value (set_deeds name before mid own)))
    (cases_Bool (bytes_eq name variable))

same_accounts : (name : List ℕ) (before mid now : Variables) → TestWrites name before mid → now ≡ mid
    → Accounts before (left_set name (value_of before name) (value_of now name) ++ []) now
same_accounts name before mid now alone same =
    subst (λ l. Accounts before (left_set name (value_of before name) (value_of l name) ++ []) l) (sym same)
    (subst (λ ds. Accounts before ds mid) (sym (append-nil (left_set name (value_of before name) (value_of mid name)))) (set_deeds name before mid alone))

-- A test of libraries, and then LIBS.
libs_accounts : (b : Bool) (text name : List ℕ) (before mid : Variables) → TestWrites name before mid
    → Accounts before (left_set name (value_of before name) (value_of (put_if b text mid) name) ++ libs_if b) (put_if b text mid)
libs_accounts true text name before mid alone = variable_accounts name (codes "LIBS") _ before mid alone
libs_accounts false text name before mid alone = same_accounts name before mid mid alone refl

-- What is assigned is decided by the value after LIBS is written, which is that before.
linked_accounts : (adds : Option (List ℕ) → Bool) (text name : List ℕ) (before mid now : Variables) → bytes_eq name (codes "LIBS") ≡ false → TestWrites name before mid
    → now ≡ put_if (adds (value_of mid name)) text mid
    → Accounts before (left_set name (value_of before name) (value_of now name) ++ libs_if (adds (value_of now name))) now
linked_accounts adds text name before mid now ne alone is =
    let b = adds (value_of mid name) in
    let same : adds (value_of (put_if b text mid) name) ≡ b = ap adds (put_other b text mid name ne) in
    subst (λ l. Accounts before (left_set name (value_of before name) (value_of l name) ++ libs_if (adds (value_of l name))) l) (sym is)
    (subst (λ c. Accounts before (left_set name (value_of before name) (value_of (put_if b text mid) name) ++ libs_if c) (put_if b text mid)) (sym same)
    (libs_accounts b text name before mid alone))

given_accounts : (gives : Gives) (found : Option (List ℕ) → Bool) (name : List ℕ) (before mid now : Variables) → bytes_eq name (codes "LIBS") ≡ false → TestWrites name before mid
    → now ≡ given_vars gives (found (value_of mid name)) (value_of mid name) mid
    → Accounts before (left_set name (value_of before name) (value_of now name) ++ added_deeds gives (found (value_of now name)) (value_of now name)) now
given_accounts Nothing found name before mid now ne alone is = same_accounts name before mid now alone is
given_accounts (Have what) found name before mid now ne alone is = same_accounts name before mid now alone is
given_accounts (HaveOrNot what) found name before mid now ne alone is = same_accounts name before mid now alone is
given_accounts (AddsLibrary library) found name before mid now ne alone is = linked_accounts found (codes "-l" ++ library) name before mid now ne alone is
given_accounts AddsValue found name before mid now ne alone is = linked_accounts is_added (unwrap_or (value_of mid name) []) name before mid now ne alone is

after_accounts : (kind : TestKind) (before mid now : Variables) → TestWrites (name_of kind) before mid → AfterVars kind mid now
    → Accounts before (left_set (name_of kind) (value_of before (name_of kind)) (value_of now (name_of kind)) ++ assigned_by kind (value_of now (name_of kind))) now
after_accounts (Program s own) before mid now alone after =
    subst (λ l. Accounts before (left_set s.name (value_of before s.name) (value_of l s.name) ++ Assigned s.variable ∷ []) l) (sym after.1)
    (variable_accounts s.name s.variable after.0 before mid alone)
after_accounts (Formed t) before mid now alone after =
    given_accounts t.form.gives (says_found t.form.says) (form_name t.form) before mid now (name_apart t.form) alone after

pub kind_accounts : (kind : TestKind) (st : State) (rs : List Reply) → Accounts st.vars (kind_deeds kind st rs) (play (tested (row_of kind st) st) rs).state.vars
kind_accounts kind st rs =
    ends_account (λ how now. KindEnds kind st.vars how now.vars) (tested (row_of kind st) st) rs st.vars
    (λ now. left_set (name_of kind) (value_of st.vars (name_of kind)) (value_of now.vars (name_of kind)) ++ assigned_by kind (value_of now.vars (name_of kind)))
    (kind_ends kind st st (may_begin (value_of st.vars (name_of kind)) (row_of kind st).ready))
    (λ now k. let g = k.goes refl in after_accounts kind st.vars g.0 now.vars g.1.0 g.1.1)
    (λ how now breaks k. unchanged st.vars now.vars (k.breaks breaks))

-- A test never completes a run: it continues, stops or is cut short.
abbrev pub IsOpen : How → Type 0
IsOpen how = how ≡ Completed → ⊥

body_open : (kind : TestKind) (first st : State) → AtEnds (λ how now. IsOpen how) ((row_of kind first).test.body st)
body_open kind first st =
    ends_attempted (λ now. Unit {0}) (λ how now. IsOpen how) (λ job reply now h. tt) (attempts_of kind first) (otherwise_of kind) _
    (λ now h z. cc) (λ now h z. cc) (λ value now h z. cc) st tt

cached_open : (t : Test) (st : State) → AtEnds (λ how now. IsOpen how) (t.body (checking t.message st)) → AtEnds (λ how now. IsOpen how) (cached_test t st)
cached_open t st body =
    ⊎_elim
    (λ e. broken_ends (λ how now. IsOpen how) (λ how now. IsOpen how) t st e body (λ how now breaks h. h) (λ now h z. cc))
    (λ some. subst (AtEnds (λ how now. IsOpen how)) (sym (set_cached t some.0 st some.1)) (λ z. cc))
    (cases_value (value_of st.vars t.name))

begun_open : (kind : TestKind) (st : State) (b : Bool) → AtEnds (λ how now. IsOpen how) (tested_by b (row_of kind st) st)
begun_open kind st true =
    let t = (row_of kind st).test in
    ends_then (λ how now. IsOpen how) (λ how now. IsOpen how) (cached_test t st) _ (cached_open t st (body_open kind st (checking t.message st))) (λ now h z. cc) (λ how now breaks h. h)
begun_open kind st false = λ z. cc

pub tested_open : (kind : TestKind) (st : State) → AtEnds (λ how now. IsOpen how) (tested (row_of kind st) st)
tested_open kind st = begun_open kind st (may_begin (value_of st.vars (name_of kind)) (row_of kind st).ready)
