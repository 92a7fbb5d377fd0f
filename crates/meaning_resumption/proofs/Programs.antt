-- Tests of programs: AC_CHECK_PROG and AC_PATH_PROG, and the looks of AC_CHECK_PROGS and AC_PROG_CC, which are one test.
use Rattle.std.proofs.Common.{◌≡◌, ℕ, List, [], ◌∷◌, Bool, true, false, cond, length, Option, Some, None, inl, inr, refl, sym, ap, ◌∙◌, subst, ⊎_elim}
use Rattle.std.specs.Prelude.{◌||◌, ◌==◌, not, option_map, option_to_list, unwrap_or}
use Rattle.deftable.specs.Table.{value_of}
use Rattle.shellword.specs.declared.part.Part.{Part}
use Rattle.shellword.specs.Value.{word_value}
use Rattle.ac_tree.specs.Resumable.{IsOrdinary, MayRead, ReadsAll}
use Rattle.meaning.specs.State.{State, with_variable, How, Goes_on, Run, Ends, then_run, value_or_empty}
use Rattle.meaning.specs.Tests.{tested, with_value}
use Rattle.meaning.specs.Rows.{TestKind, Program, value_if, name_of, row_of}
use Rattle.meaning.specs.Meaning.{has_value, defaulted}
use Rattle.meaning_laws.specs.Ends.{AtEnds, Breaks}
use Rattle.meaning_laws.proofs.Values.{cases_value, value_here}
use Rattle.meaning_laws.proofs.Endings.{ends_then, ends_map}
use Rattle.meaning_resumption.proofs.Near.{IsCached, Alike, Every, Like}
use Rattle.meaning_resumption.proofs.Names.{same_or_not, value_else, cached_apart}
use Rattle.meaning_resumption.proofs.Liking.{Reads, wider_reads, like_then, like_cond, cond_alike, variable_alike, row_like, text_same}
use Rattle.meaning_resumption.proofs.Forms.{alike_refl, alike_trans, Went, Still, Form, form_off, Follows, IsTest, cond_values, row_form, row_set}

-- What is done with the value of a program's test.
abbrev pub after_var : List ℕ → Option (List ℕ) → State → State
after_var variable o st = with_variable variable (unwrap_or o []) st

abbrev pub prog_kind : (name variable program : List ℕ) → Option (List ℕ) → Option (List ℕ) → Option (List ℕ) → TestKind
prog_kind name variable program found otherwise own =
    Program (record { variable = variable; name = name; program = program; found = found; otherwise = otherwise }) own

-- The same kind in states that are alike.
abbrev pub SameKind : (List ℕ → Type 0) → (State → TestKind) → Type 0
SameKind at kind = (s t : State) → Alike at s t → kind s ≡ kind t

kind_like : (at : List ℕ → Type 0) (kind : State → TestKind) (s t : State) → ((st : State) → at (name_of (kind st))) → Reads at [] → ((st : State) → (search : _) × ((own : _) × (kind st ≡ Program search own))) → SameKind at kind → Alike at s t
    → Like at (tested (row_of (kind s) s) s) (tested (row_of (kind t) t) t)
kind_like at kind s t here reads program same h =
    let p = program s in
    subst (λ k. Like at (tested (row_of (kind s) s) s) (tested (row_of k t) t)) (same s t h)
    (subst (λ k. Like at (tested (row_of k s) s) (tested (row_of k t) t)) (sym p.1.1)
    (row_like at [] (Program p.0 p.1.0) s t (subst (λ k. at (name_of k)) p.1.1 (here s)) reads tt h))

-- AC_CHECK_PROG and AC_PATH_PROG: what is looked for depends on the state.
pub prog_test : (known : List (List ℕ)) (name variable program : List ℕ) (found otherwise own : State → Option (List ℕ)) → IsCached name → IsOrdinary variable
    → SameKind Every (λ st. prog_kind name variable program (found st) (otherwise st) (own st)) → SameKind (MayRead (name ∷ known)) (λ st. prog_kind name variable program (found st) (otherwise st) (own st))
    → IsTest known name (after_var variable) (λ st. tested (row_of (prog_kind name variable program (found st) (otherwise st) (own st)) st) st)
prog_test known name variable program found otherwise own c p every twin = record {
  cached = c;
  set = λ st v e. row_set (prog_kind name variable program (found st) (otherwise st) (own st)) st v e;
  form = λ st none. row_form (prog_kind name variable program (found st) (otherwise st) (own st)) st none;
  every = λ s t h. kind_like Every (λ st. prog_kind name variable program (found st) (otherwise st) (own st)) s t (λ st. tt) (λ n r. tt) (λ st. (_, (_, refl))) every h;
  twin = λ s t h. kind_like (MayRead (name ∷ known)) (λ st. prog_kind name variable program (found st) (otherwise st) (own st)) s t (λ st. inr (inl refl)) (wider_reads [] (name ∷ known) (λ n a. absurd a)) (λ st. (_, (_, refl))) twin h;
  values = λ o n st k. value_else st.vars variable (unwrap_or o []) n (λ e. cached_apart n variable k p (sym e));
  follow = λ o s t h. variable_alike (MayRead (name ∷ known)) variable (unwrap_or o []) s t h;
}

-- ---- one look of several

-- What is looked for, given the variable's own value.
abbrev look_kind : (name variable program : List ℕ) → State → TestKind
look_kind name variable program st = prog_kind name variable program (Some program) None (value_if (has_value st variable) (value_or_empty st variable))

-- A variable's own value, if it counts.
pub own_same : (at : List ℕ → Type 0) (counts : List ℕ → Bool) (variable : List ℕ) (s t : State) → at variable → Alike at s t → value_if (counts (value_or_empty s variable)) (value_or_empty s variable) ≡ value_if (counts (value_or_empty t variable)) (value_or_empty t variable)
own_same at counts variable s t a h = ap (λ o. value_if (counts (unwrap_or o [])) (unwrap_or o [])) (h.value variable a)

look_same : (at : List ℕ → Type 0) (name variable program : List ℕ) → at variable → SameKind at (look_kind name variable program)
look_same at name variable program a s t h = ap (prog_kind name variable program (Some program) None) (own_same at (λ value. not (length value == 0)) variable s t a h)

abbrev look : (name variable program : List ℕ) → Bool → State → Run
look name variable program always st =
    cond (always || not (has_value st variable)) (tested (row_of (look_kind name variable program st) st) st) (Ends Goes_on st)

look_like : (at : List ℕ → Type 0) (name variable program : List ℕ) (always : Bool) (s t : State) → at name → at variable → Reads at [] → Alike at s t → Like at (look name variable program always s) (look name variable program always t)
look_like at name variable program always s t a b reads h =
    like_cond at (always || not (has_value s variable)) (always || not (has_value t variable)) _ _ _ _
    (ap (λ o. always || not (not (length (unwrap_or o []) == 0))) (h.value variable b))
    (kind_like at (look_kind name variable program) s t (λ st. a) reads (λ st. (_, (_, refl))) (look_same at name variable program b) h) (refl, h)

abbrev look_all : (name variable : List ℕ) → List (List ℕ) → Bool → State → Run
look_all name variable [] always st = Ends Goes_on st
look_all name variable (program ∷ more) always st = then_run (look name variable program always st) (look_all name variable more false)

all_like : (at : List ℕ → Type 0) (name variable : List ℕ) (programs : List (List ℕ)) (always : Bool) (s t : State) → at name → at variable → Reads at [] → Alike at s t → Like at (look_all name variable programs always s) (look_all name variable programs always t)
all_like at name variable [] always s t a b reads h = (refl, h)
all_like at name variable (program ∷ more) always s t a b reads h =
    like_then at (look name variable program always s) (look name variable program always t) _ _ (look_like at name variable program always s t a b reads h)
    (λ x y l. all_like at name variable more false x y a b reads l)

-- ---- the name is set

-- A run that asks for nothing, and another one after it.
follows_then : (run : Run) (k : State → Run) (mid end : State) → Follows run mid → ((now : State) → Alike Every now mid → Follows (k now) end) → Follows (then_run run k) end
follows_then run k mid end f rest =
    let g = rest f.now f.is in
    record { now = g.now; run_is = ap (λ r. then_run r k) f.run_is ∙ g.run_is; is = g.is }

follows_like : (run : Run) (a b : State) → Alike Every a b → Follows run a → Follows run b
follows_like run a b h f = record { now = f.now; run_is = f.run_is; is = alike_trans Every f.now a b f.is h }

-- A value that a variable has is written again.
written_again : (variable v : List ℕ) (st : State) → value_of st.vars variable ≡ Some v → Alike Every (with_variable variable v st) st
written_again variable v st e = record {
  defs = refl;
  value = λ n k. ⊎_elim
      (λ same. subst (λ x. value_of (with_variable variable v st).vars x ≡ value_of st.vars x) same (value_here st.vars variable v ∙ sym e))
      (λ other. value_else st.vars variable v n other)
      (same_or_not variable n);
}

either_follows : (b : Bool) (x : Run) (st : State) → Follows x st → Follows (cond b x (Ends Goes_on st)) st
either_follows true x st f = f
either_follows false x st f = record { now = st; run_is = refl; is = alike_refl Every st }

-- Later looks, after one with this value.
later_set : (name variable : List ℕ) (programs : List (List ℕ)) (v : List ℕ) (st : State) → value_of st.vars name ≡ Some v → value_of st.vars variable ≡ Some v → Follows (look_all name variable programs false st) st
later_set name variable [] v st e f = record { now = st; run_is = refl; is = alike_refl Every st }
later_set name variable (program ∷ more) v st e f =
    follows_then (look name variable program false st) (look_all name variable more false) st st
    (either_follows (false || not (has_value st variable)) (tested (row_of (look_kind name variable program st) st) st) st
    (follows_like _ (with_variable variable v st) st (written_again variable v st f) (row_set (look_kind name variable program st) st v e)))
    (λ now h. follows_like _ now st h (later_set name variable more v now (h.value name tt ∙ e) (h.value variable tt ∙ f)))

-- What is done with the value of all looks.
abbrev pub after_looks : List ℕ → List (List ℕ) → Option (List ℕ) → State → State
after_looks variable [] o st = st
after_looks variable (program ∷ more) o st = after_var variable o st

all_set : (name variable : List ℕ) (programs : List (List ℕ)) (v : List ℕ) (st : State) → IsCached name → IsOrdinary variable → value_of st.vars name ≡ Some v → Follows (look_all name variable programs true st) (after_looks variable programs (Some v) st)
all_set name variable [] v st c p e = record { now = st; run_is = refl; is = alike_refl Every st }
all_set name variable (program ∷ more) v st c p e =
    let end = with_variable variable v st in
    follows_then (look name variable program true st) (look_all name variable more false) end end
    (row_set (look_kind name variable program st) st v e)
    (λ now h. follows_like _ now end h
    (later_set name variable more v now (h.value name tt ∙ value_else st.vars variable v name (λ k. cached_apart name variable c p (sym k)) ∙ e) (h.value variable tt ∙ value_here st.vars variable v)))

-- ---- the name is unset

-- After a look: the variable has the value of the name, or the empty text, and nothing else was changed.
record Looked (name variable : List ℕ) (before st : State) : Type 0 where
  others : (n : List ℕ) → (name ≡ n → ⊥) → (variable ≡ n → ⊥) → value_of st.vars n ≡ value_of before.vars n
  shown : value_of st.vars variable ≡ Some (unwrap_or (value_of st.vars name) [])
  defs : st.defs ≡ before.defs

looked_like : (name variable : List ℕ) (before a b : State) → Alike Every a b → Looked name variable before b → Looked name variable before a
looked_like name variable before a b h l = record {
  others = λ n x y. h.value n tt ∙ l.others n x y;
  shown = h.value variable tt ∙ l.shown ∙ ap (λ o. Some (unwrap_or o [])) (sym (h.value name tt));
  defs = h.defs ∙ l.defs;
}

-- A test of the name went so.
looked_went : (name variable : List ℕ) (before st now : State) → IsCached name → IsOrdinary variable → ((n : List ℕ) → (name ≡ n → ⊥) → (variable ≡ n → ⊥) → value_of st.vars n ≡ value_of before.vars n) → st.defs ≡ before.defs
    → Went (after_var variable) name st now → Looked name variable before now
looked_went name variable before st now c p same defs w =
    let o = value_of w.mid.vars name in
    let at_name : value_of (after_var variable o w.mid).vars name ≡ o = value_else w.mid.vars variable (unwrap_or o []) name (λ k. cached_apart name variable c p (sym k)) in
    looked_like name variable before now (after_var variable o w.mid) w.is
    (record {
      others = λ n x y. value_else w.mid.vars variable (unwrap_or o []) n y ∙ w.own.others n x ∙ same n x y;
      shown = value_here w.mid.vars variable (unwrap_or o []) ∙ ap (λ z. Some (unwrap_or z [])) (sym at_name);
      defs = w.own.defs ∙ defs;
    })

abbrev LooksEnd : (name variable : List ℕ) → State → How → State → Type 0
LooksEnd name variable before Goes_on now = Looked name variable before now
LooksEnd name variable before how now = Still before now

looks_off : (name variable : List ℕ) (before : State) (how : How) (now : State) → Breaks how → LooksEnd name variable before how now → LooksEnd name variable before how now
looks_off name variable before how now breaks h = h

-- What a look leaves as it was is as it was before all looks.
still_before : (name variable : List ℕ) (before st now : State) → IsOrdinary variable → value_of before.vars name ≡ None → value_of st.vars name ≡ None → Looked name variable before st → Still st now → Still before now
still_before name variable before st now p none here l h n c =
    h n c
    ∙ ⊎_elim (λ same. subst (λ x. value_of st.vars x ≡ value_of before.vars x) same (here ∙ sym none))
    (λ other. l.others n other (λ k. cached_apart n variable c p (sym k)))
    (same_or_not name n)

form_looks : (name variable : List ℕ) (before st : State) → IsCached name → IsOrdinary variable → value_of before.vars name ≡ None → value_of st.vars name ≡ None → Looked name variable before st
    → (how : How) (now : State) → Form (after_var variable) name st how now → LooksEnd name variable before how now
form_looks name variable before st c p none here l Goes_on now w = looked_went name variable before st now c p l.others l.defs w
form_looks name variable before st c p none here l _ now h = still_before name variable before st now p none here l h

-- The same of the first look.
form_first : (name variable : List ℕ) (before : State) → IsCached name → IsOrdinary variable → (how : How) (now : State) → Form (after_var variable) name before how now → LooksEnd name variable before how now
form_first name variable before c p Goes_on now w = looked_went name variable before before now c p (λ n x y. refl) refl w
form_first name variable before c p _ now h = h

look_ends : (name variable program : List ℕ) (before st : State) → IsCached name → IsOrdinary variable → value_of before.vars name ≡ None → Looked name variable before st → AtEnds (LooksEnd name variable before) (look name variable program false st)
look_ends name variable program before st c p none l = by_test (false || not (has_value st variable))
  where
    by_test : (b : Bool) → AtEnds (LooksEnd name variable before) (cond b (tested (row_of (look_kind name variable program st) st) st) (Ends Goes_on st))
    by_test false = l
    by_test true =
        ⊎_elim
        (λ unset.
        ends_map (Form (after_var variable) name st) (LooksEnd name variable before) (tested (row_of (look_kind name variable program st) st) st)
        (row_form (look_kind name variable program st) st unset) (λ how now h. form_looks name variable before st c p none unset l how now h))
        (λ some.
        let f = row_set (look_kind name variable program st) st some.0 some.1 in
        let w : Went (after_var variable) name st f.now = record { mid = st; own = record { others = λ n k. refl; defs = refl }; is = subst (λ o. Alike Every f.now (after_var variable o st)) (sym some.1) f.is } in
        subst (AtEnds (LooksEnd name variable before)) (sym f.run_is) (looked_went name variable before st f.now c p l.others l.defs w))
        (cases_value (value_of st.vars name))

later_ends : (name variable : List ℕ) (programs : List (List ℕ)) (before st : State) → IsCached name → IsOrdinary variable → value_of before.vars name ≡ None → Looked name variable before st → AtEnds (LooksEnd name variable before) (look_all name variable programs false st)
later_ends name variable [] before st c p none l = l
later_ends name variable (program ∷ more) before st c p none l =
    ends_then (LooksEnd name variable before) (LooksEnd name variable before) (look name variable program false st) (look_all name variable more false)
    (look_ends name variable program before st c p none l) (λ now k. later_ends name variable more before now c p none k) (looks_off name variable before)

-- All looks together went as one test.
went_looks : (name variable : List ℕ) (before now : State) → IsCached name → IsOrdinary variable → value_of before.vars name ≡ None → Looked name variable before now → Went (after_var variable) name before now
went_looks name variable before now c p none l = by_value (value_of now.vars name) refl
  where
    by_value : (o : Option (List ℕ)) → value_of now.vars name ≡ o → Went (after_var variable) name before now
    by_value o e = record {
      mid = with_value name o before;
      own = record { others = λ n x. own_values o n x; defs = own_defs o };
      is = subst (λ z. Alike Every now (after_var variable z (with_value name o before))) (sym (at_name o))
          (record { defs = l.defs ∙ sym (own_defs o); value = λ n k. values n });
    }
      where
        own_values : (o : Option (List ℕ)) (n : List ℕ) → (name ≡ n → ⊥) → value_of (with_value name o before).vars n ≡ value_of before.vars n
        own_values None n x = refl
        own_values (Some v) n x = value_else before.vars name v n x

        own_defs : (o : Option (List ℕ)) → (with_value name o before).defs ≡ before.defs
        own_defs None = refl
        own_defs (Some v) = refl

        at_name : (o : Option (List ℕ)) → value_of (with_value name o before).vars name ≡ o
        at_name None = none
        at_name (Some v) = value_here before.vars name v

        values : (n : List ℕ) → value_of now.vars n ≡ value_of (after_var variable o (with_value name o before)).vars n
        values n =
            ⊎_elim
            (λ same. subst (λ x. value_of now.vars x ≡ value_of (after_var variable o (with_value name o before)).vars x) same
            (l.shown ∙ ap (λ z. Some (unwrap_or z [])) e ∙ sym (value_here (with_value name o before).vars variable (unwrap_or o []))))
            (λ other.
            ⊎_elim
            (λ same. subst (λ x. value_of now.vars x ≡ value_of (with_value name o before).vars x) same (e ∙ sym (at_name o)))
            (λ apart. l.others n apart other ∙ sym (own_values o n apart))
            (same_or_not name n)
            ∙ sym (value_else (with_value name o before).vars variable (unwrap_or o []) n other))
            (same_or_not variable n)

looks_form : (name variable : List ℕ) (before : State) → IsCached name → IsOrdinary variable → value_of before.vars name ≡ None → (how : How) (now : State) → LooksEnd name variable before how now → Form (after_var variable) name before how now
looks_form name variable before c p none Goes_on now l = went_looks name variable before now c p none l
looks_form name variable before c p none _ now h = h

all_form : (name variable : List ℕ) (programs : List (List ℕ)) (st : State) → IsCached name → IsOrdinary variable → value_of st.vars name ≡ None → AtEnds (Form (after_looks variable programs) name st) (look_all name variable programs true st)
all_form name variable [] st c p none = record { mid = st; own = record { others = λ n k. refl; defs = refl }; is = alike_refl Every st }
all_form name variable (program ∷ more) st c p none =
    ends_map (LooksEnd name variable st) (Form (after_var variable) name st) (look_all name variable (program ∷ more) true st)
    (ends_then (LooksEnd name variable st) (LooksEnd name variable st) (look name variable program true st) (look_all name variable more false)
    (ends_map (Form (after_var variable) name st) (LooksEnd name variable st) (tested (row_of (look_kind name variable program st) st) st)
    (row_form (look_kind name variable program st) st none) (λ how now h. form_first name variable st c p how now h))
    (λ now k. later_ends name variable more st now c p none k) (looks_off name variable st))
    (λ how now h. looks_form name variable st c p none how now h)

looks_values : (variable : List ℕ) (programs : List (List ℕ)) → IsOrdinary variable → (o : Option (List ℕ)) (n : List ℕ) (st : State) → IsCached n → value_of (after_looks variable programs o st).vars n ≡ value_of st.vars n
looks_values variable [] p o n st k = refl
looks_values variable (program ∷ more) p o n st k = value_else st.vars variable (unwrap_or o []) n (λ e. cached_apart n variable k p (sym e))

looks_alike : (at : List ℕ → Type 0) (variable : List ℕ) (programs : List (List ℕ)) (o : Option (List ℕ)) (s t : State) → Alike at s t → Alike at (after_looks variable programs o s) (after_looks variable programs o t)
looks_alike at variable [] o s t h = h
looks_alike at variable (program ∷ more) o s t h = variable_alike at variable (unwrap_or o []) s t h

-- The looks of AC_CHECK_PROGS and AC_PROG_CC.
pub looks_test : (known : List (List ℕ)) (name variable : List ℕ) (programs : List (List ℕ)) → IsCached name → IsOrdinary variable → IsTest known name (after_looks variable programs) (look_all name variable programs true)
looks_test known name variable programs c p = record {
  cached = c;
  set = λ st v e. all_set name variable programs v st c p e;
  form = λ st none. all_form name variable programs st c p none;
  every = λ s t h. all_like Every name variable programs true s t tt tt (λ n r. tt) h;
  twin = λ s t h. all_like (MayRead (name ∷ known)) name variable programs true s t (inr (inl refl)) (inl p) (wider_reads [] (name ∷ known) (λ n a. absurd a)) h;
  values = looks_values variable programs p;
  follow = λ o s t h. looks_alike (MayRead (name ∷ known)) variable programs o s t h;
}

-- ---- a change after a test

form_then : (after : Option (List ℕ) → State → State) (name : List ℕ) (g : State → State) (before : State) → ((s t : State) → Alike Every s t → Alike Every (g s) (g t)) → (now : State) → Went after name before now → Went (λ o st. g (after o st)) name before (g now)
form_then after name g before every now w = record { mid = w.mid; own = w.own; is = every now (after (value_of w.mid.vars name) w.mid) w.is }

pub test_then : (known : List (List ℕ)) (name : List ℕ) (after : Option (List ℕ) → State → State) (part : State → Run) (g : State → State) → ((s t : State) → Alike Every s t → Alike Every (g s) (g t)) → ((s t : State) → Alike (MayRead (name ∷ known)) s t → Alike (MayRead (name ∷ known)) (g s) (g t))
    → ((n : List ℕ) (st : State) → IsCached n → value_of (g st).vars n ≡ value_of st.vars n) → IsTest known name after part → IsTest known name (λ o st. g (after o st)) (λ st. then_run (part st) (λ now. Ends Goes_on (g now)))
test_then known name after part g every twin values test = record {
  cached = test.cached;
  set = λ st v e. follows_then (part st) (λ now. Ends Goes_on (g now)) (after (Some v) st) (g (after (Some v) st)) (test.set st v e) (λ now h. record { now = g now; run_is = refl; is = every now (after (Some v) st) h });
  form = λ st none.
      ends_then (Form after name st) (Form (λ o x. g (after o x)) name st) (part st) (λ now. Ends Goes_on (g now)) (test.form st none)
      (λ now w. form_then after name g st every now w) (λ how now breaks h. form_off (λ o x. g (after o x)) name st how now breaks (still_of after name st how now breaks h));
  every = λ s t h. like_then Every (part s) (part t) _ _ (test.every s t h) (λ x y l. (refl, every x y l));
  twin = λ s t h. like_then (MayRead (name ∷ known)) (part s) (part t) _ _ (test.twin s t h) (λ x y l. (refl, twin x y l));
  values = λ o n st k. values n (after o st) k ∙ test.values o n st k;
  follow = λ o s t h. twin (after o s) (after o t) (test.follow o s t h);
}
  where
    still_of : (after : Option (List ℕ) → State → State) (name : List ℕ) (before : State) (how : How) (now : State) → Breaks how → Form after name before how now → Still before now
    still_of after name before Goes_on now breaks h = absurd (breaks refl)
    still_of after name before _ now breaks h = h

-- ---- the default of AC_CHECK_PROGS

abbrev pub default_of : List ℕ → Option (List Part) → State → State
default_of variable otherwise now = defaulted variable (option_map (λ t. word_value t now.vars) otherwise) now

pub given_same : (at : List ℕ → Type 0) (names : List (List ℕ)) (text : Option (List Part)) (s t : State) → Reads at names → ReadsAll names (option_to_list text) → Alike at s t → option_map (λ x. word_value x s.vars) text ≡ option_map (λ x. word_value x t.vars) text
given_same at names None s t reads r h = refl
given_same at names (Some text) s t reads r h = ap Some (text_same at names text s t reads r.0 h)

defaulted_alike : (at : List ℕ → Type 0) (variable : List ℕ) (o : Option (List ℕ)) (s t : State) → at variable → Alike at s t → Alike at (defaulted variable o s) (defaulted variable o t)
defaulted_alike at variable None s t a h = h
defaulted_alike at variable (Some value) s t a h =
    subst (λ b. Alike at (cond (has_value s variable) s (with_variable variable value s)) (cond b t (with_variable variable value t))) (ap (λ o. not (length (unwrap_or o []) == 0)) (h.value variable a))
    (cond_alike at (has_value s variable) s t (with_variable variable value s) (with_variable variable value t) h (variable_alike at variable value s t h))

pub default_alike : (at : List ℕ → Type 0) (names : List (List ℕ)) (variable : List ℕ) (otherwise : Option (List Part)) (s t : State) → at variable → Reads at names → ReadsAll names (option_to_list otherwise) → Alike at s t → Alike at (default_of variable otherwise s) (default_of variable otherwise t)
default_alike at names variable otherwise s t a reads r h =
    subst (λ o. Alike at (default_of variable otherwise s) (defaulted variable o t)) (given_same at names otherwise s t reads r h)
    (defaulted_alike at variable (option_map (λ x. word_value x s.vars) otherwise) s t a h)

pub default_values : (variable : List ℕ) (o : Option (List ℕ)) (n : List ℕ) (st : State) → IsOrdinary variable → IsCached n → value_of (defaulted variable o st).vars n ≡ value_of st.vars n
default_values variable None n st p k = refl
default_values variable (Some value) n st p k =
    cond_values (has_value st variable) st (with_variable variable value st) n (value_of st.vars n) refl (value_else st.vars variable value n (λ e. cached_apart n variable k p (sym e)))
