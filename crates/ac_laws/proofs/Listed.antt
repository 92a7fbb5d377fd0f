-- The fields of a list of outputs, one after another.
use Rattle.std.proofs.Common.{◌≡◌, ℕ, suc, ◌+◌, ◌<◌, ◌≤◌, Bool, true, false, ◌||◌, inl, inr, List, [], ◌∷◌, ◌++◌, length, map, Result, Ok, Err, refl, sym, ap, subst, ◌∙◌, append_assoc, arith}
use Rattle.std.specs.Prelude.{not, bytes_eq, nat_lt}
use Rattle.std.specs.List.{AllByRecursion, IsDistinct}
use Rattle.std.specs.Cmp.Lexicographic.{nat_list_eq_equiv}
use Rattle.std.proofs.lemmas.Bool.{ltb-true, lt-ltb, ltb-false, le-ltb}
use Rattle.std.proofs.lemmas.List.{length-append, map-append, append-nil}
use Rattle.text_cut.specs.Cuts.{fields}
use Rattle.deftable.specs.NameList.{has_name, AreDistinct}
use Rattle.output_list.specs.declared.output.Output.{Output}
use Rattle.output_list.specs.Output.{output_names, has_output, IsOutput}
use Rattle.output_list.specs.Path.{is_path}
use Rattle.ac_statement.specs.declared.fault.ParseFault.{ParseFault}
use Rattle.ac_statement.specs.declared.fault.ParseFault.TheVariants.{BadName, TooMany}
use Rattle.ac_statement.specs.Reading.{◌>>=◌, wants}
use Rattle.ac_statement.proofs.Binds.{bind_ok, bind_err, ok_is, err_is, wants_ok}
use Rattle.ac_args.specs.Arguments.{text}
use Rattle.ac_args.specs.Path.{output_in}
use Rattle.ac_args.specs.Outputs.{outputs, wanted, one_more, with_fields}
use Rattle.ac_laws.specs.OutputList.{IsNew, AreListed, IsNamed, IsFieldFault, form, named, full, IsListFault, no_field, field, OutputsAreListed, OutputsAreRefused}

not_both : (b : Bool) → b ≡ true → b ≡ false → ⊥
not_both b e f = let h : true ≡ false = sym e ∙ f in absurd cc

false_is : (b : Bool) → (b ≡ true → ⊥) → b ≡ false
false_is true f = absurd (f refl)
false_is false f = refl

not_true : (b : Bool) → not b ≡ true → b ≡ false
not_true true e = absurd cc
not_true false e = refl

not_false : (b : Bool) → not b ≡ false → b ≡ true
not_false true e = refl
not_false false e = absurd cc

-- ---- one output

-- It can follow those that were listed.
record CanFollow (own other listed : List Output) (o : Output) : Type 0 where
  pub path : IsOutput o
  pub own_new : has_output own o.name ≡ false
  pub other_new : has_output other o.name ≡ false
  pub listed_new : has_output listed o.name ≡ false
  pub room : length own + length listed < 1024

abbrev unit_ok : Result (Unit {0}) ParseFault
unit_ok = Ok tt

-- The tests of an output at an offset.
abbrev tests : ℕ → (a b c d g r : Bool) → Result (Unit {0}) ParseFault
tests at a b c d g r =
    wants a (BadName at) >>= λ _. wants b (BadName at) >>= λ _. wants (not c) (BadName at)
    >>= λ _. wants (not d) (BadName at) >>= λ _. wants (not g) (BadName at) >>= λ _. wants r (TooMany at)

module _ (own other : List Output) (at : ℕ) where
  follows-wanted : (listed : List Output) (o : Output) → CanFollow own other listed o
      → wanted at own other listed o ≡ Ok tt
  unfolding wanted
  follows-wanted listed o h =
      rw (
        h.path.0,
        h.path.1,
        h.own_new,
        h.other_new,
        h.listed_new,
        lt-ltb
            (length own + length listed) 1024 h.room,
      ) refl

  wanted-follows : (listed : List Output) (o : Output) (u : Unit {0})
      → wanted at own other listed o ≡ Ok u → CanFollow own other listed o
  unfolding wanted
  wanted-follows listed o u e =
      let a = bind_ok (wants (is_path o.name) (BadName at)) _ _ e in
      let b = bind_ok (wants (is_path o.template) (BadName at)) _ _ a.2 in
      let c = bind_ok (wants (not (has_output own o.name)) (BadName at)) _ _ b.2 in
      let d = bind_ok (wants (not (has_output other o.name)) (BadName at)) _ _ c.2 in
      let f = bind_ok (wants (not (has_output listed o.name)) (BadName at)) _ _ d.2 in
      record {
        path = (wants_ok _ _ _ a.1, wants_ok _ _ _ b.1);
        own_new = not_true _ (wants_ok _ _ _ c.1);
        other_new = not_true _ (wants_ok _ _ _ d.1);
        listed_new = not_true _ (wants_ok _ _ _ f.1);
        room = ltb-true _ _ (wants_ok _ _ _ f.2);
      }

  wanted-fault : (listed : List Output) (o : Output) (f : ParseFault)
      → wanted at own other listed o ≡ Err f → IsFieldFault own other at listed o f
  unfolding wanted
  wanted-fault listed o f e =
      by (is_path o.name) (is_path o.template) (has_output own o.name) (has_output other o.name)
      (has_output listed o.name)
      (nat_lt (length own + length listed) 1024) refl refl refl refl refl refl e
    where
      bad : IsFieldFault own other at listed o (BadName at) → BadName at ≡ f
          → IsFieldFault own other at listed o f
      bad h e = subst (IsFieldFault own other at listed o) e h

      by : (a b c d g r : Bool) → is_path o.name ≡ a → is_path o.template ≡ b
          → has_output own o.name ≡ c → has_output other o.name ≡ d → has_output listed o.name ≡ g
          → nat_lt (length own + length listed) 1024 ≡ r
          → tests at a b c d g r ≡ Err f → IsFieldFault own other at listed o f
      by false b c d g r ea eb ec ed eg er e =
          bad (form (λ p. not_both (is_path o.name) p.0 ea)) (err_is {A = Unit {0}} _ _ e)
      by true false c d g r ea eb ec ed eg er e =
          bad (form (λ p. not_both (is_path o.template) p.1 eb)) (err_is {A = Unit {0}} _ _ e)
      by true true true d g r ea eb ec ed eg er e =
          bad (named (inl ec)) (err_is {A = Unit {0}} _ _ e)
      by true true false true g r ea eb ec ed eg er e =
          bad (named (inr (inl ed))) (err_is {A = Unit {0}} _ _ e)
      by true true false false true r ea eb ec ed eg er e =
          bad (named (inr (inr eg))) (err_is {A = Unit {0}} _ _ e)
      by true true false false false false ea eb ec ed eg er e =
          subst (IsFieldFault own other at listed o) (err_is {A = Unit {0}} _ _ e)
          (full (ea, eb) unnamed (ltb-false (length own + length listed) 1024 er))
        where
          unnamed : IsNamed own other listed o → ⊥
          unnamed (inl h) = not_both (has_output own o.name) h ec
          unnamed (inr (inl h)) = not_both (has_output other o.name) h ed
          unnamed (inr (inr h)) = not_both (has_output listed o.name) h eg
      by true true false false false true ea eb ec ed eg er e = absurd cc

  fault-wanted : (listed : List Output) (o : Output) (f : ParseFault)
      → IsFieldFault own other at listed o f → wanted at own other listed o ≡ Err f
  unfolding wanted
  fault-wanted listed o f (form bad) = by (is_path o.name) (is_path o.template) refl refl where
    by : (a b : Bool) → is_path o.name ≡ a → is_path o.template ≡ b
        → tests at a b (has_output own o.name) (has_output other o.name) (has_output listed o.name)
        (nat_lt (length own + length listed) 1024) ≡ Err (BadName at)
    by true true ea eb = absurd (bad (ea, eb))
    by _ _ ea eb = refl
  fault-wanted listed o f (named h) =
      by (is_path o.name) (is_path o.template) (has_output own o.name) (has_output other o.name)
      (has_output listed o.name) refl refl refl h where
        by : (a b c d g : Bool) → has_output own o.name ≡ c → has_output other o.name ≡ d
            → has_output listed o.name ≡ g → IsNamed own other listed o
            → tests at a b c d g (nat_lt (length own + length listed) 1024) ≡ Err (BadName at)
        by true true false false false ec ed eg (inl h) = absurd (not_both (has_output own o.name) h ec)
        by true true false false false ec ed eg (inr (inl h)) =
            absurd (not_both (has_output other o.name) h ed)
        by true true false false false ec ed eg (inr (inr h)) =
            absurd (not_both (has_output listed o.name) h eg)
        by _ _ _ _ _ ec ed eg h = refl
  fault-wanted listed o f (full is unnamed many) =
      rw (
        is.0,
        is.1,
        false_is (has_output own o.name) (λ h. unnamed (inl h)),
        false_is
            (has_output other o.name) (λ h. unnamed (inr (inl h))),
        false_is (has_output listed o.name)
            (λ h. unnamed (inr (inr h))),
        le-ltb (length own + length listed) 1024 many,
      ) refl

  -- ---- one field

  passes : (listed : List Output) (next : List ℕ) → CanFollow own other listed (output_in next)
      → one_more at own other listed next ≡ Ok (listed ++ output_in next ∷ [])
  unfolding one_more
  passes listed next h =
      ap (λ (r : Result (Unit {0}) ParseFault). r >>= λ _. Ok (listed ++ output_in next ∷ []))
      (follows-wanted listed (output_in next) h)

  passed : (listed more : List Output) (next : List ℕ) → one_more at own other listed next ≡ Ok more
      → CanFollow own other listed (output_in next) × (more ≡ listed ++ output_in next ∷ [])
  unfolding one_more
  passed listed more next e =
      let b = bind_ok (wanted at own other listed (output_in next)) _ _ e in
      (wanted-follows listed (output_in next) b.0 b.1, sym (ok_is _ more b.2))

  stops : (listed : List Output) (next : List ℕ) (f : ParseFault)
      → IsFieldFault own other at listed (output_in next) f
      → one_more at own other listed next ≡ Err f
  unfolding one_more
  stops listed next f h =
      ap (λ (r : Result (Unit {0}) ParseFault). r >>= λ _. Ok (listed ++ output_in next ∷ []))
      (fault-wanted listed (output_in next) f h)

  stopped : (listed : List Output) (next : List ℕ) (f : ParseFault)
      → one_more at own other listed next ≡ Err f
      → IsFieldFault own other at listed (output_in next) f
  unfolding one_more
  stopped listed next f e =
      elim
      (bind_err (wanted at own other listed (output_in next))
      (λ _. Ok (listed ++ output_in next ∷ [])) f e) [
        | inl bad ↦ wanted-fault listed (output_in next) f bad
        | inr good ↦ (let h = good.2 in absurd cc)
      ]

-- ---- all of a list

all_split : {A : Type 0} (P : A → Type 0) (xs : List A) (y : A) (ys : List A)
    → AllByRecursion P (xs ++ y ∷ ys) → P y
all_split P [] y ys h = h.0
all_split P (x ∷ xs) y ys h = all_split P xs y ys h.1

all_last : {A : Type 0} (P : A → Type 0) (xs : List A) (y : A) → AllByRecursion P xs → P y
    → AllByRecursion P (xs ++ y ∷ [])
all_last P [] y h p = (p, tt)
all_last P (x ∷ xs) y h p = (h.0, all_last P xs y h.1 p)

neither : (a b : Bool) → (a || b) ≡ false → (a ≡ false) × (b ≡ false)
neither true b e = absurd cc
neither false b e = (refl, e)

distinct_last : (ns : List (List ℕ)) (k : List ℕ) → AreDistinct ns → has_name ns k ≡ false
    → AreDistinct (ns ++ k ∷ [])
unfolding IsDistinct has_name
distinct_last [] k h new = (tt, tt)
distinct_last (n ∷ ns) k h new =
    let p = neither (bytes_eq k n) (has_name ns k) new in (
      all_last (λ y. bytes_eq n y ≡ false) ns k h.0
          (nat_list_eq_equiv.symm n k ∙ p.0),
      distinct_last ns k h.1 p.1,
    )

distinct_new : (ms ns : List (List ℕ)) (k : List ℕ) → AreDistinct (ms ++ k ∷ ns)
    → has_name ms k ≡ false
unfolding IsDistinct has_name
distinct_new [] ns k h = refl
distinct_new (m ∷ ms) ns k h =
    let one : bytes_eq k m ≡ false =
    nat_list_eq_equiv.symm k m ∙ all_split (λ y. bytes_eq m y ≡ false) ms k ns h.0 in
    rw one (distinct_new ms ns k h.1)

names_split : (a b : List Output) → output_names (a ++ b) ≡ output_names a ++ output_names b
names_split a b = map-append (λ (o : Output). o.name) a b

module _ (own other : List Output) where
  none_listed : length own ≤ 1024 → AreListed own other [] []
  unfolding IsDistinct
  none_listed room =
      record { value = refl; paths = tt; names = tt; new = tt; few = omega (arith, room) }

  listed_more : (done : List (List ℕ)) (listed : List Output) (next : List ℕ)
      → AreListed own other done listed → CanFollow own other listed (output_in next)
      → AreListed own other (done ++ next ∷ []) (listed ++ output_in next ∷ [])
  unfolding has_output
  listed_more done listed next h can =
      let o = output_in next in
      record {
        value =
            ap (λ (l : List Output). l ++ o ∷ []) h.value
            ∙ sym (map-append output_in done (next ∷ []));
        paths = all_last IsOutput listed o h.paths can.path;
        names =
            subst AreDistinct (sym (names_split listed (o ∷ [])))
            (distinct_last (output_names listed) o.name h.names can.listed_new);
        new = all_last (IsNew own other) listed o h.new (can.own_new, can.other_new);
        few = (let room = can.room in rw (length-append listed (o ∷ [])) (omega (arith, room)));
      }

  -- An output of a list can follow those before it.
  listed_follows : (done : List (List ℕ)) (next : List ℕ) (more : List (List ℕ))
      (listed all : List Output)
      → listed ≡ map output_in done → AreListed own other (done ++ next ∷ more) all
      → CanFollow own other listed (output_in next)
  unfolding has_output
  listed_follows done next more listed all is h =
      let o = output_in next in
      let parts : all ≡ listed ++ o ∷ map output_in more =
      h.value ∙ map-append output_in done (next ∷ more)
      ∙ ap (λ (l : List Output). l ++ o ∷ map output_in more) (sym is) in
      let new =
      all_split (IsNew own other) listed o (map output_in more)
      (subst (AllByRecursion (IsNew own other)) parts h.new) in
      let few = h.few in
      record {
        path =
            all_split IsOutput listed o (map output_in more)
            (subst (AllByRecursion IsOutput) parts h.paths);
        own_new = new.0;
        other_new = new.1;
        listed_new =
            distinct_new (output_names listed) (output_names (map output_in more)) o.name
            (subst AreDistinct
            (ap output_names parts ∙ names_split listed (o ∷ map output_in more)) h.names);
        room = omega (arith, few, ap length parts, length-append listed (o ∷ map output_in more));
      }

module _ (own other : List Output) (at : ℕ) where
  one_then : (listed more : List Output) (next : List ℕ) (back : List (List ℕ))
      → one_more at own other listed next ≡ Ok more
      → with_fields at own other listed (next ∷ back) ≡ with_fields at own other more back
  unfolding with_fields
  one_then listed more next back e =
      ap (λ (r : Result (List Output) ParseFault). r
      >>= λ first. with_fields at own other first back) e

  fields-listed : (done back : List (List ℕ)) (listed all : List Output)
      → AreListed own other done listed → with_fields at own other listed back ≡ Ok all
      → AreListed own other (done ++ back) all
  unfolding with_fields
  fields-listed done [] listed all h e =
      subst (λ d. AreListed own other d all) (sym (append-nil done))
      (subst (λ l. AreListed own other done l) (ok_is listed all e) h)
  fields-listed done (next ∷ back) listed all h e =
      let b =
      bind_ok (one_more at own other listed next)
      (λ first. with_fields at own other first back) all e in
      let p = passed own other at listed b.0 next b.1 in
      subst (λ d. AreListed own other d all) (append_assoc done (next ∷ []) back)
      (fields-listed (done ++ next ∷ []) back b.0 all
      (subst (λ l. AreListed own other (done ++ next ∷ []) l) (sym p.1)
      (listed_more own other done listed next h p.0)) b.2)

  listed-fields : (done back : List (List ℕ)) (listed all : List Output)
      → listed ≡ map output_in done → AreListed own other (done ++ back) all
      → with_fields at own other listed back ≡ Ok all
  unfolding with_fields
  listed-fields done [] listed all is h =
      ap (λ (l : List Output). Ok l) (is ∙ ap (map output_in) (sym (append-nil done)) ∙ sym h.value)
  listed-fields done (next ∷ back) listed all is h =
      let o = output_in next in
      one_then listed (listed ++ o ∷ []) next back
      (passes own other at listed next (listed_follows own other done next back listed all is h))
      ∙ listed-fields (done ++ next ∷ []) back (listed ++ o ∷ []) all
      (ap (λ (l : List Output). l ++ o ∷ []) is ∙ sym (map-append output_in done (next ∷ [])))
      (subst (λ d. AreListed own other d all) (sym (append_assoc done (next ∷ []) back)) h)

  fields-fault : (done back : List (List ℕ)) (listed : List Output) (f : ParseFault)
      → AreListed own other done listed → with_fields at own other listed back ≡ Err f
      → IsListFault own other at (done ++ back) f
  unfolding with_fields
  fields-fault done [] listed f h e = absurd cc
  fields-fault done (next ∷ back) listed f h e =
      elim
      (bind_err (one_more at own other listed next)
      (λ first. with_fields at own other first back) f e) [
        | inl bad ↦ field done next back listed h (stopped own other at listed next f bad)
        | inr good ↦
            (let p = passed own other at listed good.0 next good.1 in
            subst (λ d. IsListFault own other at d f) (append_assoc done (next ∷ []) back)
            (fields-fault (done ++ next ∷ []) back good.0 f
            (subst (λ l. AreListed own other (done ++ next ∷ []) l) (sym p.1)
            (listed_more own other done listed next h p.0)) good.2))
      ]

  fault-fields : (done front : List (List ℕ)) (next : List ℕ) (back : List (List ℕ))
      (listed all : List Output) (f : ParseFault)
      → listed ≡ map output_in done → AreListed own other (done ++ front) all
      → IsFieldFault own other at all (output_in next) f
      → with_fields at own other listed (front ++ next ∷ back) ≡ Err f
  unfolding with_fields
  fault-fields done [] next back listed all f is h bad =
      let same : listed ≡ all = is ∙ ap (map output_in) (sym (append-nil done)) ∙ sym h.value in
      ap (λ (r : Result (List Output) ParseFault). r
      >>= λ first. with_fields at own other first back)
      (stops own other at listed next f
      (subst (λ l. IsFieldFault own other at l (output_in next) f) (sym same) bad))
  fault-fields done (first ∷ front) next back listed all f is h bad =
      let o = output_in first in
      one_then listed (listed ++ o ∷ []) first (front ++ next ∷ back)
      (passes own other at listed first (listed_follows own other done first front listed all is h))
      ∙ fault-fields (done ++ first ∷ []) front next back (listed ++ o ∷ []) all f
      (ap (λ (l : List Output). l ++ o ∷ []) is ∙ sym (map-append output_in done (first ∷ [])))
      (subst (λ d. AreListed own other d all) (sym (append_assoc done (first ∷ []) front)) h) bad

-- ---- the argument

some_field : (list : List (List ℕ)) → nat_lt 0 (length list) ≡ true
    → (next : List ℕ) × (back : List (List ℕ)) × (list ≡ next ∷ back)
some_field [] e = absurd (let lt = ltb-true 0 0 e in omega (arith, lt))
some_field (next ∷ back) e = (next, back, refl)

-- The first output shows that there was room before it.
room_before : (own other : List Output) (at : ℕ) (list : List (List ℕ)) (all : List Output)
    → nat_lt 0 (length list) ≡ true → with_fields at own other [] list ≡ Ok all → length own ≤ 1024
unfolding with_fields
room_before own other at [] all some e = absurd (let lt = ltb-true 0 0 some in omega (arith, lt))
room_before own other at (next ∷ back) all some e =
    let b =
    bind_ok (one_more at own other [] next) (λ first. with_fields at own other first back) all e in
    let room = (passed own other at [] b.0 next b.1).0.room in
    omega (arith, room)

pub outputs_are_listed : OutputsAreListed
unfolding outputs
outputs_are_listed own other arg all = (
  (λ e.
      let a = bind_ok (text arg) _ _ e in
      let b = bind_ok (wants (nat_lt 0 (length (fields a.0))) (BadName arg.at)) _ _ a.2 in
      let some = wants_ok _ _ _ b.1 in (
        a.0,
        a.1,
        ltb-true _ _ some,
        fields-listed own other arg.at [] (fields a.0) [] all
            (none_listed own other (room_before own other arg.at (fields a.0) all some b.2)) b.2,
      )),
  (λ h. rw (h.1, lt-ltb 0 (length (fields h.0)) h.2)
      (listed-fields own other arg.at [] (fields h.0) [] all refl h.3)),
)

pub outputs_are_refused : OutputsAreRefused
unfolding outputs
outputs_are_refused own other arg f room = (
  (λ e.
      elim (bind_err (text arg) _ f e) [
        | inl bad ↦ inl bad
        | inr good ↦ inr (good.0, good.1, in_fields (fields good.0) good.2)
      ]),
  (λ h.
      elim h [
        | inl bad ↦ rw bad refl
        | inr good ↦ rw good.1 (of_fields (fields good.0) f good.2)
      ]),
)
  where
    in_fields : (list : List (List ℕ))
        → (wants (nat_lt 0 (length list)) (BadName arg.at)
        >>= λ _. with_fields arg.at own other [] list) ≡ Err f
        → IsListFault own other arg.at list f
    in_fields [] e =
        subst (IsListFault own other arg.at []) (err_is {A = List Output} _ _ e) no_field
    in_fields (next ∷ back) e =
        fields-fault own other arg.at [] (next ∷ back) [] f (none_listed own other room)
        (sym (rw (lt-ltb 0 (suc (length back)) (omega arith)) refl) ∙ e)

    of_fields : (list : List (List ℕ)) (g : ParseFault) → IsListFault own other arg.at list g
        → (wants (nat_lt 0 (length list)) (BadName arg.at)
        >>= λ _. with_fields arg.at own other [] list) ≡ Err g
    of_fields list g no_field = refl
    of_fields list g (field front next back listed h bad) =
        let some : nat_lt 0 (length (front ++ next ∷ back)) ≡ true =
        lt-ltb _ _ (omega (arith, length-append front (next ∷ back))) in
        rw some (fault-fields own other arg.at [] front next back [] listed g refl h bad)
