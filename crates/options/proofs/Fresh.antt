-- What precious variables have before any mark, and that a run without a cache finds none that changed.
use Rattle.std.proofs.Common.{◌≡◌, ℕ, ◌+◌, ◌||◌, Bool, true, false, cond, List, [], ◌∷◌, ◌++◌, map, codes, Option, Some, None, Ok, Err, fold, refl, sym, ap, ◌∙◌, if◌then◌else◌, reverse, get_or, nat_eq}
use Rattle.std.specs.Prelude.{is_some, unwrap_or, option_to_list}
use Rattle.std.specs.List.{AllByRecursion, flat_map}
use Rattle.std.specs.Str.{bytes_eq}
use Rattle.std.proofs.lemmas.List.{append_cancel_left, append_cancel_right, reverse-append}
use Rattle.std.proofs.lemmas.Slice.Eq.{bytes_eq-Decides}
use Rattle.cachefile.specs.Name.{is_mark}
use Rattle.deftable.proofs.Tables.{value_of-with_entry}
use Rattle.deftable.specs.NameList.{has_name}
use Rattle.deftable.specs.Table.{value_of, with_entry}
use Rattle.options.specs.Opening.{with_variable, set_name, value_name, set_mark, marks_of, with_marks, unmarked, finished}
use Rattle.options.specs.Precious.{old_value, value_before, change_of, have_same_fields, restored, restored_variable, restored_from, blanks_note, checked, MarksTell, FreshRunsAgree}
use Rattle.options.specs.Reading.{◌>>=◌}
use Rattle.options.specs.declared.fault.PreciousFault.TheVariants.{Changed}
use Rattle.options.proofs.Checks.{no_mark}
use Rattle.options.proofs.Laws.{no_mark_changes}

abbrev Entries : Type 0
Entries = List (List ℕ × List ℕ)

-- ---- names of marks

true_is_false : true ≡ false → ⊥
true_is_false e = absurd (cc)

is_other : (a b : List ℕ) → (a ≡ b → ⊥) → bytes_eq a b ≡ false
is_other a b h = at (bytes_eq a b) refl where
  at : (t : Bool) → bytes_eq a b ≡ t → t ≡ false
  at true e = absurd (h ((bytes_eq-Decides a b).0 e))
  at false e = refl

is_other_by : (a b : List ℕ) → bytes_eq a b ≡ false → a ≡ b → ⊥
is_other_by a b h e = true_is_false (sym ((bytes_eq-Decides a b).1 e) ∙ h)

-- Marks of one kind have the same name if their variables have.
with_ending : (ending p x : List ℕ) → bytes_eq (codes "ac_cv_env_" ++ p ++ ending) (codes "ac_cv_env_" ++ x ++ ending) ≡ bytes_eq p x
with_ending ending p x = at (bytes_eq p x) refl where
  at : (t : Bool) → bytes_eq p x ≡ t → bytes_eq (codes "ac_cv_env_" ++ p ++ ending) (codes "ac_cv_env_" ++ x ++ ending) ≡ t
  at true e = (bytes_eq-Decides (codes "ac_cv_env_" ++ p ++ ending) (codes "ac_cv_env_" ++ x ++ ending)).1 (ap (λ n. codes "ac_cv_env_" ++ n ++ ending) ((bytes_eq-Decides p x).0 e))
  at false e =
      is_other (codes "ac_cv_env_" ++ p ++ ending) (codes "ac_cv_env_" ++ x ++ ending)
      (λ h. is_other_by p x e (append_cancel_right p x ending (append_cancel_left (codes "ac_cv_env_") (p ++ ending) (x ++ ending) h)))

-- No mark of one kind has the name of one of the other kind.
ends_apart : (p x : List ℕ) → p ++ codes "_set" ≡ x ++ codes "_value" → ⊥
ends_apart p x h =
    let last : reverse (codes "_set") ++ reverse p ≡ reverse (codes "_value") ++ reverse x = sym (reverse-append p (codes "_set")) ∙ ap reverse h ∙ reverse-append x (codes "_value") in
    let byte : 116 ≡ 101 = ap (λ t. get_or t 0 0) last in
    true_is_false (ap (λ b. nat_eq b 116) byte)

apart : (p x : List ℕ) → set_name p ≡ value_name x → ⊥
apart p x h = ends_apart p x (append_cancel_left (codes "ac_cv_env_") (p ++ codes "_set") (x ++ codes "_value") h)

-- ---- the values of marks

either_way : {A : Type 0} (b : Bool) (x : A) → cond b x x ≡ x
either_way true x = refl
either_way false x = refl

module _ (base : Entries) where
  one_set : (p x : List ℕ) (es : Entries) → value_of (fold with_variable es (marks_of base x)) (set_name p) ≡ cond (bytes_eq p x) (Some (set_mark (value_of base x))) (value_of es (set_name p))
  unfolding marks_of
  one_set p x es =
      let first = with_entry es (set_name x) (set_mark (value_of base x)) in
      value_of-with_entry first (value_name x) (unwrap_or (value_of base x) []) (set_name p)
      ∙ ap (λ b. cond b (Some (unwrap_or (value_of base x) [])) (value_of first (set_name p))) (is_other (set_name p) (value_name x) (apart p x))
      ∙ value_of-with_entry es (set_name x) (set_mark (value_of base x)) (set_name p)
      ∙ ap (λ b. cond b (Some (set_mark (value_of base x))) (value_of es (set_name p))) (with_ending (codes "_set") p x)

  one_value : (p x : List ℕ) (es : Entries) → value_of (fold with_variable es (marks_of base x)) (value_name p) ≡ cond (bytes_eq p x) (Some (unwrap_or (value_of base x) [])) (value_of es (value_name p))
  unfolding marks_of
  one_value p x es =
      let first = with_entry es (set_name x) (set_mark (value_of base x)) in
      value_of-with_entry first (value_name x) (unwrap_or (value_of base x) []) (value_name p)
      ∙ ap (λ b. cond b (Some (unwrap_or (value_of base x) [])) (value_of first (value_name p))) (with_ending (codes "_value") p x)
      ∙ ap (cond (bytes_eq p x) (Some (unwrap_or (value_of base x) [])))
      (value_of-with_entry es (set_name x) (set_mark (value_of base x)) (value_name p)
      ∙ ap (λ b. cond b (Some (set_mark (value_of base x))) (value_of es (value_name p))) (is_other (value_name p) (set_name x) (λ e. apart x p (sym e))))

  -- Of marks of one kind, that of a name among these has the value that is made of it.
  all_marks : (key value : List ℕ → List ℕ) (p : List ℕ) → ((x : List ℕ) (es : Entries) → value_of (fold with_variable es (marks_of base x)) (key p) ≡ cond (bytes_eq p x) (Some (value x)) (value_of es (key p)))
      → (names : List (List ℕ)) (es : Entries) → value_of (fold with_variable es (flat_map (marks_of base) names)) (key p) ≡ cond (has_name names p) (Some (value p)) (value_of es (key p))
  unfolding marks_of has_name
  all_marks key value p one [] es = refl
  all_marks key value p one (x ∷ more) es =
      let next = fold with_variable es (marks_of base x) in
      all_marks key value p one more next ∙ ap (cond (has_name more p) (Some (value p))) (one x es) ∙ at (bytes_eq p x) refl where
        at : (t : Bool) → bytes_eq p x ≡ t → cond (has_name more p) (Some (value p)) (cond t (Some (value x)) (value_of es (key p))) ≡ cond (t || has_name more p) (Some (value p)) (value_of es (key p))
        at true e = ap (λ n. cond (has_name more p) (Some (value p)) (Some (value n))) (sym ((bytes_eq-Decides p x).0 e)) ∙ either_way (has_name more p) (Some (value p))
        at false e = refl

  stays : (es : Entries) (k v q : List ℕ) → is_some (value_of es q) ≡ true → is_some (value_of (with_entry es k v) q) ≡ true
  stays es k v q h = ap is_some (value_of-with_entry es k v q) ∙ by (bytes_eq q k) (value_of es q) h where
    by : (b : Bool) (o : Option (List ℕ)) → is_some o ≡ true → is_some (cond b (Some v) o) ≡ true
    by true o e = refl
    by false o e = e

  all_stay : (entries es : Entries) (q : List ℕ) → is_some (value_of es q) ≡ true → is_some (value_of (fold with_variable es entries) q) ≡ true
  all_stay [] es q h = h
  all_stay (e ∷ more) es q h = all_stay more (with_entry es e.0 e.1) q (stays es e.0 e.1 q h)

  -- The marks of a variable say which value it has.
  by_marks : (o : Option (List ℕ)) → (if bytes_eq (set_mark o) [] then None else Some (unwrap_or o [])) ≡ o
  by_marks None = refl
  by_marks (Some value) = refl

  pub marks_say : (precious : List (List ℕ)) (name : List ℕ) → has_name precious name ≡ true → old_value (with_marks precious base) name ≡ value_of base name
  unfolding old_value with_marks
  marks_say precious name h =
      let own : List ℕ → List ℕ = λ x. unwrap_or (value_of base x) [] in
      let set = all_marks set_name (λ x. set_mark (value_of base x)) name (one_set name) precious base
      ∙ ap (λ b. cond b (Some (set_mark (value_of base name))) (value_of base (set_name name))) h in
      let value = all_marks value_name own name (one_value name) precious base ∙ ap (λ b. cond b (Some (own name)) (value_of base (value_name name))) h in
      ap (λ o. if bytes_eq (unwrap_or o []) [] then None else Some (unwrap_or (value_of (with_marks precious base) (value_name name)) [])) set
      ∙ ap (λ o. if bytes_eq (set_mark (value_of base name)) [] then None else Some (unwrap_or o [])) value
      ∙ by_marks (value_of base name)

  pub before_marks : (precious : List (List ℕ)) (name : List ℕ) → has_name precious name ≡ true → value_before (with_marks precious base) name ≡ value_of base name
  unfolding value_before with_marks
  before_marks precious name h = at (is_mark name) refl where
    by : (m : Bool) → Option (List ℕ) → Option (List ℕ)
    by m o = elim o as (λ o. Option (List ℕ)) [ None ↦ None | Some value ↦ if m then old_value (with_marks precious base) name else Some value ]

    plain : (o : Option (List ℕ)) → by false o ≡ o
    plain None = refl
    plain (Some value) = refl

    none : (o : Option (List ℕ)) → (is_some o ≡ true → ⊥) → None ≡ o
    none None h = refl
    none (Some value) h = absurd (h refl)

    marked : (o : Option (List ℕ)) → value_of (with_marks precious base) name ≡ o → by true o ≡ value_of base name
    marked None e =
        none (value_of base name) (λ there. let gone : is_some (value_of (with_marks precious base) name) ≡ true = all_stay (flat_map (marks_of base) precious) base name there in
        true_is_false (sym gone ∙ ap is_some e))
    marked (Some value) e = marks_say precious name h

    at : (m : Bool) → is_mark name ≡ m → by (is_mark name) (value_of (with_marks precious base) name) ≡ value_of base name
    at true e = ap (λ m. by m (value_of (with_marks precious base) name)) e ∙ marked (value_of (with_marks precious base) name) refl
    at false e =
        ap (λ m. by m (value_of (with_marks precious base) name)) e ∙ plain (value_of (with_marks precious base) name)
        ∙ no_mark_changes precious base name (no_mark precious name e)

pub marks_tell : MarksTell
unfolding finished
marks_tell precious vars name h = before_marks (unmarked vars) precious name h

-- ---- without a cache

nothing_changed : (place : ℕ) (o : Option (List ℕ)) → restored place o o ≡ Ok None
unfolding restored
nothing_changed place None = refl
nothing_changed place (Some value) = ap (λ b. if b then Ok None else (if have_same_fields value value then Ok (Some value) else Err (Changed place))) ((bytes_eq-Decides value value).1 refl)

module _ (precious : List (List ℕ)) (vars : Entries) where
  one_agrees : (place : ℕ) (name : List ℕ) → has_name precious name ≡ true → restored_variable precious place (finished precious vars) (finished precious vars) name ≡ Ok None
  unfolding restored_variable finished
  one_agrees place name h =
      let base = unmarked vars in
      ap (λ r. r >>= λ old. Ok (change_of precious name old))
      (ap (λ o. restored place o (value_before (with_marks precious base) name)) (marks_say base precious name h)
      ∙ ap (restored place (value_of base name)) (before_marks base precious name h) ∙ nothing_changed place (value_of base name))

  all_agree : (place : ℕ) (names : List (List ℕ)) → AllByRecursion (λ name. has_name precious name ≡ true) names
      → restored_from precious place (finished precious vars) (finished precious vars) names ≡ Ok []
  unfolding restored_from
  all_agree place [] h = refl
  all_agree place (name ∷ more) h =
      ap (λ one. one >>= λ one. restored_from precious (place + 1) (finished precious vars) (finished precious vars) more >>= λ rest. Ok (option_to_list one ++ rest)) (one_agrees place name h.0)
      ∙ ap (λ rest. rest >>= λ rest. Ok rest) (all_agree (place + 1) more h.1)

  among : (names : List (List ℕ)) → ((q : List ℕ) → has_name names q ≡ true → has_name precious q ≡ true) → AllByRecursion (λ name. has_name precious name ≡ true) names
  unfolding has_name
  among [] h = tt
  among (name ∷ more) h = (h name (ap (λ b. b || has_name more name) ((bytes_eq-Decides name name).1 refl)), among more (λ q e. h q (later (bytes_eq q name) (has_name more q) e))) where
    later : (a b : Bool) → b ≡ true → (a || b) ≡ true
    later true b e = refl
    later false b e = e

pub fresh_runs_agree : FreshRunsAgree
unfolding checked
fresh_runs_agree precious vars =
    ap (λ r. r >>= λ changes. Ok (fold with_variable (finished precious vars) changes, map (λ change. blanks_note change.0) changes)) (all_agree precious vars 1 precious (among precious vars precious (λ q h. h)))
