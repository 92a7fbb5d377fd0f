-- AC_CHECK_PROGS and AC_PROG_CC.
use Rattle.std.proofs.Common.{◌≡◌, ℕ, Option, Some, None, List, [], ◌∷◌, ◌++◌, length, map, codes, Bool, true, false, cond, inl, inr, refl, sym, ap, ◌∙◌, subst, ⊎_elim, append_assoc, arith, length-append}
use Rattle.std.specs.Prelude.{◌||◌, ◌==◌, not, option_map, unwrap_or, bytes_eq}
use Rattle.std.specs.List.{AllByRecursion}
use Rattle.std.proofs.lemmas.Bool.{cases_Bool}
use Rattle.std.proofs.lemmas.Bool.Decides.{eqb_tells}
use Rattle.std.proofs.lemmas.List.{append-nil}
use Rattle.crew_jobs.specs.declared.job.Job.{Job}
use Rattle.crew_jobs.specs.Probe.{path_of}
use Rattle.crew_trait.specs.declared.reply.Reply.{Reply}
use Rattle.deftable.specs.Table.{value_of, with_entry}
use Rattle.deftable.specs.declared.note.Stream.TheVariants.{Out}
use Rattle.shellword.specs.declared.part.Part.{Part}
use Rattle.shellword.specs.Value.{word_value}
use Rattle.ac_tree.specs.declared.statement.Effect.TheVariants as effects
use Rattle.ac_tree.specs.TestNames.{program_name}
use Rattle.meaning.specs.State.{State, piece, with_child, with_variable, Goes_on, Run, Ends, then_run, as_is, value_or_empty}
use Rattle.meaning.specs.Asking.{success, after_child, same, attempted}
use Rattle.meaning.specs.Directories.{directories_of}
use Rattle.meaning.specs.Tests.{checking, with_result, Row, tested}
use Rattle.meaning.specs.Rows.{Program, attempts_in, value_if, row_of}
use Rattle.meaning.specs.Meaning.{check_prog, has_value, looks_all, defaulted, effect}
use Rattle.meaning_laws.specs.Cached.{with_cached}
use Rattle.meaning_laws.specs.Logged.{children_of}
use Rattle.meaning_laws.specs.Programs.{found_or, default_of, SearchEnds, AreNamed, IsSought, places_in, ProgramsAreSought, named_by, CachedIsNotSought, OwnIsNotSought}
use Rattle.meaning_laws.proofs.Values.{same_text, not_same, value_here, value_there, rewritten}
use Rattle.meaning_laws.proofs.CachedTests.{set_row}
use Rattle.meaning_laws.proofs.BatchEntries.{said, added, finds, rounded, unset_run}
use Rattle.meaning_laws.proofs.Searches.{Ending, Answered, Hunt, hunted}

-- ---- values

empty_is : (v : List ℕ) → not (length v == 0) ≡ false → v ≡ []
empty_is [] e = refl
empty_is (b ∷ bs) e = elim (eqb_tells (length (b ∷ bs)) 0) [
  | inl h ↦ let z = h.1 in absurd (omega (arith, z))
  | inr h ↦ let z : true ≡ false = sym (ap not h.0) ∙ e in cc
]

full_is : (v : List ℕ) → (v ≡ [] → ⊥) → not (length v == 0) ≡ true
full_is [] h = absurd (h refl)
full_is (b ∷ bs) h = elim (eqb_tells (length (b ∷ bs)) 0) [
  | inl h ↦ let z = h.1 in absurd (omega (arith, z))
  | inr h ↦ ap not h.0
]

-- The cache name is another name than the variable.
name_apart : (variable : List ℕ) → program_name variable ≡ variable → ⊥
name_apart variable e = let h = ap length e in let l = length-append (codes "ac_cv_prog_") variable in omega (arith, h, l)

name_differs : (variable : List ℕ) → bytes_eq (program_name variable) variable ≡ false
name_differs variable = not_same (program_name variable) variable (name_apart variable)

written : (variable v : List ℕ) (st : State) (vars : List (List ℕ × List ℕ)) → st.vars ≡ with_entry vars variable v → value_or_empty st variable ≡ v
written variable v st vars e = ap (λ l. unwrap_or (value_of l variable) []) e ∙ ap (λ o. unwrap_or o []) (value_here vars variable v)

-- An empty variable may be PATH itself.
path_same : (variable path : List ℕ) (st now : State) → has_value st variable ≡ false → now.vars ≡ with_entry st.vars variable [] → value_or_empty now path ≡ value_or_empty st path
path_same variable path st now empty is =
    ⊎_elim
    (λ t. subst (λ n. value_or_empty now n ≡ value_or_empty st n) (sym (same_text path variable t)) (written variable [] now st.vars is ∙ sym (empty_is (value_or_empty st variable) empty)))
    (λ f. ap (λ l. unwrap_or (value_of l path) []) is ∙ ap (λ o. unwrap_or o []) (value_there st.vars variable [] path f))
    (cases_Bool (bytes_eq path variable))

-- ---- later programs

-- So many children later, with these variables.
record At (st : State) (vars : List (List ℕ × List ℕ)) (kids : List (Job × Reply)) (now : State) : Type 0 where
  children : children_of now.log ≡ children_of st.log ++ kids
  vars_are : now.vars ≡ vars
  defs : now.defs ≡ st.defs

moved : (st : State) (v w : List (List ℕ × List ℕ)) (kids : List (Job × Reply)) (now : State) → v ≡ w → At st v kids now → At st w kids now
moved st v w kids now e a = subst (λ x. At st x kids now) e a

skipped : (b : Bool) (x y : Run) → b ≡ true → cond (false || not b) x y ≡ y
skipped b x y e = ap (λ c. cond (false || not c) x y) e

-- If the variable has a value, nothing more is looked for, and the default doesn't count.
skip_all : (variable : List ℕ) (programs : List (List ℕ)) (now : State) → has_value now variable ≡ true → looks_all variable programs false now ≡ Ends Goes_on now
skip_all variable [] now e = refl
skip_all variable (program ∷ more) now e =
    ap (λ r. then_run r (looks_all variable more false)) (skipped (has_value now variable) _ (Ends Goes_on now) e) ∙ skip_all variable more now e

no_default : (variable : List ℕ) (o : Option (List ℕ)) (now : State) → has_value now variable ≡ true → defaulted variable o now ≡ now
no_default variable None now e = refl
no_default variable (Some value) now e = ap (λ b. cond b now (with_variable variable value now)) e

abbrev lasts : List ℕ → Option (List Part) → State → Run
lasts variable otherwise now = Ends Goes_on (defaulted variable (option_map (λ t. word_value t now.vars) otherwise) now)

-- The end with a program.
full_ends : (variable program : List ℕ) (found : Option (List ℕ)) (programs : List (List ℕ)) (otherwise : Option (List Part)) (st now : State) (kids : List (Job × Reply)) (vars : List (List ℕ × List ℕ)) → (program ≡ [] → ⊥)
    → ((n : List ℕ) → (n ≡ variable → ⊥) → (n ≡ program_name variable → ⊥) → value_of vars n ≡ value_of st.vars n) → value_of vars (program_name variable) ≡ found
    → At st (with_entry vars variable program) kids now
    → (end : State) × ((then_run (looks_all variable programs false now) (lasts variable otherwise) ≡ Ends Goes_on end) × SearchEnds variable kids program found st end)
full_ends variable program found programs otherwise st now kids vars named others cached a =
    let has : has_value now variable ≡ true = ap (λ v. not (length v == 0)) (written variable program now vars a.vars_are) ∙ full_is program named in (
      now,
      (
        ap (λ r. then_run r (lasts variable otherwise)) (skip_all variable programs now has) ∙ ap (Ends Goes_on) (no_default variable (option_map (λ t. word_value t now.vars) otherwise) now has),
        record {
          children = a.children;
          value = ap (λ l. value_of l variable) a.vars_are ∙ value_here vars variable program;
          cached = ap (λ l. value_of l (program_name variable)) a.vars_are ∙ value_there vars variable program (program_name variable) (name_differs variable) ∙ cached;
          others = λ n x y. ap (λ l. value_of l n) a.vars_are ∙ value_there vars variable program n (not_same n variable x) ∙ others n x y;
          defs = a.defs;
        },
      ),
    )

-- The end without one.
empty_ends : (variable : List ℕ) (found : Option (List ℕ)) (otherwise : Option (List Part)) (st now : State) (kids : List (Job × Reply)) → value_of st.vars (program_name variable) ≡ found
    → At st (with_entry st.vars variable []) kids now
    → (end : State) × ((lasts variable otherwise now ≡ Ends Goes_on end) × SearchEnds variable kids (found_or None (default_of variable otherwise st)) found st end)
empty_ends variable found None st now kids cached a = (
  now,
  (
    refl,
    record {
      children = a.children;
      value = ap (λ l. value_of l variable) a.vars_are ∙ value_here st.vars variable [];
      cached = ap (λ l. value_of l (program_name variable)) a.vars_are ∙ value_there st.vars variable [] (program_name variable) (name_differs variable) ∙ cached;
      others = λ n x y. ap (λ l. value_of l n) a.vars_are ∙ value_there st.vars variable [] n (not_same n variable x);
      defs = a.defs;
    },
  ),
)
empty_ends variable found (Some word) st now kids cached a =
    let v = word_value word now.vars in
    let lacks : has_value now variable ≡ false = ap (λ v. not (length v == 0)) (written variable [] now st.vars a.vars_are) in (
      with_variable variable v now,
      (
        ap (λ b. Ends Goes_on (cond b now (with_variable variable v now))) lacks,
        record {
          children = a.children;
          value = value_here now.vars variable v ∙ ap (λ l. Some (word_value word l)) a.vars_are;
          cached = value_there now.vars variable v (program_name variable) (name_differs variable) ∙ ap (λ l. value_of l (program_name variable)) a.vars_are
              ∙ value_there st.vars variable [] (program_name variable) (name_differs variable) ∙ cached;
          others = λ n x y. value_there now.vars variable v n (not_same n variable x) ∙ ap (λ l. value_of l n) a.vars_are ∙ value_there st.vars variable [] n (not_same n variable x);
          defs = a.defs;
        },
      ),
    )

-- ---- one program

abbrev row : (variable program : List ℕ) → Option (List ℕ) → State → Row
row variable program own st = row_of (Program (check_prog variable program program None) own) st

-- What follows the children of one test.
abbrev all_rounded : List ℕ → Row → List (List ℕ) → Option (List Part) → Run → Run
all_rounded variable r more otherwise run = then_run (then_run (rounded r run) (looks_all variable more false)) (lasts variable otherwise)

-- The next directories.
abbrev goes : (variable program : List ℕ) → List (List ℕ) → Bool → State → Run
goes variable program ds b now =
    cond (same true b) (finds (program_name variable) (Some program) now) (attempted as_is (attempts_in (check_prog variable program program None) ds) None now (finds (program_name variable)))

abbrev in_all : List ℕ → List (List ℕ) → List (List ℕ × List ℕ)
in_all program directories = map (λ directory. (program, directory ++ program)) directories

child_at : (st : State) (vars : List (List ℕ × List ℕ)) (kids : List (Job × Reply)) (x : State) (file : List ℕ) (reply : Reply) → At st vars kids x → At st vars (kids ++ (path_of file, reply) ∷ []) (with_child (path_of file) reply x)
child_at st vars kids x file reply a = record {
  children = added x.log (path_of file) reply ∙ ap (λ l. l ++ (path_of file, reply) ∷ []) a.children ∙ append_assoc (children_of st.log) kids ((path_of file, reply) ∷ []);
  vars_are = a.vars_are;
  defs = a.defs;
}

-- In each directory.
in_each : (variable program : List ℕ) (r : Row) (more : List (List ℕ)) (otherwise : Option (List Part)) (P : Option (List ℕ) → List (Job × Reply) → State → Type 0) (rest : List (List ℕ × List ℕ)) (st : State) (vars : List (List ℕ × List ℕ))
    → ((kids : List (Job × Reply)) (x : State) → At st vars kids x → Ending P (Some program) kids (all_rounded variable r more otherwise (finds (program_name variable) (Some program) x)))
    → ((kids : List (Job × Reply)) (x : State) → At st vars kids x → Hunt rest P kids (all_rounded variable r more otherwise (finds (program_name variable) None x)))
    → (directories : List (List ℕ)) (kids : List (Job × Reply)) (x : State) → At st vars kids x
    → Hunt (map (λ directory. (program, directory ++ program)) directories ++ rest) P kids
    (all_rounded variable r more otherwise (attempted as_is (attempts_in (check_prog variable program program None) directories) None x (finds (program_name variable))))
in_each variable program r more otherwise P rest st vars here none [] kids x a = none kids x a
in_each variable program r more otherwise P rest st vars here none (d ∷ ds) kids x a = (
  _,
  (
    refl,
    λ reply.
        by_answer reply (success reply) (λ l y b. here l y b) (λ l y b. in_each variable program r more otherwise P rest st vars here none ds l y b),
  ),
)
  where
    by_answer : (reply : Reply) (o : Option Bool)
        → ((l : List (Job × Reply)) (y : State) → At st vars l y → Ending P (Some program) l (all_rounded variable r more otherwise (finds (program_name variable) (Some program) y)))
        → ((l : List (Job × Reply)) (y : State) → At st vars l y → Hunt (in_all program ds ++ rest) P l (all_rounded variable r more otherwise (attempted as_is (attempts_in (check_prog variable program program None) ds) None y (finds (program_name variable)))))
        → Answered o
        (Ending P (Some program) (kids ++ (path_of (d ++ program), reply) ∷ []) (all_rounded variable r more otherwise (after_child as_is o (with_child (path_of (d ++ program)) reply x) (goes variable program ds))))
        (Hunt (in_all program ds ++ rest) P (kids ++ (path_of (d ++ program), reply) ∷ []) (all_rounded variable r more otherwise (after_child as_is o (with_child (path_of (d ++ program)) reply x) (goes variable program ds))))
    by_answer reply None found later = tt
    by_answer reply (Some true) found later = found _ _ (child_at st vars kids x (d ++ program) reply a)
    by_answer reply (Some false) found later = later _ _ (child_at st vars kids x (d ++ program) reply a)

-- The state after a test, by the value of its name.
abbrev tested_end : Row → State → Option (List ℕ) → State
tested_end r x o = r.after o (with_result (r.test.shown o) x)

quiet_at : (st : State) (vars : List (List ℕ × List ℕ)) (kids : List (Job × Reply)) (now : State) (variable program : List ℕ) (own : Option (List ℕ)) (first : State) (o : Option (List ℕ)) → At st vars kids now
    → At st (with_entry vars variable (unwrap_or o [])) kids (tested_end (row variable program own first) now o)
quiet_at st vars kids now variable program own first o a = record {
  children = said now.log (piece Out _) ∙ a.children;
  vars_are = ap (λ l. with_entry l variable (unwrap_or o [])) a.vars_are;
  defs = a.defs;
}

abbrev opened : (variable program : List ℕ) → List (List ℕ) → Option (List Part) → State → Bool → Bool → Run
opened variable program more otherwise now always b =
    then_run (then_run (cond (always || not b) (tested (row variable program (value_if b (value_or_empty now variable)) now) now) (Ends Goes_on now)) (looks_all variable more false)) (lasts variable otherwise)

either_opened : (variable program : List ℕ) (more : List (List ℕ)) (otherwise : Option (List Part)) (now : State) (always : Bool)
    → opened variable program more otherwise now always false ≡ then_run (then_run (tested (row variable program None now) now) (looks_all variable more false)) (lasts variable otherwise)
either_opened variable program more otherwise now true = refl
either_opened variable program more otherwise now false = refl

-- One program, if neither the variable nor the name has a value.
one_program : (variable program : List ℕ) (more : List (List ℕ)) (always : Bool) (otherwise : Option (List Part)) (P : Option (List ℕ) → List (Job × Reply) → State → Type 0) (rest : List (List ℕ × List ℕ)) (st now : State) (vars : List (List ℕ × List ℕ)) (kids : List (Job × Reply))
    → At st vars kids now → has_value now variable ≡ false → value_of vars (program_name variable) ≡ None
    → ((kids : List (Job × Reply)) (z : State) → At st (with_entry (with_entry vars (program_name variable) program) variable program) kids z → Ending P (Some program) kids (then_run (looks_all variable more false z) (lasts variable otherwise)))
    → ((kids : List (Job × Reply)) (z : State) → At st (with_entry vars variable []) kids z → Hunt rest P kids (then_run (looks_all variable more false z) (lasts variable otherwise)))
    → Hunt (map (λ directory. (program, directory ++ program)) (directories_of (value_or_empty now (codes "PATH"))) ++ rest) P kids (then_run (looks_all variable (program ∷ more) always now) (lasts variable otherwise))
one_program variable program more always otherwise P rest st now vars kids a empty unset here none =
    let name = program_name variable in
    let r = row variable program None now in
    let sought = in_all program (directories_of (value_or_empty now (codes "PATH"))) ++ rest in
    let unset_now : value_of now.vars name ≡ None = ap (λ l. value_of l name) a.vars_are ∙ unset in
    let begun : At st vars kids (checking r.test.message now) = record { children = said now.log (piece Out _) ∙ a.children; vars_are = a.vars_are; defs = a.defs } in
    subst (Hunt sought P kids)
    (sym (ap (opened variable program more otherwise now always) empty
    ∙ either_opened variable program more otherwise now always
    ∙ ap (λ run. then_run (then_run run (looks_all variable more false)) (lasts variable otherwise)) (unset_run r now unset_now refl)))
    (in_each variable program r more otherwise P rest st vars
    (λ l x b. found l x b)
    (λ l x b.
    subst (λ o. Hunt rest P l (then_run (looks_all variable more false (tested_end r x o)) (lasts variable otherwise))) (sym (ap (λ v. value_of v name) b.vars_are ∙ unset))
    (none l _ (quiet_at st vars l x variable program None now None b)))
    (directories_of (value_or_empty now (codes "PATH"))) kids (checking r.test.message now) begun)
  where
    found : (l : List (Job × Reply)) (x : State) → At st vars l x → Ending P (Some program) l (all_rounded variable (row variable program None now) more otherwise (finds (program_name variable) (Some program) x))
    found l x b =
        let name = program_name variable in
        let y = with_variable name program x in
        let at : At st (with_entry vars name program) l y = record { children = b.children; vars_are = ap (λ v. with_entry v name program) b.vars_are; defs = b.defs } in
        subst (λ o. Ending P (Some program) l (then_run (looks_all variable more false (tested_end (row variable program None now) y o)) (lasts variable otherwise))) (sym (value_here x.vars name program))
        (here l _ (quiet_at st (with_entry vars name program) l y variable program None now (Some program) at))

-- ---- all programs

abbrev Ends_so : List ℕ → Option (List Part) → State → Option (List ℕ) → List (Job × Reply) → State → Type 0
Ends_so variable otherwise st found kids now = SearchEnds variable kids (found_or found (default_of variable otherwise st)) found st now

all_later : (variable : List ℕ) (programs : List (List ℕ)) (otherwise : Option (List Part)) (st now : State) (kids : List (Job × Reply)) → AllByRecursion (λ program. program ≡ [] → ⊥) programs → IsSought variable st
    → At st (with_entry st.vars variable []) kids now
    → Hunt (places_in programs st) (Ends_so variable otherwise st) kids (then_run (looks_all variable programs false now) (lasts variable otherwise))
all_later variable [] otherwise st now kids named s a = empty_ends variable None otherwise st now kids s.unset a
all_later variable (program ∷ more) otherwise st now kids named s a =
    let vars = with_entry st.vars variable [] in
    let unset : value_of vars (program_name variable) ≡ None = value_there st.vars variable [] (program_name variable) (name_differs variable) ∙ s.unset in
    subst (λ path. Hunt (map (λ directory. (program, directory ++ program)) (directories_of path) ++ places_in more st) (Ends_so variable otherwise st) kids (then_run (looks_all variable (program ∷ more) false now) (lasts variable otherwise)))
    (path_same variable (codes "PATH") st now s.empty a.vars_are)
    (one_program variable program more false otherwise (Ends_so variable otherwise st) (places_in more st) st now vars kids a (ap (λ v. not (length v == 0)) (written variable [] now st.vars a.vars_are)) unset
    (λ kids z b. full_ends variable program (Some program) more otherwise st z kids (with_entry vars (program_name variable) program) named.0
    (λ n x y. value_there vars (program_name variable) program n (not_same n (program_name variable) y) ∙ value_there st.vars variable [] n (not_same n variable x)) (value_here vars (program_name variable) program) b)
    (λ kids z b. all_later variable more otherwise st z kids named.1 s (moved st _ vars kids z (rewritten st.vars variable [] []) b)))

all_of : (variable : List ℕ) (programs : List (List ℕ)) (otherwise : Option (List Part)) (st : State) → AreNamed programs → IsSought variable st
    → Hunt (places_in programs st) (Ends_so variable otherwise st) [] (then_run (looks_all variable programs true st) (lasts variable otherwise))
all_of variable [] otherwise st named s = absurd (named.some refl)
all_of variable (program ∷ more) otherwise st named s =
    one_program variable program more true otherwise (Ends_so variable otherwise st) (places_in more st) st st st.vars [] (record { children = sym (append-nil (children_of st.log)); vars_are = refl; defs = refl }) s.empty s.unset
    (λ kids z b. full_ends variable program (Some program) more otherwise st z kids (with_entry st.vars (program_name variable) program) named.named.0
    (λ n x y. value_there st.vars (program_name variable) program n (not_same n (program_name variable) y)) (value_here st.vars (program_name variable) program) b)
    (λ kids z b. all_later variable more otherwise st z kids named.named.1 s b)

-- ---- the statements

pub programs_are_sought : ProgramsAreSought
unfolding effect
programs_are_sought variable programs otherwise st replies named sought enough none =
    let h = hunted (places_in programs st) (Ends_so variable otherwise st) [] (effect (effects.Searches variable programs otherwise) st) replies (all_of variable programs otherwise st named sought) enough none in
    record { how = h.0; ends = h.1 }

-- ---- a value that is there

-- Later looks, after one whose name had this value.
kept_all : (variable v : List ℕ) (programs : List (List ℕ)) (st now : State) → value_of st.vars (program_name variable) ≡ Some v → At st (with_entry st.vars variable v) [] now
    → (end : State) × ((looks_all variable programs false now ≡ Ends Goes_on end) × At st (with_entry st.vars variable v) [] end)
kept_all variable v [] st now cached a = (now, (refl, a))
kept_all variable [] (program ∷ more) st now cached a =
    let lacks : has_value now variable ≡ false = ap (λ v. not (length v == 0)) (written variable [] now st.vars a.vars_are) in
    let name = program_name variable in
    let here : value_of now.vars name ≡ Some [] = ap (λ l. value_of l name) a.vars_are ∙ value_there st.vars variable [] name (name_differs variable) ∙ cached in
    let r = row variable program (value_if (has_value now variable) (value_or_empty now variable)) now in
    let z = r.after (Some []) (with_cached r.test [] now) in
    let at : At st (with_entry st.vars variable []) [] z = record {
      children = said (checking r.test.message now).log (piece Out _) ∙ said now.log (piece Out _) ∙ a.children;
      vars_are = ap (λ l. with_entry l variable []) a.vars_are ∙ rewritten st.vars variable [] [];
      defs = a.defs;
    } in
    let rest = kept_all variable [] more st z cached at in (
      rest.0,
      (
        ap (λ run. then_run run (looks_all variable more false)) (ap (λ b. cond (false || not b) (tested r now) (Ends Goes_on now)) lacks ∙ set_row r [] now here) ∙ rest.1.0,
        rest.1.1,
      ),
    )
kept_all variable (b ∷ bs) (program ∷ more) st now cached a =
    let has : has_value now variable ≡ true = ap (λ v. not (length v == 0)) (written variable (b ∷ bs) now st.vars a.vars_are) ∙ full_is (b ∷ bs) (λ e. cc) in
    (now, (skip_all variable (program ∷ more) now has, a))

cached_ends : (variable v : List ℕ) (otherwise : Option (List Part)) (st now : State) → value_of st.vars (program_name variable) ≡ Some v → At st (with_entry st.vars variable v) [] now
    → (end : State) × ((lasts variable otherwise now ≡ Ends Goes_on end) × SearchEnds variable [] (found_or (named_by v) (default_of variable otherwise st)) (Some v) st end)
cached_ends variable [] otherwise st now cached a = empty_ends variable (Some []) otherwise st now [] cached a
cached_ends variable (b ∷ bs) otherwise st now cached a = full_ends variable (b ∷ bs) (Some (b ∷ bs)) [] otherwise st now [] st.vars (λ e. cc) (λ n x y. refl) cached a

pub cached_is_not_sought : CachedIsNotSought
unfolding effect
cached_is_not_sought variable [] otherwise st v named cached = absurd (named.some refl)
cached_is_not_sought variable (program ∷ more) otherwise st v named cached =
    let r = row variable program (value_if (has_value st variable) (value_or_empty st variable)) st in
    let z = r.after (Some v) (with_cached r.test v st) in
    let at : At st (with_entry st.vars variable v) [] z = record {
      children = said (checking r.test.message st).log (piece Out _) ∙ said st.log (piece Out _) ∙ sym (append-nil (children_of st.log));
      vars_are = refl;
      defs = refl;
    } in
    let rest = kept_all variable v more st z cached at in
    let last = cached_ends variable v otherwise st rest.0 cached rest.1.1 in
    record {
      now = last.0;
      is = ap (λ run. then_run (then_run run (looks_all variable more false)) (lasts variable otherwise)) (set_row r v st cached) ∙ ap (λ run. then_run run (lasts variable otherwise)) rest.1.0 ∙ last.1.0;
      ends = last.1.1;
    }

pub own_is_not_sought : OwnIsNotSought
unfolding effect
own_is_not_sought variable [] otherwise st v named unset own full = absurd (named.some refl)
own_is_not_sought variable (program ∷ more) otherwise st v named unset own full =
    let name = program_name variable in
    let own_is : value_or_empty st variable ≡ v = ap (λ o. unwrap_or o []) own in
    let has : has_value st variable ≡ true = ap (λ v. not (length v == 0)) own_is ∙ full_is v full in
    let r = row variable program (Some v) st in
    let y = with_variable name v (checking r.test.message st) in
    let run : tested (row variable program (value_if (has_value st variable) (value_or_empty st variable)) st) st ≡ Ends Goes_on (tested_end r y (Some v)) =
    ap (λ b. tested (row variable program (value_if b (value_or_empty st variable)) st) st) has
    ∙ ap (λ w. tested (row variable program (Some w) st) st) own_is
    ∙ unset_run r st unset refl
    ∙ ap (λ o. Ends Goes_on (tested_end r y o)) (value_here st.vars name v) in
    let begun : At st st.vars [] (checking r.test.message st) = record { children = said st.log (piece Out _) ∙ sym (append-nil (children_of st.log)); vars_are = refl; defs = refl } in
    let at : At st (with_entry st.vars name v) [] y = record { children = begun.children; vars_are = refl; defs = refl } in
    let last = full_ends variable v (Some v) more otherwise st (tested_end r y (Some v)) [] (with_entry st.vars name v) full
    (λ n a b. value_there st.vars name v n (not_same n name b)) (value_here st.vars name v) (quiet_at st (with_entry st.vars name v) [] y variable program (Some v) st (Some v) at) in
    record { now = last.0; is = ap (λ run. then_run (then_run run (looks_all variable more false)) (lasts variable otherwise)) run ∙ last.1.0; ends = last.1.1 }
