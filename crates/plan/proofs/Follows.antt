-- The walk of a plan is the meaning of its statements.
use Rattle.std.proofs.Common.{◌≡◌, codes, ◌+◌, ℕ, suc, Option, Some, None, List, [], ◌∷◌, ◌++◌, length, unwrap_or, option_map, Bool, true, false, cond, refl, sym, ap, ◌∙◌, arith, append_assoc}
use Rattle.std.proofs.lemmas.List.{append-nil}
use Rattle.std.proofs.Math.Path.{fun_ext}
use Rattle.deftable.specs.Table.{value_of}
use Rattle.shellword.specs.declared.part.Part.{Part}
use Rattle.shellword.specs.Value.{word_value}
use Rattle.ac_tree.specs.declared.statement.Effect.{Effect}
use Rattle.ac_tree.specs.declared.statement.Effect.TheVariants.{Searches}
use Rattle.ac_tree.specs.declared.tree.Subject as what
use Rattle.ac_tree.specs.declared.tree.When.{When}
use Rattle.ac_tree.specs.Script.{Script, Done, Then, Choice, Check, Cases, No_case, Case}
use Rattle.meaning.specs.State.{State, Scope, no_choice, as_is, Goes_on, Run, Ends, then_run}
use Rattle.meaning.specs.Tests.{guarded, checking, with_result, test_by, cached_test}
use Rattle.plan.specs.Broken.{broken_all, guarded_all}
use Rattle.meaning.specs.Meaning.{effect, looks, looks_all, defaulted, after_subject, is_taken, check, rounds_of, in_turn, meaning, chosen}
use Rattle.plan.specs.Walk.{Instruction, Does, Skips_unless, Skips, Opens, Closes, Mind, mind_of, empty_mind, opened, own_effect, walk, DoesWhat}
use Rattle.plan.specs.Code.{case_code, check_code, code_after, code_each, code_of, code_of_cases, code_of_programs, default_code}
use Rattle.plan.proofs.Endings.{then_then, then_ends, guarded_then, guarded_inner, guarded_none, then_carries, ended_carries, begun_carried}

-- The steps of one part of the code are passed.
past : (a b : List Instruction) (n : ℕ) (mind : Mind) (st : State) → walk (a ++ b) (length a + n) mind st ≡ walk b n mind st
past [] b n mind st = let e : 0 + n ≡ n = omega arith in ap (λ k. walk b k mind st) e
past (i ∷ a) b n mind st =
    let e : length (i ∷ a) + n ≡ suc (length a + n) = omega arith in
    ap (λ k. walk (i ∷ (a ++ b)) k mind st) e ∙ past a b n mind st

past_all : (a b : List Instruction) (mind : Mind) (st : State) → walk (a ++ b) (length a) mind st ≡ walk b 0 mind st
past_all a b mind st = let e : length a ≡ length a + 0 = omega arith in ap (λ k. walk (a ++ b) k mind st) e ∙ past a b 0 mind st

-- The code of a case, with what follows it.
pub flat : (when : When) (body more rest : List Instruction) (n : ℕ) → (case_code when body n ++ more) ++ rest ≡ Skips_unless when (length body + 1) ∷ (body ++ (Skips n ∷ (more ++ rest)))
flat when body more rest n = ap (λ l. Skips_unless when (length body + 1) ∷ l) (inside body more rest)
  where
    inside : (a m r : List Instruction) → ((a ++ (Skips n ∷ [])) ++ m) ++ r ≡ a ++ (Skips n ∷ (m ++ r))
    inside a m r = simp append_assoc

-- The code of a check, with what follows it.
pub flat_check : (message : List Part) (name : List ℕ) (body more rest : List Instruction)
    → (check_code message name body ++ more) ++ rest ≡ Opens message name (length body + 1) ∷ (body ++ (Closes name ∷ (more ++ rest)))
flat_check message name body more rest = ap (λ l. Opens message name (length body + 1) ∷ l) (inside body more rest)
  where
    inside : (a m r : List Instruction) → ((a ++ (Closes name ∷ [])) ++ m) ++ r ≡ a ++ (Closes name ∷ (m ++ r))
    inside a m r = simp append_assoc

-- Inside these tests, the steps continue in this way, whatever the subject.
abbrev GoesOn : List Instruction → List (List ℕ) → (State → Run) → Type 0
GoesOn steps tests next = (scope : Scope) (st : State) → walk steps 0 (mind_of scope tests) st ≡ next st

-- A case, given the effects of its statements and of the cases after it.
either : (b : Bool) (inner body more rest : List Instruction) (yes_run no_run : Run) (mind : Mind) (st : State) → inner ≡ body ++ (Skips (length more) ∷ (more ++ rest))
    → walk (body ++ (Skips (length more) ∷ (more ++ rest))) 0 mind st ≡ yes_run
    → walk (more ++ rest) 0 mind st ≡ no_run
    → cond b (walk inner 0 mind st) (walk inner (length body + 1) mind st) ≡ cond b yes_run no_run
either true inner body more rest yes_run no_run mind st e f g = ap (λ l. walk l 0 mind st) e ∙ f
either false inner body more rest yes_run no_run mind st e f g =
    ap (λ l. walk l (length body + 1) mind st) e ∙ past body _ 1 mind st ∙ g

guarded_either : (tests : List (List ℕ)) (b : Bool) (x y : Run) (next : State → Run)
    → cond b (then_run (guarded_all tests x) next) (then_run (guarded_all tests y) next) ≡ then_run (guarded_all tests (cond b x y)) next
guarded_either tests true x y next = refl
guarded_either tests false x y next = refl

-- What follows a run, inside the same tests.
in_order : (tests : List (List ℕ)) (r : Run) (m next : State → Run) → then_run (guarded_all tests r) (λ s. then_run (guarded_all tests (m s)) next) ≡ then_run (guarded_all tests (then_run r m)) next
in_order tests r m next =
    sym (then_then (guarded_all tests r) (λ s. guarded_all tests (m s)) next)
    ∙ ap (λ x. then_run x next) (sym (guarded_then tests r m))

-- Programs, one after the other.
programs_follow : (variable : List ℕ) (programs : List (List ℕ)) (always : Bool) (rest : List Instruction) (tests : List (List ℕ)) (next : State → Run) → GoesOn rest tests next
    → GoesOn (code_of_programs variable programs always ++ rest) tests (λ st. then_run (guarded_all tests (looks_all variable programs always st)) next)
programs_follow variable [] always rest tests next h scope st = h scope st
programs_follow variable (p ∷ programs) always rest tests next h scope st =
    ap (then_run (guarded_all tests (looks variable p always st))) (fun_ext (programs_follow variable programs false rest tests next h scope))
    ∙ in_order tests (looks variable p always st) (looks_all variable programs false) next

-- The default of programs, if there is one.
default_follows : (variable : List ℕ) (value : Option (List Part)) (rest : List Instruction) (tests : List (List ℕ)) (next : State → Run) → GoesOn rest tests next
    → GoesOn (default_code variable value ++ rest) tests (λ st. next (defaulted variable (option_map (λ t. word_value t st.vars) value) st))
default_follows variable None rest tests next h scope st = h scope st
default_follows variable (Some value) rest tests next h scope st = h scope (defaulted variable (Some (word_value value st.vars)) st)

-- An effect with no steps after its own.
ordinary : (s : Effect) (rest : List Instruction) (tests : List (List ℕ)) (next : State → Run) → own_effect s ≡ effect s → code_after s ≡ [] → GoesOn rest tests next
    → GoesOn (Does s ∷ (code_after s ++ rest)) tests (λ st. then_run (guarded_all tests (effect s st)) next)
ordinary s rest tests next own none h scope st =
    ap (λ e. then_run (guarded_all tests (e st)) (walk (code_after s ++ rest) 0 (mind_of scope tests))) own
    ∙ ap (λ l. then_run (guarded_all tests (effect s st)) (walk (l ++ rest) 0 (mind_of scope tests))) none
    ∙ ap (then_run (guarded_all tests (effect s st))) (fun_ext (h scope))

-- An effect.
does_follow : (s : Effect) (rest : List Instruction) (tests : List (List ℕ)) (next : State → Run) → GoesOn rest tests next
    → GoesOn (Does s ∷ (code_after s ++ rest)) tests (λ st. then_run (guarded_all tests (effect s st)) next)
unfolding effect
does_follow (Searches variable programs otherwise) rest tests next h scope st =
    let last = λ (now : State). defaulted variable (option_map (λ t. word_value t now.vars) otherwise) now in
    ap (λ l. walk l 0 (mind_of scope tests) st) (append_assoc (code_of_programs variable programs true) (default_code variable otherwise) rest)
    ∙ programs_follow variable programs true (default_code variable otherwise ++ rest) tests (λ now. next (last now)) (default_follows variable otherwise rest tests next h) scope st
    ∙ in_order tests (looks_all variable programs true st) (λ now. Ends Goes_on (last now)) next
does_follow other rest tests next h scope st = ordinary other rest tests next refl refl h scope st

-- A check, given the effect of its commands.
checks : (o : Option (List ℕ)) (message : List Part) (name : List ℕ) (body rest : List Instruction) (tests : List (List ℕ)) (m next : State → Run)
    → ((more : List Instruction) (inner : List (List ℕ)) (f : State → Run) → GoesOn more inner f → GoesOn (body ++ more) inner (λ st. then_run (guarded_all inner (m st)) f))
    → GoesOn rest tests next → (scope : Scope) (st : State)
    → opened o name (length body + 1) (walk (body ++ (Closes name ∷ rest))) (mind_of scope tests) (checking (word_value message st.vars) st)
    ≡ then_run (guarded_all tests (test_by o (check message name m st) (checking (word_value message st.vars) st))) next
checks (Some value) message name body rest tests m next does h scope st =
    let s = with_result (codes "(cached) " ++ value) (checking (word_value message st.vars) st) in
    past body (Closes name ∷ rest) 1 (mind_of scope tests) s
    ∙ h scope s
checks None message name body rest tests m next does h scope st =
    let s = checking (word_value message st.vars) st in
    let closed = λ (now : State). with_result (unwrap_or (value_of now.vars name) []) now in
    does (Closes name ∷ rest) (name ∷ tests) (λ now. next (closed now)) (λ c now. h c (closed now)) scope s
    ∙ ap (λ x. then_run x (λ now. next (closed now))) (sym (guarded_inner tests name (m s)))
    ∙ in_order tests (guarded name (m s)) (λ now. Ends Goes_on (closed now)) next

-- Rounds, one after the other, given the effect of the cases.
rounds_follow : (rounds : List what.Subject) (cases rest : List Instruction) (tests : List (List ℕ)) (go : Scope → State → Run) (next : State → Run)
    → ((more : List Instruction) (f : State → Run) → GoesOn more tests f → (scope : Scope) (st : State) → walk (cases ++ more) 0 (mind_of scope tests) st ≡ then_run (guarded_all tests (go scope st)) f)
    → GoesOn rest tests next → GoesOn (code_each rounds cases ++ rest) tests (λ st. then_run (guarded_all tests (in_turn rounds go st)) next)
rounds_follow [] cases rest tests go next does h scope st = h scope st
rounds_follow (round ∷ rounds) cases rest tests go next does h scope st =
    let all = broken_all tests in
    let each = code_each rounds cases in
    let later = λ (now : State). then_run (guarded_all tests (in_turn rounds go now)) next in
    ap (after_subject all round st) (fun_ext (λ about. fun_ext (λ now.
    ap (λ l. walk l 0 (mind_of about tests) now) (append_assoc cases each rest)
    ∙ does (each ++ rest) later (rounds_follow rounds cases rest tests go next does h) about now)))
    ∙ sym (begun_carried (λ r. then_run r later) all all (then_carries all later) round st (λ about now. guarded_all tests (go about now)))
    ∙ ap (λ x. then_run x later) (sym (begun_carried (guarded_all tests) as_is all (ended_carries tests as_is) round st go))
    ∙ in_order tests (after_subject as_is round st go) (in_turn rounds go) next

mutual
  unfolding meaning chosen

  pub follows : (script : Script) (rest : List Instruction) (tests : List (List ℕ)) (next : State → Run) → GoesOn rest tests next
      → GoesOn (code_of script ++ rest) tests (λ st. then_run (guarded_all tests (meaning script st)) next)
  follows Done rest tests next h scope st = h scope st
  follows (Then declares s script) rest tests next h scope st =
      ap (λ l. walk (Does s ∷ l) 0 (mind_of scope tests) st) (append_assoc (code_after s) (code_of script) rest)
      ∙ does_follow s (code_of script ++ rest) tests (λ now. then_run (guarded_all tests (meaning script now)) next) (follows script rest tests next h) scope st
      ∙ in_order tests (effect s st) (meaning script) next
  follows (Choice declares subject cases script) rest tests next h scope st =
      let c = code_of_cases cases in let r = code_of script in
      ap (λ l. walk l 0 (mind_of scope tests) st) (append_assoc (code_each (rounds_of subject) c) r rest)
      ∙ rounds_follow (rounds_of subject) c (r ++ rest) tests (chosen cases) (λ s. then_run (guarded_all tests (meaning script s)) next)
      (λ more f. chooses cases more tests f) (follows script rest tests next h) scope st
      ∙ in_order tests (in_turn (rounds_of subject) (chosen cases) st) (meaning script) next
  follows (Check message name commands script) rest tests next h scope st =
      let b = code_of commands in let r = code_of script in
      ap (λ l. walk l 0 (mind_of scope tests) st) (flat_check message name b r rest)
      ∙ checks (value_of st.vars name) message name b (r ++ rest) tests (meaning commands) (λ s. then_run (guarded_all tests (meaning script s)) next) (follows commands) (follows script rest tests next h) scope st
      ∙ in_order tests (cached_test (check message name (meaning commands) st) st) (meaning script) next

  chooses : (cases : Cases) (rest : List Instruction) (tests : List (List ℕ)) (next : State → Run) → GoesOn rest tests next
      → (scope : Scope) (st : State) → walk (code_of_cases cases ++ rest) 0 (mind_of scope tests) st ≡ then_run (guarded_all tests (chosen cases scope st)) next
  chooses No_case rest tests next h scope st = h scope st
  chooses (Case when body cases) rest tests next h scope st =
      let b = code_of body in let m = code_of_cases cases in
      let taken = is_taken when scope st.vars in
      ap (λ l. walk l 0 (mind_of scope tests) st) (flat when b m rest (length m))
      ∙ either taken _ b m rest _ _ (mind_of scope tests) st refl
      (follows body (Skips (length m) ∷ (m ++ rest)) tests next (λ c s. past_all m rest (mind_of c tests) s ∙ h c s) scope st)
      (chooses cases rest tests next h scope st)
      ∙ guarded_either tests taken (meaning body st) (chosen cases scope st) next

pub does_what : (script : Script) → DoesWhat (code_of script) script
does_what script st =
    ap (λ l. walk l 0 empty_mind st) (sym (append-nil (code_of script)))
    ∙ follows script [] [] (Ends Goes_on) (λ scope s. refl) no_choice st
    ∙ ap (λ r. then_run r (Ends Goes_on)) (guarded_none (meaning script st))
    ∙ then_ends (meaning script st)
