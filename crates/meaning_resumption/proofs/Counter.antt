-- Why each premise of the law is there: without it, the second run ends otherwise than the joint one. In each example the first
-- run is cut in a test of the function g.
use Rattle.std.proofs.Common.{◌≡◌, ℕ, codes, List, [], ◌∷◌, map, false, Option, Some, None, refl}
use Rattle.crew_trait.specs.declared.reply.Reply.{Reply}
use Rattle.crew_trait.specs.declared.reply.Reply.TheVariants.{Answer, StartRefused}
use Rattle.deftable.specs.Table.{value_of, with_entry, without_entry}
use Rattle.crew_jobs.specs.Probe.{words_of, job_of}
use Rattle.shellword.specs.declared.element.Condition.TheVariants.{Nonempty}
use Rattle.shellword.specs.declared.part.Part.{Part}
use Rattle.shellword.specs.declared.part.Part.TheVariants as parts
use Rattle.shellword.specs.Truth.{single, truth}
use Rattle.shellword.specs.Value.{word_value}
use Rattle.text_cut.specs.Cuts.{fields, parts_by, parts}
use Rattle.ac_tree.specs.declared.listed.Listed.TheVariants.{Function}
use Rattle.ac_tree.specs.declared.listed.Sought.TheVariants.{ListEntry}
use Rattle.ac_tree.specs.declared.program.Program.TheVariants.{Whole}
use Rattle.ac_tree.specs.declared.program.Try.TheVariants.{Compile}
use Rattle.ac_tree.specs.declared.statement.Declares.TheVariants as declares
use Rattle.ac_tree.specs.declared.statement.Effect.TheVariants.{Assign, Define, Search}
use Rattle.ac_tree.specs.declared.statement.ProgramValue.TheVariants.{Text}
use Rattle.ac_tree.specs.declared.statement.Question.TheVariants.{Tries, Checks, ChecksEach}
use Rattle.ac_tree.specs.declared.tree.Subject.TheVariants.{Nothing, Asked}
use Rattle.ac_tree.specs.declared.tree.When.TheVariants.{Holds, Yes, Always}
use Rattle.ac_tree.specs.Script.{Script, Done, Then, Choice, Check, Cases, No_case, Case}
use Rattle.meaning.specs.State.{State, opened}
use Rattle.meaning.specs.Directories.{directories_of}
use Rattle.meaning.specs.Meaning.{effect, after_subject, is_taken, meaning, chosen}
use Rattle.meaning_resumption.specs.Finished.{finish}
use Rattle.meaning_resumption.specs.Joint.{joint, joint_cases, joint_plain, begins, scope_at, joint_replies}

abbrev pub vars_with : List (List ℕ × List ℕ) → State
vars_with more = opened ((codes "CC", codes "cc") ∷ (codes "PATH", codes "/b") ∷ more)

abbrev pub good : Reply
good = Answer 0 []

abbrev pub bad : Reply
bad = Answer 1 []

abbrev pub text : List ℕ → List Part
text t = map parts.Plain t

abbrev pub value : List ℕ → List Part
value name = parts.Variable name ∷ []

abbrev pub sets : List ℕ → List ℕ → Script
sets name t = Then declares.Nothing (Assign name (text t)) Done

-- AC_CHECK_FUNC
abbrev pub checks : List ℕ → Cases → Script → Script
checks name cases rest = Choice declares.Nothing (Asked (Checks (ListEntry Function) name None)) cases rest

abbrev pub cut_here : Script
cut_here = checks (codes "g") No_case Done

-- AS_IF([test -n "$NAME"],[x=1])
abbrev pub if_set : List ℕ → Script → Script
if_set name rest = Choice declares.Nothing Nothing (Case (Holds (single (record { negated = false; condition = Nonempty (value name) }))) (sets (codes "x") (codes "1")) No_case) rest

abbrev pub f_is : List (List ℕ × List ℕ)
f_is = (codes "ac_cv_func_f", codes "yes") ∷ []

abbrev pub set_x : Script
set_x = sets (codes "x") (codes "1")

abbrev pub v_is : List (List ℕ × List ℕ)
v_is = (codes "v_cv_x", codes "1") ∷ []

abbrev pub set_v : Script
set_v = sets (codes "v_cv_x") (codes "1")

-- A choice about whether a program is compiled.
abbrev pub tries : Cases → Script → Script
tries cases rest = Choice declares.Nothing (Asked (Tries Compile (Whole (text (codes "p"))))) cases rest

-- AC_CACHE_CHECK that sets its name if a program is compiled.
abbrev pub maybe : Script → Script
maybe rest = Check (text (codes "x")) (codes "v_cv_x") (tries (Case Yes set_v No_case) Done) rest

abbrev set_to : List ℕ → Script
set_to t = sets (codes "v_cv_x") t

-- What the examples compute with.
unfoldable pub on_values : Unit {0}
unfolding effect after_subject is_taken meaning chosen joint joint_cases joint_plain begins scope_at value_of with_entry without_entry words_of job_of truth word_value fields parts_by directories_of parts
on_values = tt

abbrev variable : List ℕ → State → Option (List ℕ)
variable name st = value_of st.vars name

abbrev definition : List ℕ → State → Option (List ℕ)
definition name st = value_of st.defs name

-- The joint run ends with the first of these values, and the second run, which begins with more variables, with the other.
abbrev Differ : Script → List Reply → List (List ℕ × List ℕ) → List Reply → (State → Option (List ℕ)) → Option (List ℕ) → Option (List ℕ) → Type 0
Differ s replies more again end joined second =
    (end (finish (meaning s (vars_with [])) (joint_replies (joint s (record { first = vars_with []; replies = replies; second = vars_with more; again = again })))).state ≡ joined)
    × (end (finish (meaning s (vars_with more)) again).state ≡ second)

-- A name is read before its test.
read_early : Differ (if_set (codes "ac_cv_func_f") (checks (codes "f") No_case cut_here))
    (good ∷ StartRefused ∷ []) f_is (good ∷ []) (variable (codes "x")) None (Some (codes "1"))
unfolding on_values
read_early = (refl, refl)

-- A test inside a case does not count after it.
read_after_case : Differ (Choice declares.Nothing Nothing (Case (Holds (single (record { negated = false; condition = Nonempty (value (codes "v")) }))) (checks (codes "f") No_case Done) No_case) (if_set (codes "ac_cv_func_f") (checks (codes "f") No_case cut_here)))
    (good ∷ StartRefused ∷ []) f_is (good ∷ []) (variable (codes "x")) None (Some (codes "1"))
unfolding on_values
read_after_case = (refl, refl)

-- In the actions of a list the name of a later entry is read.
read_later_entry : Differ (Choice declares.Nothing (Asked (ChecksEach (ListEntry Function) (codes "f" ∷ codes "h" ∷ []) None)) (Case Yes (if_set (codes "ac_cv_func_h") Done) No_case) cut_here)
    (good ∷ bad ∷ StartRefused ∷ []) ((codes "ac_cv_func_f", codes "yes") ∷ (codes "ac_cv_func_h", codes "no") ∷ []) (good ∷ []) (variable (codes "x")) None (Some (codes "1"))
unfolding on_values
read_later_entry = (refl, refl)

-- A test's name is assigned.
assigned_late : Differ (checks (codes "f") No_case (Then declares.Nothing (Assign (codes "x") (value (codes "ac_cv_func_f"))) (Then declares.Nothing (Assign (codes "ac_cv_func_f") (text (codes "q"))) cut_here)))
    (good ∷ StartRefused ∷ []) ((codes "ac_cv_func_f", codes "q") ∷ []) (good ∷ []) (variable (codes "x")) (Some (codes "yes")) (Some (codes "q"))
unfolding on_values
assigned_late = (refl, refl)

-- Commands set another variable.
sets_more : Differ (Check (text (codes "x")) (codes "v_cv_x") (Then declares.Nothing (Assign (codes "x") (text (codes "1"))) set_v) cut_here)
    (StartRefused ∷ []) v_is (good ∷ []) (variable (codes "x")) (Some (codes "1")) None
unfolding on_values
sets_more = (refl, refl)

-- Commands define a name.
defines_inside : Differ (Check (text (codes "x")) (codes "v_cv_x") (Then declares.Nothing (Define (codes "D") (codes "1")) set_v) cut_here)
    (StartRefused ∷ []) v_is (good ∷ []) (definition (codes "D")) (Some (codes "1")) None
unfolding on_values
defines_inside = (refl, refl)

-- Commands make a test.
tests_inside : Differ (Check (text (codes "x")) (codes "v_cv_x") (Choice declares.Nothing (Asked (ChecksEach (ListEntry Function) (codes "f" ∷ []) None)) No_case set_v) cut_here)
    (good ∷ StartRefused ∷ []) ((codes "v_cv_x", codes "1") ∷ f_is) (good ∷ []) (definition (codes "HAVE_F")) (Some (codes "1")) None
unfolding on_values
tests_inside = (refl, refl)

-- A program is tried outside AC_CACHE_CHECK.
tries_outside : Differ (tries (Case Yes set_x No_case) cut_here)
    (good ∷ StartRefused ∷ []) [] (bad ∷ good ∷ []) (variable (codes "x")) (Some (codes "1")) None
unfolding on_values
tries_outside = (refl, refl)

-- A test that left its name unset, and a later one of that name.
tests_twice : Differ (maybe (if_set (codes "v_cv_x") (Check (text (codes "x")) (codes "v_cv_x") set_v cut_here)))
    (bad ∷ StartRefused ∷ []) v_is (good ∷ []) (variable (codes "x")) None (Some (codes "1"))
unfolding on_values
tests_twice = (refl, refl)

-- Such a test in the actions of a list with two entries.
tests_in_rounds : Differ (Choice declares.Nothing (Asked (ChecksEach (ListEntry Function) (codes "f" ∷ codes "h" ∷ []) None)) (Case Always (maybe (Choice declares.Nothing Nothing (Case (Holds (single (record { negated = false; condition = Nonempty (value (codes "v_cv_x")) }))) Done (Case Always set_x No_case)) Done)) No_case) cut_here)
    (good ∷ bad ∷ good ∷ good ∷ StartRefused ∷ []) ((codes "ac_cv_func_f", codes "yes") ∷ (codes "ac_cv_func_h", codes "yes") ∷ v_is) (good ∷ []) (variable (codes "x")) (Some (codes "1")) None
unfolding on_values
tests_in_rounds = (refl, refl)

-- A test that left its name unset gets another reply.
other_reply : Differ (maybe cut_here)
    (bad ∷ StartRefused ∷ []) [] (good ∷ good ∷ []) (variable (codes "v_cv_x")) None (Some (codes "1"))
unfolding on_values
other_reply = (refl, refl)

-- A value with a newline is not saved, and another reply gives another value.
other_value : Differ (Check (text (codes "x")) (codes "v_cv_x") (tries (Case Yes (set_to (codes "a\nb")) (Case Always (set_to (codes "c")) No_case)) Done) cut_here)
    (good ∷ StartRefused ∷ []) [] (bad ∷ good ∷ []) (variable (codes "v_cv_x")) (Some (codes "a\nb")) (Some (codes "c"))
unfolding on_values
other_value = (refl, refl)

-- The variable of a program is no shell name, so the name of its test is no cache name.
no_name : Differ (Then (declares.Variable (codes "a-b")) (Search (codes "a-b") (codes "p") (Text (text (codes "1"))) None) cut_here)
    (good ∷ StartRefused ∷ []) [] (bad ∷ good ∷ []) (variable (codes "a-b")) (Some (codes "1")) (Some [])
unfolding on_values
no_name = (refl, refl)
