-- Courses and their tests. No other proof tells a search for a program from the test of a form.
use Rattle.std.proofs.Common.{◌≡◌, ℕ, ◌≤◌, true, List, [], ◌∷◌, codes, map, length, refl, sym, ap, ◌∙◌, arith}
use Rattle.std.specs.Prelude.{suc, Option, Some, None}
use Rattle.deftable.specs.Table.{value_of}
use Rattle.meaning.specs.State.{State, Scope, Run, value_or_empty}
use Rattle.meaning.specs.Directories.{directories_of}
use Rattle.meaning.specs.Meaning.{found_by}
use Rattle.meaning.specs.Rows as rows
use Rattle.meaning.specs.Rows.{TestKind, Search, attempt_in, row_of}
use Rattle.meaning.specs.Forms.{FormTest, may_start}
use Rattle.meaning.proofs.Forms.{name_is_left}
use Rattle.plan.specs.Broken.{broken_all}
use Rattle.run_forms.specs.Courses as forms
use Rattle.run_forms.specs.declared.opening.Opening as opening
use Rattle.run_forms.proofs.Courses.{counts_are}
use Rattle.run_test.specs.declared.course.Course.{Course}
use Rattle.run_test.specs.declared.course.Course.TheVariants.{Program, Formed}
use Rattle.run_test.specs.Courses.{name_in, count_in, used_in, scope_in, course_by, course_of, bare_of}
use Rattle.run_test.specs.Laws.{CountsAreOfAttempts, RowsAreOfCourses, ScopesAreOfKinds}
use Rattle.run_test.specs.Runs.{kind_run, known_run}
use Rattle.run_test.specs.Starts.{Opens, most_of}
use Rattle.run_test.proofs.PathParts.{few_directories}

mapped_length : {A B : Type 0} (f : A → B) (xs : List A) → length (map f xs) ≡ length xs
mapped_length f [] = refl
mapped_length f (x ∷ xs) = ap suc (mapped_length f xs)

pub count_is : CountsAreOfAttempts
count_is (Program search directories) vars defs = mapped_length _ directories
count_is (Formed c) vars defs = counts_are c vars defs

-- A search for a program needs no compiler.
program_starts : (s : Search) (directories : List (List ℕ)) → may_start (map (attempt_in s) directories) ≡ true
program_starts s [] = refl
program_starts s (directory ∷ more) = refl

pub row_is : RowsAreOfCourses
row_is (rows.Program s None) st =
    ap (λ b. record { test = (row_of (rows.Program s None) st).test; ready = b; after = (row_of (rows.Program s None) st).after })
    (sym (program_starts (record s { otherwise = s.otherwise }) (directories_of (value_or_empty st (codes "PATH")))))
row_is (rows.Program s (Some own)) st = refl
row_is (rows.Formed t) st = refl

-- The subject that a course leaves is that of its test.
pub scope_is_of : ScopesAreOfKinds
scope_is_of (rows.Program s own) st value scope = refl
scope_is_of (rows.Formed t) st value scope = refl

-- The test of a form continues as a question.
pub question_found : (t : FormTest) (scope : Scope) (st : State) (tests : List (List ℕ)) (next : ℕ → Scope → State → Run) → kind_run (rows.Formed t) scope st tests next ≡ found_by (broken_all tests) t st (next 0)
question_found t scope st tests next = refl

-- ---- a value that is used leaves the name of the test, if the scope is made of it

abbrev pub LeavesScope : Course → Type 0
LeavesScope c = (value : Option (List ℕ)) (scope : Scope) (now : State) → scope_in c (value_of (used_in c value now).vars (name_in c)) scope ≡ scope_in c (value_of now.vars (name_in c)) scope

pub leaves : (kind : TestKind) (st : State) → LeavesScope (course_of kind st)
leaves (rows.Program s own) st value scope now = refl
leaves (rows.Formed t) st value scope now = ap (λ v. scope_in (Formed (forms.course_of t st)) v scope) (name_is_left t.form value now)

-- ---- a test whose name is set

-- The values that attempts are made of don't count if the name is set.
pub bare_known : (kind : TestKind) (value : List ℕ) (scope : Scope) (st : State) (tests : List (List ℕ)) (next : ℕ → Scope → State → Run)
    → known_run (course_of kind st) value scope st tests next ≡ known_run (bare_of kind) value scope st tests next
bare_known (rows.Program s own) value scope st tests next = refl
bare_known (rows.Formed t) value scope st tests next = refl

-- ---- how many jobs a test may ask for

pub bare_asks : (kind : TestKind) → count_in (bare_of kind) ≤ most_of kind
bare_asks (rows.Program s own) = omega arith
bare_asks (rows.Formed t) = omega arith

pub course_asks : (kind : TestKind) (st : State) → count_in (course_of kind st) ≤ most_of kind
course_asks (rows.Program s None) st = few_directories (value_or_empty st (codes "PATH"))
course_asks (rows.Program s (Some own)) st = omega arith
course_asks (rows.Formed t) st = omega arith

-- ---- a test that is opened by its form

course_is : (value : Option (List ℕ)) (t : FormTest) (st : State) → Formed (forms.course_by value t st) ≡ course_by value (rows.Formed t) st
course_is None t st = refl
course_is (Some value) t st = refl

pub formed_opens : (o : opening.Opening) (t : FormTest) (st : State) → forms.Opens t st o → Opens (rows.Formed t) st (record { course = Formed o.course; value = o.value })
formed_opens o t st h = record { value = h.value; course = ap Formed h.course ∙ course_is o.value t st }
