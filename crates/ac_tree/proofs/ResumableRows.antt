-- Worked examples of sources that can be resumed, and of sources that can't.
use Rattle.std.proofs.Common.{◌≡◌, ℕ, List, [], ◌∷◌, true, false, Some, None, codes, map, refl}
use Rattle.deftable.specs.CacheName.{is_cache_name, has_cv}
use Rattle.deftable.specs.NameList.{has_name}
use Rattle.shellword.specs.declared.element.Condition.TheVariants.{Equal}
use Rattle.shellword.specs.declared.part.Part.{Part}
use Rattle.shellword.specs.declared.part.Part.TheVariants as parts
use Rattle.shellword.specs.Truth.{single}
use Rattle.ac_tree.specs.declared.feature.OptionKind.TheVariants.{Feature}
use Rattle.ac_tree.specs.declared.help.Help.TheVariants.{Columns}
use Rattle.ac_tree.specs.declared.listed.Listed.TheVariants.{Header, Function}
use Rattle.ac_tree.specs.declared.listed.Sought.TheVariants as seeks
use Rattle.ac_tree.specs.declared.program.Program.TheVariants as texts
use Rattle.ac_tree.specs.declared.program.Try.TheVariants.{Compile}
use Rattle.ac_tree.specs.declared.statement.Declares.TheVariants as declares
use Rattle.ac_tree.specs.declared.statement.Effect.TheVariants as effects
use Rattle.ac_tree.specs.declared.statement.Effect.TheVariants.{Assign, Search, Searches, Batch, Stop}
use Rattle.ac_tree.specs.declared.statement.ProgramValue.TheVariants.{Text}
use Rattle.ac_tree.specs.declared.statement.Question.TheVariants.{Given, Tries, Checks, ChecksEach, Library, Libraries}
use Rattle.ac_tree.specs.declared.tree.Subject.TheVariants.{Nothing, Asked}
use Rattle.ac_tree.specs.declared.tree.When.TheVariants.{Holds, Yes}
use Rattle.ac_tree.specs.Script.{Script, Done, Then, Choice, Check, No_case, Case}
use Rattle.ac_tree.specs.Decide.{is_resumable}

abbrev plainly : List ℕ → List Part
plainly text = map parts.Plain text

abbrev value : List ℕ → List Part
value name = parts.Variable name ∷ []

-- NAME=TEXT
abbrev sets : List ℕ → List ℕ → Script
sets name text = Then declares.Nothing (Assign name (plainly text)) Done

-- AC_SUBST([NAME])
abbrev substs : List ℕ → Script → Script
substs name rest = Then (declares.Variable name) effects.Nothing rest

-- AC_CHECK_HEADER([a.h],[x=1])
abbrev header : Script → Script
header rest = Choice declares.Nothing (Asked (Checks (seeks.ListEntry Header) (codes "a.h") None)) (Case Yes (sets (codes "x") (codes "1")) No_case) rest

-- AC_CHECK_FUNC([f],[y=1])
abbrev function : Script → Script
function rest = Choice declares.Nothing (Asked (Checks (seeks.ListEntry Function) (codes "f") None)) (Case Yes (sets (codes "y") (codes "1")) No_case) rest

-- AS_IF([test "$NAME" = yes],[x=2])
abbrev if_yes : List ℕ → Script → Script
if_yes name rest =
    Choice declares.Nothing Nothing (Case (Holds (single (record { negated = false; condition = Equal (value name) (plainly (codes "yes")) }))) (sets (codes "x") (codes "2")) No_case) rest

-- Two tests, and the variables that they set.
row_tests : is_resumable (header (function (substs (codes "x") (substs (codes "y") Done)))) ≡ true
unfolding is_cache_name has_cv has_name
row_tests = refl

-- The result of a test is read before it.
row_early : is_resumable (header (if_yes (codes "ac_cv_func_f") (function Done))) ≡ false
unfolding is_cache_name has_cv has_name
row_early = refl

-- It is read after it.
row_late : is_resumable (header (function (if_yes (codes "ac_cv_func_f") Done))) ≡ true
unfolding is_cache_name has_cv has_name
row_late = refl

-- AC_CACHE_CHECK([x],[v_cv_x],[v_cv_x=1])
abbrev check : Script → Script
check rest = Check (plainly (codes "x")) (codes "v_cv_x") (sets (codes "v_cv_x") (codes "1")) rest

-- AC_SUBST without a value reads its variable: after the check it may, and before it it may not.
row_check : is_resumable (check (substs (codes "v_cv_x") Done)) ≡ true
unfolding is_cache_name has_cv has_name
row_check = refl

row_check_late : is_resumable (substs (codes "v_cv_x") (check Done)) ≡ false
unfolding is_cache_name has_cv has_name
row_check_late = refl

-- AC_ARG_VAR reads nothing.
row_arg_var : is_resumable (Then (declares.Precious (codes "v_cv_x") (codes "h")) effects.Nothing (check Done)) ≡ true
unfolding is_cache_name has_cv has_name
row_arg_var = refl

-- A check inside a case counts in that case alone.
row_case : is_resumable (Choice declares.Nothing Nothing (Case (Holds (single (record { negated = false; condition = Equal [] [] }))) (check Done) No_case) (substs (codes "v_cv_x") Done)) ≡ false
unfolding is_cache_name has_cv has_name
row_case = refl

-- A cache name is assigned by a statement, as the variable of a program, or as that of an option.
row_assigned : is_resumable (sets (codes "ac_cv_func_f") (codes "yes")) ≡ false
unfolding is_cache_name has_cv has_name
row_assigned = refl

row_program : is_resumable (Then (declares.Variable (codes "a_cv_b")) (Search (codes "a_cv_b") (codes "p") (Text []) None) Done) ≡ false
unfolding is_cache_name has_cv has_name
row_program = refl

row_option : is_resumable (Choice (declares.Option Feature (codes "enable_a_cv_b") (Columns (codes "a") (codes "b"))) (Asked (Given Feature (codes "enable_a_cv_b"))) No_case Done) ≡ false
unfolding is_cache_name has_cv has_name
row_option = refl

-- A program is tried outside AC_CACHE_CHECK, and in its commands.
abbrev tries : Script
tries = Choice declares.Nothing (Asked (Tries Compile (texts.Whole (plainly (codes "p"))))) (Case Yes (sets (codes "v_cv_x") (codes "1")) No_case) Done

row_tries : is_resumable (Choice declares.Nothing (Asked (Tries Compile (texts.Whole []))) No_case Done) ≡ false
unfolding is_cache_name has_cv has_name
row_tries = refl

row_commands : is_resumable (Check [] (codes "v_cv_x") tries Done) ≡ true
unfolding is_cache_name has_cv has_name
row_commands = refl

-- AC_SEARCH_LIBS([f],[a b]), and AC_CHECK_LIB with other libraries that read a cache name before its test.
row_libraries : is_resumable (Choice declares.Nothing (Asked (Libraries (codes "f") (codes "a" ∷ codes "b" ∷ []) None)) No_case (substs (codes "ac_cv_search_f") Done)) ≡ true
unfolding is_cache_name has_cv has_name
row_libraries = refl

row_library : is_resumable (Choice declares.Nothing (Asked (Library (codes "a") (codes "f") (Some (value (codes "ac_cv_lib_a_f"))) true)) No_case Done) ≡ false
unfolding is_cache_name has_cv has_name
row_library = refl

-- The actions of AC_CHECK_HEADERS([a.h b.h]) may read the result of the first entry, and not that of the second.
abbrev headers : List ℕ → Script
headers name = Choice declares.Nothing (Asked (ChecksEach (seeks.ListEntry Header) (codes "a.h" ∷ codes "b.h" ∷ []) None)) (Case Yes (if_yes name Done) No_case) Done

row_first : is_resumable (headers (codes "ac_cv_header_a_h")) ≡ true
unfolding is_cache_name has_cv has_name
row_first = refl

row_second : is_resumable (headers (codes "ac_cv_header_b_h")) ≡ false
unfolding is_cache_name has_cv has_name
row_second = refl

-- A list without actions: what its programs include is read before all its tests.
row_batch : is_resumable (Then declares.Nothing (Batch Header (codes "a.h" ∷ []) (Some (value (codes "ac_cv_header_a_h")))) Done) ≡ false
unfolding is_cache_name has_cv has_name
row_batch = refl
