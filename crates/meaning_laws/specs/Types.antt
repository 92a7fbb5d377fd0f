-- A law of types: which children the test of a type has, and its value by their replies.
use Rattle.std.specs.Prelude.{◌≡◌, ℕ, Bool, true, false, List, [], ◌∷◌, ◌++◌, Option, Some, None, codes}
use Rattle.conftest_source.specs.Sources.{program_source}
use Rattle.crew_jobs.specs.Probe.{Compile, job_of}
use Rattle.crew_jobs.specs.declared.job.Job.{Job}
use Rattle.crew_trait.specs.declared.reply.Reply.{Reply}
use Rattle.deftable.specs.Table.{value_of}
use Rattle.shellword.specs.declared.part.Part.{Part}
use Rattle.ac_tree.specs.TestNames.{type_name}
use Rattle.meaning.specs.State.{State, Goes_on}
use Rattle.meaning.specs.Asking.{success}
use Rattle.meaning.specs.Tests.{tested}
use Rattle.test_forms.specs.Macros.{type_form}
use Rattle.meaning.specs.Forms.{includes_in, value_in}
use Rattle.meaning.specs.Rows.{Formed, row_of}
use Rattle.meaning_laws.specs.Logged.{children_of}
use Rattle.meaning_laws.specs.Finished.{Finished, finish}

-- What the first program of a type has in `main`: it takes the size of the type. (Autoconf's manual, "Generic Types")
abbrev pub size_text : List ℕ → List ℕ
size_text name = codes "if (sizeof (" ++ name ++ codes ")) return 0;"

-- The second takes the size of the name in parentheses, which a value has. (Autoconf's manual, "Generic Types")
abbrev pub value_text : List ℕ → List ℕ
value_text name = codes "if (sizeof ((" ++ name ++ codes "))) return 0;"

-- The job that compiles a program with this text after the includes; none if there is no compiler. (Autoconf's manual,
-- "Generic Types")
abbrev pub text_job : List ℕ → Option (List Part) → State → Option Job
text_job text includes st = job_of (Compile (program_source (includes_in (value_in includes st)) text)) 0 st.vars st.defs

-- The value of a type's test: `yes` if its size compiles and that of its name in parentheses doesn't, and `no` otherwise.
-- (Autoconf's manual, "Generic Types")
abbrev pub type_value : Bool → Bool → List ℕ
type_value true true = codes "no"
type_value true false = codes "yes"
type_value false true = codes "no"
type_value false false = codes "no"

-- The first child decides alone if it fails; otherwise the second is asked for. (Autoconf's manual, "Generic Types")
abbrev pub type_children : Bool → Job × Reply → Job × Reply → List (Job × Reply)
type_children true first second = first ∷ second ∷ []
type_children false first second = first ∷ []

-- The end of the test of a type, by whether its children succeed: its value, and the children that it had. (own)
pub record TypeEnds (name : List ℕ) (compiles encloses : Bool) (first second : Job × Reply) (st : State) (f : Finished) : Type 0 where
  pub how : f.how ≡ Goes_on
  pub value : value_of f.state.vars (type_name name) ≡ Some (type_value compiles encloses)
  pub children : children_of f.state.log ≡ children_of st.log ++ type_children compiles first second

-- The test of a type whose name is unset ends so under two replies that aren't refused, if there is a compiler. (Autoconf's
-- manual, "Generic Types")
abbrev pub TypeByReplies : Type 0
TypeByReplies = (name : List ℕ) (includes : Option (List Part)) (defines : Bool) (st : State) (job second_job : Job) (reply second_reply : Reply) (compiles encloses : Bool)
    → value_of st.vars (type_name name) ≡ None
    → text_job (size_text name) includes st ≡ Some job → text_job (value_text name) includes st ≡ Some second_job
    → success reply ≡ Some compiles → success second_reply ≡ Some encloses
    → TypeEnds name compiles encloses (job, reply) (second_job, second_reply) st
    (finish (tested (row_of (Formed (record { form = type_form name defines; given = includes })) st) st) (reply ∷ second_reply ∷ []))
