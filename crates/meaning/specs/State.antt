-- What statements change, and the course of a run of statements.
use Rattle.std.specs.Prelude.{ℕ, Bool, false, List, [], ◌∷◌, ◌++◌, unwrap_or}
use Rattle.crew_jobs.specs.declared.job.Job.{Job}
use Rattle.crew_trait.specs.declared.entry.Entry.{Entry}
use Rattle.crew_trait.specs.declared.entry.Entry.TheVariants.{Said, Child}
use Rattle.crew_trait.specs.declared.reply.Reply.{Reply}
use Rattle.deftable.specs.declared.note.Note.{Note}
use Rattle.deftable.specs.declared.note.Stream.{Stream}
use Rattle.deftable.specs.Table.{value_of, with_entry, without_entry}

-- Variables and definitions, each a name and a value, in the order of their first setting; the messages, and the log of
-- messages and children. (own)
pub record State : Type 0 where
  pub vars : List (List ℕ × List ℕ)
  pub defs : List (List ℕ × List ℕ)
  pub messages : List Note
  pub log : List Entry

-- The state with which the statements begin: these variables, and nothing else. (own)
abbrev pub opened : List (List ℕ × List ℕ) → State
opened vars = record { vars = vars; defs = []; messages = []; log = [] }

-- A piece of text for a stream. (own)
abbrev pub piece : Stream → List ℕ → Note
piece stream text = record { stream = stream; text = text }

-- A piece is added to the messages, and to the log. (own)
abbrev pub with_note : Stream → List ℕ → State → State
with_note stream text st = record st { messages = st.messages ++ piece stream text ∷ []; log = st.log ++ Said (piece stream text) ∷ [] }

-- A child is added to the log, with the reply to its job. (own)
abbrev pub with_child : Job → Reply → State → State
with_child job reply st = record st { log = st.log ++ Child job reply ∷ [] }

-- A variable set to a value. (POSIX shell, "Simple Commands")
abbrev pub with_variable : List ℕ → List ℕ → State → State
with_variable name value st = record st { vars = with_entry st.vars name value }

-- A variable's value, or the empty text if it isn't set. (POSIX shell, "Parameter Expansion")
abbrev pub value_or_empty : State → List ℕ → List ℕ
value_or_empty st name = unwrap_or (value_of st.vars name) []

-- A variable unset. (POSIX shell, "unset")
abbrev pub without_variable : List ℕ → State → State
without_variable name st = record st { vars = without_entry st.vars name }

-- A name defined as a value; a new definition replaces an old one. (Autoconf's manual, "Defining Symbols")
abbrev pub with_definition : List ℕ → List ℕ → State → State
with_definition name value st = record st { defs = with_entry st.defs name value }

-- The subject of a choice that has begun: the value of its word, and the answer to its question. (own)
pub record Scope : Type 0 where
  pub subject : List ℕ
  pub answer : Bool

-- The subject before any choice, and of a choice about nothing. (own)
abbrev pub no_choice : Scope
no_choice = record { subject = []; answer = false }

-- The subject with this value of its word. (own)
abbrev pub about : List ℕ → Scope
about value = record { subject = value; answer = false }

-- The subject with this answer to its question. (own)
abbrev pub answered : Bool → Scope
answered answer = record { subject = []; answer = answer }

-- How statements end: the run continues with what follows them, the source is at its end, an error stops the run with
-- an exit status, or a child that was refused cuts the run short. (own)
pub data How : Type 0 where
  Goes_on : How
  Completed : How
  Stopped : (status : ℕ) → How
  Cut : How

-- A run of statements: it ends in a state, or asks for jobs at once and continues with their replies, whatever they
-- are. (own)
pub data Run : Type 0 where
  Ends : (how : How) (state : State) → Run
  Asks : (jobs : List Job) (next : List Reply → Run) → Run

-- A run, and what follows if it continues. (own)
abbrev pub then_run : Run → (State → Run) → Run
then_run (Ends Goes_on state) rest = rest state
then_run (Ends Completed state) rest = Ends Completed state
then_run (Ends (Stopped status) state) rest = Ends (Stopped status) state
then_run (Ends Cut state) rest = Ends Cut state
then_run (Asks jobs next) rest = Asks jobs (λ replies. then_run (next replies) rest)

-- A run whose last state is changed, by how it ends. (own)
abbrev pub ended : (How → State → State) → Run → Run
ended change (Ends how state) = Ends how (change how state)
ended change (Asks jobs next) = Asks jobs (λ replies. ended change (next replies))

-- No change. (own)
abbrev pub as_is : How → State → State
as_is how st = st
