-- Laws of AC_CHECK_PROGS and AC_PROG_CC: where they look for programs, and what they leave. The variable of AC_PROG_CC is CC,
-- and it has no default.
use Rattle.std.specs.Prelude.{◌≡◌, ℕ, Bool, true, false, List, [], ◌∷◌, ◌++◌, Option, Some, None, option_map, codes, drop, map}
use Rattle.std.specs.List.{AllByRecursion}
use Rattle.crew_jobs.specs.declared.job.Job.{Job}
use Rattle.crew_jobs.specs.Probe.{path_of}
use Rattle.crew_trait.specs.declared.reply.Reply.{Reply}
use Rattle.deftable.specs.Table.{value_of, with_entry}
use Rattle.shellword.specs.declared.part.Part.{Part}
use Rattle.shellword.specs.Value.{word_value}
use Rattle.ac_tree.specs.declared.statement.Effect.TheVariants as effects
use Rattle.ac_tree.specs.TestNames.{program_name}
use Rattle.meaning.specs.State.{State, Goes_on, Run, Ends, value_or_empty}
use Rattle.meaning.specs.Asking.{success, only_reply}
use Rattle.meaning.specs.Directories.{directories_of}
use Rattle.meaning.specs.Meaning.{has_value, effect}
use Rattle.meaning.specs.Play.{first_refused}
use Rattle.meaning_laws.specs.Logged.{children_of}
use Rattle.meaning_laws.specs.Finished.{Finished, finish, Enough}

-- Where programs are looked for, each place with its program: the first one in all directories, then the next. (Autoconf's
-- manual, "Generic Programs")
abbrev pub places : List (List ℕ) → List (List ℕ) → List (List ℕ × List ℕ)
places [] directories = []
places (program ∷ more) directories = map (λ directory. (program, directory ++ program)) directories ++ places more directories

-- What an answer chooses. A refused reply chooses the second, too. (own)
abbrev pub if_found : {A : Type 0} → Option Bool → A → A → A
if_found None here later = later
if_found (Some true) here later = here
if_found (Some false) here later = later

-- The program at the first place that has it, by the replies. (Autoconf's manual, "Generic Programs")
abbrev pub found_at : List (List ℕ × List ℕ) → List Reply → Option (List ℕ)
found_at [] replies = None
found_at (place ∷ more) replies = if_found (success (only_reply replies)) (Some place.0) (found_at more (drop 1 replies))

-- The children of the search, with their replies: one for each place up to the first that has its program. (Autoconf's
-- manual, "Generic Programs")
abbrev pub searched : List (List ℕ × List ℕ) → List Reply → List (Job × Reply)
searched [] replies = []
searched (place ∷ more) replies =
    (path_of place.1, only_reply replies) ∷ if_found (success (only_reply replies)) [] (searched more (drop 1 replies))

-- The value of the variable: the program that was found, or else the default, or else the empty text. (Autoconf's manual,
-- "Generic Programs")
abbrev pub found_or : Option (List ℕ) → Option (List ℕ) → List ℕ
found_or (Some program) default = program
found_or None (Some value) = value
found_or None None = []

-- The default of a search, whose word may read the variable: it is empty then. (own)
abbrev pub default_of : List ℕ → Option (List Part) → State → Option (List ℕ)
default_of variable otherwise st = option_map (λ word. word_value word (with_entry st.vars variable [])) otherwise

-- The end of a search: its children, the value of the variable, and that of the cache name. No other name has another value,
-- and nothing is defined. (Autoconf's manual, "Generic Programs")
pub record SearchEnds (variable : List ℕ) (asked : List (Job × Reply)) (text : List ℕ) (found : Option (List ℕ)) (st now : State) : Type 0 where
  pub children : children_of now.log ≡ children_of st.log ++ asked
  pub value : value_of now.vars variable ≡ Some text
  pub cached : value_of now.vars (program_name variable) ≡ found
  pub others : (name : List ℕ) → (name ≡ variable → ⊥) → (name ≡ program_name variable → ⊥) → value_of now.vars name ≡ value_of st.vars name
  pub defs : now.defs ≡ st.defs

-- There is at least one program, and none has an empty name. (own)
pub record AreNamed (programs : List (List ℕ)) : Type 0 where
  pub some : programs ≡ [] → ⊥
  pub named : AllByRecursion (λ program. program ≡ [] → ⊥) programs

-- Neither the variable nor the cache name has a value that counts. (Autoconf's manual, "Generic Programs")
pub record IsSought (variable : List ℕ) (st : State) : Type 0 where
  pub empty : has_value st variable ≡ false
  pub unset : value_of st.vars (program_name variable) ≡ None

-- Where these programs are looked for: in the directories of PATH. (Autoconf's manual, "Generic Programs")
abbrev pub places_in : List (List ℕ) → State → List (List ℕ × List ℕ)
places_in programs st = places programs (directories_of (value_or_empty st (codes "PATH")))

-- The run continues, and the variable has the program at the first place that has one, by the replies, or the default. (own)
pub record Searches (variable : List ℕ) (sought : List (List ℕ × List ℕ)) (default : Option (List ℕ)) (replies : List Reply) (st : State) (f : Finished) : Type 0 where
  pub how : f.how ≡ Goes_on
  pub ends : SearchEnds variable (searched sought replies) (found_or (found_at sought replies) default) (found_at sought replies) st f.state

-- If neither the variable nor the cache name has a value, and no reply is refused, the programs are looked for so. (Autoconf's
-- manual, "Generic Programs" and "C Compiler")
abbrev pub ProgramsAreSought : Type 0
ProgramsAreSought = (variable : List ℕ) (programs : List (List ℕ)) (otherwise : Option (List Part)) (st : State) (replies : List Reply)
    → AreNamed programs → IsSought variable st
    → Enough (effect (effects.Searches variable programs otherwise) st) replies → first_refused replies ≡ None
    → Searches variable (places_in programs st) (default_of variable otherwise st) replies st
    (finish (effect (effects.Searches variable programs otherwise) st) replies)

-- The program that a value names, if it isn't empty. (own)
abbrev pub named_by : List ℕ → Option (List ℕ)
named_by [] = None
named_by (b ∷ bs) = Some (b ∷ bs)

-- The run asks for nothing, and continues after a search that ended so. (own)
pub record SearchesNothing (variable text cached : List ℕ) (st : State) (run : Run) : Type 0 where
  pub now : State
  pub is : run ≡ Ends Goes_on now
  pub ends : SearchEnds variable [] text (Some cached) st now

-- If the cache name is set, its value counts, whatever that of the variable. If it is empty, no program was found. (Autoconf's
-- manual, "Generic Programs" and "Caching Results")
abbrev pub CachedIsNotSought : Type 0
CachedIsNotSought = (variable : List ℕ) (programs : List (List ℕ)) (otherwise : Option (List Part)) (st : State) (value : List ℕ)
    → AreNamed programs → value_of st.vars (program_name variable) ≡ Some value
    → SearchesNothing variable (found_or (named_by value) (default_of variable otherwise st)) value st
    (effect (effects.Searches variable programs otherwise) st)

-- If the cache name is unset, and the variable has a value that isn't empty, the variable keeps it, and the cache name gets
-- it. (Autoconf's manual, "Generic Programs")
abbrev pub OwnIsNotSought : Type 0
OwnIsNotSought = (variable : List ℕ) (programs : List (List ℕ)) (otherwise : Option (List Part)) (st : State) (value : List ℕ)
    → AreNamed programs → value_of st.vars (program_name variable) ≡ None
    → value_of st.vars variable ≡ Some value → (value ≡ [] → ⊥)
    → SearchesNothing variable value value st (effect (effects.Searches variable programs otherwise) st)
