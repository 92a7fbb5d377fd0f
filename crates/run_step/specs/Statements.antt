-- What statements do to a state.
use Rattle.std.specs.Prelude.{ℕ, List, Some}
use Rattle.shellword.specs.declared.part.Part.{Part}
use Rattle.shellword.specs.Value.{word_value}
use Rattle.ac_tree.specs.declared.statement.Message.{Message}
use Rattle.meaning.specs.Meaning.{defaulted}
use Rattle.meaning.specs.Messages.{with_message}
use Rattle.meaning.specs.State.{State, with_definition, with_variable}

-- A variable gets the value of a word. (POSIX shell, "Variable Assignment")
abbrev pub assigned : List ℕ → List Part → State → State
assigned name value st = with_variable name (word_value value st.vars) st

-- A name is defined as the value of a text. (Autoconf's manual, AC_DEFINE_UNQUOTED in "Defining Symbols")
abbrev pub defined : List ℕ → List Part → State → State
defined name value st = with_definition name (word_value value st.vars) st

-- A message is printed. (Autoconf's manual, "Printing Messages")
abbrev pub printed : Message → List Part → State → State
printed message text st = with_message message (word_value text st.vars) st

-- A variable that is empty gets its default. (Autoconf's manual, "Generic Programs")
abbrev pub with_default : List ℕ → List Part → State → State
with_default variable value st = defaulted variable (Some (word_value value st.vars)) st
