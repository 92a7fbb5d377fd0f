-- Messages. (Autoconf's manual, "Printing Messages")
use Rattle.std.specs.Prelude.{ℕ, List, [], ◌++◌, codes}
use Rattle.deftable.specs.declared.note.Stream.{Stream}
use Rattle.deftable.specs.declared.note.Stream.TheVariants.{Out, Err}
use Rattle.ac_tree.specs.declared.statement.Message.{Message}
use Rattle.ac_tree.specs.declared.statement.Message.TheVariants.{Checking, Results, Notice, Warning, Error}
use Rattle.meaning.specs.State.{State, with_note}

-- The stream to which a message is printed, and the texts before and after its own.
pub record MessageForm : Type 0 where
  pub stream : Stream
  pub before : List ℕ
  pub after : List ℕ

-- The form of each message: what is checked, and the results of a check; a notice; and a warning and an error, on standard
-- error. (Autoconf's manual, "Printing Messages")
abbrev pub form_of : Message → MessageForm
form_of Checking = record { stream = Out; before = codes "checking "; after = codes "... " }
form_of Results = record { stream = Out; before = []; after = codes "\n" }
form_of Notice = record { stream = Out; before = codes "configure: "; after = codes "\n" }
form_of Warning = record { stream = Err; before = codes "configure: WARNING: "; after = codes "\n" }
form_of Error = record { stream = Err; before = codes "configure: error: "; after = codes "\n" }

-- A message is printed. (Autoconf's manual, "Printing Messages")
abbrev pub with_message : Message → List ℕ → State → State
with_message message text st = with_note (form_of message).stream ((form_of message).before ++ text ++ (form_of message).after) st
