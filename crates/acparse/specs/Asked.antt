-- The statement of a macro that asks a question, by what it declares, its question and the cases for the answers.
use Rattle.std.specs.Prelude.{Bool, true, false, not, ◌||◌, List, Result, Ok}
use Rattle.m4quote.specs.ItemValue.{Span}
use Rattle.ac_statement.specs.declared.fault.ParseFault.{ParseFault}
use Rattle.ac_statement.specs.Reading.{◌>>=◌}
use Rattle.ac_macros.specs.Checks.{completed_of}
use Rattle.ac_tree.specs.declared.listed.Sought.TheVariants.{ListEntry}
use Rattle.ac_tree.specs.declared.statement.Declares.{Declares}
use Rattle.ac_tree.specs.declared.statement.Effect.TheVariants.{Batch}
use Rattle.ac_tree.specs.declared.statement.Question.{Question}
use Rattle.ac_tree.specs.declared.statement.Question.TheVariants.{ChecksEach, Library}
use Rattle.ac_tree.specs.declared.tree.Subject.TheVariants.{Asked}
use Rattle.ac_tree.specs.declared.tree.When.{When}
use Rattle.ac_tree.specs.declared.tree.When.TheVariants.{Yes}
use Rattle.ac_tree.specs.Script.{Script, Done, Then, Choice, Cases, No_case, Case}

-- The condition is the answer yes. (own)
abbrev pub is_yes : When → Bool
is_yes Yes = true
is_yes when = false

-- One of the cases is for yes. (own)
abbrev pub has_yes : Cases → Bool
has_yes No_case = false
has_yes (Case when body more) = is_yes when || has_yes more

-- A question is a choice, even if there are many entries: the statements for one run before the next is looked for. But a
-- list of headers, functions or declarations without cases is a batch, whose children are asked at once. A list of types is
-- not, since a type may need a second child. AC_CHECK_LIB adds the library if no case is for yes. (Autoconf's manual,
-- "Library Files" and the sections of the macros; the batches are own)
abbrev pub asked_by : Declares → Question → Cases → Script
asked_by declares (ChecksEach (ListEntry listed) entries includes) No_case = Then declares (Batch listed entries includes) Done
asked_by declares (Library library function others adds) cases = Choice declares (Asked (Library library function others (not (has_yes cases)))) cases Done
asked_by declares question cases = Choice declares (Asked question) cases Done

-- The same, with the question's includes or other libraries, which come after the statements for the answers. (own)
unfoldable pub asked_with : Declares → Question → Cases → List Span → Result Script ParseFault
asked_with declares q cases args = completed_of q args >>= λ whole. Ok (asked_by declares whole cases)
