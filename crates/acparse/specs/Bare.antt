-- Bare text between calls: the assignments in its value, or blanks and comments alone if no statement is allowed.
use Rattle.std.specs.Prelude.{ℕ, Bool, true, false, List, [], ◌∷◌, Result, Ok, Err}
use Rattle.std.specs.List.{list_all}
use Rattle.std.specs.Str.{bytes_eq}
use Rattle.m4quote.specs.declared.fault.QuoteFault.{QuoteFault}
use Rattle.m4quote.specs.Scan.{bare_value_of}
use Rattle.shell_bare.specs.declared.assignments.Assignment.{Assignment}
use Rattle.shell_bare.specs.declared.fault.BareFault.{BareFault}
use Rattle.shell_bare.specs.declared.fault.BareFault.TheVariants as bare
use Rattle.shell_bare.specs.Reading.{statements_of}
use Rattle.ac_statement.specs.declared.fault.ParseFault.{ParseFault}
use Rattle.ac_statement.specs.declared.fault.ParseFault.TheVariants.{UnknownStatement, CacheBody, OutOfMemory}
use Rattle.ac_statement.specs.Idle.{is_idle}
use Rattle.ac_statement.specs.Reading.{◌>>=◌, wants, shell_fault}
use Rattle.ac_tree.specs.declared.declarations.Stage.{Stage}
use Rattle.ac_tree.specs.declared.declarations.Stage.TheVariants.{Before, Open, Ended}
use Rattle.ac_tree.specs.declared.statement.Declares.TheVariants.{Nothing}
use Rattle.ac_tree.specs.declared.statement.Effect.TheVariants.{Assign}
use Rattle.ac_macros.specs.Placement.{bare_fault}
use Rattle.ac_macros.specs.ListKind.{ListKind, Top, Nested, Commands}
use Rattle.ac_tree.specs.Script.{Script, Done, Then}

-- An error of bare text, as an error of the source at the offset of the text. (own)
abbrev pub text_fault : ℕ → BareFault → ParseFault
text_fault at (bare.UnknownStatement place) = UnknownStatement at
text_fault at (bare.Shell f) = shell_fault at f
text_fault at bare.OutOfMemory = OutOfMemory

-- A reading of bare text that begins at an offset. (own)
abbrev pub bare_at : {A : Type 0} → ℕ → Result A BareFault → Result A ParseFault
bare_at at (Ok x) = Ok x
bare_at at (Err f) = Err (text_fault at f)

-- Assignments as statements. (own)
abbrev pub assigned : List Assignment → Script
assigned [] = Done
assigned (a ∷ more) = Then Nothing (Assign a.name a.value) (assigned more)

-- All assignments are to this variable. (own)
abbrev pub set_alone : List ℕ → List Assignment → Bool
set_alone name list = list_all (λ a. bytes_eq a.name name) list

-- The list may hold these assignments: commands set their own name alone. (own)
unfoldable pub may_assign : ListKind → List Assignment → Result (Unit {0}) ParseFault
may_assign Top list = Ok tt
may_assign Nested list = Ok tt
may_assign (Commands name at) list = wants (set_alone name list) (CacheBody at)

-- The assignments in a value of bare text. (POSIX shell, "Simple Commands")
abbrev pub of_value : ℕ → Result (List ℕ) QuoteFault → Result (List Assignment) ParseFault
of_value at (Ok value) = bare_at at (statements_of value)
of_value at (Err f) = Err (UnknownStatement at)

-- The assignments in bare text at an offset, if the list may hold them. (own)
unfoldable pub assigned_in : ListKind → ℕ → List ℕ → Result Script ParseFault
assigned_in list_kind at text = do
  list ← of_value at (bare_value_of text)
  _ ← may_assign list_kind list
  Ok (assigned list)

-- Text without effect, or this error. (own)
abbrev pub idle_or : Bool → ParseFault → Result Script ParseFault
idle_or true f = Ok Done
idle_or false f = Err f

-- The statements of bare text at an offset: before AC_INIT and after AC_OUTPUT, none are allowed. (own)
unfoldable pub bare_of : ListKind → Stage → ℕ → List ℕ → Result Script ParseFault
bare_of list_kind Before at text = idle_or (is_idle text) (bare_fault Before at)
bare_of list_kind Open at text = assigned_in list_kind at text
bare_of list_kind Ended at text = idle_or (is_idle text) (bare_fault Ended at)
