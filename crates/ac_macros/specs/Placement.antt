-- Which calls are allowed before AC_INIT, between AC_INIT and AC_OUTPUT, or after AC_OUTPUT, and in the file's own list
-- of statements or in another.
use Rattle.std.specs.Prelude.{ℕ, Bool, true, false, not, ◌&&◌, ◌||◌, Result, Ok, Err}
use Rattle.ac_tree.specs.declared.declarations.Stage as stages
use Rattle.ac_tree.specs.declared.declarations.Stage.TheVariants.{Before, Open, Ended}
use Rattle.ac_statement.specs.declared.fault.ParseFault.{ParseFault}
use Rattle.ac_statement.specs.declared.fault.ParseFault.TheVariants.{NoInit, AfterOutput, NotAtTop, UnknownStatement}
use Rattle.ac_statement.specs.Reading.{wants}
use Rattle.ac_macros.specs.declared.macros.ActMacro.TheVariants.{Prereq}
use Rattle.ac_macros.specs.declared.macros.DeclaringMacro.TheVariants.{Init}
use Rattle.ac_macros.specs.declared.macros.Macro as macro
use Rattle.ac_macros.specs.declared.macros.Macro.TheVariants.{Plain}
use Rattle.ac_macros.specs.declared.macros.Named.{Named}
use Rattle.ac_macros.specs.declared.macros.Named.TheVariants.{Statement, Argument}
use Rattle.ac_macros.specs.declared.macros.PlainMacro.TheVariants.{Acts, Declares}

-- The macro is AC_INIT. (own)
abbrev pub is_init : macro.Macro → Bool
is_init (Plain (Declares Init)) = true
is_init _ = false

-- AC_INIT, or AC_PREREQ, which is allowed before it. (own)
abbrev pub may_begin : macro.Macro → Bool
may_begin (Plain (Declares Init)) = true
may_begin (Plain (Acts Prereq)) = true
may_begin _ = false

-- A call is allowed in the file's own list or in another: the first call is AC_INIT or AC_PREREQ, AC_INIT comes once,
-- no call follows AC_OUTPUT, and some macros are allowed in the file's own list alone. (own)
unfoldable pub placed : Bool → stages.Stage → Bool → macro.Macro → ℕ → Result (Unit {0}) ParseFault
placed top Before own_list m at = wants (may_begin m) NoInit
placed top Open own_list m at = wants (not (is_init m) && (top || not own_list)) (NotAtTop at)
placed top Ended own_list m at = Err (AfterOutput at)

-- The error of something that is no statement. (own)
abbrev pub bare_fault : stages.Stage → ℕ → ParseFault
bare_fault Before at = NoInit
bare_fault Open at = UnknownStatement at
bare_fault Ended at = AfterOutput at

-- A call of a macro that is read only in arguments is no statement. (own)
abbrev pub as_statement : stages.Stage → ℕ → Named → Result macro.Macro ParseFault
as_statement stage at (Statement m) = Ok m
as_statement stage at (Argument m) = Err (bare_fault stage at)
