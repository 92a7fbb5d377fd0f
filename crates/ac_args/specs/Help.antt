-- Help arguments (Autoconf's manual, "Making Your Help Strings Look Pretty").
--
-- AS_HELP_STRING is looked for among the argument's items or, if the argument is one quoted run with blanks and `dnl`
-- lines around it, among the items of the run's inside. Quadrigraphs are replaced later, in the text that is read
-- there. If AS_HELP_STRING is called, only blanks and `dnl` lines may be beside it, and the help is an entry. If the
-- items can't be read and AS_HELP_STRING is in the text, the help has the error in reading them. Otherwise the help is
-- the argument's used text. (Own: Autoconf expands AS_HELP_STRING wherever it finds it.)
use Rattle.std.specs.Prelude.{ℕ, Bool, true, false, ◌&&◌, ◌||◌, ◌==◌, nat_eq, List, [], ◌∷◌, length, Option, Some, None, Result, Ok, Err, codes, if◌then◌else◌}
use Rattle.std.specs.List.{starts_with}
use Rattle.std.specs.Str.{bytes_eq}
use Rattle.m4quote.specs.ItemValue.{Span, ItemValue, call, bare}
use Rattle.ac_statement.specs.declared.fault.ParseFault.{ParseFault}
use Rattle.ac_statement.specs.declared.fault.ParseFault.TheVariants.{UnknownStatement, ArgCount}
use Rattle.ac_tree.specs.declared.help.Help.{Help}
use Rattle.ac_tree.specs.declared.help.Help.TheVariants as helps
use Rattle.ac_args.specs.Arguments.{text}
use Rattle.ac_statement.specs.Texts.{arg_at}
use Rattle.ac_statement.specs.Inside.{are_blank, call_items}
use Rattle.ac_statement.specs.Reading.{◌>>=◌, wants}
use Rattle.ac_statement.specs.Texts.{is_all_blank}

-- ---- a call with blanks alone beside it

-- The arguments of a call, and the offset of its name. (own)
pub record Called : Type 0 where
  pub args : List Span
  pub at : ℕ

-- The call of this name, if the other items are blanks. (own)
abbrev pub sole_call : List ℕ → List ItemValue → Option Called
sole_call name [] = None
sole_call name (call other args at ∷ items) = if bytes_eq other name && are_blank items then Some (record { args = args; at = at }) else None
sole_call name (bare text at ∷ items) = if is_all_blank text then sole_call name items else None

-- ---- a call among others

-- One of the items is a call of this name. (own)
abbrev pub has_call : List ℕ → List ItemValue → Bool
has_call name [] = false
has_call name (call other args at ∷ items) = bytes_eq other name || has_call name items
has_call name (bare text at ∷ items) = has_call name items

-- ---- help

-- The name AS_HELP_STRING.
abbrev pub help_string_name : List ℕ
help_string_name = codes "AS_HELP_STRING"

-- AS_HELP_STRING(left, right), with its name at this offset. (Autoconf's manual, "Making Your Help Strings Look
-- Pretty")
unfoldable pub help_string : List Span → ℕ → Result Help ParseFault
help_string args at = do
  _ ← wants (length args == 2) (ArgCount at)
  left ← text (arg_at args 0)
  right ← text (arg_at args 1)
  Ok (helps.Columns left right)

-- The help of an argument that calls no macro: its used text. (own)
abbrev pub own_text : Span → Result Help ParseFault
own_text arg = text arg >>= λ t. Ok (helps.Text t)

-- The help of an argument, by whether it calls AS_HELP_STRING, and by the call if nothing else is in it. (own)
abbrev pub help_by : Span → Bool → Option Called → Result Help ParseFault
help_by arg called (Some c) = help_string c.args c.at
help_by arg true None = Err (UnknownStatement arg.at)
help_by arg false None = own_text arg

-- The text has this part. (own)
unfoldable pub has_part : List ℕ → List ℕ → Bool
has_part part [] = false
has_part part (b ∷ bs) = starts_with nat_eq (b ∷ bs) part || has_part part bs

-- The help of an argument whose items can't be read: it has that error if AS_HELP_STRING is in it. (own)
abbrev pub unread_help : Span → Bool → ParseFault → Result Help ParseFault
unread_help arg true f = Err f
unread_help arg false f = own_text arg

-- The help of an argument, by its items or the error in reading them. (own)
abbrev pub help_among : Span → Result (List ItemValue) ParseFault → Result Help ParseFault
help_among arg (Ok items) = help_by arg (has_call help_string_name items) (sole_call help_string_name items)
help_among arg (Err f) = unread_help arg (has_part help_string_name arg.text) f

-- The help that an argument gives. (own)
unfoldable pub help : Span → Result Help ParseFault
help arg = help_among arg (call_items arg)
