-- Arguments that name an optional feature or package. (Autoconf's manual, "Choosing Package Options" and "External
-- Software")
use Rattle.std.specs.Prelude.{ℕ, List, Result, Ok}
use Rattle.m4quote.specs.ItemValue.{Span}
use Rattle.ac_tree.specs.Feature.{is_feature, option_variable}
use Rattle.ac_tree.specs.declared.feature.OptionKind.{OptionKind}
use Rattle.ac_args.specs.Arguments.{trimmed_text}
use Rattle.ac_statement.specs.Reading.{◌>>=◌, wants}
use Rattle.ac_statement.specs.declared.fault.ParseFault.{ParseFault}
use Rattle.ac_statement.specs.declared.fault.ParseFault.TheVariants.{BadName}

-- The variable of the option that an argument names. (Autoconf's manual, "Choosing Package Options")
unfoldable pub feature_variable : OptionKind → Span → Result (List ℕ) ParseFault
feature_variable kind arg = do
  t ← trimmed_text arg
  _ ← wants (is_feature t) (BadName arg.at)
  Ok (option_variable kind t)
