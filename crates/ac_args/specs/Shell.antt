-- Arguments that are shell text (POSIX shell, 2.2 to 2.6, 2.7.4, 2.9.4.3; `test` by the number of its words). Errors
-- have the offset of the argument.
use Rattle.std.specs.Prelude.{List, Result}
use Rattle.m4quote.specs.ItemValue.{Span}
use Rattle.shellword.specs.Pattern.{patterns_of}
use Rattle.shellword.specs.Scan.{word_of, here_of}
use Rattle.shellword.specs.Test.{test_of}
use Rattle.shellword.specs.Truth.{Joined}
use Rattle.shellword.specs.declared.part.Part.{Part}
use Rattle.shellword.specs.declared.pattern.Piece.{Piece}
use Rattle.ac_statement.specs.declared.fault.ParseFault.{ParseFault}
use Rattle.ac_args.specs.Arguments.{text}
use Rattle.ac_statement.specs.Reading.{◌>>=◌, shell_at}

-- A used text that is one word. (POSIX shell, "Word Expansions")
unfoldable pub word : Span → Result (List Part) ParseFault
word arg = text arg >>= λ t. shell_at arg.at (word_of t)

-- A used text as here text. (POSIX shell, "Here-Document")
unfoldable pub here_text : Span → Result (List Part) ParseFault
here_text arg = text arg >>= λ t. shell_at arg.at (here_of t)

-- A used text that is a test. (POSIX, `test`)
unfoldable pub shell_test : Span → Result Joined ParseFault
shell_test arg = text arg >>= λ t. shell_at arg.at (test_of t)

-- A used text that is a list of patterns. (POSIX shell, "Case Conditional Construct")
unfoldable pub patterns : Span → Result (List (List Piece)) ParseFault
patterns arg = text arg >>= λ t. shell_at arg.at (patterns_of t)
