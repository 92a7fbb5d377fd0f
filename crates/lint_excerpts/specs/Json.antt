-- A finding as JSON. All of this is own.
use Rattle.std.specs.Prelude.{ℕ, ◌&&◌, nat_le, nat_lt, Bool, List, [], ◌∷◌, ◌++◌, codes, decimal}
use Rattle.std.specs.Str.Lossy.{utf8_lossy}
use Rattle.json.specs.Token.{Token, begin_object, end_object, key, string, number}
use Rattle.json.specs.Print.{print}
use Rattle.lint_findings.specs.declared.finding.Finding.{Finding}
use Rattle.lint_findings.specs.declared.finding.Severity.{Severity}
use Rattle.lint_findings.specs.declared.finding.Severity.TheVariants.{Error, Warning}
use Rattle.lint_text.specs.declared.places.Position.{Position}
use Rattle.lint_text.specs.Places.{position_of}

-- The word of a severity.
unfoldable pub word_of : Severity → List ℕ
word_of Error = codes "error"
word_of Warning = codes "warning"

-- A member whose value is a text. Bytes that aren't UTF-8 become U+FFFD.
abbrev pub text_member : List ℕ → List ℕ → List Token
text_member name text = key name ∷ string (utf8_lossy text) ∷ []

-- A member whose value is a number.
abbrev pub number_member : List ℕ → ℕ → List Token
number_member name n = key name ∷ number (decimal n) ∷ []

-- Where it begins and ends, by lines and columns.
abbrev pub places : Position → Position → List Token
places start end =
    number_member (codes "line") start.line ++ number_member (codes "column") start.column
    ++ number_member (codes "end_line") end.line ++ number_member (codes "end_column") end.column

-- What a finding says.
abbrev pub words : Finding → List Token
words f =
    text_member (codes "severity") (word_of f.severity) ++ text_member (codes "code") f.code
    ++ text_member (codes "message") f.message ++ text_member (codes "help") f.help

-- The object of a finding in the text of a file of this name, token by token.
unfoldable pub tokens_of : List ℕ → List ℕ → Finding → List Token
tokens_of name text f =
    begin_object ∷ text_member (codes "file") name
    ++ places (position_of text f.start) (position_of text f.end)
    ++ words f
    ++ end_object ∷ []

-- The object, as JSON has it.
unfoldable pub object_of : List ℕ → List ℕ → Finding → List ℕ
object_of name text f = print (tokens_of name text f)

-- The byte is ASCII, and no control byte.
unfoldable pub is_shown : ℕ → Bool
is_shown b = nat_le 32 b && nat_lt b 127
