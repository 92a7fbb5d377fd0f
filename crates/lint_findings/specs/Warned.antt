-- The warning about a part of a text. All of this is own.
use Rattle.std.specs.Prelude.{ℕ, List, length, min}
use Rattle.lint_findings.specs.declared.finding.Finding.{Finding}
use Rattle.lint_findings.specs.declared.finding.Severity.TheVariants.{Warning}
use Rattle.lint_findings.specs.declared.finding.Span.{Span}

-- The part of a span that is in a text: nothing of it is after the end of the text.
abbrev pub span_within : List ℕ → Span → Span
span_within text span = record { file = span.file; start = min span.start (min span.end (length text)); end = min span.end (length text) }

-- The warning about this part of a file, with a code, a message and a help.
abbrev pub warning_at : Span → List ℕ → List ℕ → List ℕ → Finding
warning_at span code message help = record { file = span.file; start = span.start; end = span.end; severity = Warning; code = code; message = message; help = help }

-- The warning about the part of a span that is in a text.
abbrev pub warning_of : List ℕ → Span → List ℕ → List ℕ → List ℕ → Finding
warning_of text span = warning_at (span_within text span)
