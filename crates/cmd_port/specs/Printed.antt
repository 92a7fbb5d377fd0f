-- What `acrun port` prints, and its exit status. All of this is own.
use Rattle.std.specs.Prelude.{◌≡◌, ℕ, Bool, true, false, List, Option, Some, None}
use Rattle.file_disk.specs.Known.{Known}
use Rattle.cmd_call.specs.Calls.{is_input}
use Rattle.lint_sources.specs.Sources.{IsNamed}
use Rattle.port_idioms.specs.declared.idioms.Idioms.{Idioms}
use Rattle.cmd_port.specs.Ported.{IsPorted}
use Rattle.cmd_port.specs.Served.{IsEnded}
use Rattle.cmd_port.specs.Asked.{Package, Request}

-- The status after a text that has comments about what is left, or none.
abbrev pub status_of : Bool → ℕ
status_of true = 1
status_of false = 0

-- A source with this text becomes what is printed: it is rewritten, and gets what its templates want, unless it is standard input's. The
-- status says whether what is printed has comments about what is left.
pub record IsPrinted (idioms : Idioms) (naming : Option Package) (is_stream : Bool) (text out : List ℕ) (status : ℕ) : Type 0 where
  pub had_comments : Bool
  pub mid : List ℕ
  pub ported : IsPorted idioms naming text had_comments mid
  pub has_comments : Bool
  pub ended : IsEnded None is_stream had_comments idioms mid has_comments out
  pub status_is : status ≡ status_of has_comments

-- The source that is asked for has a text, which becomes what is printed by the idioms that are asked for, with the name and the version
-- that are stated. Wrong words ask for nothing.
abbrev pub IsAnswer : Option Known → Option Request → List ℕ → ℕ → Type 0
IsAnswer files (Some request) out status =
    (text : List ℕ) × (directory : List ℕ) × IsNamed files (is_input request.source) request.source text directory × IsPrinted request.idioms request.naming (is_input request.source) text out status
IsAnswer files None out status = ⊥
