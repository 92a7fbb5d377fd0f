-- The errors of templates that can't be read. All of this is own.
use Rattle.std.specs.Prelude.{◌≡◌, ℕ, Bool, true, false, not, List, [], ◌∷◌, All, Option, Some, None, Result, Ok, Err, bytes_eq}
use Rattle.std.specs.List.{Contains, list_any}
use Rattle.ac_statement.specs.declared.fault.ParseFault.{ParseFault}
use Rattle.file_disk.specs.Known.{Known}
use Rattle.lint_findings.specs.declared.finding.Finding.{Finding}
use Rattle.lint_sources.specs.Sources.{IsThere, IsMissing, outputs_of}
use Rattle.output_list.specs.declared.output.Output.{Output}
use Rattle.ac_tree.specs.declared.tree.Stmt.{Stmt}
use Rattle.ac_tree.specs.Script.{Script, script_of}

-- The template of an output is not among those that were read.
abbrev pub is_lost : List (List ℕ × List ℕ) → Output → Bool
is_lost templates output = not (list_any (λ template. bytes_eq template.0 output.template) templates)

-- What errors became: they are the same if no template is lost, and some otherwise.
abbrev pub AreAdded : Bool → List Finding → List Finding → Type 0
AreAdded false old new = new ≡ old
AreAdded true old new = new ≡ [] → ⊥

-- Whether there are errors.
abbrev pub HasSome : List Finding → Bool → Type 0
HasSome [] has = has ≡ false
HasSome (error ∷ more) has = has ≡ true

-- The template of one of these outputs can't be read, or each can.
abbrev pub Lacks : Option Known → List ℕ → List Output → Bool → Type 0
Lacks files directory outputs true = (output : Output) × Contains outputs output × IsMissing files directory output
Lacks files directory outputs false = All (IsThere files directory) outputs

-- What errors became after those of the templates of outputs.
pub record AreChecked (files : Option Known) (directory : List ℕ) (outputs : List Output) (old new : List Finding) : Type 0 where
  pub lacks : Bool
  pub is : Lacks files directory outputs lacks
  pub added : AreAdded lacks old new

-- What errors became after those of the templates of a source, if it has statements.
abbrev pub AreCheckedOf : Option Known → List ℕ → Option Script → List Finding → List Finding → Type 0
AreCheckedOf files directory None old new = new ≡ old
AreCheckedOf files directory (Some script) old new = AreChecked files directory (outputs_of script) old new

-- The statements of a source that is read, or none.
abbrev pub script_in : Result (List Stmt) ParseFault → Option Script
script_in (Ok statements) = Some (script_of statements)
script_in (Err fault) = None
