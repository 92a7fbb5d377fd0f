-- The first error of bare text, from left to right. (own)
use Rattle.std.specs.Prelude.{◌≡◌, ℕ, ◌+◌, ◌<◌, true, List, ◌∷◌, ◌++◌, length, drop}
use Rattle.deftable.specs.ShellName.{IsShellName}
use Rattle.shellword.specs.declared.fault.ShellFault.TheVariants.{BadWord}
use Rattle.shellword.specs.WordFaults.{IsBadFront}
use Rattle.shell_bare.specs.declared.continuation.BareContext.TheVariants.{Start}
use Rattle.shell_bare.specs.declared.fault.BareFault.{BareFault}
use Rattle.shell_bare.specs.declared.fault.BareFault.TheVariants.{UnknownStatement, Shell, OutOfMemory}
use Rattle.shell_bare.specs.declared.item.Item.{Item}
use Rattle.shell_bare.specs.declared.item.ReadStage.{ReadStage}
use Rattle.shell_bare.specs.declared.item.ReadStage.TheVariants.{Opening}
use Rattle.shell_bare.specs.Continuation.{IsJoined}
use Rattle.shell_bare.specs.Statements.{takes_assignments, IsItem}
use Rattle.shell_bare.specs.Text.{equals}

-- A text begins with a name and `=`, at a stage that allows an assignment. (POSIX shell, 2.9.1)
pub record IsNamed (stage : ReadStage) (text name value : List ℕ) : Type 0 where
  pub takes : takes_assignments stage ≡ true
  pub form : IsShellName name
  pub begins : name ++ equals ∷ value ≡ text

-- The first error of a text without line continuations, at offset `at` and at this stage of a statement. (own)
pub data IsFirstFault : ReadStage → ℕ → List ℕ → BareFault → Type 0 where
  -- The text begins neither with an item nor with `NAME=`.
  unknown : {stage : ReadStage} {at : ℕ} {text : List ℕ} → 0 < length text → ((i : Item) → IsItem stage text i → ⊥) → ((name value : List ℕ) → IsNamed stage text name value → ⊥)
      → IsFirstFault stage at text (UnknownStatement at)
  -- No word is at the front of the text after `NAME=`.
  refused_word : {stage : ReadStage} {at k : ℕ} {text name value : List ℕ} → IsNamed stage text name value → IsBadFront value k
      → IsFirstFault stage at text (Shell (BadWord (at + (length name + 1) + k)))
  -- The fault is after an item.
  following : {stage : ReadStage} {at : ℕ} {text : List ℕ} {i : Item} {f : BareFault} → IsItem stage text i → IsFirstFault i.stage (at + i.len) (drop i.len text) f
      → IsFirstFault stage at text f

-- The first error of bare text. (own)
pub record IsFaultOfText (text : List ℕ) (f : BareFault) : Type 0 where
  pub lines : List ℕ
  pub joined : IsJoined Start text lines
  pub first : IsFirstFault Opening 0 lines f

-- The error of an answer: the first error of the text, or out of memory. (own)
abbrev pub IsRefused : List ℕ → BareFault → Type 0
IsRefused text OutOfMemory = Unit {0}
IsRefused text f = IsFaultOfText text f
