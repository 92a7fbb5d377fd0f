-- The assignments that bare text makes. (POSIX shell, 2.9.1, as far as it describes assignments)
use Rattle.std.specs.Prelude.{◌≡◌, ℕ, ◌+◌, Bool, true, false, List, [], ◌∷◌, ◌++◌, length, drop, Option, Some, None, option_to_list}
use Rattle.deftable.specs.ShellName.{IsShellName}
use Rattle.shellword.specs.declared.part.Part.{Part}
use Rattle.shellword.specs.Text.{newline, semicolon, is_space, is_parted}
use Rattle.shellword.specs.Word.{IsWordFront}
use Rattle.shell_bare.specs.declared.assignments.Assignment.{Assignment}
use Rattle.shell_bare.specs.declared.continuation.BareContext.TheVariants.{Start}
use Rattle.shell_bare.specs.declared.item.Item.{Item}
use Rattle.shell_bare.specs.declared.item.ReadStage.{ReadStage}
use Rattle.shell_bare.specs.declared.item.ReadStage.TheVariants.{Opening, Assigned, Closed}
use Rattle.shell_bare.specs.Continuation.{IsJoined}
use Rattle.shell_bare.specs.Text.{hash, colon, equals, comment_len}

-- Whether an assignment may begin at this stage: not after a lone colon. (own)
abbrev pub takes_assignments : ReadStage → Bool
takes_assignments Closed = false
takes_assignments stage = true

-- The assignment of a word with these parts to a name. (own)
abbrev pub assigns : List ℕ → List Part → Assignment
assigns name value = record { name = name; value = value }

-- An item with these fields. (own)
abbrev pub item : Option Assignment → ℕ → ReadStage → Item
item assignment len stage = record { assignment = assignment; len = len; stage = stage }

-- An item without an assignment. (own)
abbrev pub nothing : ℕ → ReadStage → Item
nothing len stage = item None len stage

-- A text without line continuations, at this stage of a statement, begins with this item: an assignment or none, its
-- length, and the stage after it. (POSIX shell, 2.3, 2.9.1 and 2.10.2; that anything else is rejected is own)
pub data IsItem : ReadStage → List ℕ → Item → Type 0 where
  -- A space or tab.
  space : {stage : ReadStage} {b : ℕ} {rest : List ℕ} → is_space b ≡ true → IsItem stage (b ∷ rest) (nothing 1 stage)
  -- The end of a statement.
  line_end : {stage : ReadStage} {rest : List ℕ} → IsItem stage (newline ∷ rest) (nothing 1 Opening)
  parted : {stage : ReadStage} {rest : List ℕ} → IsItem stage (semicolon ∷ rest) (nothing 1 Opening)
  -- A comment, up to the end of its line.
  comment : {stage : ReadStage} {rest : List ℕ} → IsItem stage (hash ∷ rest) (nothing (comment_len rest + 1) stage)
  -- A lone colon.
  lone_colon : {rest : List ℕ} → is_parted rest ≡ true → IsItem Opening (colon ∷ rest) (nothing 1 Closed)
  -- `NAME=WORD`.
  assignment : {stage : ReadStage} {name rest : List ℕ} {parts : List Part} {n : ℕ} → takes_assignments stage ≡ true → IsShellName name → IsWordFront rest parts n
      → IsItem stage (name ++ equals ∷ rest) (item (Some (assigns name parts)) (length name + 1 + n) Assigned)

-- A text without line continuations, at this stage of a statement, makes these assignments. (POSIX shell, 2.9.1)
pub data AreStatements : ReadStage → List ℕ → List Assignment → Type 0 where
  no_more : {stage : ReadStage} → AreStatements stage [] []
  more : {stage : ReadStage} {text : List ℕ} {i : Item} {list : List Assignment} → IsItem stage text i → AreStatements i.stage (drop i.len text) list
      → AreStatements stage text (option_to_list i.assignment ++ list)

-- Bare text makes these assignments. (POSIX shell, 2.2.1 and 2.9.1)
pub record IsBareText (text : List ℕ) (list : List Assignment) : Type 0 where
  pub lines : List ℕ
  pub joined : IsJoined Start text lines
  pub statements : AreStatements Opening lines list
