-- What each step of the reader finds, as functions on lists. All are own.
use Rattle.std.specs.Prelude.{ℕ, zero, suc, ◌+◌, ◌-◌, ◌||◌, List, [], ◌∷◌, ◌++◌, take, drop, ◌==◌, Some, option_to_list, Result, Ok, Err, if◌then◌else◌}
use Rattle.std.specs.List.{prefix_len}
use Rattle.fallible.specs.Reading.{◌>>=◌}
use Rattle.deftable.specs.ShellName.{is_shell_name_of, continues_name}
use Rattle.shellword.specs.declared.fault.ShellFault.{ShellFault}
use Rattle.shellword.specs.declared.fault.ShellFault.TheVariants.{BadWord}
use Rattle.shellword.specs.declared.fault.ShellFault.TheVariants as words
use Rattle.shellword.specs.declared.part.Part.{Part}
use Rattle.shellword.specs.Text.{newline, semicolon, is_space, is_parted, begins_with}
use Rattle.shellword.specs.Scan.{word_front_of}
use Rattle.shell_bare.specs.declared.assignments.Assignment.{Assignment}
use Rattle.shell_bare.specs.declared.fault.BareFault.{BareFault}
use Rattle.shell_bare.specs.declared.fault.BareFault.TheVariants.{UnknownStatement, Shell, OutOfMemory}
use Rattle.shell_bare.specs.declared.item.Item.{Item}
use Rattle.shell_bare.specs.declared.item.ReadStage.{ReadStage}
use Rattle.shell_bare.specs.declared.item.ReadStage.TheVariants.{Opening, Assigned, Closed}
use Rattle.shell_bare.specs.Joining.{joined}
use Rattle.shell_bare.specs.Statements.{assigns, item, nothing}
use Rattle.shell_bare.specs.Text.{hash, colon, equals, comment_len}

-- The error of a word that begins at offset `start`.
abbrev pub word_fault : ℕ → ShellFault → BareFault
word_fault start (BadWord at) = Shell (BadWord (start + at))
word_fault start words.OutOfMemory = OutOfMemory
word_fault start f = Shell f

-- The result for a word that begins at offset `start`.
abbrev pub placed : {A : Type 0} → ℕ → Result A ShellFault → Result A BareFault
placed start (Ok x) = Ok x
placed start (Err f) = Err (word_fault start f)

-- The word at the front of a text at offset `start`, and its length.
abbrev pub value_at : ℕ → List ℕ → Result (List Part × ℕ) BareFault
value_at start text = placed start (word_front_of text)

-- The assignment at the front of a text, if its name is the first `len` bytes.
abbrev pub named_at : ℕ → ℕ → List ℕ → Result Item BareFault
named_at at len text =
    if is_shell_name_of (take len text)
    then (value_at (at + (len + 1)) (drop (len + 1) text) >>= λ w. Ok (item (Some (assigns (take len text) w.0)) (len + 1 + w.1) Assigned))
    else Err (UnknownStatement at)

-- The assignment at the front of a text.
abbrev pub assignment_at : ℕ → List ℕ → Result Item BareFault
assignment_at at text =
    if begins_with equals (drop (prefix_len continues_name text) text) then named_at at (prefix_len continues_name text) text
    else Err (UnknownStatement at)

-- The lone colon or the assignment at the front of a text.
abbrev pub shell_word_at : ReadStage → ℕ → List ℕ → Result Item BareFault
shell_word_at Closed at text = Err (UnknownStatement at)
shell_word_at Assigned at text = assignment_at at text
shell_word_at Opening at [] = assignment_at at []
shell_word_at Opening at (b ∷ bs) = if b == colon then (if is_parted bs then Ok (nothing 1 Closed) else assignment_at at (b ∷ bs)) else assignment_at at (b ∷ bs)

-- The item at the front of a text at offset `at`.
unfoldable pub item_of : ReadStage → ℕ → List ℕ → Result Item BareFault
item_of stage at [] = shell_word_at stage at []
item_of stage at (b ∷ bs) =
    if is_space b then Ok (nothing 1 stage)
    else (if b == newline || b == semicolon then Ok (nothing 1 Opening)
    else (if b == hash then Ok (nothing (comment_len bs + 1) stage)
    else shell_word_at stage at (b ∷ bs)))

-- The assignments of a text without line continuations, at offset `at`, whose first `skip` bytes belong to the last item.
unfoldable pub statements_from : ℕ → ReadStage → ℕ → List ℕ → Result (List Assignment) BareFault
statements_from skip stage at [] = Ok []
statements_from (suc k) stage at (b ∷ bs) = statements_from k stage (at + 1) bs
statements_from zero stage at (b ∷ bs) =
    item_of stage at (b ∷ bs) >>= λ i. statements_from (i.len - 1) i.stage (at + 1) bs >>= λ list. Ok (option_to_list i.assignment ++ list)

-- The assignments of bare text, or its error.
unfoldable pub statements_of : List ℕ → Result (List Assignment) BareFault
statements_of text = statements_from 0 Opening 0 (joined text)
