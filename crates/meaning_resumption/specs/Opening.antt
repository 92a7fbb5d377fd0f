-- With what a second run begins: the variables of an opening, and then the cache that the first run saved.
use Rattle.std.specs.Prelude.{◌≡◌, ◌⊎◌, ℕ, true, List, Some, None}
use Rattle.cachefile.specs.Cache.{vars_after}
use Rattle.cachefile.specs.Text.{is_saved, ReadsBack}
use Rattle.crew_trait.specs.declared.reply.Reply.{Reply}
use Rattle.deftable.specs.Table.{value_of}
use Rattle.ac_tree.specs.Commands.{HasCommands}
use Rattle.ac_tree.specs.Resumable.{IsResumable}
use Rattle.ac_tree.specs.Script.{Script}
use Rattle.ac_tree.specs.TestNames.{HasTestNames}
use Rattle.meaning.specs.State.{opened}
use Rattle.meaning_resumption.specs.Plays.{played, HasReplies}
use Rattle.meaning_resumption.specs.Poured.{Poured}

-- A name that the opening doesn't set, and to which a cache of the first run gave this value. (Autoconf's manual, "Cache
-- Files")
pub record HadCached (name : List ℕ) (opening before : List (List ℕ × List ℕ)) : Type 0 where
  pub value : List ℕ
  pub unset : value_of opening name ≡ None
  pub set : value_of before name ≡ Some value
  pub saved : is_saved (name, value) ≡ true

-- The first run began with the variables of the opening, and with those of a cache of its own. (Autoconf's manual, "Cache
-- Files")
abbrev pub BeganWith : (opening before : List (List ℕ × List ℕ)) → Type 0
BeganWith opening before = (name : List ℕ) → (value_of before name ≡ value_of opening name) ⊎ HadCached name opening before

-- A second run with the same opening, over which the saved cache text is poured, begins with the saved values. (own)
abbrev pub CachePours : Type 0
CachePours = (script : Script) (opening before : List (List ℕ × List ℕ)) (replies : List Reply) (text : List ℕ)
    → IsResumable script → HasCommands script → HasTestNames script → HasReplies (played script (opened before) replies) replies
    → BeganWith opening before → (cache : ReadsBack (played script (opened before) replies).state.vars text)
    → Poured (played script (opened before) replies).state (opened before) (opened (vars_after cache.settings opening))
