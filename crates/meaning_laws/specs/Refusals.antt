-- Laws of cuts: a run is cut exactly if a reply is refused, and says so in its last line.
use Rattle.std.specs.Prelude.{◌≡◌, ℕ, List, [], ◌∷◌, ◌++◌, Some, None, length}
use Rattle.crew_trait.specs.declared.reply.Reply.{Reply}
use Rattle.deftable.specs.declared.note.Note.{Note}
use Rattle.deftable.specs.declared.note.Stream.TheVariants.{Err}
use Rattle.ac_tree.specs.Script.{Script}
use Rattle.meaning.specs.State.{State, piece, Cut}
use Rattle.meaning.specs.Meaning.{meaning}
use Rattle.meaning.specs.Play.{Played, play, all_jobs, whole, first_refused, cut_line}
use Rattle.meaning_laws.specs.Finished.{finish}

-- A source as a whole run, played with these replies. (own)
abbrev pub played : Script → State → List Reply → Played
played script st replies = play (whole (meaning script st)) replies

-- There are as many replies as jobs. (own)
abbrev pub HasReplies : Played → List Reply → Type 0
HasReplies p replies = length replies ≡ length (all_jobs p.groups)

-- If the run is cut, one of the replies is refused, and otherwise none is. (own)
pub record CutJustThere (p : Played) (replies : List Reply) : Type 0 where
  pub cut : p.how ≡ Cut → (number : ℕ) × (first_refused replies ≡ Some number)
  pub uncut : (p.how ≡ Cut → ⊥) → first_refused replies ≡ None

-- This holds of whole runs that are played with as many replies as jobs. (own)
abbrev pub CutsAtRefusals : Type 0
CutsAtRefusals = (script : Script) (st : State) (replies : List Reply) → HasReplies (played script st replies) replies
    → CutJustThere (played script st replies) replies

-- If the run is cut, its last message is the line with the place of the first refused reply, from 1, after what its
-- statements printed. Otherwise nothing comes after that. (own)
pub record TellsCut (p : Played) (printed : List Note) (replies : List Reply) : Type 0 where
  pub cut : (number : ℕ) → p.how ≡ Cut → first_refused replies ≡ Some number → p.state.messages ≡ printed ++ piece Err (cut_line number) ∷ []
  pub uncut : (p.how ≡ Cut → ⊥) → p.state.messages ≡ printed

-- This holds of whole runs that are played with as many replies as jobs. (own)
abbrev pub CutsAreTold : Type 0
CutsAreTold = (script : Script) (st : State) (replies : List Reply) → HasReplies (played script st replies) replies
    → TellsCut (played script st replies) (finish (meaning script st) replies).state.messages replies
