-- Commands of AC_CACHE_CHECK, and their test, have runs that are alike in states that are alike.
use Rattle.std.proofs.Common.{◌≡◌, ℕ, List, [], ◌++◌, Option, refl, subst}
use Rattle.std.specs.Prelude.{unwrap_or}
use Rattle.shellword.specs.declared.part.Part.{Part}
use Rattle.shellword.specs.Value.{word_value}
use Rattle.ac_tree.specs.declared.statement.Declares.{Declares}
use Rattle.ac_tree.specs.declared.statement.Effect.{Effect}
use Rattle.ac_tree.specs.declared.statement.Effect.TheVariants.{Assign}
use Rattle.ac_tree.specs.declared.statement.Question.TheVariants.{Tries}
use Rattle.ac_tree.specs.declared.tree.Subject.{Subject}
use Rattle.ac_tree.specs.declared.tree.Subject.TheVariants.{Nothing, Word, Asked}
use Rattle.ac_tree.specs.Commands.{AssignsAlone, TriesAlone, AreCommands, AreCommandsIn}
use Rattle.ac_tree.specs.Resumable.{tests_at, first_alone, MayUse, ResumableSubject, Resumable, ResumableIn}
use Rattle.ac_tree.specs.Script.{Script, Done, Then, Choice, Check, Cases, No_case, Case}
use Rattle.ac_tree.specs.Uses.{uses_of}
use Rattle.meaning.specs.State.{State, Scope, no_choice, about, answered, Run, as_is}
use Rattle.meaning.specs.Tries.{text_of, tried}
use Rattle.meaning.specs.Meaning.{effect, after_subject, rounds_of, is_taken, in_turn, meaning, chosen}
use Rattle.meaning_laws.proofs.Kept.{names_stand_once}
use Rattle.meaning_resumption.specs.Joint.{checks}
use Rattle.meaning_resumption.proofs.Near.{Alike, Like}
use Rattle.meaning_resumption.proofs.Liking.{Reads, like_then, like_cond, written_alike, cached_like, text_same, taken_same, tried_like}

-- Commands test nothing.
none_of : (name : List ℕ) (d : Declares) (e : Effect) → AssignsAlone name e → (uses_of d e).tests ≡ []
none_of name d (Assign variable value) a = refl
none_of name d _ a = absurd a

none_at : (subject : Subject) → TriesAlone subject → tests_at subject ≡ []
none_at Nothing a = refl
none_at (Word word) a = refl
none_at (Asked (Tries kind program)) a = refl
none_at (Asked _) a = absurd a

command_like : (at : List ℕ → Type 0) (own : Option (List ℕ)) (names : List (List ℕ)) (name : List ℕ) (d : Declares) (e : Effect) (x y : State) → Reads at names → AssignsAlone name e → MayUse own names (uses_of d e) → Alike at x y → Like at (effect e x) (effect e y)
unfolding effect
command_like at own names name d (Assign variable value) x y reads a r h =
    (refl, written_alike at variable (word_value value x.vars) (word_value value y.vars) x y (text_same at names value x y reads r.1.1.0 h) h)
command_like at own names name d _ x y reads a r h = absurd a

ask_like : (at : List ℕ → Type 0) (own : Option (List ℕ)) (names : List (List ℕ)) (subject : Subject) (s t : State) (go : Scope → State → Run) → Reads at names → TriesAlone subject → ResumableSubject own names subject → Alike at s t
    → ((scope : Scope) (x y : State) → Alike at x y → Like at (go scope x) (go scope y)) → Like at (in_turn (rounds_of subject) go s) (in_turn (rounds_of subject) go t)
unfolding after_subject
ask_like at own names Nothing s t go reads a r h k = like_then at (go no_choice s) (go no_choice t) _ _ (k no_choice s t h) (λ x y l. (refl, l))
ask_like at own names (Word word) s t go reads a r h k =
    like_then at (go (about (word_value word s.vars)) s) (go (about (word_value word t.vars)) t) _ _
    (subst (λ v. Like at (go (about (word_value word s.vars)) s) (go (about v) t)) (text_same at names word s t reads r h) (k (about (word_value word s.vars)) s t h)) (λ x y l. (refl, l))
ask_like at own names (Asked (Tries kind program)) s t go reads a r h k =
    like_then at (tried as_is kind (text_of program s.vars) s (λ passed. go (answered passed))) (tried as_is kind (text_of program t.vars) t (λ passed. go (answered passed))) _ _
    (tried_like at names kind program s t (λ passed. go (answered passed)) (λ passed. go (answered passed)) reads r.1.1 h (λ b x y l. k (answered b) x y l)) (λ x y l. (refl, l))
ask_like at own names (Asked _) s t go reads a r h k = absurd a

mutual
  unfolding meaning chosen

  commands_like : (at : List ℕ → Type 0) (own : Option (List ℕ)) (names : List (List ℕ)) (name : List ℕ) (script : Script) (s t : State) → Reads at names → AreCommands name script → Resumable own names script → Alike at s t → Like at (meaning script s) (meaning script t)
  commands_like at own names name Done s t reads a r h = (refl, h)
  commands_like at own names name (Then d e rest) s t reads a r h =
      like_then at (effect e s) (effect e t) (meaning rest) (meaning rest) (command_like at own names name d e s t reads a.1.0 r.0 h)
      (λ x y l. commands_like at own names name rest x y reads a.1.1 (subst (λ z. Resumable own (z ++ names) rest) (none_of name d e a.1.0) r.1) l)
  commands_like at own names name (Choice d subject cases rest) s t reads a r h =
      like_then at (in_turn (rounds_of subject) (chosen cases) s) (in_turn (rounds_of subject) (chosen cases) t) (meaning rest) (meaning rest)
      (ask_like at own names subject s t (chosen cases) reads a.1.0 r.0 h
      (λ scope x y l. cases_like at own names name cases scope x y reads a.1.1.0 (subst (λ z. ResumableIn own (first_alone z ++ names) cases) (none_at subject a.1.0) r.1.0) l))
      (λ x y l. commands_like at own names name rest x y reads a.1.1.1 (subst (λ z. Resumable own (z ++ names) rest) (none_at subject a.1.0) r.1.1) l)
  commands_like at own names name (Check message other commands rest) s t reads a r h = absurd a

  cases_like : (at : List ℕ → Type 0) (own : Option (List ℕ)) (names : List (List ℕ)) (name : List ℕ) (cases : Cases) (scope : Scope) (s t : State) → Reads at names → AreCommandsIn name cases → ResumableIn own names cases → Alike at s t → Like at (chosen cases scope s) (chosen cases scope t)
  cases_like at own names name No_case scope s t reads a r h = (refl, h)
  cases_like at own names name (Case when body more) scope s t reads a r h =
      like_cond at (is_taken when scope s.vars) (is_taken when scope t.vars) _ _ _ _ (taken_same at names when scope s t reads r.0 h)
      (commands_like at own names name body s t reads a.0 r.1.0 h) (cases_like at own names name more scope s t reads a.1 r.1.1 h)

pub check_like : (at : List ℕ → Type 0) (own : Option (List ℕ)) (names : List (List ℕ)) (message : List Part) (name : List ℕ) (commands : Script) (s t : State) → Reads at names → at name → AreCommands name commands → Resumable own names commands → Alike at s t
    → Like at (checks message name (meaning commands) s) (checks message name (meaning commands) t)
check_like at own names message name commands s t reads here a r h =
    cached_like at name (word_value message s.vars) (word_value message t.vars) (meaning commands) (λ value. unwrap_or value []) s t here (λ st once. names_stand_once commands name st once)
    (λ x y l. commands_like at own names name commands x y reads a r l) h
