-- In a source that can be resumed, each share is of a test.
use Rattle.std.proofs.Common.{◌≡◌, ℕ, List, [], ◌∷◌, Bool, true, false, cond, Option, Some, None, refl, map}
use Rattle.std.specs.Prelude.{is_some}
use Rattle.std.specs.List.{AllByRecursion}
use Rattle.crew_jobs.specs.declared.job.Job.{Job}
use Rattle.crew_trait.specs.declared.reply.Reply.{Reply}
use Rattle.deftable.specs.Table.{value_of}
use Rattle.shellword.specs.declared.part.Part.{Part}
use Rattle.shellword.specs.Value.{word_value}
use Rattle.ac_tree.specs.declared.listed.Sought.{Sought}
use Rattle.ac_tree.specs.declared.statement.Declares.{Declares}
use Rattle.ac_tree.specs.declared.statement.Effect.{Effect}
use Rattle.ac_tree.specs.declared.statement.Effect.TheVariants as effects
use Rattle.ac_tree.specs.declared.statement.Question.TheVariants as questions
use Rattle.ac_tree.specs.declared.statement.Question.TheVariants.{Given, Tries, Checks, ChecksEach}
use Rattle.ac_tree.specs.declared.tree.Subject.{Subject}
use Rattle.ac_tree.specs.declared.tree.Subject.TheVariants.{Nothing, Word, Asked}
use Rattle.ac_tree.specs.Resumable.{MayTry, Resumable, ResumableIn, ResumableSubject}
use Rattle.ac_tree.specs.Script.{Script, Done, Then, Choice, Check, Cases, No_case, Case}
use Rattle.ac_tree.specs.Uses.{Uses, uses_of, uses_asked}
use Rattle.meaning.specs.State.{State, Scope, no_choice, about, Run, as_is}
use Rattle.meaning.specs.Tests.{checking}
use Rattle.meaning.specs.Forms.{FormTest}
use Rattle.meaning.specs.Entries.{tests_of}
use Rattle.meaning.specs.Batches.{asking}
use Rattle.meaning.specs.Meaning.{effect, after_question, after_subject, rounds_of, in_turn, is_taken, meaning, chosen}
use Rattle.meaning_laws.specs.Questions.{yes_or_no}
use Rattle.meaning_resumption.specs.Joint.{checks}
use Rattle.meaning_resumption.specs.Asked.{Share, jobs_asked, made, first_share, use_shares, entry_shares, effect_shares, shares_answered, subject_shares, turn_shares, owned, shares, case_shares, IsOfTest, SharesAreTests}
use Rattle.meaning_resumption.proofs.EachShare.{Each, each_both, each_either, each_after, each_answered, each_owned, Always, always}

tests_made_of : (o : Option (List ℕ)) (l : List Share) → Each IsOfTest l → Each IsOfTest (made o l)
tests_made_of None l h = h
tests_made_of (Some value) l h = tt

tests_first : (names : List (List ℕ)) (st : State) (jobs : List Job) → Each IsOfTest (first_share names st jobs)
tests_first [] st jobs = tt
tests_first (name ∷ more) st jobs = tests_made_of (value_of st.vars name) _ (refl, tt)

tests_use : (uses : Uses) (st : State) (run : Run) (rs : List Reply) → MayTry None uses.tries → Each IsOfTest (use_shares uses st run rs)
tests_use uses st run rs h = by_tries uses.tries h
  where
    by_tries : (b : Bool) → MayTry None b → Each IsOfTest (cond b (record { name = None; jobs = jobs_asked run rs } ∷ []) (first_share uses.tests st (jobs_asked run rs)))
    by_tries true k = absurd k
    by_tries false k = tests_first uses.tests st (jobs_asked run rs)

tests_entries : (asks : List (FormTest × Option Job)) → Each IsOfTest (entry_shares asks)
tests_entries [] = tt
tests_entries ((test, None) ∷ more) = tests_entries more
tests_entries ((test, Some job) ∷ more) = (refl, tests_entries more)

tests_effect : (d : Declares) (e : Effect) (st : State) (rs : List Reply) → MayTry None (uses_of d e).tries → Each IsOfTest (effect_shares d e st rs)
tests_effect d (effects.Batch listed entries includes) st rs h = tests_entries (asking 1 [] (tests_of listed entries includes) st)
tests_effect d e st rs h = tests_use (uses_of d e) st (effect e st) rs h

-- A round tries no program.
abbrev TriesNone : Subject → Type 0
TriesNone Nothing = Unit {0}
TriesNone (Word word) = Unit {0}
TriesNone (Asked q) = MayTry None (uses_asked q).tries

tests_subject : (r : Subject) (st : State) (rs : List Reply) (rest : Scope → State → List Reply → List Share) → TriesNone r → ((c : Scope) (now : State) (left : List Reply) → Each IsOfTest (rest c now left)) → Each IsOfTest (subject_shares r st rs rest)
tests_subject Nothing st rs rest t h = h no_choice st rs
tests_subject (Word word) st rs rest t h = h (about (word_value word st.vars)) st rs
tests_subject (Asked q) st rs rest t h =
    let run = after_question as_is q st yes_or_no in
    each_both IsOfTest (use_shares (uses_asked q) st run rs) (shares_answered run rs rest) (tests_use (uses_asked q) st run rs t) (each_answered IsOfTest Always run rs rest (always run) (λ c now left k. h c now left))

tests_turns : (rounds : List Subject) (go : Scope → State → Run) (inside : Scope → State → List Reply → List Share) → AllByRecursion TriesNone rounds → ((c : Scope) (now : State) (left : List Reply) → Each IsOfTest (inside c now left))
    → (st : State) (rs : List Reply) → Each IsOfTest (turn_shares rounds go inside st rs)
tests_turns [] go inside t h st rs = tt
tests_turns (r ∷ more) go inside t h st rs =
    each_both IsOfTest (subject_shares r st rs inside) _ (tests_subject r st rs inside t.0 h)
    (each_after IsOfTest Always (after_subject as_is r st go) rs (turn_shares more go inside) (always (after_subject as_is r st go)) (λ now left k. tests_turns more go inside t.1 h now left))

each_listed : (sought : Sought) (entries : List (List ℕ)) (includes : Option (List Part)) → AllByRecursion TriesNone (map (λ entry. Asked (ChecksEach sought (entry ∷ []) includes)) entries)
each_listed sought [] includes = tt
each_listed sought (entry ∷ more) includes = (tt, each_listed sought more includes)

rounds_try_none : (tested_before : List (List ℕ)) (subject : Subject) → ResumableSubject None tested_before subject → AllByRecursion TriesNone (rounds_of subject)
rounds_try_none tested_before Nothing h = (tt, tt)
rounds_try_none tested_before (Word word) h = (tt, tt)
rounds_try_none tested_before (Asked (ChecksEach sought entries includes)) h = each_listed sought entries includes
rounds_try_none tested_before (Asked (Given kind variable)) h = (h.0, tt)
rounds_try_none tested_before (Asked (Tries kind program)) h = (h.0, tt)
rounds_try_none tested_before (Asked (Checks sought entry includes)) h = (h.0, tt)
rounds_try_none tested_before (Asked (questions.Library library function others adds)) h = (h.0, tt)
rounds_try_none tested_before (Asked (questions.Libraries function libraries others)) h = (h.0, tt)

tests_are : (l : List Share) → Each (λ share. is_some share.name ≡ true → IsOfTest share) l
tests_are [] = tt
tests_are (share ∷ l) = (λ e. e, tests_are l)

mutual
  unfolding shares case_shares

  all_tests : (tested_before : List (List ℕ)) (script : Script) (st : State) (rs : List Reply) → Resumable None tested_before script → Each IsOfTest (shares script st rs)
  all_tests tested_before Done st rs h = tt
  all_tests tested_before (Then d e rest) st rs h =
      each_both IsOfTest (effect_shares d e st rs) _ (tests_effect d e st rs h.0.0)
      (each_after IsOfTest Always (effect e st) rs (shares rest) (always (effect e st)) (λ now left k. all_tests _ rest now left h.1))
  all_tests tested_before (Choice d subject cases rest) st rs h =
      each_both IsOfTest (turn_shares (rounds_of subject) (chosen cases) (case_shares cases) st rs) _
      (tests_turns (rounds_of subject) (chosen cases) (case_shares cases) (rounds_try_none tested_before subject h.0) (λ c now left. cases_tests _ cases c now left h.1.0) st rs)
      (each_after IsOfTest Always (in_turn (rounds_of subject) (chosen cases) st) rs (shares rest) (always (in_turn (rounds_of subject) (chosen cases) st)) (λ now left k. all_tests _ rest now left h.1.1))
  all_tests tested_before (Check message name commands rest) st rs h =
      let begins = checking (word_value message st.vars) st in
      each_both IsOfTest (made (value_of st.vars name) (owned name [] (shares commands begins rs))) _
      (tests_made_of (value_of st.vars name) _ (each_owned IsOfTest name [] (shares commands begins rs) (λ own. refl) (tests_are (shares commands begins rs))))
      (each_after IsOfTest Always (checks message name (meaning commands) st) rs (shares rest) (always (checks message name (meaning commands) st)) (λ now left k. all_tests _ rest now left h.1.1))

  cases_tests : (tested_before : List (List ℕ)) (cases : Cases) (scope : Scope) (st : State) (rs : List Reply) → ResumableIn None tested_before cases → Each IsOfTest (case_shares cases scope st rs)
  cases_tests tested_before No_case scope st rs h = tt
  cases_tests tested_before (Case when body more) scope st rs h =
      each_either IsOfTest (is_taken when scope st.vars) (shares body st rs) (case_shares more scope st rs) (all_tests tested_before body st rs h.1.0) (cases_tests tested_before more scope st rs h.1.1)

pub shares_are_tests : SharesAreTests
shares_are_tests script st rs h = all_tests [] script st rs h
