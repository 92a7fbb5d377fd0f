-- A name that is set is not tested.
use Rattle.std.proofs.Common.{◌≡◌, ℕ, suc, List, [], ◌∷◌, ◌++◌, Option, Some, None, refl, sym, ap, ◌∙◌, subst, ⊎_elim}
use Rattle.std.specs.Prelude.{is_some, flat_map, option_to_list}
use Rattle.crew_jobs.specs.declared.job.Job.{Job}
use Rattle.crew_trait.specs.declared.reply.Reply.{Reply}
use Rattle.deftable.specs.Table.{value_of}
use Rattle.shellword.specs.Value.{word_value}
use Rattle.ac_tree.specs.declared.statement.Declares.{Declares}
use Rattle.ac_tree.specs.declared.statement.Effect.{Effect}
use Rattle.ac_tree.specs.declared.statement.Effect.TheVariants as effects
use Rattle.ac_tree.specs.declared.tree.Subject.{Subject}
use Rattle.ac_tree.specs.declared.tree.Subject.TheVariants.{Nothing, Word, Asked}
use Rattle.ac_tree.specs.Resumable.{Among}
use Rattle.ac_tree.specs.Script.{Script, Done, Then, Choice, Check, Cases, No_case, Case}
use Rattle.ac_tree.specs.Uses.{Uses, uses_of, uses_asked}
use Rattle.meaning.specs.State.{State, Scope, no_choice, about, Run, as_is}
use Rattle.meaning.specs.Tests.{checking}
use Rattle.meaning.specs.Forms.{FormTest, form_name}
use Rattle.meaning.specs.Entries.{tests_of}
use Rattle.meaning.specs.Batches.{job_for, asking}
use Rattle.meaning.specs.Meaning.{effect, after_question, after_subject, rounds_of, in_turn, is_taken, check, meaning, chosen}
use Rattle.meaning_laws.specs.Cached.{IsSet}
use Rattle.meaning_laws.specs.Questions.{yes_or_no}
use Rattle.meaning_laws.proofs.BatchLemmas.{no_job_set}
use Rattle.meaning_laws.proofs.Statements.{AllSteps, cached_holds, effect_holds, asked_holds, begun_holds, turns_hold, meaning_holds, chosen_holds}
use Rattle.meaning_laws.proofs.Kept.{Keeps, KeepsFrom, all_keep, stays_set}
use Rattle.meaning_resumption.specs.Poured.{poured}
use Rattle.meaning_resumption.specs.Joint.{checks}
use Rattle.meaning_resumption.specs.Asked.{Share, jobs_asked, made, first_share, use_shares, entry_shares, effect_shares, shares_answered, subject_shares, turn_shares, owned, shares, case_shares, AsksNoSaved}
use Rattle.meaning_resumption.proofs.EachShare.{Each, each_both, each_either, each_after, each_answered, each_owned, each_test}
use Rattle.meaning_resumption.proofs.Names.{same_or_not}

-- ---- names that are set

-- The share is not of this name.
abbrev Other : List ℕ → Option (List ℕ) → Type 0
Other n None = Unit {0}
Other n (Some name) = name ≡ n → ⊥

abbrev Spares : List ℕ → List Share → Type 0
Spares n l = Each (λ share. Other n share.name) l

abbrev Set : List ℕ → State → Type 0
Set n st = IsSet n st.vars

-- A name that is set stays so in each run of statements.
abbrev Stays : List ℕ → State → Run → Type 0
Stays n = KeepsFrom (Set n)

steps : (n : List ℕ) → AllSteps (Stays n)
steps n = all_keep (Set n) (stays_set n)

spares_made : (n name : List ℕ) (st : State) (l : List Share) → Set n st → ((name ≡ n → ⊥) → Spares n l) → Spares n (made (value_of st.vars name) l)
spares_made n name st l s h = by_value (value_of st.vars name) refl
  where
    by_value : (o : Option (List ℕ)) → value_of st.vars name ≡ o → Spares n (made o l)
    by_value None e = h (λ same. let z : None ≡ Some s.0 = sym e ∙ ap (value_of st.vars) same ∙ s.1 in cc)
    by_value (Some value) e = tt

spares_first : (n : List ℕ) (names : List (List ℕ)) (st : State) (jobs : List Job) → Set n st → Spares n (first_share names st jobs)
spares_first n [] st jobs s = tt
spares_first n (name ∷ more) st jobs s = spares_made n name st _ s (λ other. (other, tt))

spares_use : (n : List ℕ) (uses : Uses) (st : State) (run : Run) (rs : List Reply) → Set n st → Spares n (use_shares uses st run rs)
spares_use n uses st run rs s = each_either (λ share. Other n share.name) uses.tries _ _ (tt, tt) (spares_first n uses.tests st (jobs_asked run rs) s)

one_entry : (n : List ℕ) (test : FormTest) (job : Option Job) (tail : List (FormTest × Option Job)) → (form_name test.form ≡ n → ⊥) → Spares n (entry_shares tail) → Spares n (entry_shares ((test, job) ∷ tail))
one_entry n test None tail apart rest = rest
one_entry n test (Some job) tail apart rest = (apart, rest)

spares_entries : (n : List ℕ) (tests : List FormTest) (place : ℕ) (earlier : List (List ℕ)) (st : State) → Set n st → Spares n (entry_shares (asking place earlier tests st))
spares_entries n [] place earlier st s = tt
spares_entries n (test ∷ more) place earlier st s =
    let tail = asking (suc place) (form_name test.form ∷ earlier) more st in
    let rest = spares_entries n more (suc place) (form_name test.form ∷ earlier) st s in
    ⊎_elim
    (λ same. subst (λ j. Spares n (entry_shares ((test, j) ∷ tail))) (sym (no_job_set test place earlier st (ap is_some (ap (value_of st.vars) same ∙ s.1)))) rest)
    (λ other. one_entry n test (job_for test place earlier st) tail other rest)
    (same_or_not (form_name test.form) n)

spares_effect : (n : List ℕ) (d : Declares) (e : Effect) (st : State) (rs : List Reply) → Set n st → Spares n (effect_shares d e st rs)
spares_effect n d (effects.Batch listed entries includes) st rs s = spares_entries n (tests_of listed entries includes) 1 [] st s
spares_effect n d e st rs s = spares_use n (uses_of d e) st (effect e st) rs s

spares_subject : (n : List ℕ) (r : Subject) (st : State) (rs : List Reply) (rest : Scope → State → List Reply → List Share) → Set n st → ((c : Scope) (now : State) (left : List Reply) → Set n now → Spares n (rest c now left)) → Spares n (subject_shares r st rs rest)
spares_subject n Nothing st rs rest s h = h no_choice st rs s
spares_subject n (Word word) st rs rest s h = h (about (word_value word st.vars)) st rs s
spares_subject n (Asked q) st rs rest s h =
    let run = after_question as_is q st yes_or_no in
    each_both (λ share. Other n share.name) (use_shares (uses_asked q) st run rs) (shares_answered run rs rest) (spares_use n (uses_asked q) st run rs s)
    (each_answered (λ share. Other n share.name) (Set n) run rs rest (asked_holds (Stays n) (steps n).steps q st yes_or_no (λ c now k. k) s) h)

spares_turns : (n : List ℕ) (rounds : List Subject) (go : Scope → State → Run) (inside : Scope → State → List Reply → List Share) → ((c : Scope) (now : State) → Set n now → Keeps (Set n) (go c now)) → ((c : Scope) (now : State) (left : List Reply) → Set n now → Spares n (inside c now left))
    → (st : State) (rs : List Reply) → Set n st → Spares n (turn_shares rounds go inside st rs)
spares_turns n [] go inside keep h st rs s = tt
spares_turns n (r ∷ more) go inside keep h st rs s =
    each_both (λ share. Other n share.name) (subject_shares r st rs inside) _ (spares_subject n r st rs inside s h)
    (each_after (λ share. Other n share.name) (Set n) (after_subject as_is r st go) rs (turn_shares more go inside) (begun_holds (Stays n) (steps n).steps r st go keep s) (λ now left k. spares_turns n more go inside keep h now left k))

mutual
  unfolding meaning chosen shares case_shares

  spares : (script : Script) (n : List ℕ) (st : State) (rs : List Reply) → Set n st → Spares n (shares script st rs)
  spares Done n st rs s = tt
  spares (Then d e rest) n st rs s =
      each_both (λ share. Other n share.name) (effect_shares d e st rs) _ (spares_effect n d e st rs s)
      (each_after (λ share. Other n share.name) (Set n) (effect e st) rs (shares rest) (effect_holds (Stays n) (steps n) e st s) (λ now left k. spares rest n now left k))
  spares (Choice d subject cases rest) n st rs s =
      let keep : (c : Scope) (now : State) → Set n now → Keeps (Set n) (chosen cases c now) = λ c now k. chosen_holds (Stays n) (steps n) cases c now k in
      each_both (λ share. Other n share.name) (turn_shares (rounds_of subject) (chosen cases) (case_shares cases) st rs) _
      (spares_turns n (rounds_of subject) (chosen cases) (case_shares cases) keep (λ c now left k. spares_in cases n c now left k) st rs s)
      (each_after (λ share. Other n share.name) (Set n) (in_turn (rounds_of subject) (chosen cases) st) rs (shares rest) (turns_hold (Stays n) (steps n).steps (rounds_of subject) st (chosen cases) keep s) (λ now left k. spares rest n now left k))
  spares (Check message name commands rest) n st rs s =
      let begins = checking (word_value message st.vars) st in
      each_both (λ share. Other n share.name) (made (value_of st.vars name) (owned name [] (shares commands begins rs))) _
      (spares_made n name st _ s (λ other. each_owned (λ share. Other n share.name) name [] (shares commands begins rs) (λ own. other) (each_test (λ share. Other n share.name) (shares commands begins rs) (spares commands n begins rs s))))
      (each_after (λ share. Other n share.name) (Set n) (checks message name (meaning commands) st) rs (shares rest)
      (cached_holds (Stays n) (steps n).steps (check message name (meaning commands) st) st (λ now k. meaning_holds (Stays n) (steps n) commands now k) s)
      (λ now left k. spares rest n now left k))

  spares_in : (cases : Cases) (n : List ℕ) (scope : Scope) (st : State) (rs : List Reply) → Set n st → Spares n (case_shares cases scope st rs)
  spares_in No_case n scope st rs s = tt
  spares_in (Case when body more) n scope st rs s =
      each_either (λ share. Other n share.name) (is_taken when scope st.vars) (shares body st rs) (case_shares more scope st rs) (spares body n st rs s) (spares_in more n scope st rs s)

not_first : (n : List ℕ) (o : Option (List ℕ)) (more : List (List ℕ)) → Other n o → (Among n more → ⊥) → Among n (option_to_list o ++ more) → ⊥
not_first n None more k rest a = rest a
not_first n (Some name) more k rest a = ⊎_elim k rest a

not_among : (n : List ℕ) (l : List Share) → Spares n l → Among n (flat_map (λ share. option_to_list share.name) l) → ⊥
not_among n [] h a = a
not_among n (share ∷ l) h a = not_first n share.name (flat_map (λ s. option_to_list s.name) l) h.0 (not_among n l h.1) a

pub asks_no_saved : AsksNoSaved
asks_no_saved script end before second again name value p e h =
    not_among name (shares script second again) (spares script name second again (value, p.value name ∙ ap (λ o. poured o (value_of before.vars name)) e)) h
