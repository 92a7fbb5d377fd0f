-- Statements as parts, and the law.
use Rattle.std.proofs.Common.{◌≡◌, ℕ, List, [], ◌∷◌, ◌++◌, Option, Some, None, inl, inr, refl, sym, ap, ◌∙◌, subst, ⊎_elim}
use Rattle.cachefile.specs.Text.{saved_value}
use Rattle.crew_trait.specs.declared.reply.Reply.{Reply}
use Rattle.deftable.specs.Table.{value_of}
use Rattle.ac_tree.specs.Commands.{HasCommands, HasCommandsIn}
use Rattle.ac_tree.specs.Resumable.{Among, MayRead, tests_at, first_alone, Resumable, ResumableIn}
use Rattle.ac_tree.specs.Script.{Script, Done, Then, Choice, Check, Cases, No_case, Case}
use Rattle.ac_tree.specs.TestNames.{HasTestNames, HasTestNamesIn}
use Rattle.ac_tree.specs.Uses.{uses_of}
use Rattle.meaning.specs.State.{State, Scope, How, Cut, Run}
use Rattle.meaning.specs.Meaning.{effect, rounds_of, is_taken, in_turn, meaning, chosen}
use Rattle.meaning_laws.proofs.Values.{cases_value}
use Rattle.meaning_resumption.specs.Finished.{Finished, finish, Enough}
use Rattle.meaning_resumption.specs.Poured.{poured}
use Rattle.meaning_resumption.specs.Alone.{tested_rounds, tested_in, tested_cases, IsNone, AloneUse, AloneRounds, Alone, AloneIn}
use Rattle.meaning_resumption.specs.Joint.{Joint, Past, Whole, Pair, joint_one, joint_plain, joint_rounds, checks, joint, joint_cases, joint_replies}
use Rattle.meaning_resumption.specs.Same.{SameOne, SameUse, SameRounds, SameAgain, SameCases}
use Rattle.meaning_resumption.specs.Law.{Begun, EndsAgain, Resumes}
use Rattle.meaning_resumption.proofs.Near.{Within, Every, Saved, Near, leads_by, Leads, EndsAlike, Ready, Comes, IsPart}
use Rattle.meaning_resumption.proofs.Names.{among_right, among_wider, saved_or_not, ordinary_unsaved}
use Rattle.meaning_resumption.proofs.Liking.{wider_reads, taken_same}
use Rattle.meaning_resumption.proofs.Forms.{nothing_after, check_test}
use Rattle.meaning_resumption.proofs.Parts.{part_then, part_less, part_if}
use Rattle.meaning_resumption.proofs.Single.{all_readable, test_part}
use Rattle.meaning_resumption.proofs.Statements.{id_part, plain_part}
use Rattle.meaning_resumption.proofs.Rounds.{after_rounds, turns_part, after_more, rounds_keep, rounds_first, rounds_after}

mutual
  unfolding meaning chosen joint joint_cases SameAgain SameCases

  pub script_part : (script : Script) (tested known : List (List ℕ)) → Within tested known → HasCommands script → HasTestNames script → Resumable None tested script
      → IsPart known known (tested_in script) (meaning script) (joint script) (SameAgain script) (Alone script)
  script_part Done tested known w a v r = id_part known (Alone Done)
  script_part (Then d e rest) tested known w a v r =
      let uses = uses_of d e in
      let more = uses.tests ++ known in
      part_less known more known (uses.tests ++ tested_in rest) (uses.tests ++ tested_in rest) _ _ _ _ _ _ (λ n k. among_right n uses.tests known k) (λ n k. k) (λ p x. x) (λ later x. x)
      (part_then known more more uses.tests (tested_in rest) (effect e) (meaning rest) (joint_plain e) (joint rest) (SameUse uses (effect e)) (SameAgain rest) (AloneUse uses) (Alone rest)
      (plain_part tested known d e w v.0 r.0)
      (script_part rest (uses.tests ++ tested) more (λ n k. among_wider n uses.tests tested known (w n) k) a v.1 r.1))
  script_part (Choice d subject cases rest) tested known w a v r =
      let rs = rounds_of subject in
      let more = after_rounds rs known in
      let inside = tested_cases cases in
      part_less known more known (tested_rounds rs inside ++ tested_in rest) (tested_rounds rs inside ++ tested_in rest) _ _ _ _ _ _ (λ n k. after_more rs known n k) (λ n k. k) (λ p x. x) (λ later x. x)
      (part_then known more more (tested_rounds rs inside) (tested_in rest) (in_turn rs (chosen cases)) (meaning rest) (joint_rounds rs (joint_cases cases)) (joint rest) (SameRounds rs (joint_cases cases) (SameCases cases)) (SameAgain rest) (AloneRounds rs inside (AloneIn cases)) (Alone rest)
      (turns_part tested known inside rs (chosen cases) (joint_cases cases) (SameCases cases) (AloneIn cases) w (rounds_keep tested subject r.0)
      (λ further u c. cases_part cases (first_alone (tests_at subject) ++ tested) further (λ n k. u n (subst (λ z. Among n (z ++ tested)) (rounds_first subject) k)) a.0 v.0 r.1.0 c))
      (script_part rest (tests_at subject ++ tested) more (λ n k. rounds_after subject tested known w n k) a.1 v.1 r.1.1))
  script_part (Check message name commands rest) tested known w a v r =
      let more = name ∷ known in
      part_less known more known (name ∷ tested_in rest) (name ∷ tested_in rest) _ _ _ _ _ _ (λ n k. inr k) (λ n k. k) (λ p x. x) (λ later x. x)
      (part_then known more more (name ∷ []) (tested_in rest) (checks message name (meaning commands)) (meaning rest) (joint_one (checks message name (meaning commands))) (joint rest) (SameOne name (checks message name (meaning commands))) (SameAgain rest) (IsNone name) (Alone rest)
      (test_part known name nothing_after (checks message name (meaning commands)) (IsNone name) (check_test (Some name) tested known message name commands w a.0 a.1.0 r.1.0) (λ later f. inl f))
      (script_part rest (name ∷ tested) more (λ n k. ⊎_elim (λ e. inl e) (λ x. inr (w n x)) k) a.1.1 v.1 r.1.1))

  cases_part : (cases : Cases) (tested known : List (List ℕ)) → Within tested known → HasCommandsIn cases → HasTestNamesIn cases → ResumableIn None tested cases → (scope : Scope)
      → IsPart known known (tested_cases cases) (chosen cases scope) (joint_cases cases scope) (SameCases cases scope) (AloneIn cases)
  cases_part No_case tested known w a v r scope = id_part known (AloneIn No_case)
  cases_part (Case when body more) tested known w a v r scope =
      part_if known known (tested_in body) (tested_cases more) (λ st. is_taken when scope st.vars) (meaning body) (chosen more scope) (joint body) (joint_cases more scope) (SameAgain body) (SameCases more scope) (Alone body) (AloneIn more)
      (λ s t h. taken_same Every tested when scope s t (λ n k. tt) r.0 h)
      (λ E p near. taken_same (MayRead known) tested when scope p.first p.second (wider_reads tested known w) r.0 (all_readable known p.first p.second E near))
      (script_part body tested known w a.0 v.0 r.1.0) (cases_part more tested known w a.1 v.1 r.1.1 scope)

-- ---- whole runs

first_leads : (f : Finished) (how : How) → f.how ≡ how → how ≡ Cut → Leads [] f f.state
first_leads f how e cut = subst (λ h. leads_by h [] f.state f.state) (sym (e ∙ cut)) refl

poured_none : (o : Option (List ℕ)) → poured o None ≡ o
poured_none None = refl
poured_none (Some v) = refl

saved_by : (before second E : State) (n : List ℕ) → value_of second.vars n ≡ poured (saved_value n (value_of E.vars n)) (value_of before.vars n) → ((v : List ℕ) → value_of before.vars n ≡ Some v → value_of E.vars n ≡ Some v) → Saved before second E n
saved_by before second E n e keeps =
    let saved = saved_value n (value_of E.vars n) in
    ⊎_elim
    (λ none.
    let s_is : value_of second.vars n ≡ saved = e ∙ ap (poured saved) none ∙ poured_none saved in
    ⊎_elim (λ k. inl (s_is ∙ k)) (λ k. inr (s_is ∙ k, (none, k))) (saved_or_not n (value_of E.vars n)))
    (λ some.
    let en = keeps some.0 some.1 in
    let both : value_of second.vars n ≡ poured saved (value_of E.vars n) = e ∙ ap (poured saved) (some.1 ∙ sym en) in
    inl (both ∙ ⊎_elim (λ k. ap (λ o. poured o (value_of E.vars n)) k ∙ ap (λ o. poured o o) en ∙ sym en) (λ k. ap (λ o. poured o (value_of E.vars n)) k) (saved_or_not n (value_of E.vars n))))
    (cases_value (value_of before.vars n))

ends_whole : (E : State) (a b : Run) (rs qs : List Reply) (j : Joint) → (finish a rs).how ≡ Cut → Comes [] E a rs b qs j → Enough a (joint_replies j) × EndsAlike (finish a (joint_replies j)) (finish b qs)
ends_whole E a b rs qs (Past taken p) cut h = let first = h.first in cc
ends_whole E a b rs qs (Whole all) cut h = h.1

resumes_by : (script : Script) (before second : State) (replies again : List Reply) → IsPart [] [] (tested_in script) (meaning script) (joint script) (SameAgain script) (Alone script) → Begun script before second replies again → EndsAgain script before second replies again
resumes_by script before second replies again part h =
    let E = (finish (meaning script before) replies).state in
    let ahead = part.sets before replies h.enough in
    let near : Near [] before second E = record {
      alike = record { defs = sym h.poured.defs; value = λ n p. sym (h.poured.value n ∙ ap (λ o. poured o (value_of before.vars n)) (ordinary_unsaved n (value_of E.vars n) p)) };
      saved = λ n c. saved_by before second E n (h.poured.value n) (λ v e. ahead.keeps n v c e);
      known = λ n c k. absurd k;
    } in
    let ready : Ready [] E (meaning script before) replies (meaning script second) again = record {
      enough = h.enough;
      again = h.enough_again;
      leads = first_leads (finish (meaning script before) replies) _ refl h.cut;
      uncut = h.uncut;
    } in
    let p : Pair = record { first = before; replies = replies; second = second; again = again } in
    let both = ends_whole E (meaning script before) (meaning script second) replies again (joint script p) h.cut (part.comes [] E p h.alone near ready h.same) in
    let ends = both.1 in
    record { enough = both.0; ends = record { how = ends.how; defs = ends.state.defs; value = λ n. ends.state.value n tt; left = ends.left } }

pub resumes : Resumes
resumes script before second replies again h = resumes_by script before second replies again (script_part script [] [] (λ n k. k) h.commands h.names h.resumable) h
