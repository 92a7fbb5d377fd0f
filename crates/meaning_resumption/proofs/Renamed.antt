-- What the clause on a test's jobs refuses: shares that all have one name, whatever the script.
use Rattle.std.proofs.Common.{◌≡◌, ℕ, codes, List, [], ◌∷◌, Some, None, inl, inr, refl, sym, ap, ◌∙◌, subst}
use Rattle.std.specs.List.{AllByRecursion}
use Rattle.crew_trait.specs.declared.reply.Reply.{Reply}
use Rattle.ac_tree.specs.declared.listed.Listed.TheVariants.{Function}
use Rattle.ac_tree.specs.declared.listed.Sought.TheVariants.{ListEntry}
use Rattle.ac_tree.specs.declared.statement.Declares.TheVariants as declares
use Rattle.ac_tree.specs.declared.statement.Question.{Question}
use Rattle.ac_tree.specs.declared.statement.Question.TheVariants.{Checks}
use Rattle.ac_tree.specs.declared.tree.Subject.TheVariants.{Asked}
use Rattle.ac_tree.specs.Commands.{HasCommands}
use Rattle.ac_tree.specs.Script.{Script, Done, Choice, No_case}
use Rattle.meaning.specs.State.{State}
use Rattle.meaning.specs.Forms.{FormTest, form_name}
use Rattle.meaning_resumption.specs.Joint.{test_in}
use Rattle.meaning_resumption.specs.Asked.{Share, shares, case_shares, Asker, a_statement, a_question, Has, HasWithin, HasItsJobs, of_statement, of_question, of_entry, of_check, of_try}
use Rattle.meaning_resumption.proofs.Counter.{on_values, vars_with, good}

-- AC_CHECK_FUNC([g])
abbrev asks_g : Question
asks_g = Checks (ListEntry Function) (codes "g") None

abbrev one_test : Script
one_test = Choice declares.Nothing (Asked asks_g) No_case Done

abbrev renamed : List Share → List Share
renamed [] = []
renamed (share ∷ more) = record { name = Some (codes "zz"); jobs = share.jobs } ∷ renamed more

same_question : (q other : Question) → Asked q ≡ Asked other → q ≡ other
same_question q other e = cc

only_g : (asker : Asker) → Has asker one_test → asker ≡ a_question asks_g
unfolding Has HasWithin
only_g asker (inl (q, (is, inl asked))) = is ∙ ap a_question (sym (same_question asks_g q asked))
only_g asker (inl (q, (is, inr none))) = absurd none
only_g asker (inr (inl none)) = absurd none
only_g asker (inr (inr none)) = absurd none

same_asked : (q other : Question) → a_question q ≡ a_question other → q ≡ other
same_asked q other e = cc

same_test : (t other : FormTest) → Some t ≡ Some other → t ≡ other
same_test t other e = cc

same_name : (name other : List ℕ) → Some name ≡ Some other → name ≡ other
same_name name other e = cc

-- A share of this script has the name of its test, or none.
named : (script : Script) (share : Share) → HasItsJobs script share → script ≡ one_test → (name : List ℕ) → share.name ≡ Some name → name ≡ codes "ac_cv_func_g"
named script share (of_statement whole d e st rs own there uses) same name is = let z = only_g (a_statement d e) (subst (Has (a_statement d e)) same there) in cc
named script share (of_question whole q t st rs there test) same name is =
    let asks : q ≡ asks_g = same_asked q asks_g (only_g (a_question q) (subst (Has (a_question q)) same there)) in
    sym (same_name (form_name t.form) name is) ∙ ap (λ (x : FormTest). form_name x.form) (same_test t _ (sym test ∙ ap test_in asks))
named script share (of_entry whole d listed entries includes place earlier entry st job there among is_its) same name is = let z = only_g _ (subst (Has _) same there) in cc
named script share (of_check whole message own commands st rs there) same name is = let z = only_g _ (subst (Has _) same there) in cc
named script share (of_try whole kind program st rs there) same name is = cc

another : codes "zz" ≡ codes "ac_cv_func_g" → ⊥
another e = cc

-- So no such shares have the jobs of their tests.
pub refused : ((script : Script) (st : State) (replies : List Reply) → HasCommands script → AllByRecursion (HasItsJobs script) (renamed (shares script st replies))) → ⊥
unfolding on_values shares case_shares
refused claim = another (named one_test _ (claim one_test (vars_with []) (good ∷ []) (tt, tt)).0 refl (codes "zz") refl)
