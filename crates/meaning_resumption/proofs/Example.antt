-- The premises of the law can be met. A batch of the functions f, g and f is cut at g; after it are a list with actions,
-- AC_CACHE_CHECK, and a definition of its value.
use Rattle.std.proofs.Common.{◌≡◌, ℕ, codes, List, [], ◌∷◌, Bool, true, false, cond, Option, Some, None, inl, inr, length, map, refl, sym, ap, ◌∙◌, arith}
use Rattle.std.specs.Prelude.{bytes_eq, ◌&&◌}
use Rattle.cachefile.specs.Text.{saved_value}
use Rattle.crew_trait.specs.declared.reply.Reply.{Reply}
use Rattle.crew_trait.specs.declared.reply.Reply.TheVariants.{StartRefused}
use Rattle.deftable.specs.CacheName.{is_cache_name, has_cv}
use Rattle.deftable.specs.Table.{value_of}
use Rattle.ac_tree.specs.declared.listed.Listed.TheVariants.{Header, Function}
use Rattle.ac_tree.specs.declared.listed.Sought.TheVariants.{ListEntry}
use Rattle.ac_tree.specs.declared.statement.Declares.TheVariants as declares
use Rattle.ac_tree.specs.declared.statement.Effect.TheVariants.{Batch, DefineText}
use Rattle.ac_tree.specs.declared.statement.Question.TheVariants.{Checks, ChecksEach}
use Rattle.ac_tree.specs.declared.tree.Subject.TheVariants.{Asked}
use Rattle.ac_tree.specs.declared.tree.When.TheVariants.{Yes}
use Rattle.ac_tree.specs.Script.{Script, Done, Then, Choice, No_case, Case}
use Rattle.meaning.specs.State.{Goes_on, Cut}
use Rattle.meaning.specs.Play.{all_jobs}
use Rattle.meaning.specs.Meaning.{meaning}
use Rattle.meaning_laws.proofs.Values.{same_text}
use Rattle.meaning_resumption.specs.Finished.{finish}
use Rattle.meaning_resumption.specs.Poured.{poured}
use Rattle.meaning_resumption.specs.Joint.{joint, joint_replies}
use Rattle.meaning_resumption.specs.Same.{SameAgain, SameCases}
use Rattle.meaning_resumption.specs.Law.{Begun}
use Rattle.meaning_resumption.specs.Plays.{played, StartedAgain}
use Rattle.meaning_resumption.specs.Asked.{tests_made, shares, case_shares}
use Rattle.meaning_resumption.proofs.Counter.{on_values, vars_with, good, bad, value, sets, if_set, tries, maybe, f_is}

abbrev example : Script
example = Then declares.Nothing (Batch Function (codes "f" ∷ codes "g" ∷ codes "f" ∷ []) None)
    (Choice declares.Nothing (Asked (ChecksEach (ListEntry Function) (codes "h" ∷ codes "k" ∷ []) None)) (Case Yes (if_set (codes "ac_cv_func_h") Done) No_case)
    (maybe (Then declares.Nothing (DefineText (codes "A") (value (codes "v_cv_x"))) Done)))

abbrev replies : List Reply
replies = good ∷ StartRefused ∷ []

abbrev again : List Reply
again = bad ∷ good ∷ bad ∷ good ∷ []

-- The value of a name, by the names that it may be.
abbrev by_names : Bool → Bool → Bool → Option (List ℕ)
by_names cc_is path_is f_too = cond cc_is (Some (codes "cc")) (cond path_is (Some (codes "/b")) (cond f_too (Some (codes "yes")) None))

by_cases : (b c d cached : Bool) → (d ≡ true → cached ≡ true)
    → by_names b c d ≡ poured (cond b (cond cached (Some (codes "cc")) None) (cond c (cond cached (Some (codes "/b")) None) (cond d (cond cached (Some (codes "yes")) None) None))) (by_names b c false)
by_cases true c d true h = refl
by_cases true c d false h = refl
by_cases false true d true h = refl
by_cases false true d false h = refl
by_cases false false true true h = refl
by_cases false false true false h = let z = h refl in cc
by_cases false false false true h = refl
by_cases false false false false h = refl

saved_by : (n : List ℕ) (b c d : Bool) → saved_value n (by_names b c d) ≡ cond b (cond (is_cache_name n && true) (Some (codes "cc")) None) (cond c (cond (is_cache_name n && true) (Some (codes "/b")) None) (cond d (cond (is_cache_name n && true) (Some (codes "yes")) None) None))
saved_by n true c d = refl
saved_by n false true d = refl
saved_by n false false true = refl
saved_by n false false false = refl

f_cached : (n : List ℕ) → bytes_eq n (codes "ac_cv_func_f") ≡ true → is_cache_name n && true ≡ true
unfolding is_cache_name has_cv
f_cached n e = ap (λ x. is_cache_name x && true) (same_text n (codes "ac_cv_func_f") e)

premises : Begun example (vars_with []) (vars_with f_is) replies again
unfolding on_values SameAgain SameCases is_cache_name has_cv
premises = record {
  resumable = (
    (tt, (tt, tt)),
    (
      (tt, (tt, tt)),
      (
        (tt, ((tt, (((inr (inl refl), tt), (((tt, (inl refl, (tt, tt))), tt), tt)), tt)), tt)),
        (tt, (((tt, (tt, (tt, tt))), ((tt, (((tt, (inr refl, (tt, tt))), tt), tt)), tt)), ((tt, (tt, ((inr (inl refl), tt), tt))), tt))),
      ),
    ),
  );
  commands = ((((tt, tt), tt), tt), (refl, ((tt, (tt, (((tt, (refl, tt)), tt), tt))), tt)));
  names = (tt, (((((tt, tt), tt), tt), tt), ((((tt, tt), tt), tt), (tt, tt))));
  alone = (tt, (((tt, ((((tt, ((tt, tt), tt)), tt), tt), tt)), ((tt, ((((tt, ((tt, tt), tt)), tt), tt), tt)), tt)), ((λ h. h), (tt, tt))));
  cut = refl;
  enough = (omega arith, tt);
  poured = record {
    defs = refl;
    value = λ n. by_cases (bytes_eq n (codes "CC")) (bytes_eq n (codes "PATH")) (bytes_eq n (codes "ac_cv_func_f")) (is_cache_name n && true) (f_cached n)
        ∙ ap (λ o. poured o (by_names (bytes_eq n (codes "CC")) (bytes_eq n (codes "PATH")) false)) (sym (saved_by n (bytes_eq n (codes "CC")) (bytes_eq n (codes "PATH")) (bytes_eq n (codes "ac_cv_func_f"))));
  };
  uncut = λ e. let h : (finish (meaning example (vars_with f_is)) again).how ≡ Goes_on = refl in let z : Goes_on ≡ Cut = sym h ∙ e in cc;
  enough_again = (omega arith, (omega arith, (omega arith, (omega arith, tt))));
  same = (tt, tt);
}

joint_is : joint_replies (joint example (record { first = vars_with []; replies = replies; second = vars_with f_is; again = again })) ≡ good ∷ bad ∷ good ∷ bad ∷ good ∷ []
unfolding on_values
joint_is = refl

-- So can those of the law for whole runs.
whole_premises : StartedAgain example (vars_with []) (vars_with f_is) replies again
unfolding on_values SameAgain SameCases is_cache_name has_cv
whole_premises = record {
  resumable = premises.resumable;
  commands = premises.commands;
  names = premises.names;
  alone = premises.alone;
  cut = refl;
  enough = refl;
  poured = record { defs = refl; value = premises.poured.value };
  uncut = λ e. let h : (played example (vars_with f_is) again).how ≡ Goes_on = refl in let z : Goes_on ≡ Cut = sym h ∙ e in cc;
  enough_again = refl;
  same = premises.same;
}

-- AC_CHECK_HEADER([a.h],[x=1]) and AC_CHECK_FUNC([f],[y=1]): the first run is cut at the function.
abbrev two_tests : Script
two_tests =
    Choice declares.Nothing (Asked (Checks (ListEntry Header) (codes "a.h") None)) (Case Yes (sets (codes "x") (codes "1")) No_case)
    (Choice declares.Nothing (Asked (Checks (ListEntry Function) (codes "f") None)) (Case Yes (sets (codes "y") (codes "1")) No_case) Done)

abbrev header_is : List (List ℕ × List ℕ)
header_is = (codes "ac_cv_header_a_h", codes "yes") ∷ []

two_joint : joint_replies (joint two_tests (record { first = vars_with []; replies = good ∷ StartRefused ∷ []; second = vars_with header_is; again = good ∷ [] })) ≡ good ∷ good ∷ []
unfolding on_values
two_joint = refl

-- The second run asks for one job, and sets both variables.
two_again : (length (all_jobs (played two_tests (vars_with header_is) (good ∷ [])).groups) ≡ 1)
    × ((value_of (played two_tests (vars_with header_is) (good ∷ [])).state.vars (codes "x") ≡ Some (codes "1"))
    × (value_of (played two_tests (vars_with header_is) (good ∷ [])).state.vars (codes "y") ≡ Some (codes "1")))
unfolding on_values
two_again = (refl, (refl, refl))

-- The second run makes the test of the function alone.
two_made : tests_made two_tests (vars_with header_is) (good ∷ []) ≡ codes "ac_cv_func_f" ∷ []
unfolding on_values shares case_shares
two_made = refl

-- A run of the first example makes each test once. Its batch is one group of two jobs, of two tests.
example_made : tests_made example (vars_with []) (good ∷ good ∷ good ∷ good ∷ good ∷ []) ≡ codes "ac_cv_func_f" ∷ codes "ac_cv_func_g" ∷ codes "ac_cv_func_h" ∷ codes "ac_cv_func_k" ∷ codes "v_cv_x" ∷ []
unfolding on_values shares case_shares
example_made = refl

-- A program that is tried outside AC_CACHE_CHECK belongs to no test. Such a source can't be resumed.
tried_alone : (map (λ share. share.name) (shares (tries No_case Done) (vars_with []) (good ∷ [])) ≡ None ∷ []) × (tests_made (tries No_case Done) (vars_with []) (good ∷ []) ≡ [])
unfolding on_values shares case_shares
tried_alone = (refl, refl)
