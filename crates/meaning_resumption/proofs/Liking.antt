-- States that are alike have runs that are alike: attempts, tests, and the commands of AC_CACHE_CHECK.
use Rattle.std.proofs.Common.{◌≡◌, ℕ, List, [], ◌∷◌, ◌++◌, map, codes, Bool, true, false, cond, length, take, drop, Option, Some, None, inl, inr, refl, sym, ap, ◌∙◌, subst, ⊎_elim}
use Rattle.std.specs.Prelude.{unwrap_or, not, ◌&&◌, bytes_eq, ◌==◌, option_to_list}
use Rattle.crew_jobs.specs.declared.job.Job.{Job}
use Rattle.crew_jobs.specs.Probe as probe
use Rattle.crew_jobs.specs.Probe.{words_of, compile_words, link_words, link_words_with, preprocessor, preprocess_words, job_if, run_of, job_of}
use Rattle.crew_trait.specs.declared.reply.Reply.{Reply}
use Rattle.deftable.specs.CacheName.{is_cache_name, has_cv}
use Rattle.deftable.specs.Table.{value_of, with_entry, without_entry}
use Rattle.shellword.specs.declared.element.Condition.{Condition}
use Rattle.shellword.specs.declared.element.Condition.TheVariants as conditions
use Rattle.shellword.specs.declared.element.Element.{Element}
use Rattle.shellword.specs.declared.part.Part.{Part}
use Rattle.shellword.specs.declared.part.Part.TheVariants as parts
use Rattle.shellword.specs.Truth.{Joined, single, joined, condition_truth, element_truth, joint_truth, truth}
use Rattle.shellword.specs.Value.{or_empty, word_value}
use Rattle.test_forms.specs.declared.form.Gives.{Gives}
use Rattle.test_forms.specs.declared.form.Gives.TheVariants as uses
use Rattle.test_forms.specs.declared.form.Snippet.{Snippet}
use Rattle.test_forms.specs.declared.form.Snippet.TheVariants as snippets
use Rattle.test_forms.specs.declared.form.TryForm.{TryForm}
use Rattle.ac_tree.specs.declared.program.Program as programs
use Rattle.ac_tree.specs.declared.program.Program.TheVariants as texts
use Rattle.ac_tree.specs.declared.program.Try as kinds
use Rattle.ac_tree.specs.declared.program.Try.TheVariants as kinds_are
use Rattle.ac_tree.specs.declared.tree.When.{When}
use Rattle.ac_tree.specs.declared.tree.When.TheVariants.{Holds, Matches, Yes, No, Always}
use Rattle.ac_tree.specs.Resumable.{IsOrdinary, MayRead, ReadsText, ReadsAll, ReadsCondition, ReadsTest, ReadsWhen}
use Rattle.ac_tree.specs.Uses.{program_texts}
use Rattle.meaning.specs.State.{State, with_child, with_variable, with_definition, without_variable, Scope, How, Goes_on, Completed, Stopped, Cut, Run, Ends, Asks, then_run, as_is}
use Rattle.meaning.specs.Asking.{success, only_reply, after_child, child, compiled, same, Attempt, attempted}
use Rattle.meaning.specs.Tests.{Test, broken, guarded, checking, with_result, cached_test, Row, tested_by, may_begin, tested, with_value, by_attempts}
use Rattle.meaning.specs.Rows.{TestKind, Program, Formed, program_attempts, name_of, message_of, attempts_of, otherwise_of, shown_of, is_ready, after_of, row_of}
use Rattle.meaning.specs.Forms.{FormTest, attempt_of_try, defined_if, digit_of, form_attempts, includes_in, is_linked, libs_with, may_start, says_found, snippet_job, symbol_part, value_in, with_given, with_library, with_library_if, with_linked}
use Rattle.meaning.specs.Batches.{first_job, test_job}
use Rattle.meaning.specs.Directories.{directories_of}
use Rattle.meaning.specs.Tries.{text_of, first_probe, after_first, tried}
use Rattle.meaning.specs.Meaning.{is_taken}
use Rattle.conftest_source.specs.Sources.{header_source, function_source, program_source}
use Rattle.meaning_laws.specs.Ends.{AtEnds}
use Rattle.meaning_laws.specs.Cached.{StandsOnce, KeepsOnce}
use Rattle.meaning_laws.proofs.Values.{cases_value, value_without, not_same, once_unset, once_with}
use Rattle.meaning_laws.proofs.Endings.{ends_attempted}
use Rattle.meaning_laws.proofs.CachedTests.{set_cached, unset_cached}
use Rattle.meaning_resumption.specs.Finished.{Finished, finish, with_taken, Enough}
use Rattle.meaning_resumption.proofs.Near.{Within, Alike, Like, Both}
use Rattle.meaning_resumption.proofs.Names.{same_or_not, value_same, libs_plain}

-- ---- runs

pub like_then : (at : List ℕ → Type 0) (a b : Run) (k l : State → Run) → Like at a b → ((s t : State) → Alike at s t → Like at (k s) (l t)) → Like at (then_run a k) (then_run b l)
like_then at (Ends Goes_on s) (Ends Goes_on t) k l e rest = rest s t e.1
like_then at (Ends Completed s) (Ends Completed t) k l e rest = e
like_then at (Ends (Stopped x) s) (Ends (Stopped y) t) k l e rest = e
like_then at (Ends Cut s) (Ends Cut t) k l e rest = e
like_then at (Ends _ s) (Ends _ t) k l e rest = let h = e.0 in cc
like_then at (Asks js n) (Asks ks m) k l e rest = (e.0, λ rs. like_then at (n rs) (m rs) k l (e.1 rs) rest)
like_then at _ _ k l e rest = absurd e

pub like_cond : (at : List ℕ → Type 0) (b c : Bool) (w x y z : Run) → b ≡ c → Like at w x → Like at y z → Like at (cond b w y) (cond c x z)
like_cond at true true w x y z e p q = p
like_cond at false false w x y z e p q = q
like_cond at _ _ w x y z e p q = cc

pub with_both : (at : List ℕ → Type 0) (x y : List Reply) (f g : Finished) → Both at f g → Both at (with_taken x f) (with_taken y g)
with_both at x y f g h = record { how = h.how; state = h.state; left = h.left }

-- Under the same replies.
pub like_finish : (at : List ℕ → Type 0) (a b : Run) (rs : List Reply) → Like at a b → Both at (finish a rs) (finish b rs)
like_finish at (Ends h a) (Ends g b) rs e = record { how = e.0; state = e.1; left = refl }
like_finish at (Asks js n) (Asks ks m) rs e =
    let same_jobs : Both at (with_taken (take (length js) rs) (finish (n (take (length js) rs)) (drop (length js) rs))) (with_taken (take (length js) rs) (finish (m (take (length js) rs)) (drop (length js) rs))) =
    with_both at _ _ _ _ (like_finish at (n (take (length js) rs)) (m (take (length js) rs)) (drop (length js) rs) (e.1 (take (length js) rs))) in
    subst (λ (k : List Job). Both at (with_taken (take (length js) rs) (finish (n (take (length js) rs)) (drop (length js) rs))) (with_taken (take (length k) rs) (finish (m (take (length k) rs)) (drop (length k) rs)))) e.0 same_jobs
like_finish at _ _ rs e = absurd e

-- Enough replies for one are enough for the other.
pub like_enough : (at : List ℕ → Type 0) (a b : Run) (rs : List Reply) → Like at a b → Enough b rs → Enough a rs
like_enough at (Ends h a) (Ends g b) rs e k = tt
like_enough at (Asks js n) (Asks ks m) rs e k =
    let x : Enough (Asks js m) rs = subst (λ (l : List Job). Enough (Asks l m) rs) (sym e.0) k in
    (x.0, like_enough at (n (take (length js) rs)) (m (take (length js) rs)) (drop (length js) rs) (e.1 (take (length js) rs)) x.1)
like_enough at (Ends h a) (Asks ks m) rs e k = tt
like_enough at (Asks js n) (Ends g b) rs e k = absurd e

-- ---- states

pub variable_alike : (at : List ℕ → Type 0) (name value : List ℕ) (s t : State) → Alike at s t → Alike at (with_variable name value s) (with_variable name value t)
variable_alike at name value s t h = record { defs = h.defs; value = λ m a. value_same s.vars t.vars name value m (h.value m a) }

-- With equal values, too.
pub written_alike : (at : List ℕ → Type 0) (name v w : List ℕ) (s t : State) → v ≡ w → Alike at s t → Alike at (with_variable name v s) (with_variable name w t)
written_alike at name v w s t e h = subst (λ x. Alike at (with_variable name v s) (with_variable name x t)) e (variable_alike at name v s t h)

pub definition_alike : (at : List ℕ → Type 0) (name value : List ℕ) (s t : State) → Alike at s t → Alike at (with_definition name value s) (with_definition name value t)
definition_alike at name value s t h = record { defs = ap (λ l. with_entry l name value) h.defs; value = h.value }

-- ---- attempts

pub heard_like : (at : List ℕ → Type 0) (answer : Option Bool) (s t : State) (go goes : Bool → State → Run) → Alike at s t → ((b : Bool) → Like at (go b s) (goes b t)) → Like at (after_child as_is answer s go) (after_child as_is answer t goes)
heard_like at None s t go goes h k = (refl, h)
heard_like at (Some b) s t go goes h k = k b

pub child_alike : (at : List ℕ → Type 0) (job : Job) (reply : Reply) (s t : State) → Alike at s t → Alike at (with_child job reply s) (with_child job reply t)
child_alike at job reply s t h = record { defs = h.defs; value = h.value }

child_like : (at : List ℕ → Type 0) (job : Job) (s t : State) (go goes : Bool → State → Run) → Alike at s t → ((b : Bool) (x y : State) → Alike at x y → Like at (go b x) (goes b y)) → Like at (child as_is job s go) (child as_is job t goes)
child_like at job s t go goes h k = (
  refl,
  λ rs. heard_like at (success (only_reply rs)) (with_child job (only_reply rs) s) (with_child job (only_reply rs) t) go goes (child_alike at job (only_reply rs) s t h)
      (λ b. k b (with_child job (only_reply rs) s) (with_child job (only_reply rs) t) (child_alike at job (only_reply rs) s t h)),
)

compiled_like : (at : List ℕ → Type 0) (job : Option Job) (s t : State) (go goes : Bool → State → Run) → Alike at s t → ((b : Bool) (x y : State) → Alike at x y → Like at (go b x) (goes b y)) → Like at (compiled as_is job s go) (compiled as_is job t goes)
compiled_like at None s t go goes h k = (refl, record { defs = h.defs; value = h.value })
compiled_like at (Some job) s t go goes h k = child_like at job s t go goes h k

pub attempted_like : (at : List ℕ → Type 0) (attempts : List Attempt) (otherwise : Option (List ℕ)) (s t : State) (go goes : Option (List ℕ) → State → Run) → Alike at s t → ((value : Option (List ℕ)) (x y : State) → Alike at x y → Like at (go value x) (goes value y))
    → Like at (attempted as_is attempts otherwise s go) (attempted as_is attempts otherwise t goes)
attempted_like at [] otherwise s t go goes h k = k otherwise s t h
attempted_like at (a ∷ more) otherwise s t go goes h k =
    compiled_like at a.job s t _ _ h (λ b x y l. like_cond at (same a.ends_on b) (same a.ends_on b) _ _ _ _ refl (k a.value x y l) (attempted_like at more otherwise x y go goes l k))

-- ---- tests

broken_alike : (at : List ℕ → Type 0) (name : List ℕ) (how : How) (s t : State) → StandsOnce name s.vars → StandsOnce name t.vars → Alike at s t → Alike at (broken name how s) (broken name how t)
broken_alike at name how s t p q h = by_how how
  where
    gone : Alike at (without_variable name s) (without_variable name t)
    gone = record {
      defs = h.defs;
      value = λ n a. ⊎_elim
          (λ e. subst (λ x. value_of (without_entry s.vars name) x ≡ value_of (without_entry t.vars name) x) e (p ∙ sym q))
          (λ ne. let f = not_same n name (λ k. ne (sym k)) in value_without s.vars name n f ∙ h.value n a ∙ sym (value_without t.vars name n f))
          (same_or_not name n);
    }

    by_how : (how : How) → Alike at (broken name how s) (broken name how t)
    by_how Goes_on = h
    by_how Completed = gone
    by_how (Stopped status) = gone
    by_how Cut = record { defs = gone.defs; value = gone.value }

guarded_like : (at : List ℕ → Type 0) (name : List ℕ) (a b : Run) → AtEnds (λ how now. StandsOnce name now.vars) a → AtEnds (λ how now. StandsOnce name now.vars) b → Like at a b → Like at (guarded name a) (guarded name b)
guarded_like at name (Ends h s) (Ends g t) p q e = (e.0, subst (λ x. Alike at (broken name h s) (broken name x t)) e.0 (broken_alike at name h s t p q e.1))
guarded_like at name (Asks js n) (Asks ks m) p q e = (e.0, λ rs. guarded_like at name (n rs) (m rs) (p rs) (q rs) (e.1 rs))
guarded_like at name _ _ p q e = absurd e

abbrev one_test : List ℕ → List ℕ → (State → Run) → (Option (List ℕ) → List ℕ) → Test
one_test name message body shown = record { name = name; message = message; body = body; shown = shown }

pub cached_like : (at : List ℕ → Type 0) (name m1 m2 : List ℕ) (body : State → Run) (shown : Option (List ℕ) → List ℕ) (s t : State) → at name → KeepsOnce name body → ((x y : State) → Alike at x y → Like at (body x) (body y)) → Alike at s t
    → Like at (cached_test (one_test name m1 body shown) s) (cached_test (one_test name m2 body shown) t)
cached_like at name m1 m2 body shown s t a once like h =
    ⊎_elim
    (λ none.
    let other = sym (h.value name a) ∙ none in
    subst (λ x. Like at x (cached_test (one_test name m2 body shown) t)) (sym (unset_cached (one_test name m1 body shown) s none))
    (subst (λ y. Like at (then_run (guarded name (body (checking m1 s))) (λ now. Ends Goes_on (with_result (shown (value_of now.vars name)) now))) y) (sym (unset_cached (one_test name m2 body shown) t other))
    (like_then at (guarded name (body (checking m1 s))) (guarded name (body (checking m2 t))) _ _
    (guarded_like at name (body (checking m1 s)) (body (checking m2 t)) (once (checking m1 s) (once_unset s.vars name none)) (once (checking m2 t) (once_unset t.vars name other))
    (like (checking m1 s) (checking m2 t) (record { defs = h.defs; value = h.value })))
    (λ x y l. (refl, record { defs = l.defs; value = l.value })))))
    (λ some.
    let other = sym (h.value name a) ∙ some.1 in
    let both : Like at (Ends Goes_on (with_result (codes "(cached) " ++ shown (Some some.0)) (checking m1 s))) (Ends Goes_on (with_result (codes "(cached) " ++ shown (Some some.0)) (checking m2 t))) = (refl, record { defs = h.defs; value = h.value }) in
    subst (λ x. Like at x (cached_test (one_test name m2 body shown) t)) (sym (set_cached (one_test name m1 body shown) some.0 s some.1))
    (subst (λ y. Like at (Ends Goes_on (with_result (codes "(cached) " ++ shown (Some some.0)) (checking m1 s))) y) (sym (set_cached (one_test name m2 body shown) some.0 t other)) both))
    (cases_value (value_of s.vars name))

-- ---- what is read

-- States that are alike at all that may be read.
abbrev pub Reads : (List ℕ → Type 0) → List (List ℕ) → Type 0
Reads at names = (n : List ℕ) → MayRead names n → at n

-- What may be read with these names may be read with more.
pub wider_reads : (tested known : List (List ℕ)) → Within tested known → Reads (MayRead known) tested
wider_reads tested known w n r = ⊎_elim (λ x. inl x) (λ x. inr (w n x)) r

pub text_same : (at : List ℕ → Type 0) (names : List (List ℕ)) (text : List Part) (s t : State) → Reads at names → ReadsText names text → Alike at s t → word_value text s.vars ≡ word_value text t.vars
unfolding word_value
text_same at names [] s t reads r h = refl
text_same at names (parts.Plain b ∷ more) s t reads r h = ap (λ l. b ∷ l) (text_same at names more s t reads r h)
text_same at names (parts.Quoted b ∷ more) s t reads r h = ap (λ l. b ∷ l) (text_same at names more s t reads r h)
text_same at names (parts.Variable name ∷ more) s t reads r h =
    ap (λ o. or_empty o ++ word_value more s.vars) (h.value name (reads name r.0)) ∙ ap (λ l. or_empty (value_of t.vars name) ++ l) (text_same at names more s t reads r.1 h)

pub given_same : (at : List ℕ → Type 0) (names : List (List ℕ)) (text : Option (List Part)) (s t : State) → Reads at names → ReadsAll names (option_to_list text) → Alike at s t → value_in text s ≡ value_in text t
given_same at names None s t reads r h = refl
given_same at names (Some text) s t reads r h = ap Some (text_same at names text s t reads r.0 h)

program_same : (at : List ℕ → Type 0) (names : List (List ℕ)) (program : programs.Program) (s t : State) → Reads at names → ReadsAll names (program_texts program) → Alike at s t → text_of program s.vars ≡ text_of program t.vars
program_same at names (texts.Program prologue body) s t reads r h =
    ap (λ l. program_source l (word_value body s.vars)) (text_same at names prologue s t reads r.0 h) ∙ ap (program_source (word_value prologue t.vars)) (text_same at names body s t reads r.1.0 h)
program_same at names (texts.Whole text) s t reads r h = text_same at names text s t reads r.0 h

condition_same : (at : List ℕ → Type 0) (names : List (List ℕ)) (c : Condition) (s t : State) → Reads at names → ReadsCondition names c → Alike at s t → condition_truth c s.vars ≡ condition_truth c t.vars
condition_same at names conditions.True s t reads r h = refl
condition_same at names conditions.False s t reads r h = refl
condition_same at names (conditions.Nonempty word) s t reads r h = ap (λ l. not (length l == 0)) (text_same at names word s t reads r h)
condition_same at names (conditions.Empty word) s t reads r h = ap (λ l. length l == 0) (text_same at names word s t reads r h)
condition_same at names (conditions.Equal left right) s t reads r h =
    ap (λ l. bytes_eq l (word_value right s.vars)) (text_same at names left s t reads r.0 h) ∙ ap (bytes_eq (word_value left t.vars)) (text_same at names right s t reads r.1 h)
condition_same at names (conditions.Different left right) s t reads r h =
    ap (λ l. not (bytes_eq l (word_value right s.vars))) (text_same at names left s t reads r.0 h) ∙ ap (λ l. not (bytes_eq (word_value left t.vars) l)) (text_same at names right s t reads r.1 h)

element_same : (at : List ℕ → Type 0) (names : List (List ℕ)) (e : Element) (s t : State) → Reads at names → ReadsCondition names e.condition → Alike at s t → element_truth e s.vars ≡ element_truth e t.vars
element_same at names e s t reads r h = ap (λ b. cond e.negated (not b) b) (condition_same at names e.condition s t reads r h)

test_same : (at : List ℕ → Type 0) (names : List (List ℕ)) (test : Joined) (s t : State) → Reads at names → ReadsTest names test → Alike at s t → truth test s.vars ≡ truth test t.vars
unfolding truth
test_same at names (single e) s t reads r h = element_same at names e s t reads r h
test_same at names (joined left joint e) s t reads r h =
    ap (λ b. joint_truth b joint (element_truth e s.vars)) (test_same at names left s t reads r.0 h) ∙ ap (joint_truth (truth left t.vars) joint) (element_same at names e s t reads r.1 h)

pub taken_same : (at : List ℕ → Type 0) (names : List (List ℕ)) (when : When) (scope : Scope) (s t : State) → Reads at names → ReadsWhen names when → Alike at s t → is_taken when scope s.vars ≡ is_taken when scope t.vars
unfolding is_taken
taken_same at names (Holds test) scope s t reads r h = test_same at names test s t reads r h
taken_same at names (Matches patterns) scope s t reads r h = refl
taken_same at names Yes scope s t reads r h = refl
taken_same at names No scope s t reads r h = refl
taken_same at names Always scope s t reads r h = refl

-- ---- jobs

abbrev Variables : Type 0
Variables = List (List ℕ × List ℕ)

-- The variables that jobs are made of.
record SameTools (s t : Variables) : Type 0 where
  cc_is : value_of s (codes "CC") ≡ value_of t (codes "CC")
  cflags : value_of s (codes "CFLAGS") ≡ value_of t (codes "CFLAGS")
  cppflags : value_of s (codes "CPPFLAGS") ≡ value_of t (codes "CPPFLAGS")
  ldflags : value_of s (codes "LDFLAGS") ≡ value_of t (codes "LDFLAGS")
  libs : value_of s (codes "LIBS") ≡ value_of t (codes "LIBS")
  cpp : value_of s (codes "CPP") ≡ value_of t (codes "CPP")

tools_same : (at : List ℕ → Type 0) (s t : State) → ((n : List ℕ) → IsOrdinary n → at n) → Alike at s t → SameTools s.vars t.vars
unfolding is_cache_name has_cv
tools_same at s t ordinary h = record {
  cc_is = h.value (codes "CC") (ordinary (codes "CC") refl);
  cflags = h.value (codes "CFLAGS") (ordinary (codes "CFLAGS") refl);
  cppflags = h.value (codes "CPPFLAGS") (ordinary (codes "CPPFLAGS") refl);
  ldflags = h.value (codes "LDFLAGS") (ordinary (codes "LDFLAGS") refl);
  libs = h.value (codes "LIBS") (ordinary (codes "LIBS") refl);
  cpp = h.value (codes "CPP") (ordinary (codes "CPP") refl);
}

tools_with : (s t : Variables) (value : List ℕ) → SameTools s t → SameTools (with_entry s (codes "LIBS") value) (with_entry t (codes "LIBS") value)
tools_with s t value h = record {
  cc_is = value_same s t (codes "LIBS") value (codes "CC") h.cc_is;
  cflags = value_same s t (codes "LIBS") value (codes "CFLAGS") h.cflags;
  cppflags = value_same s t (codes "LIBS") value (codes "CPPFLAGS") h.cppflags;
  ldflags = value_same s t (codes "LIBS") value (codes "LDFLAGS") h.ldflags;
  libs = value_same s t (codes "LIBS") value (codes "LIBS") h.libs;
  cpp = value_same s t (codes "LIBS") value (codes "CPP") h.cpp;
}

words_same : (s t : Variables) (name : List ℕ) → value_of s name ≡ value_of t name → words_of s name ≡ words_of t name
unfolding words_of
words_same s t name e = cc

compile_same : (number : ℕ) (s t : Variables) → SameTools s t → compile_words number s ≡ compile_words number t
unfolding compile_words
compile_same number s t h = cc (words_same s t (codes "CC") h.cc_is, words_same s t (codes "CFLAGS") h.cflags, words_same s t (codes "CPPFLAGS") h.cppflags)

link_same : (number : ℕ) (s t : Variables) → SameTools s t → link_words number s ≡ link_words number t
unfolding link_words_with
link_same number s t h =
    cc (words_same s t (codes "CC") h.cc_is, words_same s t (codes "CFLAGS") h.cflags, words_same s t (codes "CPPFLAGS") h.cppflags, words_same s t (codes "LDFLAGS") h.ldflags, words_same s t (codes "LIBS") h.libs)

abbrev preprocessor_by : List (List ℕ) → List (List ℕ) → List (List ℕ)
preprocessor_by cpp compiler = cond (length cpp == 0) (cond (length compiler == 0) [] (compiler ++ codes "-E" ∷ [])) cpp

preprocessor_same : (s t : Variables) → SameTools s t → preprocessor s ≡ preprocessor t
unfolding preprocessor
preprocessor_same s t h =
    ap (λ l. preprocessor_by l (words_of s (codes "CC"))) (words_same s t (codes "CPP") h.cpp) ∙ ap (preprocessor_by (words_of t (codes "CPP"))) (words_same s t (codes "CC") h.cc_is)

preprocess_same : (number : ℕ) (s t : Variables) → SameTools s t → preprocess_words number s ≡ preprocess_words number t
unfolding preprocess_words
preprocess_same number s t h = cc (preprocessor_same s t h, words_same s t (codes "CPPFLAGS") h.cppflags)

if_same : (c c2 w w2 : List (List ℕ)) (number : ℕ) (d d2 : Variables) (source : List ℕ) → c ≡ c2 → w ≡ w2 → d ≡ d2 → job_if c w number d source ≡ job_if c2 w2 number d2 source
if_same c c2 w w2 number d d2 source p q r = ap (λ x. job_if x w number d source) p ∙ ap (λ x. job_if c2 x number d source) q ∙ ap (λ x. job_if c2 w2 number x source) r

job_same : (p : probe.Probe) (number : ℕ) (s t d d2 : Variables) → SameTools s t → d ≡ d2 → job_of p number s d ≡ job_of p number t d2
unfolding job_of
job_same (probe.Compile source) number s t d d2 h e = if_same _ _ _ _ number d d2 source (words_same s t (codes "CC") h.cc_is) (compile_same number s t h) e
job_same (probe.Link source) number s t d d2 h e = if_same _ _ _ _ number d d2 source (words_same s t (codes "CC") h.cc_is) (link_same number s t h) e
job_same (probe.Preprocess source) number s t d d2 h e = if_same _ _ _ _ number d d2 source (preprocessor_same s t h) (preprocess_same number s t h) e
job_same probe.Run number s t d d2 h e = refl
job_same (probe.Find file) number s t d d2 h e = refl

-- ---- rows

-- Each variable of the text that a test was given may be read.
abbrev pub ReadsKind : List (List ℕ) → TestKind → Type 0
ReadsKind names (Program s own) = Unit {0}
ReadsKind names (Formed t) = ReadsAll names (option_to_list t.given)

ordinary_of : (at : List ℕ → Type 0) (names : List (List ℕ)) → Reads at names → (n : List ℕ) → IsOrdinary n → at n
ordinary_of at names reads n p = reads n (inl p)

libs_same : (at : List ℕ → Type 0) (library : List ℕ) (given : Option (List ℕ)) (s t : State) → ((n : List ℕ) → IsOrdinary n → at n) → Alike at s t → libs_with library given s.vars ≡ libs_with library given t.vars
libs_same at library given s t ordinary h =
    ap (λ o. codes "-l" ++ library ++ codes " " ++ (unwrap_or given [] ++ codes " " ++ unwrap_or o [])) (h.value (codes "LIBS") (ordinary (codes "LIBS") libs_plain))

snippet_same : (at : List ℕ → Type 0) (snippet : Snippet) (entry : List ℕ) (given : Option (List ℕ)) (number : ℕ) (s t : State) → ((n : List ℕ) → IsOrdinary n → at n) → Alike at s t
    → snippet_job snippet entry given number s.vars s.defs ≡ snippet_job snippet entry given number t.vars t.defs
snippet_same at snippets.Header entry given number s t ordinary h =
    job_same (probe.Compile (header_source (includes_in given) entry)) number s.vars t.vars s.defs t.defs (tools_same at s t ordinary h) h.defs
snippet_same at snippets.Function entry given number s t ordinary h =
    job_same (probe.Link (function_source entry)) number s.vars t.vars s.defs t.defs (tools_same at s t ordinary h) h.defs
snippet_same at (snippets.Library library) entry given number s t ordinary h =
    let libs = libs_with library given s.vars in
    job_same (probe.Link (function_source entry)) number (with_entry s.vars (codes "LIBS") libs) (with_entry t.vars (codes "LIBS") libs) s.defs t.defs (tools_with s.vars t.vars libs (tools_same at s t ordinary h)) h.defs
    ∙ ap (λ x. job_of (probe.Link (function_source entry)) number (with_entry t.vars (codes "LIBS") x) t.defs) (libs_same at library given s t ordinary h)
snippet_same at (snippets.Body text) entry given number s t ordinary h =
    job_same (probe.Compile (program_source (includes_in given) text)) number s.vars t.vars s.defs t.defs (tools_same at s t ordinary h) h.defs

-- The job of the first try.
first_same : (at : List ℕ → Type 0) (tries : List TryForm) (entry : List ℕ) (given : Option (List ℕ)) (number : ℕ) (s t : State) → ((n : List ℕ) → IsOrdinary n → at n) → Alike at s t
    → first_job tries entry given number s.vars s.defs ≡ first_job tries entry given number t.vars t.defs
first_same at [] entry given number s t ordinary h = refl
first_same at (a ∷ more) entry given number s t ordinary h = snippet_same at a.snippet entry given number s t ordinary h

pub test_job_same : (at : List ℕ → Type 0) (names : List (List ℕ)) (test : FormTest) (number : ℕ) (s t : State) → Reads at names → ReadsAll names (option_to_list test.given) → Alike at s t → test_job test number s ≡ test_job test number t
test_job_same at names test number s t reads r h =
    ap (λ given. first_job test.form.tries test.form.entry given number s.vars s.defs) (given_same at names test.given s t reads r h)
    ∙ first_same at test.form.tries test.form.entry (value_in test.given t) number s t (ordinary_of at names reads) h

abbrev attempt_by : TryForm → Option Job → Attempt
attempt_by a job = record { job = job; ends_on = a.ends_on; value = Some a.value }

tries_same : (at : List ℕ → Type 0) (tries : List TryForm) (entry : List ℕ) (given : Option (List ℕ)) (s t : State) → ((n : List ℕ) → IsOrdinary n → at n) → Alike at s t
    → map (attempt_of_try entry given s.vars s.defs) tries ≡ map (attempt_of_try entry given t.vars t.defs) tries
tries_same at [] entry given s t ordinary h = refl
tries_same at (a ∷ more) entry given s t ordinary h =
    ap (λ j. attempt_by a j ∷ map (attempt_of_try entry given s.vars s.defs) more) (snippet_same at a.snippet entry given 0 s t ordinary h)
    ∙ ap (λ l. attempt_of_try entry given t.vars t.defs a ∷ l) (tries_same at more entry given s t ordinary h)

attempts_same : (at : List ℕ → Type 0) (names : List (List ℕ)) (kind : TestKind) (s t : State) → Reads at names → ReadsKind names kind → Alike at s t → attempts_of kind s ≡ attempts_of kind t
unfolding is_cache_name has_cv
attempts_same at names (Program search own) s t reads r h = ap (λ o. program_attempts own search (directories_of (unwrap_or o []))) (h.value (codes "PATH") (reads (codes "PATH") (inl refl)))
attempts_same at names (Formed test) s t reads r h =
    ap (λ given. form_attempts test.form given s.vars s.defs) (given_same at names test.given s t reads r h)
    ∙ tries_same at test.form.tries test.form.entry (value_in test.given t) s t (ordinary_of at names reads) h

ready_same : (at : List ℕ → Type 0) (names : List (List ℕ)) (kind : TestKind) (s t : State) → Reads at names → ReadsKind names kind → Alike at s t → is_ready kind s ≡ is_ready kind t
ready_same at names (Program search own) s t reads r h = refl
ready_same at names (Formed test) s t reads r h = ap may_start (attempts_same at names (Formed test) s t reads r h)

abbrev pub row_by : TestKind → List Attempt → Bool → Row
row_by kind attempts ready = record {
  test = record { name = name_of kind; message = message_of kind; body = by_attempts (name_of kind) attempts (otherwise_of kind); shown = shown_of kind };
  ready = ready;
  after = after_of kind;
}

-- States that are alike have the same row.
pub row_same : (at : List ℕ → Type 0) (names : List (List ℕ)) (kind : TestKind) (s t : State) → Reads at names → ReadsKind names kind → Alike at s t → row_of kind s ≡ row_of kind t
row_same at names kind s t reads r h =
    ap (λ a. row_by kind a (is_ready kind s)) (attempts_same at names kind s t reads r h) ∙ ap (row_by kind (attempts_of kind t)) (ready_same at names kind s t reads r h)

-- ---- what is done with a value

defined_alike : (at : List ℕ → Type 0) (b : Bool) (name : List ℕ) (s t : State) → Alike at s t → Alike at (defined_if b name s) (defined_if b name t)
defined_alike at true name s t h = definition_alike at name (codes "1") s t h
defined_alike at false name s t h = h

library_alike : (at : List ℕ → Type 0) (text : List ℕ) (s t : State) → at (codes "LIBS") → Alike at s t → Alike at (with_library text s) (with_library text t)
library_alike at text s t a h = written_alike at (codes "LIBS") _ _ s t (ap (λ o. text ++ codes " " ++ unwrap_or o []) (h.value (codes "LIBS") a)) h

if_alike : (at : List ℕ → Type 0) (b : Bool) (library : List ℕ) (s t : State) → at (codes "LIBS") → Alike at s t → Alike at (with_library_if b library s) (with_library_if b library t)
if_alike at true library s t a h = library_alike at (codes "-l" ++ library) _ _ a (definition_alike at (codes "HAVE_LIB" ++ symbol_part library) (codes "1") s t h)
if_alike at false library s t a h = h

pub cond_alike : (at : List ℕ → Type 0) (b : Bool) (w x y z : State) → Alike at w x → Alike at y z → Alike at (cond b w y) (cond b x z)
cond_alike at true w x y z p q = p
cond_alike at false w x y z p q = q

linked_alike : (at : List ℕ → Type 0) (o : Option (List ℕ)) (s t : State) → at (codes "LIBS") → Alike at s t → Alike at (with_linked o s) (with_linked o t)
linked_alike at None s t a h = h
linked_alike at (Some value) s t a h = cond_alike at (is_linked (Some value) && not (bytes_eq value (codes "none required"))) _ _ _ _ (library_alike at value s t a h) h

given_alike : (at : List ℕ → Type 0) (gives : Gives) (found : Bool) (o : Option (List ℕ)) (s t : State) → at (codes "LIBS") → Alike at s t → Alike at (with_given gives found o s) (with_given gives found o t)
given_alike at uses.Nothing found o s t a h = h
given_alike at (uses.Have what) found o s t a h = defined_alike at found (codes "HAVE_" ++ symbol_part what) s t h
given_alike at (uses.HaveOrNot what) found o s t a h = definition_alike at (codes "HAVE_" ++ symbol_part what) (digit_of found) s t h
given_alike at (uses.AddsLibrary library) found o s t a h = if_alike at found library s t a h
given_alike at uses.AddsValue found o s t a h = linked_alike at o s t a h

pub after_alike : (at : List ℕ → Type 0) (kind : TestKind) (o : Option (List ℕ)) (s t : State) → at (codes "LIBS") → Alike at s t → Alike at (after_of kind o s) (after_of kind o t)
after_alike at (Program search own) o s t a h = variable_alike at search.variable (unwrap_or o []) s t h
after_alike at (Formed test) o s t a h = given_alike at test.form.gives (says_found test.form.says o) o s t a h

-- ---- the test of a row

value_once : (name : List ℕ) (value : Option (List ℕ)) (st : State) → StandsOnce name st.vars → StandsOnce name (with_value name value st).vars
value_once name None st h = h
value_once name (Some v) st h = once_with st.vars name v name h

attempts_once : (name : List ℕ) (attempts : List Attempt) (otherwise : Option (List ℕ)) → KeepsOnce name (by_attempts name attempts otherwise)
attempts_once name attempts otherwise st h =
    ends_attempted (λ now. StandsOnce name now.vars) (λ how now. StandsOnce name now.vars) (λ j reply now k. k) attempts otherwise _
    (λ now k. k) (λ now k. k) (λ value now k. value_once name value now k) st h

value_alike : (at : List ℕ → Type 0) (name : List ℕ) (value : Option (List ℕ)) (s t : State) → Alike at s t → Alike at (with_value name value s) (with_value name value t)
value_alike at name None s t h = h
value_alike at name (Some v) s t h = variable_alike at name v s t h

by_row : (at : List ℕ → Type 0) (kind : TestKind) (attempts : List Attempt) (ready b : Bool) (s t : State) → at (name_of kind) → at (codes "LIBS") → Alike at s t
    → Like at (tested_by b (row_by kind attempts ready) s) (tested_by b (row_by kind attempts ready) t)
by_row at kind attempts ready true s t a libs h =
    like_then at (cached_test (row_by kind attempts ready).test s) (cached_test (row_by kind attempts ready).test t) _ _
    (cached_like at (name_of kind) (message_of kind) (message_of kind) (by_attempts (name_of kind) attempts (otherwise_of kind)) (shown_of kind) s t a (attempts_once (name_of kind) attempts (otherwise_of kind))
    (λ x y l. attempted_like at attempts (otherwise_of kind) x y _ _ l (λ value x2 y2 l2. (refl, value_alike at (name_of kind) value x2 y2 l2))) h)
    (λ x y l. (refl, subst (λ o. Alike at (after_of kind (value_of x.vars (name_of kind)) x) (after_of kind o y)) (l.value (name_of kind) a) (after_alike at kind (value_of x.vars (name_of kind)) x y libs l)))
by_row at kind attempts ready false s t a libs h = (refl, record { defs = h.defs; value = h.value })

pub row_like : (at : List ℕ → Type 0) (names : List (List ℕ)) (kind : TestKind) (s t : State) → at (name_of kind) → Reads at names → ReadsKind names kind → Alike at s t → Like at (tested (row_of kind s) s) (tested (row_of kind t) t)
row_like at names kind s t a reads r h =
    let x = row_of kind s in
    subst (λ y. Like at (tested x s) (tested y t)) (row_same at names kind s t reads r h)
    (subst (λ o. Like at (tested x s) (tested_by (may_begin o x.ready) x t)) (h.value (name_of kind) a)
    (by_row at kind (attempts_of kind s) (is_ready kind s) (may_begin (value_of s.vars (name_of kind)) (is_ready kind s)) s t a (reads (codes "LIBS") (inl libs_plain)) h))

-- ---- programs that are tried

first_like : (at : List ℕ → Type 0) (kind : kinds.Try) (go goes : Bool → State → Run) → ((b : Bool) (x y : State) → Alike at x y → Like at (go b x) (goes b y)) → (b : Bool) (s t : State) → Alike at s t → Like at (after_first as_is kind go b s) (after_first as_is kind goes b t)
first_like at kinds_are.Run go goes k true s t h = child_like at (run_of 0) s t go goes h k
first_like at kinds_are.Run go goes k false s t h = k false s t h
first_like at kinds_are.Compile go goes k b s t h = k b s t h
first_like at kinds_are.Link go goes k b s t h = k b s t h
first_like at kinds_are.Preproc go goes k b s t h = k b s t h

pub tried_like : (at : List ℕ → Type 0) (names : List (List ℕ)) (kind : kinds.Try) (program : programs.Program) (s t : State) (go goes : Bool → State → Run) → Reads at names → ReadsAll names (program_texts program) → Alike at s t → ((b : Bool) (x y : State) → Alike at x y → Like at (go b x) (goes b y))
    → Like at (tried as_is kind (text_of program s.vars) s go) (tried as_is kind (text_of program t.vars) t goes)
tried_like at names kind program s t go goes reads r h k =
    let job = job_of (first_probe kind (text_of program s.vars)) 0 s.vars s.defs in
    let same_job = job_same (first_probe kind (text_of program s.vars)) 0 s.vars t.vars s.defs t.defs (tools_same at s t (ordinary_of at names reads) h) h.defs
    ∙ ap (λ x. job_of (first_probe kind x) 0 t.vars t.defs) (program_same at names program s t reads r h) in
    subst (λ j. Like at (compiled as_is job s (after_first as_is kind go)) (compiled as_is j t (after_first as_is kind goes))) same_job
    (compiled_like at job s t _ _ h (λ b x y l. first_like at kind go goes k b x y l))
