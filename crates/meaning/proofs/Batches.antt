-- Tests that may be in a batch: their jobs, and that those of the entries of lists are such tests.
use Rattle.std.proofs.Common.{◌≡◌, ℕ, Option, Some, None, map, List, [], ◌∷◌, codes, Bool, true, false, cond, refl, sym, ap, ◌∙◌, length}
use Rattle.std.specs.Prelude.{◌==◌, is_some, unwrap_or}
use Rattle.crew_jobs.specs.declared.job.Job.{Job}
use Rattle.crew_jobs.specs.Probe.{job_of, words_of}
use Rattle.deftable.specs.Table.{with_entry}
use Rattle.shellword.specs.declared.part.Part.{Part}
use Rattle.text_cut.specs.Cuts.{fields}
use Rattle.ac_tree.specs.declared.listed.Listed.{Listed}
use Rattle.ac_tree.specs.declared.listed.Listed.TheVariants as kinds
use Rattle.test_forms.specs.declared.form.Snippet.{Snippet}
use Rattle.test_forms.specs.declared.form.Snippet.TheVariants.{Header, Function, Library, Body}
use Rattle.meaning.specs.State.{State}
use Rattle.meaning.specs.Forms.{FormTest, Table, attempt_of_try, is_yes, libs_with, may_start, snippet_job, value_in}
use Rattle.meaning.specs.Entries.{listed_form, tests_of}
use Rattle.meaning.specs.Rows.{Formed, row_of}
use Rattle.meaning.specs.Batches.{AreBatched, IsBatched, first_job, test_job}
use Rattle.meaning.proofs.Forms.{defined_vars}
use Rattle.meaning.proofs.Values.{value_there}

-- With a compiler each snippet has a job, and without one none has.
abbrev pub lacks_in : Table → Bool
lacks_in vars = length (words_of vars (codes "CC")) == 0

if_some : (b : Bool) (job : Job) → b ≡ false → (j : Job) × (cond b None (Some job) ≡ Some j)
if_some b job e = (job, ap (λ c. cond c None (Some job)) e)

if_none : (b : Bool) (job : Job) → b ≡ true → cond b None (Some job) ≡ None
if_none b job e = ap (λ c. cond c None (Some job)) e

-- The value of LIBS doesn't count.
with_libs : (vars : Table) (libs : List ℕ) (b : Bool) → lacks_in vars ≡ b → lacks_in (with_entry vars (codes "LIBS") libs) ≡ b
unfolding words_of
with_libs vars libs b e = ap (λ o. length (fields (unwrap_or o [])) == 0) (value_there vars (codes "LIBS") libs (codes "CC") refl) ∙ e

snippet_some : (s : Snippet) (entry : List ℕ) (given : Option (List ℕ)) (number : ℕ) (vars defs : Table) → lacks_in vars ≡ false → (job : Job) × (snippet_job s entry given number vars defs ≡ Some job)
unfolding job_of
snippet_some Header entry given number vars defs e = if_some (lacks_in vars) _ e
snippet_some Function entry given number vars defs e = if_some (lacks_in vars) _ e
snippet_some (Library library) entry given number vars defs e =
    let libs = libs_with library given vars in
    if_some (lacks_in (with_entry vars (codes "LIBS") libs)) _ (with_libs vars libs false e)
snippet_some (Body text) entry given number vars defs e = if_some (lacks_in vars) _ e

snippet_none : (s : Snippet) (entry : List ℕ) (given : Option (List ℕ)) (number : ℕ) (vars defs : Table) → lacks_in vars ≡ true → snippet_job s entry given number vars defs ≡ None
unfolding job_of
snippet_none Header entry given number vars defs e = if_none (lacks_in vars) _ e
snippet_none Function entry given number vars defs e = if_none (lacks_in vars) _ e
snippet_none (Library library) entry given number vars defs e =
    let libs = libs_with library given vars in
    if_none (lacks_in (with_entry vars (codes "LIBS") libs)) _ (with_libs vars libs true e)
snippet_none (Body text) entry given number vars defs e = if_none (lacks_in vars) _ e

-- ---- a test of a batch

first_is : (t : FormTest) (number : ℕ) (st : State) (h : IsBatched t.form) → test_job t number st ≡ snippet_job h.first.snippet t.form.entry (value_in t.given st) number st.vars st.defs
first_is t number st h = ap (λ tries. first_job tries t.form.entry (value_in t.given st) number st.vars st.defs) h.is

pub has_job : (t : FormTest) (number : ℕ) (st : State) → IsBatched t.form → lacks_in st.vars ≡ false → (job : Job) × (test_job t number st ≡ Some job)
has_job t number st h e =
    let j = snippet_some h.first.snippet t.form.entry (value_in t.given st) number st.vars st.defs e in
    (j.0, first_is t number st h ∙ j.1)

pub lacks_job : (t : FormTest) (number : ℕ) (st : State) → IsBatched t.form → lacks_in st.vars ≡ true → test_job t number st ≡ None
lacks_job t number st h e = first_is t number st h ∙ snippet_none h.first.snippet t.form.entry (value_in t.given st) number st.vars st.defs e

-- It is ready if its first try has a job.
pub ready_is : (t : FormTest) (st : State) → IsBatched t.form → (row_of (Formed t) st).ready ≡ is_some (test_job t 0 st)
ready_is t st h =
    ap (λ tries. may_start (map (attempt_of_try t.form.entry (value_in t.given st) st.vars st.defs) tries)) h.is
    ∙ sym (ap is_some (first_is t 0 st h))

-- ---- the entries of lists

entry_is : (listed : Listed) (entry : List ℕ) → IsBatched (listed_form listed entry true)
entry_is kinds.Header entry = record { first = _; more = _; is = refl; vars = λ value st. defined_vars (is_yes value) _ st }
entry_is kinds.Function entry = record { first = _; more = _; is = refl; vars = λ value st. defined_vars (is_yes value) _ st }
entry_is kinds.Declaration entry = record { first = _; more = _; is = refl; vars = λ value st. refl }

pub entries_are : (listed : Listed) (entries : List (List ℕ)) (includes : Option (List Part)) → AreBatched (tests_of listed entries includes)
entries_are listed [] includes = _
entries_are listed (entry ∷ more) includes = (entry_is listed entry, entries_are listed more includes)
