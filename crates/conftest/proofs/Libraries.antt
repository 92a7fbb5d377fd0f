-- The words of a link whose variables have another value of LIBS.
use Rattle.std.proofs.Common.{◌≡◌, ℕ, List, [], ◌∷◌, ◌++◌, Bool, true, false, cond, codes, refl, sym, ap, ◌∙◌, subst, Option, Some, ◌⊎◌, inl, inr, ⊎_elim}
use Rattle.std.specs.Prelude.{bytes_eq, unwrap_or}
use Rattle.std.proofs.lemmas.Bool.{cases_Bool}
use Rattle.std.proofs.lemmas.Slice.Eq.{bytes_eq-Decides}
use Rattle.deftable.specs.Table.{value_of, with_entry}
use Rattle.crew_jobs.specs.Probe.{Probe, Link, job_of, job_if, words_of, link_words, link_words_with, file_name, out_name}
use Rattle.crew_jobs.specs.declared.job.Job.{Job}
use Rattle.text_cut.specs.Cuts.{fields}

abbrev Entries : Type 0
Entries = List (List ℕ × List ℕ)

-- The value of the name that is written, and of another.
value_here : (es : Entries) (k v : List ℕ) → value_of (with_entry es k v) k ≡ Some v
unfolding value_of with_entry
value_here [] k v = ap (λ b. cond b (Some v) (value_of [] k)) ((bytes_eq-Decides k k).1 refl)
value_here (e ∷ es) k v =
    ⊎_elim
    (λ t. ap (λ b. value_of (cond b ((e.0, v) ∷ es) (e ∷ with_entry es k v)) k) t ∙ ap (λ b. cond b (Some v) (value_of es k)) t)
    (λ f. ap (λ b. value_of (cond b ((e.0, v) ∷ es) (e ∷ with_entry es k v)) k) f ∙ ap (λ b. cond b (Some e.1) (value_of (with_entry es k v) k)) f ∙ value_here es k v)
    (cases_Bool (bytes_eq k e.0))

value_there : (es : Entries) (k v q : List ℕ) → bytes_eq q k ≡ false → value_of (with_entry es k v) q ≡ value_of es q
unfolding value_of with_entry
value_there [] k v q ne = ap (λ b. cond b (Some v) (value_of [] q)) ne
value_there (e ∷ es) k v q ne =
    ⊎_elim
    (λ t.
    let apart : bytes_eq q e.0 ≡ false = subst (λ x. bytes_eq q x ≡ false) ((bytes_eq-Decides k e.0).0 t) ne in
    ap (λ b. value_of (cond b ((e.0, v) ∷ es) (e ∷ with_entry es k v)) q) t
    ∙ ap (λ b. cond b (Some v) (value_of es q)) apart ∙ sym (ap (λ b. cond b (Some e.1) (value_of es q)) apart))
    (λ f. ap (λ b. value_of (cond b ((e.0, v) ∷ es) (e ∷ with_entry es k v)) q) f ∙ ap (λ l. cond (bytes_eq q e.0) (Some e.1) l) (value_there es k v q ne))
    (cases_Bool (bytes_eq k e.0))

words_there : (vars : Entries) (k v q : List ℕ) → bytes_eq q k ≡ false → words_of (with_entry vars k v) q ≡ words_of vars q
unfolding words_of
words_there vars k v q ne = ap (λ o. fields (unwrap_or o [])) (value_there vars k v q ne)

words_here : (vars : Entries) (k v : List ℕ) → words_of (with_entry vars k v) k ≡ fields v
unfolding words_of
words_here vars k v = ap (λ o. fields (unwrap_or o [])) (value_here vars k v)

-- The compiler is the same, and so are all words but those of LIBS.
compiler_there : (vars : Entries) (libraries : List ℕ) → words_of (with_entry vars (codes "LIBS") libraries) (codes "CC") ≡ words_of vars (codes "CC")
compiler_there vars libraries = words_there vars (codes "LIBS") libraries (codes "CC") refl

link_there : (vars : Entries) (libraries : List ℕ) (number : ℕ)
    → link_words number (with_entry vars (codes "LIBS") libraries) ≡ link_words_with (fields libraries) number vars
unfolding link_words_with
link_there vars libraries number =
    let own = with_entry vars (codes "LIBS") libraries in
    let there = λ (q : List ℕ) (ne : bytes_eq q (codes "LIBS") ≡ false). words_there vars (codes "LIBS") libraries q ne in
    ap (λ l. link_words_with l number own) (words_here vars (codes "LIBS") libraries)
    ∙ ap (λ w. w ++ codes "-o" ∷ out_name number ∷ [] ++ words_of own (codes "CFLAGS") ++ words_of own (codes "CPPFLAGS") ++ words_of own (codes "LDFLAGS") ++ file_name number ∷ [] ++ fields libraries) (there (codes "CC") refl)
    ∙ ap (λ w. words_of vars (codes "CC") ++ codes "-o" ∷ out_name number ∷ [] ++ w ++ words_of own (codes "CPPFLAGS") ++ words_of own (codes "LDFLAGS") ++ file_name number ∷ [] ++ fields libraries) (there (codes "CFLAGS") refl)
    ∙ ap (λ w. words_of vars (codes "CC") ++ codes "-o" ∷ out_name number ∷ [] ++ words_of vars (codes "CFLAGS") ++ w ++ words_of own (codes "LDFLAGS") ++ file_name number ∷ [] ++ fields libraries) (there (codes "CPPFLAGS") refl)
    ∙ ap (λ w. words_of vars (codes "CC") ++ codes "-o" ∷ out_name number ∷ [] ++ words_of vars (codes "CFLAGS") ++ words_of vars (codes "CPPFLAGS") ++ w ++ file_name number ∷ [] ++ fields libraries) (there (codes "LDFLAGS") refl)

-- So the job is that of these words.
pub job_there : (vars defs : Entries) (libraries source : List ℕ) (number : ℕ)
    → job_of (Link source) number (with_entry vars (codes "LIBS") libraries) defs
    ≡ job_if (words_of vars (codes "CC")) (link_words_with (fields libraries) number vars) number defs source
unfolding job_of
job_there vars defs libraries source number =
    ap (λ c. job_if c (link_words number (with_entry vars (codes "LIBS") libraries)) number defs source) (compiler_there vars libraries)
    ∙ ap (λ w. job_if (words_of vars (codes "CC")) w number defs source) (link_there vars libraries number)
