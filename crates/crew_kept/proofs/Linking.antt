-- Links, and what runs their programs.
use Rattle.std.proofs.Common.{◌≡◌, ℕ, Bool, true, false, ◌||◌, ◌==◌, cond, length, List, [], ◌∷◌, ◌++◌, refl, sym, ap, ◌∙◌}
use Rattle.std.specs.Prelude.{Some, None, bytes_eq, codes, unwrap_or}
use Rattle.crew_jobs.specs.declared.job.Job.{Job}
use Rattle.crew_jobs.specs.Probe.{Link, conftest_text, file_name, job_of, link_words, link_words_with, out_name, path_of, path_words, run_of, words_of}
use Rattle.crew_kept.specs.Links.{has_o, is_link, may_run}

pub runs : (number : ℕ) → may_run (run_of number) ≡ true
unfolding run_of
runs number = refl

pub finds : (file : List ℕ) → may_run (path_of file) ≡ false
unfolding path_of path_words
finds file = refl

or_right : (b : Bool) → b || true ≡ true
or_right true = refl
or_right false = refl

has_right : (a b : List (List ℕ)) → has_o b ≡ true → has_o (a ++ b) ≡ true
has_right [] b has = has
has_right (word ∷ words) b has = ap (λ t. bytes_eq word (codes "-o") || t) (has_right words b has) ∙ or_right (bytes_eq word (codes "-o"))

has_left_in : (t u v : Bool) → (u ≡ true → v ≡ true) → t || u ≡ true → t || v ≡ true
has_left_in true u v later has = refl
has_left_in false u v later has = later has

has_left : (a b : List (List ℕ)) → has_o a ≡ true → has_o (a ++ b) ≡ true
has_left [] b has = absurd (cc)
has_left (word ∷ words) b has = has_left_in (bytes_eq word (codes "-o")) (has_o words) (has_o (words ++ b)) (has_left words b) has

words_link : (libraries : List (List ℕ)) (number : ℕ) (vars : List (List ℕ × List ℕ)) → has_o (link_words_with libraries number vars) ≡ true
unfolding link_words_with
words_link libraries number vars =
    has_left (words_of vars (codes "CC") ++ codes "-o" ∷ out_name number ∷ [] ++ words_of vars (codes "CFLAGS") ++ words_of vars (codes "CPPFLAGS") ++ words_of vars (codes "LDFLAGS") ++ file_name number ∷ []) libraries
    (has_left (words_of vars (codes "CC") ++ codes "-o" ∷ out_name number ∷ [] ++ words_of vars (codes "CFLAGS") ++ words_of vars (codes "CPPFLAGS") ++ words_of vars (codes "LDFLAGS")) (file_name number ∷ [])
    (has_left (words_of vars (codes "CC") ++ codes "-o" ∷ out_name number ∷ [] ++ words_of vars (codes "CFLAGS") ++ words_of vars (codes "CPPFLAGS")) (words_of vars (codes "LDFLAGS"))
    (has_left (words_of vars (codes "CC") ++ codes "-o" ∷ out_name number ∷ [] ++ words_of vars (codes "CFLAGS")) (words_of vars (codes "CPPFLAGS"))
    (has_left (words_of vars (codes "CC") ++ codes "-o" ∷ out_name number ∷ []) (words_of vars (codes "CFLAGS"))
    (has_right (words_of vars (codes "CC")) (codes "-o" ∷ out_name number ∷ []) refl)))))

job_links : (t : Bool) (words : List (List ℕ)) (file : List ℕ × List ℕ) (job : Job) → has_o words ≡ true → cond t None (Some (record { words = words; file = Some file })) ≡ Some job → is_link job ≡ true
job_links true words file job has is = absurd (cc)
job_links false words file job has is = ap (λ o. is_link (unwrap_or o job)) (sym is) ∙ has

pub links : (source : List ℕ) (number : ℕ) (vars defs : List (List ℕ × List ℕ)) (job : Job) → job_of (Link source) number vars defs ≡ Some job → is_link job ≡ true
unfolding job_of
links source number vars defs job is =
    job_links (length (words_of vars (codes "CC")) == 0) (link_words number vars) (file_name number, conftest_text defs source) job (words_link (words_of vars (codes "LIBS")) number vars) is
