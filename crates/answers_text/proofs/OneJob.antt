-- Jobs of which a record says the same.
use Rattle.std.proofs.Common.{◌≡◌, ℕ, ◌^◌, ◌<◌, List, [], ◌∷◌, ◌++◌, Option, None, Some, length, flat_map, refl, sym, ap, ◌∙◌, arith, append_assoc, append-nil}
use Rattle.std.specs.List.{AllByRecursion}
use Rattle.sha2.specs.Sha256.{sha256}
use Rattle.crew_jobs.specs.declared.job.Job.{Job}
use Rattle.answers_text.specs.Laws.{IsSized, IsSizedFile, IsSizedJob, IsSameFile, IsSameJob}
use Rattle.answers_text.specs.Texts.{number, sized, program, job_text}
use Rattle.answers_text.proofs.Apart.{numbers_apart, sized_apart}

-- As many words, with texts after them.
words_apart : (these those : List (List ℕ)) (x y : List ℕ) → AllByRecursion IsSized these → AllByRecursion IsSized those → length these ≡ length those
    → flat_map sized these ++ x ≡ flat_map sized those ++ y → (these ≡ those) × (x ≡ y)
words_apart [] [] x y these_fit those_fit long is = (refl, is)
words_apart [] (b ∷ those) x y these_fit those_fit long is = absurd (omega (arith, long))
words_apart (a ∷ these) [] x y these_fit those_fit long is = absurd (omega (arith, long))
words_apart (a ∷ these) (b ∷ those) x y these_fit those_fit long is =
    let flat = sym (append_assoc (sized a) (flat_map sized these) x) ∙ is ∙ append_assoc (sized b) (flat_map sized those) y in
    let first = sized_apart a b (flat_map sized these ++ x) (flat_map sized those ++ y) these_fit.0 those_fit.0 flat in
    let shorter : length these ≡ length those = omega (arith, long) in
    let rest = words_apart these those x y these_fit.1 those_fit.1 shorter first.1 in
    (ap (λ w. w ∷ these) first.0 ∙ ap (λ ws. b ∷ ws) rest.0, rest.1)

zero_fits : 0 < 2 ^ 64
zero_fits = omega arith

one_fits : 1 < 2 ^ 64
one_fits = omega arith

files_apart : (a b : Option (List ℕ × List ℕ)) → IsSizedFile a → IsSizedFile b → program a ≡ program b → IsSameFile a b
files_apart None None a_fits b_fits is = tt
files_apart None (Some b) a_fits b_fits is =
    let both = numbers_apart 0 1 [] (sized b.0 ++ (number (length b.1) ++ sha256 b.1)) zero_fits one_fits (append-nil (number 0) ∙ is) in
    absurd (omega (arith, both.0))
files_apart (Some a) None a_fits b_fits is =
    let both = numbers_apart 1 0 (sized a.0 ++ (number (length a.1) ++ sha256 a.1)) [] one_fits zero_fits (is ∙ sym (append-nil (number 0))) in
    absurd (omega (arith, both.0))
files_apart (Some a) (Some b) a_fits b_fits is =
    let first = numbers_apart 1 1 (sized a.0 ++ (number (length a.1) ++ sha256 a.1)) (sized b.0 ++ (number (length b.1) ++ sha256 b.1)) one_fits one_fits is in
    let second = sized_apart a.0 b.0 (number (length a.1) ++ sha256 a.1) (number (length b.1) ++ sha256 b.1) a_fits.0 b_fits.0 first.1 in
    let third = numbers_apart (length a.1) (length b.1) (sha256 a.1) (sha256 b.1) a_fits.1 b_fits.1 second.1 in
    (second.0, third.0, third.1)

pub same_job : (a b : Job) → IsSizedJob a → IsSizedJob b → job_text a ≡ job_text b → IsSameJob a b
unfolding job_text
same_job a b a_fits b_fits is =
    let first = numbers_apart (length a.words) (length b.words) (flat_map sized a.words ++ program a.file) (flat_map sized b.words ++ program b.file) a_fits.few_words b_fits.few_words is in
    let second = words_apart a.words b.words (program a.file) (program b.file) a_fits.words b_fits.words first.0 first.1 in
    record { words = second.0; file = files_apart a.file b.file a_fits.file b_fits.file second.1 }
