-- Texts of which runs are read in one way.
use Rattle.std.proofs.Common.{◌≡◌, ℕ, ◌^◌, ◌<◌, List, [], ◌∷◌, ◌++◌, Option, None, Some, flat_map, refl, sym, ap, ◌∙◌, arith, append_assoc, append-nil}
use Rattle.std.specs.List.{AllByRecursion}
use Rattle.answers_text.specs.Texts.{number, sized}
use Rattle.answers_text.proofs.Apart.{numbers_apart, sized_apart}
use Rattle.run_fingerprint.specs.Fingerprint.{Inputs, IsSized, IsSizedOption, IsSizedProgram, IsSizedRun, example, found_text, given_text, item, listed, optional, program_text, run_text}
use Rattle.run_fingerprint.specs.declared.inputs.ProgramAt.{ProgramAt}

zero_fits : 0 < 2 ^ 64
zero_fits = omega arith

one_fits : 1 < 2 ^ 64
one_fits = omega arith

-- A list with more after it.
more_listed : {A : Type 0} (text_of : A → List ℕ) (one : A) (list : List A) (x : List ℕ)
    → listed text_of (one ∷ list) ++ x ≡ number 1 ++ (text_of one ++ (listed text_of list ++ x))
more_listed text_of one list x =
    let rest = flat_map (item text_of) list in
    ap (λ l. l ++ x) (append_assoc (item text_of one) rest (number 0)) ∙ append_assoc (item text_of one) (rest ++ number 0) x
    ∙ append_assoc (number 1) (text_of one) ((rest ++ number 0) ++ x)

-- Lists whose elements are read in one way.
lists_apart : {A : Type 0} (text_of : A → List ℕ) (Fits : A → Type 0)
    → ((a b : A) (x y : List ℕ) → Fits a → Fits b → text_of a ++ x ≡ text_of b ++ y → (a ≡ b) × (x ≡ y))
    → (these those : List A) (x y : List ℕ) → AllByRecursion Fits these → AllByRecursion Fits those → listed text_of these ++ x ≡ listed text_of those ++ y
    → (these ≡ those) × (x ≡ y)
lists_apart text_of Fits apart [] [] x y these_fit those_fit is = (refl, (numbers_apart 0 0 x y zero_fits zero_fits is).1)
lists_apart text_of Fits apart [] (b ∷ those) x y these_fit those_fit is =
    let both = numbers_apart 0 1 x (text_of b ++ (listed text_of those ++ y)) zero_fits one_fits (is ∙ more_listed text_of b those y) in
    absurd (omega (arith, both.0))
lists_apart text_of Fits apart (a ∷ these) [] x y these_fit those_fit is =
    let both = numbers_apart 1 0 (text_of a ++ (listed text_of these ++ x)) y one_fits zero_fits (sym (more_listed text_of a these x) ∙ is) in
    absurd (omega (arith, both.0))
lists_apart text_of Fits apart (a ∷ these) (b ∷ those) x y these_fit those_fit is =
    let both = numbers_apart 1 1 (text_of a ++ (listed text_of these ++ x)) (text_of b ++ (listed text_of those ++ y)) one_fits one_fits
    (sym (more_listed text_of a these x) ∙ is ∙ more_listed text_of b those y) in
    let first = apart a b (listed text_of these ++ x) (listed text_of those ++ y) these_fit.0 those_fit.0 both.1 in
    let rest = lists_apart text_of Fits apart these those x y these_fit.1 those_fit.1 first.1 in
    (ap (λ w. w ∷ these) first.0 ∙ ap (λ ws. b ∷ ws) rest.0, rest.1)

-- A text that may be missing.
options_apart : (a b : Option (List ℕ)) (x y : List ℕ) → IsSizedOption a → IsSizedOption b → optional a ++ x ≡ optional b ++ y → (a ≡ b) × (x ≡ y)
options_apart None None x y a_fits b_fits is = (refl, (numbers_apart 0 0 x y zero_fits zero_fits is).1)
options_apart None (Some b) x y a_fits b_fits is =
    let both = numbers_apart 0 1 x (sized b ++ y) zero_fits one_fits (is ∙ append_assoc (number 1) (sized b) y) in absurd (omega (arith, both.0))
options_apart (Some a) None x y a_fits b_fits is =
    let both = numbers_apart 1 0 (sized a ++ x) y one_fits zero_fits (sym (append_assoc (number 1) (sized a) x) ∙ is) in absurd (omega (arith, both.0))
options_apart (Some a) (Some b) x y a_fits b_fits is =
    let both = numbers_apart 1 1 (sized a ++ x) (sized b ++ y) one_fits one_fits (sym (append_assoc (number 1) (sized a) x) ∙ is ∙ append_assoc (number 1) (sized b) y) in
    let inner = sized_apart a b x y a_fits b_fits both.1 in
    (ap Some inner.0, inner.1)

-- A program with more after it.
more_program : (p : ProgramAt) (x : List ℕ) → program_text p ++ x ≡ sized p.path ++ (number p.size ++ (number p.changed ++ (number p.inode ++ x)))
more_program p x =
    append_assoc (sized p.path) (number p.size ++ (number p.changed ++ number p.inode)) x
    ∙ ap (λ l. sized p.path ++ l) (append_assoc (number p.size) (number p.changed ++ number p.inode) x ∙ ap (λ l. number p.size ++ l) (append_assoc (number p.changed) (number p.inode) x))

abbrev program_of : (path : List ℕ) (size changed inode : ℕ) → ProgramAt
program_of path size changed inode = record { path = path; size = size; changed = changed; inode = inode }

same_program : (a b : ProgramAt) → a.path ≡ b.path → a.size ≡ b.size → a.changed ≡ b.changed → a.inode ≡ b.inode → a ≡ b
same_program a b path size changed inode =
    ap (λ p. program_of p a.size a.changed a.inode) path ∙ ap (λ n. program_of b.path n a.changed a.inode) size
    ∙ ap (λ n. program_of b.path b.size n a.inode) changed ∙ ap (λ n. program_of b.path b.size b.changed n) inode

programs_apart : (a b : ProgramAt) (x y : List ℕ) → IsSizedProgram a → IsSizedProgram b → program_text a ++ x ≡ program_text b ++ y → (a ≡ b) × (x ≡ y)
programs_apart a b x y a_fits b_fits is =
    let path = sized_apart a.path b.path (number a.size ++ (number a.changed ++ (number a.inode ++ x))) (number b.size ++ (number b.changed ++ (number b.inode ++ y))) a_fits.0 b_fits.0
    (sym (more_program a x) ∙ is ∙ more_program b y) in
    let size = numbers_apart a.size b.size (number a.changed ++ (number a.inode ++ x)) (number b.changed ++ (number b.inode ++ y)) a_fits.1 b_fits.1 path.1 in
    let changed = numbers_apart a.changed b.changed (number a.inode ++ x) (number b.inode ++ y) a_fits.2 b_fits.2 size.1 in
    let inode = numbers_apart a.inode b.inode x y a_fits.3 b_fits.3 changed.1 in
    (same_program a b path.0 size.0 changed.0 inode.0, inode.1)

-- What a run is given, with more after it.
more_given : (version source : List ℕ) (arguments environment : List (List ℕ)) (x : List ℕ)
    → given_text version source arguments environment ++ x ≡ sized version ++ (sized source ++ (listed sized arguments ++ (listed sized environment ++ x)))
more_given version source arguments environment x =
    append_assoc (sized version) (sized source ++ (listed sized arguments ++ listed sized environment)) x
    ∙ ap (λ l. sized version ++ l)
    (append_assoc (sized source) (listed sized arguments ++ listed sized environment) x ∙ ap (λ l. sized source ++ l) (append_assoc (listed sized arguments) (listed sized environment) x))

abbrev run_of : (version source : List ℕ) (arguments environment : List (List ℕ)) (directory : List ℕ) (mask : ℕ) (cache : Option (List ℕ)) (programs : List ProgramAt) → Inputs
run_of version source arguments environment directory mask cache programs = record {
  version = version;
  source = source;
  arguments = arguments;
  environment = environment;
  directory = directory;
  mask = mask;
  cache = cache;
  programs = programs;
}

same_run : (a b : Inputs) → a.version ≡ b.version → a.source ≡ b.source → a.arguments ≡ b.arguments → a.environment ≡ b.environment → a.directory ≡ b.directory → a.mask ≡ b.mask
    → a.cache ≡ b.cache → a.programs ≡ b.programs → a ≡ b
same_run a b version source arguments environment directory mask cache programs =
    ap (λ x. run_of x a.source a.arguments a.environment a.directory a.mask a.cache a.programs) version
    ∙ ap (λ x. run_of b.version x a.arguments a.environment a.directory a.mask a.cache a.programs) source
    ∙ ap (λ x. run_of b.version b.source x a.environment a.directory a.mask a.cache a.programs) arguments
    ∙ ap (λ x. run_of b.version b.source b.arguments x a.directory a.mask a.cache a.programs) environment
    ∙ ap (λ x. run_of b.version b.source b.arguments b.environment x a.mask a.cache a.programs) directory
    ∙ ap (λ x. run_of b.version b.source b.arguments b.environment b.directory x a.cache a.programs) mask
    ∙ ap (λ x. run_of b.version b.source b.arguments b.environment b.directory b.mask x a.programs) cache
    ∙ ap (λ x. run_of b.version b.source b.arguments b.environment b.directory b.mask b.cache x) programs

pub runs_apart : (a b : Inputs) → IsSizedRun a → IsSizedRun b → run_text a ≡ run_text b → a ≡ b
unfolding run_text
runs_apart a b a_fits b_fits is =
    let found_a = found_text a.directory a.mask a.cache a.programs in
    let found_b = found_text b.directory b.mask b.cache b.programs in
    let version = sized_apart a.version b.version _ _ a_fits.version b_fits.version
    (sym (more_given a.version a.source a.arguments a.environment found_a) ∙ is ∙ more_given b.version b.source b.arguments b.environment found_b) in
    let source = sized_apart a.source b.source _ _ a_fits.source b_fits.source version.1 in
    let arguments = lists_apart sized IsSized sized_apart a.arguments b.arguments _ _ a_fits.arguments b_fits.arguments source.1 in
    let environment = lists_apart sized IsSized sized_apart a.environment b.environment _ _ a_fits.environment b_fits.environment arguments.1 in
    let directory = sized_apart a.directory b.directory _ _ a_fits.directory b_fits.directory environment.1 in
    let mask = numbers_apart a.mask b.mask _ _ a_fits.mask b_fits.mask directory.1 in
    let cache = options_apart a.cache b.cache _ _ a_fits.cache b_fits.cache mask.1 in
    let programs = lists_apart program_text IsSizedProgram programs_apart a.programs b.programs [] [] a_fits.programs b_fits.programs
    (append-nil (listed program_text a.programs) ∙ cache.1 ∙ sym (append-nil (listed program_text b.programs))) in
    same_run a b version.0 source.0 arguments.0 environment.0 directory.0 mask.0 cache.0 programs.0

pub example_fits : IsSizedRun example
unfolding example
example_fits = record {
  version = omega arith;
  source = omega arith;
  arguments = (omega arith, tt);
  environment = (omega arith, tt);
  directory = omega arith;
  mask = omega arith;
  cache = omega arith;
  programs = ((omega arith, omega arith, omega arith, omega arith), tt);
}
