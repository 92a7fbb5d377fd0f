-- What a run rests on, as a text. All of this is own.
use Rattle.std.specs.Prelude.{ℕ, ◌<◌, ◌^◌, ⊤, Bool, not, nat_eq, List, [], ◌∷◌, ◌++◌, length, if◌then◌else◌, Option, None, Some, codes}
use Rattle.std.specs.List.{AllByRecursion, flat_map, list_any, starts_with}
use Rattle.answers_text.specs.Texts.{number, sized}
use Rattle.run_fingerprint.specs.declared.inputs.ProgramAt.{ProgramAt}

-- What a run rests on. Of the environment it has what counts.
pub record Inputs : Type 0 where
  pub version : List ℕ
  pub source : List ℕ
  pub arguments : List (List ℕ)
  pub environment : List (List ℕ)
  pub directory : List ℕ
  pub mask : ℕ
  pub cache : Option (List ℕ)
  pub programs : List ProgramAt

-- The variables that don't count: those that a shell sets anew for each command or with the directory, and those that say what acrun
-- prints of its children and of its errors.
unfoldable pub passed_over : List (List ℕ)
passed_over = codes "_=" ∷ codes "SHLVL=" ∷ codes "PWD=" ∷ codes "OLDPWD=" ∷ codes "ACRUN_PROGRESS=" ∷ codes "ACRUN_WHY=" ∷ []

-- The variable counts.
abbrev pub counts : List ℕ → Bool
counts variable = not (list_any (λ front. starts_with nat_eq variable front) passed_over)

-- The variable, if it counts.
abbrev pub counted_one : List ℕ → List (List ℕ)
counted_one variable = if counts variable then variable ∷ [] else []

-- Those of these variables that count.
abbrev pub counted : List (List ℕ) → List (List ℕ)
counted variables = flat_map counted_one variables

-- One of a list: a one, and then its text.
abbrev pub item : {A : Type 0} → (A → List ℕ) → A → List ℕ
item text_of one = number 1 ++ text_of one

-- A list: each of it, and then a zero.
abbrev pub listed : {A : Type 0} → (A → List ℕ) → List A → List ℕ
listed text_of list = flat_map (item text_of) list ++ number 0

-- A text that may be missing.
abbrev pub optional : Option (List ℕ) → List ℕ
optional None = number 0
optional (Some text) = item sized text

-- A program.
abbrev pub program_text : ProgramAt → List ℕ
program_text p = sized p.path ++ (number p.size ++ (number p.changed ++ number p.inode))

-- What a run is given: its program, its source, its arguments and the variables that count.
abbrev pub given_text : List ℕ → List ℕ → List (List ℕ) → List (List ℕ) → List ℕ
given_text version source arguments environment = sized version ++ (sized source ++ (listed sized arguments ++ listed sized environment))

-- What a run finds: its directory, the mask of the modes of files, the cache and the programs.
abbrev pub found_text : List ℕ → ℕ → Option (List ℕ) → List ProgramAt → List ℕ
found_text directory mask cache programs = sized directory ++ (number mask ++ (optional cache ++ listed program_text programs))

-- What a run rests on. Another run has another text, as `fingerprints` in `laws` says.
unfoldable pub run_text : Inputs → List ℕ
run_text run = given_text run.version run.source run.arguments run.environment ++ found_text run.directory run.mask run.cache run.programs

-- The length of a text has a place.
abbrev pub IsSized : List ℕ → Type 0
IsSized text = length text < 2 ^ 64

-- The lengths and the numbers of a program have a place.
abbrev pub IsSizedProgram : ProgramAt → Type 0
IsSizedProgram p = IsSized p.path × (p.size < 2 ^ 64) × (p.changed < 2 ^ 64) × (p.inode < 2 ^ 64)

-- So has that of a text that may be missing.
abbrev pub IsSizedOption : Option (List ℕ) → Type 0
IsSizedOption None = ⊤
IsSizedOption (Some text) = IsSized text

-- The lengths and the numbers of what a run rests on have a place, as on each machine.
pub record IsSizedRun (run : Inputs) : Type 0 where
  pub version : IsSized run.version
  pub source : IsSized run.source
  pub arguments : AllByRecursion IsSized run.arguments
  pub environment : AllByRecursion IsSized run.environment
  pub directory : IsSized run.directory
  pub mask : run.mask < 2 ^ 64
  pub cache : IsSizedOption run.cache
  pub programs : AllByRecursion IsSizedProgram run.programs

-- A run with one argument, one variable, a cache and a program.
unfoldable pub example : Inputs
example = record {
  version = codes "0.1.0";
  source = codes "AC_INIT([a], [1])";
  arguments = codes "-C" ∷ [];
  environment = codes "CC=gcc" ∷ [];
  directory = codes "/b";
  mask = 18;
  cache = Some (codes "x=1");
  programs = record { path = codes "/bin/gcc"; size = 9; changed = 7; inode = 3 } ∷ [];
}
