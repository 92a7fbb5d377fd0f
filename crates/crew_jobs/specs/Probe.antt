-- The job of a probe, as a function of the probe, its number, the variables and the definitions.
use Rattle.std.specs.Prelude.{ℕ, List, [], ◌∷◌, ◌++◌, Option, Some, None, unwrap_or, length, ◌==◌, codes, decimal, if◌then◌else◌}
use Rattle.std.specs.List.{flat_map}
use Rattle.deftable.specs.Table.{value_of}
use Rattle.conftest_source.specs.Sources.{ended}
use Rattle.text_cut.specs.Cuts.{fields}
use Rattle.crew_jobs.specs.declared.job.Job.{Job}

-- A probe: a source is compiled, linked or preprocessed, a linked program is run, or a file is searched for. (own)
pub data Probe : Type 0 where
  Compile : (source : List ℕ) → Probe
  Link : (source : List ℕ) → Probe
  Preprocess : (source : List ℕ) → Probe
  Run : Probe
  Find : (file : List ℕ) → Probe

-- The program that a link job writes: `conftest`, followed by the number if it isn't 0. (own)
unfoldable pub out_name : ℕ → List ℕ
out_name number = if number == 0 then codes "conftest" else codes "conftest" ++ decimal number

-- The file that the compiler reads. (own)
unfoldable pub file_name : ℕ → List ℕ
file_name number = out_name number ++ codes ".c"

-- The words of a variable's value, separated by blanks, or none if it is unset. (own)
unfoldable pub words_of : List (List ℕ × List ℕ) → List ℕ → List (List ℕ)
words_of vars name = fields (unwrap_or (value_of vars name) [])

-- `$CC -c $CFLAGS $CPPFLAGS FILE`. (Autoconf's manual, "Running the Compiler")
unfoldable pub compile_words : ℕ → List (List ℕ × List ℕ) → List (List ℕ)
compile_words number vars =
    words_of vars (codes "CC") ++ codes "-c" ∷ [] ++ words_of vars (codes "CFLAGS")
    ++ words_of vars (codes "CPPFLAGS") ++ file_name number ∷ []

-- `$CC -o OUT $CFLAGS $CPPFLAGS $LDFLAGS FILE` and these libraries. (Autoconf's manual, "Running the Linker")
unfoldable pub link_words_with : List (List ℕ) → ℕ → List (List ℕ × List ℕ) → List (List ℕ)
link_words_with libraries number vars =
    words_of vars (codes "CC") ++ codes "-o" ∷ out_name number ∷ [] ++ words_of vars (codes "CFLAGS")
    ++ words_of vars (codes "CPPFLAGS") ++ words_of vars (codes "LDFLAGS") ++ file_name number ∷ []
    ++ libraries

-- `$CC -o OUT $CFLAGS $CPPFLAGS $LDFLAGS FILE $LIBS`. (Autoconf's manual, "Running the Linker")
abbrev pub link_words : ℕ → List (List ℕ × List ℕ) → List (List ℕ)
link_words number vars = link_words_with (words_of vars (codes "LIBS")) number vars

-- `$CPP`, or `$CC -E` if that has no word, or no word if CC has none either. (Autoconf's manual, "Running the
-- Preprocessor")
unfoldable pub preprocessor : List (List ℕ × List ℕ) → List (List ℕ)
preprocessor vars =
    if length (words_of vars (codes "CPP")) == 0
    then (if length (words_of vars (codes "CC")) == 0 then [] else words_of vars (codes "CC") ++ codes "-E" ∷ [])
    else words_of vars (codes "CPP")

-- The preprocessor and `$CPPFLAGS FILE`. (Autoconf's manual, "Running the Preprocessor")
unfoldable pub preprocess_words : ℕ → List (List ℕ × List ℕ) → List (List ℕ)
preprocess_words number vars = preprocessor vars ++ words_of vars (codes "CPPFLAGS") ++ file_name number ∷ []

-- A shell command that succeeds if the file is a regular file and may be executed. (own)
unfoldable pub path_words : List ℕ → List (List ℕ)
path_words file =
    codes "sh" ∷ codes "-c" ∷ codes "test -f \"$1\" && test -x \"$1\"" ∷ codes "sh" ∷ file ∷ []

-- The line that defines a name. (own)
unfoldable pub define_line : List ℕ × List ℕ → List ℕ
define_line entry = codes "#define " ++ entry.0 ++ codes " " ++ entry.1 ++ codes "\n"

-- The text of a conftest: a first line, the definitions in order, and the source. (own)
unfoldable pub conftest_text : List (List ℕ × List ℕ) → List ℕ → List ℕ
conftest_text defs source = codes "/* confdefs.h */\n" ++ flat_map define_line defs ++ ended source

-- The job of these words and a conftest, or none if the compiler has no word. (own)
abbrev pub job_if : List (List ℕ) → List (List ℕ) → ℕ → List (List ℕ × List ℕ) → List ℕ → Option Job
job_if compiler words number defs source =
    if length compiler == 0
    then None
    else Some (record { words = words; file = Some (file_name number, conftest_text defs source) })

-- The job that runs a linked program. (Autoconf's manual, "Runtime")
unfoldable pub run_of : ℕ → Job
run_of number = record { words = (codes "./" ++ out_name number) ∷ []; file = None }

-- The job that searches for one program file. (own)
unfoldable pub path_of : List ℕ → Job
path_of file = record { words = path_words file; file = None }

-- The job of a probe with these variables and definitions, or none if it needs a compiler that has no word. (own)
unfoldable pub job_of : Probe → ℕ → List (List ℕ × List ℕ) → List (List ℕ × List ℕ) → Option Job
job_of (Compile source) number vars defs =
    job_if (words_of vars (codes "CC")) (compile_words number vars) number defs source
job_of (Link source) number vars defs =
    job_if (words_of vars (codes "CC")) (link_words number vars) number defs source
job_of (Preprocess source) number vars defs =
    job_if (preprocessor vars) (preprocess_words number vars) number defs source
job_of Run number vars defs = Some (run_of number)
job_of (Find file) number vars defs = Some (path_of file)
