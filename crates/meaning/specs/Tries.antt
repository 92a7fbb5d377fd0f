-- Programs that are tried (Autoconf's manual, "Running the Compiler"). The meaning always passes `as_is` for `early`.
use Rattle.std.specs.Prelude.{ℕ, Bool, false, List, if◌then◌else◌}
use Rattle.crew_jobs.specs.Probe as probe
use Rattle.conftest_source.specs.Sources.{program_source}
use Rattle.shellword.specs.Value.{word_value}
use Rattle.ac_tree.specs.declared.program.Try as kinds
use Rattle.ac_tree.specs.declared.program.Try.TheVariants.{Compile, Link, Preproc, Run}
use Rattle.ac_tree.specs.declared.program.Program as programs
use Rattle.ac_tree.specs.declared.program.Program.TheVariants.{Program, Whole}
use Rattle.meaning.specs.State as state
use Rattle.meaning.specs.Asking.{child, compiled}

-- The text of a program, with the values of the variables. (Autoconf's manual, "Generating Sources")
abbrev pub text_of : programs.Program → List (List ℕ × List ℕ) → List ℕ
text_of (Program prologue body) vars = program_source (word_value prologue vars) (word_value body vars)
text_of (Whole text) vars = word_value text vars

-- The task of the first child; a program that is to be run is linked. (Autoconf's manual, "Runtime")
abbrev pub first_probe : kinds.Try → List ℕ → probe.Probe
first_probe Compile source = probe.Compile source
first_probe Link source = probe.Link source
first_probe Preproc source = probe.Preprocess source
first_probe Run source = probe.Link source

-- What follows the first child: if a program was linked to be run, it is run. (Autoconf's manual, "Runtime")
abbrev pub after_first : (state.How → state.State → state.State) → kinds.Try → (Bool → state.State → state.Run) → Bool → state.State → state.Run
after_first early Run go linked st = if linked then child early (probe.run_of 0) st go else go false st
after_first early Compile go passed st = go passed st
after_first early Link go passed st = go passed st
after_first early Preproc go passed st = go passed st

-- A program is tried by one child and, if it is to be run, by one more for the executable. (Autoconf's manual, "Running
-- the Compiler" and "Runtime")
abbrev pub tried : (state.How → state.State → state.State) → kinds.Try → List ℕ → state.State → (Bool → state.State → state.Run) → state.Run
tried early kind source st go = compiled early (probe.job_of (first_probe kind source) 0 st.vars st.defs) st (after_first early kind go)
