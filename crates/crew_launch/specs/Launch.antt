-- The requests for a real child to the system.
use Rattle.std.specs.Prelude.{◌≡◌, ◌⊎◌, ℕ, List, [], ◌∷◌, ◌++◌, All, IsUtf8, Option, Some, None, IfSome, ⊤}
use Rattle.crew_jobs.specs.declared.job.Job.{Job}
use Rattle.crew_launch.specs.Reasons.{IsOfWords}

-- A request: a file that was written, with its name and its bytes; a command that was started, with its words; or a
-- command that didn't start. (own)
pub data SystemCall : Type 0 where
  Wrote : (name text : List ℕ) → SystemCall
  Spawned : (words : List (List ℕ)) → SystemCall
  Failed : SystemCall

-- The requests that write a file, if there is one. (own)
abbrev pub writing : Option (List ℕ × List ℕ) → List SystemCall
writing None = []
writing (Some file) = Wrote file.0 file.1 ∷ []

-- The requests that start a job: the whole file is written, and then the command is started with all its words. (own)
abbrev pub launch : Job → List SystemCall
launch job = writing job.file ++ Spawned job.words ∷ []

-- The requests of a job whose command doesn't start. (own)
abbrev pub failing : Job → List SystemCall
failing job = writing job.file ++ Failed ∷ []

-- If the requests are known, these are added; if they are unknown, they stay unknown. (own)
abbrev pub Adds : Option (List SystemCall) → Option (List SystemCall) → List SystemCall → Type 0
Adds None None calls = ⊤
Adds None (Some new) calls = ⊥
Adds (Some old) None calls = ⊥
Adds (Some old) (Some new) calls = new ≡ old ++ calls

-- The words of a command: at least the program, and all of them UTF-8. (own)
abbrev pub AreCommand : List (List ℕ) → Type 0
AreCommand [] = ⊥
AreCommand (program ∷ arguments) = IsUtf8 program × All IsUtf8 arguments

-- The cause says why the child of the job isn't started, unless memory ran out for its line. (own)
abbrev pub IsOfJob : Job → Option (List ℕ) → Type 0
IsOfJob job cause = IfSome cause (IsOfWords job.words job.file)

-- The file that is stale is gone, or it is as before. (own)
abbrev pub IsClearing : Option (List ℕ) → Option (List ℕ) → Type 0
IsClearing old new = (new ≡ None) ⊎ (new ≡ old)
