-- The programs that jobs link, and the jobs that run one.
use Rattle.std.specs.Prelude.{ℕ, Bool, false, ◌||◌, ◌&&◌, bytes_eq, List, [], ◌∷◌, Option, None, Some, codes, nat_eq, if◌then◌else◌, true}
use Rattle.std.specs.List.{starts_with}
use Rattle.crew_jobs.specs.declared.job.Job.{Job}

-- Some word is `-o`. (own)
abbrev pub has_o : List (List ℕ) → Bool
has_o [] = false
has_o (word ∷ words) = bytes_eq word (codes "-o") || has_o words

-- The words of a command that reads this conftest, if it reads one, link a program: it reads a conftest, and a word says where the
-- program goes. (own)
abbrev pub links_in : List (List ℕ) → Option (List ℕ × List ℕ) → Bool
links_in words None = false
links_in words (Some file) = has_o words

-- The job makes a program that a later start may run, such as `./conftest`. (own)
abbrev pub is_link : Job → Bool
is_link job = links_in job.words job.file

-- The first word is the path of a program in the directory of the run. (own)
abbrev pub is_here : List (List ℕ) → Bool
is_here [] = false
is_here (word ∷ words) = starts_with nat_eq word (codes "./")

-- The words of a command that reads this conftest, if it reads one, may run a program that was linked: it reads no conftest, and its
-- program is in the directory of the run. (own)
abbrev pub runs_in : List (List ℕ) → Option (List ℕ × List ℕ) → Bool
runs_in words None = is_here words
runs_in words (Some file) = false

-- The job may run a program that was linked, such as `./conftest`. (own)
abbrev pub may_run : Job → Bool
may_run job = runs_in job.words job.file

-- Whether the link that was started last was taken, after a start that is taken. (own)
abbrev pub after_taken : Bool → Job → Bool
after_taken linked job = if is_link job then true else linked

-- Whether the link that was started last was taken, after a start of the crew inside. (own)
abbrev pub after_asked : Bool → Job → Bool
after_asked linked job = if is_link job then false else linked

-- A start is refused if it may run a program, and the link that was started last was taken: that program is of another link, or gone.
-- (own)
abbrev pub is_refused : Bool → Job → Bool
is_refused linked job = linked && may_run job
