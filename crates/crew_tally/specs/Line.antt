-- The last line of a run.
use Rattle.std.specs.Prelude.{ℕ, ◌/◌, ◌%◌, ◌==◌, nat_lt, List, [], ◌++◌, codes, decimal, Option, Some, None, if◌then◌else◌}
use Rattle.crew_tally.specs.declared.tally.Tally.{Tally}

-- A number, or `no` in place of 0. (own)
abbrev pub number_text : ℕ → List ℕ
number_text number = if number == 0 then codes "no" else decimal number

-- A number and its noun, of which there is one form for 1 and another for the rest. (own)
abbrev pub count_text : ℕ → List ℕ → List ℕ → List ℕ
count_text number one many = number_text number ++ (if number == 1 then one else many)

-- The cache had so many answers. (own)
abbrev pub known_text : ℕ → List ℕ
known_text cached = codes ", " ++ (decimal cached ++ codes " from the cache")

-- How many answers the cache had, if it had one. (own)
abbrev pub cached_text : ℕ → List ℕ
cached_text cached = if cached == 0 then [] else known_text cached

-- So many milliseconds. (own)
abbrev pub millis_text : ℕ → List ℕ
millis_text millis = decimal millis ++ codes " ms"

-- Seconds with one digit after the point, which is not rounded. (own)
abbrev pub seconds_text : ℕ → List ℕ
seconds_text millis = decimal (millis / 1000) ++ (codes "." ++ (decimal (millis % 1000 / 100) ++ codes " s"))

-- How long a run took: milliseconds up to a second, and then seconds. (own)
abbrev pub time_text : ℕ → List ℕ
time_text millis = if nat_lt millis 1000 then millis_text millis else seconds_text millis

-- The line of a run with this tally, so many children and so many milliseconds. (own)
abbrev pub line : Tally → ℕ → ℕ → List ℕ
line t children millis =
    codes "acrun: "
    ++ (count_text t.checks (codes " check") (codes " checks")
    ++ (cached_text t.cached
    ++ (codes ", " ++ (count_text children (codes " child") (codes " children") ++ (codes ", " ++ (time_text millis ++ codes "\n"))))))

-- The line of a run, if it made a check. (own)
abbrev pub summary : Tally → ℕ → ℕ → Option (List ℕ)
summary t children millis = if t.checks == 0 then None else Some (line t children millis)
