-- Attempts of the code.
use Rattle.std.specs.Prelude.{◌≡◌, ◌+◌, ◌<◌, ◌^◌, ℕ, List, Some, Option, option_map, slice_get, IfSome}
use Rattle.meaning.specs.State.{State}
use Rattle.meaning.specs.Asking as asking
use Rattle.run_forms.specs.declared.attempts.Attempt.{Attempt}
use Rattle.run_forms.specs.declared.course.FormCourse.{FormCourse}
use Rattle.run_forms.specs.Courses.{attempts_in}

-- An attempt of the code, as the definitions have it. (own)
abbrev pub attempt_of : Attempt → asking.Attempt
attempt_of a = record { job = a.job; ends_on = a.ends_on; value = Some a.value }

-- What was made is this attempt. (own)
abbrev pub IsMade : asking.Attempt → Attempt → Type 0
IsMade attempt made = attempt_of made ≡ attempt

-- What was made is the attempt at this place, or none if there is none. (own)
abbrev pub Gives : List asking.Attempt → ℕ → Option Attempt → Type 0
Gives attempts place made = option_map attempt_of made ≡ slice_get attempts place

-- The same, and the place after an attempt is below 2^64. (own)
pub record IsAt (attempts : List asking.Attempt) (place : ℕ) (made : Option Attempt) : Type 0 where
  pub attempt : Gives attempts place made
  pub room : IfSome made (λ a. place + 1 < 2 ^ 64)

-- The same, of a test in a state. (own)
abbrev pub IsAttempt : FormCourse → State → ℕ → Option Attempt → Type 0
IsAttempt c st place made = IsAt (attempts_in c st.vars st.defs) place made
