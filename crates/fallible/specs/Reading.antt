-- Readings: a value, or the error that is found first.
use Rattle.std.specs.Prelude.{◌≡◌, Bool, Result, Ok, Err, if◌then◌else◌}

infixl 10 ◌>>=◌
-- A reading followed by a second one, which uses its value. (own)
abbrev pub ◌>>=◌ : {A B F : Type 0} → Result A F → (A → Result B F) → Result B F
(Ok x) >>= f = f x
(Err e) >>= f = Err e

-- A condition, and the error if it fails. (own)
abbrev pub wants : {F : Type 0} → Bool → F → Result (Unit {0}) F
wants b f = if b then Ok tt else Err f

-- A reading, with its error as another one. (own)
abbrev pub named : {A E F : Type 0} → (E → F) → Result A E → Result A F
named fault (Ok x) = Ok x
named fault (Err e) = Err (fault e)

-- A call returned the value of the reading, as view shows it, or an error that fails allows. (own)
abbrev pub GivesBy : {X Y F : Type 0} → (F → Result Y F → Type 0) → (X → Y) → Result X F → Result Y F → Type 0
GivesBy fails view (Ok x) read = read ≡ Ok (view x)
GivesBy fails view (Err f) read = fails f read
