-- The windows that the program knows.
use Rattle.std.proofs.Common.{◌≡◌, ℕ, ◌≤◌, Bool, true, false, List, [], ◌∷◌, Option, Some, subst, sym, arith}
use Rattle.std.specs.Prelude.{IfSome, bytes_eq, if◌then◌else◌}
use Rattle.cmd_call.specs.Calls.{windows, window_among}

abbrev IsWindow : ℕ → Type 0
IsWindow n = (1 ≤ n) × (n ≤ 16)

abbrev AreWindows : List (List ℕ × ℕ) → Type 0
AreWindows [] = Unit {0}
AreWindows (row ∷ rows) = IsWindow row.1 × AreWindows rows

within_by : (b : Bool) (n : ℕ) (rest : Option ℕ) → IsWindow n → IfSome rest IsWindow → IfSome (if b then Some n else rest) IsWindow
within_by true n rest first later = first
within_by false n rest first later = later

within_rows : (word : List ℕ) (rows : List (List ℕ × ℕ)) → AreWindows rows → IfSome (window_among word rows) IsWindow
within_rows word [] each = tt
within_rows word (row ∷ rows) each = within_by (bytes_eq row.0 word) row.1 (window_among word rows) each.0 (within_rows word rows each.1)

each_within : AreWindows windows
unfolding windows
each_within = ((omega arith, omega arith), ((omega arith, omega arith), ((omega arith, omega arith), ((omega arith, omega arith), ((omega arith, omega arith), ((omega arith, omega arith), ((omega arith, omega arith), ((omega arith, omega arith), ((omega arith, omega arith), ((omega arith, omega arith), ((omega arith, omega arith), ((omega arith, omega arith), ((omega arith, omega arith), ((omega arith, omega arith), ((omega arith, omega arith), ((omega arith, omega arith), tt))))))))))))))))

pub within : (word : List ℕ) (found : Option ℕ) → found ≡ window_among word windows → IfSome found (λ n. (1 ≤ n) × (n ≤ 16))
within word found is = subst (λ f. IfSome f IsWindow) (sym is) (within_rows word windows each_within)
