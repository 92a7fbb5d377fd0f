-- Brackets that are closed.
use Rattle.std.proofs.Common.{◌≡◌, ◌<◌, ℕ, List, length, drop, false, ap}
use Rattle.std.proofs.lemmas.List.{drop_more}
use Rattle.ac_statement.specs.Inside.{closes_at_end}

-- No text closes brackets if none is open.
pub closes_stop : (i : ℕ) (text : List ℕ) → i < length text → closes_at_end 0 (drop i text) ≡ false
closes_stop i text lt = ap (closes_at_end 0) (drop_more text i 0 lt)
