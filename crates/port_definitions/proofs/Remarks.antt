-- What a comment and an unused definition are made of.
use Rattle.std.proofs.Common.{◌≡◌, ◌≤◌, ◌<◌, ◌+◌, ℕ, zero, suc, List, length, Some, arith}
use Rattle.std.specs.Prelude.{◌⊎◌, ◌&&◌, nat_lt, true, slice_range, slice_get, codes}
use Rattle.std.specs.List.{list_all}
use Rattle.text_cut.specs.Cuts.{is_space, trimmed}
use Rattle.ac_calls.specs.Calls.{MacroCall}
use Rattle.ac_calls.specs.declared.call.Extent.{Extent}
use Rattle.ac_statement.specs.Inside.{is_run}
use Rattle.port_idioms.specs.Filled.{text_of}
use Rattle.port_definitions.specs.Defined.{arg_text, is_of_name}
use Rattle.port_definitions.specs.Unused.{BeginsLine, DefinesUnused, IsRemark, IsUncalled, is_remark, is_remark_byte}

-- A text that begins so at such a place is a comment.
pub remark : (text : List ℕ) (end front sign at : ℕ) → front ≤ sign → sign ≤ at → BeginsLine text front ⊎ (front ≡ end) → list_all is_space (slice_range text front sign) ≡ true
    → is_remark (slice_range text sign at) ≡ true → list_all is_remark_byte (slice_range text sign at) ≡ true → IsRemark text end at
remark text end front sign at low high begins blank is within =
    record { front = front; sign = sign; order = (low, high); begins = begins; blank = blank; remark = is; within = within }

-- A call that defines a macro which nothing calls.
pub unused : (text : List ℕ) (d : MacroCall) (title what : Extent) (name : List ℕ) → slice_range text d.start d.name_end ≡ codes "AC_DEFUN" → slice_get d.args 0 ≡ Some title
    → slice_get d.args 1 ≡ Some what → length d.args ≡ 2 → name ≡ text_of (Some (arg_text text title)) → (nat_lt 0 (length name) && list_all is_of_name name) ≡ true
    → is_run (trimmed (arg_text text what)) ≡ true → IsUncalled text d.start d.end name → DefinesUnused text d name
unused text d title what name macro first second two name_is named quoted uncalled =
    record { macro = macro; title = title; first = first; what = what; second = second; two = two; name_is = name_is; named = named; quoted = quoted; uncalled = uncalled }

-- What holds of all numbers before this one, and of it, holds of those before the next.
pub before_next : (P : ℕ → Type 0) (at k : ℕ) → (k < at → P k) → P at → k < at + 1 → P k
before_next P zero zero less here below = here
before_next P zero (suc k) less here below = absurd (omega (arith, below))
before_next P (suc at) zero less here below = less (omega arith)
before_next P (suc at) (suc k) less here below = before_next (λ n. P (suc n)) at k (λ is. less (omega (arith, is))) here (omega (arith, below))
