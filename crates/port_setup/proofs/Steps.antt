-- What one step of a pass makes.
use Rattle.std.proofs.Common.{◌≡◌, ℕ, ◌≤◌, List, ◌++◌, length, slice_range, true, ◌∷◌, sym, subst, [], Some}
use Rattle.std.specs.Prelude.{Contains, codes}
use Rattle.std.specs.List.{list_all}
use Rattle.ac_calls.specs.Calls.{MacroCall, calls_in}
use Rattle.port_passes.specs.Rewritten.{IsPass, SetsGnu, SetsUp}
use Rattle.port_passes.specs.Rewritten as specs
use Rattle.port_spots.specs.Put.{is_space_or_return, difference, below}
use Rattle.lint_macros.specs.Entries.{entry_of}
use Rattle.lint_macros.specs.declared.text.TheConstants.{TABLE}
use Rattle.port_idioms.specs.Rows.{put_by, Differs}
use Rattle.port_idioms.specs.declared.idioms.Idioms.TheVariants.{All}
use Rattle.port_idioms.specs.declared.idioms.Idioms.{Idioms}

-- What is put after AC_PROG_CC sets GCC.
pub sets_gnu : (put it said indent : List ℕ) → put_by (entry_of (codes "GCC") TABLE.now) ≡ Some it → Differs (codes "GCC") 0 said → list_all is_space_or_return indent ≡ true
    → put ≡ ((10 ∷ indent) ++ difference (codes "GCC") said) ++ below indent it [] → SetsGnu put
sets_gnu put it said indent has differs blank is = record { it = it; said = said; indent = indent; has = has; differs = differs; blank = blank; is = is }

pub gnu_step : (idioms : Idioms) (text : List ℕ) (at : ℕ) (out : List ℕ) (c : MacroCall) (put : List ℕ) (new_at : ℕ) (new : List ℕ)
    → IsPass idioms text at out → Contains (calls_in text) c → idioms ≡ All → slice_range text c.start c.name_end ≡ codes "AC_PROG_CC" → SetsUp put → at ≤ c.end → c.end ≤ length text
    → (new_at ≡ c.end) × (new ≡ (out ++ slice_range text at c.end) ++ put) → IsPass idioms text new_at new
gnu_step idioms text at out c put new_at new before is all compiler sets from to (at_is, new_is) =
    subst (λ a. IsPass idioms text a new) (sym at_is)
    (subst (IsPass idioms text c.end) (sym new_is) (specs.IsPass.checked c put (specs.IsPass.copied c.end before from to) is all compiler sets to))
