use Rattle.std.proofs.Common.{◌≡◌, ℕ, ◌<◌, map, false, get_or}
use Rattle.lint_text.specs.Parts.{part}
use Rattle.ac_calls.specs.Calls.{MacroCall, macro_call_of}
use Rattle.port_setup.specs.Needed.{is_one_of, making}
use Rattle.port_setup.proofs.needing.lacks_making.Given as goal

abbrev pub invariant-loop-i : goal.invariant-loop-i
invariant-loop-i l = (k : ℕ) (d : MacroCall) → k < l.i → is_one_of making (part l.text (get_or (map macro_call_of l.calls) k d).start (get_or (map macro_call_of l.calls) k d).name_end) ≡ false
