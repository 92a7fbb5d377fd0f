-- When a test is true. (POSIX shell, 2.9.3, and POSIX, `test`)
use Rattle.std.specs.Prelude.{ℕ, Bool, true, false, ◌&&◌, ◌||◌, not, List, length, bytes_eq, ◌==◌, if◌then◌else◌}
use Rattle.shellword.specs.declared.element.Condition.{Condition}
use Rattle.shellword.specs.declared.element.Condition.TheVariants.{True, False, Nonempty, Empty, Equal, Different}
use Rattle.shellword.specs.declared.element.Element.{Element}
use Rattle.shellword.specs.declared.token.Joint.{Joint}
use Rattle.shellword.specs.declared.token.Joint.TheVariants.{And, Or}
use Rattle.shellword.specs.Value.{word_value}

-- A test: an element, or a test joined with another element, so the last joint is the outermost. (POSIX shell, 2.9.3)
pub data Joined : Type 0 where
  single : Element → Joined
  joined : Joined → Joint → Element → Joined

-- Whether a condition is true with these variables. (POSIX, `test`)
abbrev pub condition_truth : Condition → List (List ℕ × List ℕ) → Bool
condition_truth True vars = true
condition_truth False vars = false
condition_truth (Nonempty w) vars = not (length (word_value w vars) == 0)
condition_truth (Empty w) vars = length (word_value w vars) == 0
condition_truth (Equal v w) vars = bytes_eq (word_value v vars) (word_value w vars)
condition_truth (Different v w) vars = not (bytes_eq (word_value v vars) (word_value w vars))

-- Whether an element is true, considering `!`. (POSIX shell, 2.9.2)
abbrev pub element_truth : Element → List (List ℕ × List ℕ) → Bool
element_truth e vars = if e.negated then not (condition_truth e.condition vars) else condition_truth e.condition vars

-- The truth of two sides that are joined. (POSIX shell, 2.9.3)
abbrev pub joint_truth : Bool → Joint → Bool → Bool
joint_truth left And right = left && right
joint_truth left Or right = left || right

-- Whether a test is true: `&&` and `||` have equal precedence and group from the left. (POSIX shell, 2.9.3)
unfoldable pub truth : Joined → List (List ℕ × List ℕ) → Bool
truth (single e) vars = element_truth e vars
truth (joined left joint e) vars = joint_truth (truth left vars) joint (element_truth e vars)
