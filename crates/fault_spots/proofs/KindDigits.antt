-- The numbers of the kinds of shell text, as digits.
use Rattle.std.proofs.Common.{◌≡◌, ℕ, ◌+◌, ◌<◌, List, ◌++◌, ap, ◌∙◌, sym, arith}
use Rattle.std.specs.Prelude.{codes, decimal}
use Rattle.std.proofs.lemmas.Fmt.{decimal_digit}
use Rattle.shellword.specs.declared.fault.ShellFault.{ShellFault}
use Rattle.shellword.specs.declared.fault.ShellFault.TheVariants as shells
use Rattle.ac_statement.specs.FaultText.{fault_text}
use Rattle.ac_statement.specs.declared.fault.ParseFault.TheVariants.{Shell}

one : codes "1" ≡ decimal 1
one = sym (decimal_digit 1 (omega arith))

two : codes "2" ≡ decimal 2
two = sym (decimal_digit 2 (omega arith))

three : codes "3" ≡ decimal 3
three = sym (decimal_digit 3 (omega arith))

pub bad_word : (fault : ShellFault) (x at : ℕ) → fault ≡ shells.BadWord x → codes "6.1 at " ++ decimal at ≡ fault_text (Shell fault at)
bad_word fault x at is = ap (λ d. codes "6." ++ d ++ codes " at " ++ decimal at) one ∙ ap (λ f. fault_text (Shell f at)) (sym is)

pub bad_test : (fault : ShellFault) (x at : ℕ) → fault ≡ shells.BadTest x → codes "6.2 at " ++ decimal at ≡ fault_text (Shell fault at)
bad_test fault x at is = ap (λ d. codes "6." ++ d ++ codes " at " ++ decimal at) two ∙ ap (λ f. fault_text (Shell f at)) (sym is)

pub bad_pattern : (fault : ShellFault) (x at : ℕ) → fault ≡ shells.BadPattern x → codes "6.3 at " ++ decimal at ≡ fault_text (Shell fault at)
bad_pattern fault x at is = ap (λ d. codes "6." ++ d ++ codes " at " ++ decimal at) three ∙ ap (λ f. fault_text (Shell f at)) (sym is)

pub no_memory : (fault : ShellFault) (at : ℕ) → fault ≡ shells.OutOfMemory → codes "6.3 at " ++ decimal at ≡ fault_text (Shell fault at)
no_memory fault at is = ap (λ d. codes "6." ++ d ++ codes " at " ++ decimal at) three ∙ ap (λ f. fault_text (Shell f at)) (sym is)
