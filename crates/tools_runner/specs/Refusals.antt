-- What a command of the tools says if it refuses what it is asked.
use Rattle.std.specs.Prelude.{◌≡◌, ◌⊎◌, ℕ, Bool, true, List, [], Option, None, codes}
use Rattle.std.specs.List.{list_any}
use Rattle.cmd_call.specs.Calls.{ProgramCall, Header, Lint, Port, Why, Help, Version}
use Rattle.cmd_call.specs.Lines.{IsTold, error_line}
use Rattle.cmd_header.specs.Answers.{name_of}
use Rattle.cmd_lint.specs.Status.{is_unknown}
use Rattle.cmd_port.specs.Asked.{request_of}

-- The line of words that the program doesn't know was written. (own)
abbrev pub IsUsageTold : {E : Type 0} → (E → Option (List ℕ)) → (E → Bool) → E → E → Type 0
IsUsageTold contents has_failed old new = IsTold contents has_failed old new (error_line (codes "usage") [])

-- Standard output has failed to take the text, and the line that says so was written. (own)
abbrev pub IsOutputTold : {E : Type 0} → (E → Option (List ℕ)) → (E → Bool) → E → E → Bool → Type 0
IsOutputTold contents has_failed old new is_full = (is_full ≡ true) × IsTold contents has_failed old new (error_line (codes "file") (codes "standard output"))

-- What was said after a status of 2: for help and the version, the line of the words, or that of standard output, if that has failed;
-- for options that `lint` doesn't know, for wrong words of `port` and of `header`, and for words that are no command of the tools, the
-- line of the words. (own)
abbrev pub TellsWhy : {E : Type 0} → (E → Option (List ℕ)) → (E → Bool) → E → E → Bool → ProgramCall → Type 0
TellsWhy contents has_failed old new is_full (Help words) = IsUsageTold contents has_failed old new ⊎ IsOutputTold contents has_failed old new is_full
TellsWhy contents has_failed old new is_full Version = IsUsageTold contents has_failed old new ⊎ IsOutputTold contents has_failed old new is_full
TellsWhy contents has_failed old new is_full (Lint words) = list_any is_unknown words ≡ true → IsUsageTold contents has_failed old new
TellsWhy contents has_failed old new is_full (Port words) = request_of words ≡ None → IsUsageTold contents has_failed old new
TellsWhy contents has_failed old new is_full (Header words) = name_of words ≡ None → IsUsageTold contents has_failed old new
TellsWhy contents has_failed old new is_full (Why words) = Unit {0}
TellsWhy contents has_failed old new is_full call = IsUsageTold contents has_failed old new

-- The call is none of the tools: it neither explains something nor reads a source to write of it. (own)
abbrev pub IsOther : ProgramCall → Type 0
IsOther (Help words) = ⊥
IsOther Version = ⊥
IsOther (Lint words) = ⊥
IsOther (Port words) = ⊥
IsOther (Header words) = ⊥
IsOther (Why words) = ⊥
IsOther call = Unit {0}
