-- An output of the source: NAME, or NAME:TEMPLATE. (Autoconf's manual, "Configuration Files")
use Rattle.std.specs.Prelude.{ℕ, ◌+◌, ◌==◌, List, ◌++◌, take, drop, Option, Some, None, position, codes}
use Rattle.output_list.specs.declared.output.Output.{Output}

-- The output that a field names, given the offset of its first colon. (Autoconf's manual, "Configuration Files")
abbrev pub cut : Option ℕ → List ℕ → Output
cut None field = record { name = field; template = field ++ codes ".in" }
cut (Some i) field = record { name = take i field; template = drop (i + 1) field }

-- NAME:TEMPLATE; if no template is named, it is NAME followed by `.in`. (Autoconf's manual, "Configuration Files")
abbrev pub output_in : List ℕ → Output
output_in field = cut (position (λ b. b == 58) field) field
