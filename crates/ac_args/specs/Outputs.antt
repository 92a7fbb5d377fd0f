-- Lists of outputs: fields between blanks, of which there is at least one.
use Rattle.std.specs.Prelude.{ℕ, ◌+◌, not, List, [], ◌∷◌, ◌++◌, length, Result, Ok, nat_lt}
use Rattle.m4quote.specs.ItemValue.{Span}
use Rattle.text_cut.specs.Cuts.{fields}
use Rattle.ac_statement.specs.declared.fault.ParseFault.{ParseFault}
use Rattle.ac_statement.specs.declared.fault.ParseFault.TheVariants.{BadName, TooMany}
use Rattle.output_list.specs.declared.output.Output.{Output}
use Rattle.ac_args.specs.Arguments.{text}
use Rattle.output_list.specs.Output.{has_output}
use Rattle.output_list.specs.Path.{is_path}
use Rattle.ac_args.specs.Path.{output_in}
use Rattle.ac_statement.specs.Reading.{◌>>=◌, wants}

-- What an output must be to be one more of an argument, in the order of the faults: its name and its template are paths, and
-- no output has the name yet. `own` are the outputs of its kind before the argument, which has listed `outputs` so far; there
-- are at most 1,024 of a kind. `other` are those of other kinds, which share their names.
unfoldable pub wanted : ℕ → List Output → List Output → List Output → Output → Result (Unit {0}) ParseFault
wanted at own other outputs output = do
  _ ← wants (is_path output.name) (BadName at)
  _ ← wants (is_path output.template) (BadName at)
  _ ← wants (not (has_output own output.name)) (BadName at)
  _ ← wants (not (has_output other output.name)) (BadName at)
  _ ← wants (not (has_output outputs output.name)) (BadName at)
  wants (nat_lt (length own + length outputs) 1024) (TooMany at)

-- The outputs of an argument, and the one of one more field.
unfoldable pub one_more : ℕ → List Output → List Output → List Output → List ℕ → Result (List Output) ParseFault
one_more at own other outputs field = do
  _ ← wanted at own other outputs (output_in field)
  Ok (outputs ++ output_in field ∷ [])

-- The outputs, and those of more fields.
unfoldable pub with_fields : ℕ → List Output → List Output → List Output → List (List ℕ) → Result (List Output) ParseFault
with_fields at own other outputs [] = Ok outputs
with_fields at own other outputs (field ∷ more) = one_more at own other outputs field >>= λ first. with_fields at own other first more

-- The outputs that a text lists.
abbrev pub outputs_in : ℕ → List Output → List Output → List ℕ → Result (List Output) ParseFault
outputs_in at own other t = do
  _ ← wants (nat_lt 0 (length (fields t))) (BadName at)
  with_fields at own other [] (fields t)

-- The outputs of an argument, after those of its kind and of other kinds.
unfoldable pub outputs : List Output → List Output → Span → Result (List Output) ParseFault
outputs own other arg = text arg >>= outputs_in arg.at own other
