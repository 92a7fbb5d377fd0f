-- The arguments with which a run is done again, from its record.
use Rattle.std.specs.Prelude.{◌≡◌, ℕ, List, [], ◌∷◌, ◌++◌, Option, Some, None, Result, Ok, Err, codes}
use Rattle.status_record.specs.Reading.{record_in}
use Rattle.status_record.specs.RecordText.{IsFirstText, IsSecondText}
use Rattle.status_record.specs.declared.record.Record.{Record}
use Rattle.engine_frame.specs.Faults.{of_record, named, ◌>>=◌}
use Rattle.engine_frame.specs.declared.fault.RemakeFault.{RemakeFault}
use Rattle.engine_frame.specs.declared.fault.RemakeFault.TheVariants.{NoArguments}

-- The text is that of a record of the second version, and these are its arguments, followed by `--no-create`. (own)
pub record HasArguments (text : List ℕ) (args : List (List ℕ)) : Type 0 where
  pub recorded : Record
  pub is_text : IsSecondText text recorded
  pub are : args ≡ is_text.args ++ codes "--no-create" ∷ []

-- The text is that of a record of the first version, which has no arguments. (own)
pub record HasNoArguments (text : List ℕ) : Type 0 where
  pub recorded : Record
  pub is_text : IsFirstText text recorded

-- The arguments with which the run of a record with these arguments is done again. (own)
abbrev pub args_again : Option (List (List ℕ)) → Result (List (List ℕ)) RemakeFault
args_again None = Err NoArguments
args_again (Some args) = Ok (args ++ codes "--no-create" ∷ [])

-- The arguments with which the run of the record of a text is done again, or the first fault. (own)
unfoldable pub rechecked : List ℕ → Result (List (List ℕ)) RemakeFault
rechecked text = named of_record (record_in text) >>= λ r. args_again r.args
