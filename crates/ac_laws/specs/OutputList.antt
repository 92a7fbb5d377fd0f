-- Which outputs an argument lists, and what is wrong with one that lists none.
use Rattle.std.specs.Prelude.{◌≡◌, ◌⊎◌, ◌↔◌, ℕ, ◌+◌, ◌<◌, ◌≤◌, true, false, List, [], ◌∷◌, ◌++◌, length, map, Ok, Err}
use Rattle.std.specs.List.{AllByRecursion}
use Rattle.m4quote.specs.ItemValue.{Span}
use Rattle.text_cut.specs.Cuts.{fields}
use Rattle.deftable.specs.NameList.{AreDistinct}
use Rattle.output_list.specs.declared.output.Output.{Output}
use Rattle.output_list.specs.Output.{output_names, has_output, IsOutput}
use Rattle.ac_statement.specs.declared.fault.ParseFault.{ParseFault}
use Rattle.ac_statement.specs.declared.fault.ParseFault.TheVariants.{BadName, TooMany}
use Rattle.ac_args.specs.Arguments.{text}
use Rattle.ac_args.specs.Path.{output_in}
use Rattle.ac_args.specs.Outputs.{outputs}

-- No output of the source has the name yet, neither one of the same kind, `own`, nor one of the other
-- kind, `other`. (own)
abbrev pub IsNew : List Output → List Output → Output → Type 0
IsNew own other output = (has_output own output.name ≡ false) × (has_output other output.name ≡ false)

-- The fields list these outputs, one each and in order. Names and templates are paths. The names
-- differ from each other, and from those of all outputs before. With those before, there are at most
-- 1,024 of the kind. (Autoconf's manual, "Configuration Files"; what paths are, and the limit, are own)
pub record AreListed (own other : List Output) (list : List (List ℕ)) (listed : List Output) : Type 0 where
  pub value : listed ≡ map output_in list
  pub paths : AllByRecursion IsOutput listed
  pub names : AreDistinct (output_names listed)
  pub new : AllByRecursion (IsNew own other) listed
  pub few : length own + length listed ≤ 1024

-- An output before has the name: one of the same kind, of the other kind, or of the same list. (own)
abbrev pub IsNamed : List Output → List Output → List Output → Output → Type 0
IsNamed own other listed output = (has_output own output.name ≡ true)
    ⊎ ((has_output other output.name ≡ true) ⊎ (has_output listed output.name ≡ true))

-- The output can't follow those that were listed, with this fault. Its name or its template is no
-- path, or an output before has its name; or neither is so, and there are 1,024 of its kind. (own)
pub data IsFieldFault (own other : List Output) (at : ℕ) (listed : List Output) (output : Output)
    : ParseFault → Type 0 where
  form : ¬ (IsOutput output) → IsFieldFault own other at listed output (BadName at)
  named : IsNamed own other listed output → IsFieldFault own other at listed output (BadName at)
  full : IsOutput output → ¬ (IsNamed own other listed output) → 1024 ≤ length own + length listed
      → IsFieldFault own other at listed output (TooMany at)

-- An argument at this offset has no field, or its first fields list outputs, and the next one has
-- this fault. (own)
pub data IsListFault (own other : List Output) (at : ℕ) : List (List ℕ) → ParseFault → Type 0 where
  no_field : IsListFault own other at [] (BadName at)
  field : {f : ParseFault} (front : List (List ℕ)) (next : List ℕ) (back : List (List ℕ))
      (listed : List Output)
      → AreListed own other front listed → IsFieldFault own other at listed (output_in next) f
      → IsListFault own other at (front ++ next ∷ back) f

-- An argument is read as outputs exactly if its used text has a field, and its fields list them. (own)
abbrev pub OutputsAreListed : Type 0
OutputsAreListed = (own other : List Output) (arg : Span) (listed : List Output)
    → (outputs own other arg ≡ Ok listed)
    ↔ ((t : List ℕ) × (text arg ≡ Ok t) × (0 < length (fields t)) × AreListed own other (fields t) listed)

-- An argument is refused exactly if it has no used text, or its fields have this fault. Before it
-- there are at most 1,024 outputs of the kind. (own)
abbrev pub OutputsAreRefused : Type 0
OutputsAreRefused = (own other : List Output) (arg : Span) (f : ParseFault) → length own ≤ 1024
    → (outputs own other arg ≡ Err f)
    ↔ ((text arg ≡ Err f) ⊎ ((t : List ℕ) × (text arg ≡ Ok t) × IsListFault own other arg.at (fields t) f))
