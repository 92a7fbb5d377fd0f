-- What follows from all that a run is given.
use Rattle.std.specs.Prelude.{◌≡◌, ℕ, List, Option, Result, Ok}
use Rattle.acparse.specs.Profile.{source_of}
use Rattle.engine_frame.specs.Faults.{of_parse, named, ◌>>=◌}
use Rattle.engine_frame.specs.Given.{Accepted, Starts, source_settings, accepted_after, started}
use Rattle.engine_frame.specs.Needed.{Needed, script_in}
use Rattle.engine_frame.specs.declared.fault.Fault.{Fault}
use Rattle.ac_tree.specs.Script.{Script}

-- What follows from a source, arguments, an environment, a cache and templates: they are refused with their first fault, or
-- accepted. Of two templates of one name the first counts. (own)
unfoldable pub acceptance : List ℕ → List (List ℕ) → List (List ℕ × List ℕ) → Option (List ℕ) → List (List ℕ × List ℕ) → Result Accepted Fault
acceptance source arguments environment cache templates = do
  script ← named of_parse (source_of source)
  settings ← source_settings arguments environment script
  accepted_after arguments cache templates script settings

-- What follows, once a source is judged, from a cache and templates: the run starts, or there is a
-- first fault. (own)
abbrev pub going : Needed → Option (List ℕ) → List (List ℕ × List ℕ) → Result Accepted Fault
going needs cache templates = started needs.arguments cache templates (script_in needs) needs.settings >>= λ start. Ok (Starts (script_in needs) start)

-- The statements are those of a text. (own)
abbrev pub IsRead : Script → Type 0
IsRead script = (text : List ℕ) × (source_of text ≡ Ok script)
