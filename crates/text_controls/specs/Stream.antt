-- What contracts see of a stream that shows. (own)
use Rattle.std.specs.Prelude.{ℕ, Bool, List, Option, None, if◌then◌else◌}
use Rattle.text_controls.specs.declared.awaited.Awaited.{Awaited}

-- The stream below, whether texts are written in shown form, and what is lacking of a character. (own)
pub record Stream (W : Type 0) : Type 0 where
  pub stream : W
  pub is_on : Bool
  pub awaited : Awaited

-- What is known of what was written. If texts are shown, the stream below holds another text. (own)
abbrev pub contents_of : {W : Type 0} → (W → Option (List ℕ)) → Stream W → Option (List ℕ)
contents_of contents s = if s.is_on then None else contents s.stream
