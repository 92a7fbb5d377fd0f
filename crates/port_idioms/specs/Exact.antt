-- What a call is replaced by.
use Rattle.std.specs.Prelude.{ℕ, List, []}
use Rattle.port_idioms.specs.declared.exact.Exact.{Exact}
use Rattle.port_idioms.specs.declared.exact.Exact.TheVariants.{Idiom, Nothing}

-- The text of an idiom, or of nothing. (own)
abbrev pub text_of : Exact → List ℕ
text_of (Idiom text) = text.now
text_of Nothing = []
