-- Where the bytes of a text are.
use Rattle.std.specs.Prelude.{ℕ, List}
use Rattle.deftable.specs.declared.bytes.Kept.{Kept}
use Rattle.deftable.specs.declared.bytes.Kept.TheVariants.{Short, Long}

-- The bytes of a text, which is short or long. (own)
abbrev pub bytes_of : Kept → List ℕ
bytes_of (Short short) = short
bytes_of (Long bytes) = bytes.items
