use Rattle.std.proofs.Common.{◌≡◌, ◌++◌, drop}
use Rattle.std.specs.Prelude.{option_map}
use Rattle.cachefile.specs.Word.{value_from}
use Rattle.cachefile.specs.declared.word.Quoting.TheVariants.{Unquoted}
use Rattle.cachefile.proofs.word.read_word.Given as goal

abbrev pub invariant-bytes : goal.invariant-bytes
invariant-bytes l = value_from l.braced Unquoted l.word ≡ option_map (λ v. l.value.items ++ v) (value_from l.braced l.quoting (drop l.byte-index l.word))
