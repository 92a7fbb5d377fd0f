use Rattle.std.proofs.Common.{◌≡◌, ◌++◌, ◌∷◌, [], take}
use Rattle.cachefile.specs.Word.{quoted_text}
use Rattle.cachefile.proofs.word.quoted.Given as goal

abbrev pub invariant-bytes : goal.invariant-bytes
invariant-bytes l = l.word.items ≡ (39 ∷ []) ++ quoted_text (take l.byte-index l.value)
