use Rattle.std.proofs.Common.{sym, ◌∙◌}
use Rattle.shell_bare.proofs.Joining.{joined_reading}
use Rattle.shell_bare.proofs.Laws.{text-read}
use Rattle.fallible.proofs.Binds.{ok_is}
use Rattle.shell_bare.proofs.readings.one_reading.Goals as goal

pub returns : goal.returns
returns c = record {
  joined = λ text a b h k. sym ((joined_reading text a).1 h) ∙ (joined_reading text b).1 k;
  statements = λ text a b h k. ok_is a b (sym (text-read text a h) ∙ text-read text b k);
}
