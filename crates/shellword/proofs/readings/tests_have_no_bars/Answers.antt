use Rattle.std.proofs.Common.{refl}
use Rattle.shellword.proofs.TestFaults.{no_bars}
use Rattle.shellword.proofs.readings.tests_have_no_bars.Goals as goal

pub returns : goal.returns
returns c = λ at text tokens h. no_bars h refl
