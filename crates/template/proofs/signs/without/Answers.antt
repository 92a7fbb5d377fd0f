use Rattle.std.proofs.Common.{w64}
use Rattle.std.proofs.lemmas.Nat.Bits.{bit_at_clear_other, bit_at_clear_same}
use Rattle.template.proofs.signs.without.Goals as goal

pub returns-clause-cleared : goal.returns-clause-cleared
returns-clause-cleared c = bit_at_clear_same w64 c.args.marks c.args.bit c.requires

pub returns-clause-kept : goal.returns-clause-kept
returns-clause-kept c k l apart = bit_at_clear_other w64 c.args.marks c.args.bit c.requires k l apart
