use Rattle.std.proofs.Common.{length}
use Rattle.answers_text.specs.Reading.{IsChain}
use Rattle.answers_text.proofs.read.read_chain.Given as goal

abbrev pub invariant-records : goal.invariant-records
invariant-records l = IsChain l.fn.digest l.fn.text l.records.items l.digest l.rest

abbrev pub decreases-records : goal.decreases-records
decreases-records l = length l.rest
