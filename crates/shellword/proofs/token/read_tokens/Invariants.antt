use Rattle.std.proofs.Common.{◌≡◌, ◌-◌, ◌≤◌, length, drop}
use Rattle.shellword.specs.Cut.{tokens_of}
use Rattle.shellword.proofs.Tokens.{with_tokens}
use Rattle.shellword.proofs.token.read_tokens.Given as goal

abbrev pub invariant-loop-at : goal.invariant-loop-at
invariant-loop-at l = record {
  within : l.at ≤ length l.text;
  goes_on : with_tokens l.tokens.items (tokens_of l.lone_bars 0 l.at (drop l.at l.text)) ≡ tokens_of l.lone_bars 0 0 l.text;
}

abbrev pub decreases-loop-at : goal.decreases-loop-at
decreases-loop-at l = length l.text - l.at
