use Rattle.std.proofs.Common.{ℕ, List, sym, ap, ◌∙◌}
use Rattle.shellword.specs.declared.part.Part.{Part}
use Rattle.fallible.proofs.Binds.{ok_is}
use Rattle.shellword.proofs.Laws.{word_reading, front_reading, here_reading, test_reading, pattern_reading}
use Rattle.shellword.proofs.readings.one_reading.Goals as goal

pub returns : goal.returns
returns c = record {
  word = λ text a b h k. ok_is a b (sym ((word_reading text a).1 h) ∙ (word_reading text b).1 k);
  front = λ text a b m n h k.
      let e = ok_is {A = List Part × ℕ} (a, m) (b, n) (sym ((front_reading text a m).1 h) ∙ (front_reading text b n).1 k) in
      (ap {A = List Part × ℕ} (λ r. r.0) e, ap {A = List Part × ℕ} (λ r. r.1) e);
  here = λ text a b h k. ok_is a b (sym ((here_reading text a).1 h) ∙ (here_reading text b).1 k);
  test = λ text a b h k. ok_is a b (sym ((test_reading text a).1 h) ∙ (test_reading text b).1 k);
  patterns = λ text a b h k. ok_is a b (sym ((pattern_reading text a).1 h) ∙ (pattern_reading text b).1 k);
}
