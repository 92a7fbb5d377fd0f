-- What a call that looks for a part of a text returns.
use Rattle.std.proofs.Common.{◌≡◌, ℕ, ◌+◌, ◌-◌, true, false, List, length, take, drop, Option, Some, None, Bor, ap, refl}
use Rattle.std.specs.Prelude.{option_map, bytes_eq, is_some}
use Rattle.std.specs.Option.{MatchOption}
use Rattle.bstr.specs.Text.{SplitsOnce}
use Rattle.memchr.specs.Find.{first_of, matches}
use Rattle.cmd_why.specs.Lines.{before_end}
use Rattle.cmd_why.specs.Names.{is_part}

pub before_end_is : (back text : List ℕ) (r : Option (Bor (List ℕ)))
    → MatchOption r (bytes_eq (drop (length text - length back) text) back ≡ false) (λ x. (bytes_eq (drop (length text - length back) text) back ≡ true) × (x.now ≡ take (length text - length back) text) × (length x.now + length back ≡ length text))
    → option_map (λ t. t.now) r ≡ before_end back text
unfolding before_end
before_end_is back text None lacks = rw lacks refl
before_end_is back text (Some x) has = rw (has.0) (ap (λ t. Some t) has.1)

-- Whether `split_once_str` finds something.
pub part_is : (word text : List ℕ) (r : Option (Bor (List ℕ) × Bor (List ℕ))) → SplitsOnce text word (first_of (matches text word 0)) r → is_some r ≡ is_part word text
unfolding is_part
part_is word text None none = rw none refl
part_is word text (Some p) (k, found, before, after) = rw found refl
