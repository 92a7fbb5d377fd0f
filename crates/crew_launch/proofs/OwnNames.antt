-- The conftest of each job has a name that a run has for itself.
use Rattle.std.proofs.Common.{◌≡◌, ◌≢◌, ℕ, zero, suc, ◌+◌, ◌/◌, ◌%◌, ◌==◌, ◌||◌, Bool, true, false, List, [], ◌∷◌, ◌++◌, refl, ◌∙◌, ap, arith, if◌then◌else◌}
use Rattle.std.specs.Prelude.{All, codes, decimal, nat_lt}
use Rattle.std.specs.Fmt.{digit_glyph, digits, digits_onto}
use Rattle.std.specs.List.{list_any}
use Rattle.std.proofs.lemmas.Bool.{cond_both, eqb-true}
use Rattle.std.proofs.lemmas.List.Elements.{All-nil, All-cons, All-weaker}
use Rattle.std.proofs.lemmas.List.Folds.{list_any-append, list_any_none}
use Rattle.crew_jobs.specs.Probe.{file_name, out_name}
use Rattle.crew_launch.specs.Own.{ConftestsAreOwn, is_own}
use Rattle.crew_launch.proofs.Owning.{own_front}

-- ---- a number has no slash

abbrev IsPlain : ℕ → Type 0
IsPlain b = b ≢ 47

plain_glyph : (d : ℕ) → IsPlain (digit_glyph false d)
plain_glyph d = cond_both (nat_lt d 10) (48 + d) (87 + d) IsPlain (λ _ is. omega (arith, is)) (λ _ is. omega (arith, is))

plain_onto : (k n : ℕ) (acc : List ℕ) → All IsPlain acc → All IsPlain (digits_onto k 10 false n acc)
plain_onto zero n acc all = all
plain_onto (suc k) n acc all =
    let more : All IsPlain (digit_glyph false (n % 10) ∷ acc) = All-cons IsPlain (digit_glyph false (n % 10)) acc (plain_glyph (n % 10)) all in
    cond_both (n / 10 == 0) (digit_glyph false (n % 10) ∷ acc) (digits_onto k 10 false (n / 10) (digit_glyph false (n % 10) ∷ acc)) (All IsPlain)
    (λ _. more) (λ _. plain_onto k (n / 10) (digit_glyph false (n % 10) ∷ acc) more)

plain_decimal : (n : ℕ) → All IsPlain (decimal n)
unfolding digits
plain_decimal n = plain_onto 64 n [] (All-nil IsPlain)

is_other : (b : ℕ) (t : Bool) → (b == 47) ≡ t → IsPlain b → t ≡ false
is_other b true is plain = absurd (plain (eqb-true b 47 is))
is_other b false is plain = refl

no_slash : (n : ℕ) → list_any (λ b. b == 47) (decimal n ++ codes ".c") ≡ false
no_slash n =
    let none : list_any (λ b. b == 47) (decimal n) ≡ false = list_any_none (λ b. b == 47) (decimal n)
    (All-weaker IsPlain (λ b. (b == 47) ≡ false) (λ b plain. is_other b (b == 47) refl plain) (decimal n) (plain_decimal n)) in
    list_any-append (λ b. b == 47) (decimal n) (codes ".c") ∙ ap (λ t. t || false) none

own_either : (b : Bool) (n : ℕ) → is_own ((if b then codes "conftest" else codes "conftest" ++ decimal n) ++ codes ".c") ≡ true
own_either true n = own_front (codes ".c") refl
own_either false n = own_front (decimal n ++ codes ".c") (no_slash n)

pub conftests_are_own : ConftestsAreOwn
unfolding file_name out_name
conftests_are_own n = own_either (n == 0) n
