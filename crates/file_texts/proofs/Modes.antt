-- What rights a new file has in the place of an old one.
use Rattle.std.proofs.Common.{◌≡◌, ◌≤◌, ℕ, ◌+◌, ◌/◌, suc, zero, sym, ap, ◌∙◌, subst, refl, arith}
use Rattle.std.specs.Prelude.{bit_and, bit_or, min, max}
use Rattle.std.specs.Int.{bit_at}
use Rattle.std.proofs.lemmas.Nat.Bits.{bit_at_and, bit_at_or, bit_at-suc, bit_at-zero}
use Rattle.std.proofs.Math.Nat.{min-le_left, min-le_right, min-eq_left, max-le, le-max_left, le-max_right, div-div-eq-div-mul}
use Rattle.file_texts.specs.Steps.{executable, staying, of_readers, mode_for}
use Rattle.file_texts.specs.declared.writing.Keeps.{Keeps}
use Rattle.file_texts.specs.declared.writing.Keeps.TheVariants.{Permissions, NoExecution}

of_both : (a b i : ℕ) → bit_at (bit_and a b) i ≤ bit_at a i
of_both a b i = subst (λ n. n ≤ bit_at a i) (sym (bit_at_and a b i)) (min-le_left (bit_at a i) (bit_at b i))

of_second : (a b i : ℕ) → bit_at (bit_and a b) i ≤ bit_at b i
of_second a b i = subst (λ n. n ≤ bit_at b i) (sym (bit_at_and a b i)) (min-le_right (bit_at a i) (bit_at b i))

of_first : (a b i : ℕ) → bit_at a i ≤ bit_at (bit_or a b) i
of_first a b i = subst (λ n. bit_at a i ≤ n) (sym (bit_at_or a b i)) (le-max_left (bit_at a i) (bit_at b i))

of_either : (a b i n : ℕ) → bit_at a i ≤ n → bit_at b i ≤ n → bit_at (bit_or a b) i ≤ n
of_either a b i n x y = subst (λ m. m ≤ n) (sym (bit_at_or a b i)) (max-le x y)

then : (x y z : ℕ) → x ≤ y → y ≤ z → x ≤ z
then x y z first second = omega (arith, first, second)

of_none : (x y n : ℕ) → x ≤ y → y ≡ 0 → x ≤ n
of_none x y n first none = omega (arith, first, none)

-- the bits that are added
abbrev added : Keeps → ℕ → ℕ → ℕ
added keeps old new = bit_and (bit_and old (executable keeps)) (of_readers (staying old new))

min_one : (x : ℕ) → min 1 x ≡ 0 → x ≡ 0
min_one zero is = refl
min_one (suc x) is =
    let one : min 1 (suc x) ≡ 1 = min-eq_left (omega (arith)) in absurd (omega (arith, one, is))

executes_only : (keeps : Keeps) (i : ℕ) → bit_at 0o666 i ≡ 1 → bit_at (executable keeps) i ≡ 0
executes_only Permissions i is =
    min_one (bit_at 0o111 i) (subst (λ n. min n (bit_at 0o111 i) ≡ 0) is (sym (bit_at_and 0o666 0o111 i) ∙ bit_at-zero i))
executes_only NoExecution i is = bit_at-zero i

pub none_given : (keeps : Keeps) (old new i : ℕ) → bit_at 0o666 i ≡ 1
    → bit_at (mode_for keeps old new) i ≤ bit_at new i
none_given keeps old new i is =
    of_either (staying old new) (added keeps old new) i (bit_at new i) (of_both new _ i)
    (of_none (bit_at (added keeps old new) i) (bit_at (executable keeps) i) (bit_at new i)
    (then (bit_at (added keeps old new) i) (bit_at (bit_and old (executable keeps)) i) (bit_at (executable keeps) i)
    (of_both (bit_and old (executable keeps)) (of_readers (staying old new)) i) (of_second old (executable keeps) i))
    (executes_only keeps i is))

quarter : (n i : ℕ) → bit_at n (suc (suc i)) ≡ bit_at (n / 4) i
quarter n i = bit_at-suc n (suc i) ∙ bit_at-suc (n / 2) i ∙ ap (λ m. bit_at m i) (div-div-eq-div-mul n 2 2)

of_reader : (bits i : ℕ) → bit_at (of_readers bits) i ≤ bit_at bits (i + 2)
of_reader bits i =
    let at : suc (suc i) ≡ i + 2 = omega (arith) in
    subst (λ j. bit_at (of_readers bits) i ≤ bit_at bits j) at
    (subst (λ n. n ≤ bit_at bits (suc (suc i))) (quarter (bit_and bits 0o444) i) (of_both bits 0o444 (suc (suc i))))

pub readers_execute : (keeps : Keeps) (old new i : ℕ)
    → bit_at (mode_for keeps old new) i ≤ max (bit_at new i) (bit_at (mode_for keeps old new) (i + 2))
readers_execute keeps old new i =
    let stays = staying old new in
    let mode = mode_for keeps old new in
    let most : ℕ = max (bit_at new i) (bit_at mode (i + 2)) in
    of_either stays (added keeps old new) i most
    (then (bit_at stays i) (bit_at new i) most (of_both new (bit_or 0o700 (bit_and old 0o77)) i) (le-max_left (bit_at new i) (bit_at mode (i + 2))))
    (then (bit_at (added keeps old new) i) (bit_at (of_readers stays) i) most (of_second (bit_and old (executable keeps)) (of_readers stays) i)
    (then (bit_at (of_readers stays) i) (bit_at stays (i + 2)) most (of_reader stays i)
    (then (bit_at stays (i + 2)) (bit_at mode (i + 2)) most (of_first stays (added keeps old new) (i + 2)) (le-max_right (bit_at new i) (bit_at mode (i + 2))))))
