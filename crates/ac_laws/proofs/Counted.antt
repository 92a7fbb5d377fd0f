-- The variables of the compiler are counted one by one.
use Rattle.std.proofs.Common.{◌≡◌, ℕ, ◌+◌, Bool, true, false, cond, List, [], ◌∷◌, length, refl, ap, ◌∙◌, arith}
use Rattle.std.specs.Prelude.{codes, bytes_eq, nat_le}
use Rattle.std.proofs.lemmas.List.{length-append}
use Rattle.deftable.specs.NameList.{with_name, has_name}
use Rattle.deftable.proofs.Names.{has_name-with_name, with_name-known, with_name-new}
use Rattle.ac_macros.specs.Searches.{growth}
use Rattle.ac_laws.specs.Room.{ToolsAreCounted}

length_with : (ns : List (List ℕ)) (n : List ℕ) → length (with_name ns n) ≡ length ns + growth ns n
length_with ns n = by (has_name ns n) refl
  where
    by : (b : Bool) → has_name ns n ≡ b → length (with_name ns n) ≡ length ns + cond b 0 1
    by true e = rw (with_name-known ns n e) (omega arith)
    by false e = rw (with_name-new ns n e) (length-append ns (n ∷ []))

-- Another name changes nothing.
same_growth : (ns : List (List ℕ)) (k q : List ℕ) → bytes_eq q k ≡ false
    → growth (with_name ns k) q ≡ growth ns q
same_growth ns k q e = ap (λ (b : Bool). cond b 0 1) (has_name-with_name ns k q ∙ rw e refl)

pub tools_are_counted : ToolsAreCounted
tools_are_counted c =
    let ns = c.substituted in
    let one = with_name ns (codes "CC") in
    let two = with_name one (codes "CFLAGS") in
    let three = with_name two (codes "LDFLAGS") in
    let four = with_name three (codes "LIBS") in
    let b = same_growth ns (codes "CC") (codes "CFLAGS") refl in
    let d =
    same_growth one (codes "CFLAGS") (codes "LDFLAGS") refl
    ∙ same_growth ns (codes "CC") (codes "LDFLAGS") refl in
    let l =
    same_growth two (codes "LDFLAGS") (codes "LIBS") refl
    ∙ same_growth one (codes "CFLAGS") (codes "LIBS") refl
    ∙ same_growth ns (codes "CC") (codes "LIBS") refl in
    let p =
    same_growth three (codes "LIBS") (codes "CPPFLAGS") refl
    ∙ same_growth two (codes "LDFLAGS") (codes "CPPFLAGS") refl
    ∙ same_growth one (codes "CFLAGS") (codes "CPPFLAGS") refl
    ∙ same_growth ns (codes "CC") (codes "CPPFLAGS") refl in
    ap (λ (n : ℕ). nat_le n 1024)
    (omega (
      arith,
      b,
      d,
      l,
      p,
      length_with ns (codes "CC"),
      length_with one
          (codes "CFLAGS"),
      length_with two (codes "LDFLAGS"),
      length_with three
          (codes "LIBS"),
      length_with four (codes "CPPFLAGS"),
    ))
