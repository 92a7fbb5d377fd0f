-- The pieces before the first star of a pattern, and the bytes before the first `?` of a group.
use Rattle.std.proofs.Common.{◌≡◌, ℕ, zero, suc, ◌+◌, ◌<◌, ◌≤◌, false, List, [], ◌∷◌, ◌++◌, length, take, drop, map, refl, ap, ◌∙◌, arith}
use Rattle.std.specs.List.{list_any}
use Rattle.shellword.specs.declared.pattern.Piece.{Piece}
use Rattle.shellword.specs.declared.pattern.Piece.TheVariants.{AnyBytes, OneByte, Byte}
use Rattle.shell_case.specs.Parts.{is_one_byte, byte_of, group_len, byte_count}
use Rattle.shell_case.proofs.Groups.{IsGroup}

pub group_within : (pieces : List Piece) → group_len pieces ≤ length pieces
group_within [] = omega arith
group_within (AnyBytes ∷ ps) = omega arith
group_within (OneByte ∷ ps) = omega (arith, group_within ps)
group_within (Byte b ∷ ps) = omega (arith, group_within ps)

pub front_is_group : (pieces : List Piece) → IsGroup (take (group_len pieces) pieces)
front_is_group [] = refl
front_is_group (AnyBytes ∷ ps) = refl
front_is_group (OneByte ∷ ps) = front_is_group ps
front_is_group (Byte b ∷ ps) = front_is_group ps

-- After the group is a star, if the pattern doesn't end there.
pub star_after : (pieces : List Piece) → group_len pieces < length pieces
    → pieces ≡ take (group_len pieces) pieces ++ AnyBytes ∷ drop (group_len pieces + 1) pieces
star_after [] h = absurd (omega arith)
star_after (AnyBytes ∷ ps) h = refl
star_after (OneByte ∷ ps) h =
    let n = group_len ps in
    let e : suc (n + 1) ≡ suc n + 1 = omega arith in
    ap (λ (qs : List Piece). OneByte ∷ qs) (star_after ps (omega (arith, h)))
    ∙ ap (λ (k : ℕ). OneByte ∷ (take n ps ++ AnyBytes ∷ drop k (OneByte ∷ ps))) e
star_after (Byte b ∷ ps) h =
    let n = group_len ps in
    let e : suc (n + 1) ≡ suc n + 1 = omega arith in
    ap (λ (qs : List Piece). Byte b ∷ qs) (star_after ps (omega (arith, h)))
    ∙ ap (λ (k : ℕ). Byte b ∷ (take n ps ++ AnyBytes ∷ drop k (Byte b ∷ ps))) e

-- ---- the bytes of a group

pub bytes_within : (pieces : List Piece) → byte_count pieces ≤ length pieces
bytes_within [] = omega arith
bytes_within (AnyBytes ∷ ps) = omega arith
bytes_within (OneByte ∷ ps) = omega arith
bytes_within (Byte b ∷ ps) = omega (arith, bytes_within ps)

pub bytes_front : (pieces : List Piece) → take (byte_count pieces) pieces ≡ map Byte (map byte_of (take (byte_count pieces) pieces))
bytes_front [] = refl
bytes_front (AnyBytes ∷ ps) = refl
bytes_front (OneByte ∷ ps) = refl
bytes_front (Byte b ∷ ps) = ap (λ (qs : List Piece). Byte b ∷ qs) (bytes_front ps)

-- After these bytes is a `?`, if the group doesn't end there.
pub one_byte_after : (pieces : List Piece) → IsGroup pieces → byte_count pieces < length pieces
    → take (byte_count pieces + 1) pieces ≡ take (byte_count pieces) pieces ++ OneByte ∷ []
one_byte_after [] g h = absurd (omega arith)
one_byte_after (AnyBytes ∷ ps) g h = absurd cc
one_byte_after (OneByte ∷ ps) g h = refl
one_byte_after (Byte b ∷ ps) g h =
    let n = byte_count ps in
    let e : suc n + 1 ≡ suc (n + 1) = omega arith in
    ap (λ (k : ℕ). take k (Byte b ∷ ps)) e ∙ ap (λ (qs : List Piece). Byte b ∷ qs) (one_byte_after ps g (omega (arith, h)))

pub all_bytes : (pieces : List Piece) → IsGroup pieces → list_any is_one_byte pieces ≡ false → pieces ≡ map Byte (map byte_of pieces)
all_bytes [] g h = refl
all_bytes (AnyBytes ∷ ps) g h = absurd cc
all_bytes (OneByte ∷ ps) g h = absurd cc
all_bytes (Byte b ∷ ps) g h = ap (λ (qs : List Piece). Byte b ∷ qs) (all_bytes ps g h)

pub group_drop : (n : ℕ) (pieces : List Piece) → IsGroup pieces → IsGroup (drop n pieces)
group_drop zero ps g = g
group_drop (suc n) [] g = g
group_drop (suc n) (AnyBytes ∷ ps) g = absurd cc
group_drop (suc n) (OneByte ∷ ps) g = group_drop n ps g
group_drop (suc n) (Byte b ∷ ps) g = group_drop n ps g
