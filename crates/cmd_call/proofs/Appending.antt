-- Texts that are written one after the other.
use Rattle.std.proofs.Common.{◌≡◌, ℕ, List, ◌++◌, Option, Some, None, sym, ap, ◌∙◌, append_assoc}
use Rattle.std.specs.Io.KnownBytes.{Appends}

pub appends_more : (old mid new : Option (List ℕ)) (xs ys zs : List ℕ) → Appends old mid xs → Appends mid new ys → zs ≡ xs ++ ys → Appends old new zs
appends_more None mid new xs ys zs first second is = tt
appends_more (Some o) None new xs ys zs first second is = absurd first
appends_more (Some o) (Some m) None xs ys zs first second is = absurd second
appends_more (Some o) (Some m) (Some n) xs ys zs first second is =
    second ∙ ap (λ l. l ++ ys) first ∙ append_assoc o xs ys ∙ ap (λ l. o ++ l) (sym is)
