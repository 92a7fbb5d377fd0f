-- Members that are written one after the other.
use Rattle.std.specs.Prelude.{◌≡◌, List, ◌++◌}
use Rattle.std.proofs.Common.{ap, ◌∙◌}
use Rattle.std.proofs.lemmas.List.{append_assoc}
use Rattle.json.specs.Token.{Token}

-- Four lists that are appended in turn are appended at once.
pub four : (old a b c new w x y z : List Token) → a ≡ old ++ w → b ≡ a ++ x → c ≡ b ++ y → new ≡ c ++ z → new ≡ old ++ (w ++ x ++ y ++ z)
four old a b c new w x y z p q r s =
    s ∙ ap (λ k. k ++ z) (r ∙ ap (λ k. k ++ y) (q ∙ ap (λ k. k ++ x) p))
    ∙ ap (λ k. k ++ y ++ z) (append_assoc old w x)
    ∙ ap (λ k. k ++ z) (append_assoc old (w ++ x) y)
    ∙ append_assoc old (w ++ x ++ y) z
