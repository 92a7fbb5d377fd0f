-- The front of what a reader has left.
use Rattle.std.specs.Prelude.{◌≡◌, ℕ, List, [], ◌++◌, take, Option, Some, None, option_map, IfSome}
use Rattle.std.proofs.Common.{sym, subst}

pub is_front : (n : ℕ) (known : Option (List ℕ)) (text : List ℕ)
    → IfSome (option_map (take n) known) (λ xs. text ≡ xs)
    → IfSome known (λ all. text ≡ take n all)
is_front n None text is = tt
is_front n (Some all) text is = is

-- the same, as a reader of so many bytes gives it
pub is_front_read : (n limit : ℕ) (known left : Option (List ℕ)) (start text : List ℕ) → limit ≡ n
    → left ≡ known → start ≡ []
    → IfSome (option_map (take limit) left) (λ xs. text ≡ start ++ xs)
    → IfSome known (λ all. text ≡ take n all)
is_front_read n limit known left start text limit_is left_is start_is is =
    let P : List ℕ → Type 0 = λ front. IfSome (option_map (take limit) left) (λ xs. text ≡ front ++ xs) in
    is_front n known text (rw (sym limit_is, sym left_is) (subst P start_is is))
