-- Texts that are read one after the other.
use Rattle.std.proofs.Common.{◌≡◌, ℕ, zero, suc, ◌+◌, List, [], ◌∷◌, ◌++◌, drop, Option, Some, None, append_assoc, append-nil, refl, sym, ap, ◌∙◌, arith}
use Rattle.std.specs.Prelude.{IfSome, slice_get}
use Rattle.cmd_call.specs.Given.{Given, as_list, cut, entry_of, listed}
use Rattle.cmd_call.specs.declared.process.Listed.{Listed}

or_nothing : List ℕ → Option (List ℕ) → List ℕ
or_nothing d None = d
or_nothing d (Some x) = x

same : (x y : List ℕ) → Some x ≡ Some y → x ≡ y
unfolding or_nothing
same x y is = ap (or_nothing []) is

-- the text at a place is the first from there on
first_at : (xs : List (List ℕ)) (i : ℕ) (x : List ℕ) → slice_get xs i ≡ Some x → drop i xs ≡ x ∷ drop (i + 1) xs
first_at [] i x is = absurd (cc is)
first_at (y ∷ ys) zero x is = ap (λ z. z ∷ ys) (same y x is)
first_at (y ∷ ys) (suc i) x is =
    let more : suc (i + 1) ≡ suc i + 1 = omega arith in
    first_at ys i x is ∙ ap (λ n. x ∷ drop n (y ∷ ys)) more

-- from a place without a text on there is none
none_at : (xs : List (List ℕ)) (i : ℕ) → slice_get xs i ≡ None → drop i xs ≡ []
none_at [] zero is = refl
none_at [] (suc i) is = refl
none_at (y ∷ ys) zero is = absurd (cc is)
none_at (y ∷ ys) (suc i) is = none_at ys i is

one_more : (texts xs rest : List (List ℕ)) (i : ℕ) (x : List ℕ) → texts ++ drop i xs ≡ rest → slice_get xs i ≡ Some x → (texts ++ x ∷ []) ++ drop (i + 1) xs ≡ rest
one_more texts xs rest i x so is = append_assoc texts (x ∷ []) (drop (i + 1) xs) ∙ ap (λ ys. texts ++ ys) (sym (first_at xs i x is)) ∙ so

no_more : (texts xs rest : List (List ℕ)) (i : ℕ) → texts ++ drop i xs ≡ rest → slice_get xs i ≡ None → texts ≡ rest
no_more texts xs rest i so is = sym (append-nil texts) ∙ ap (λ ys. texts ++ ys) (sym (none_at xs i is)) ∙ so

-- the same of lists that are perhaps known
pub next_text : (known : Option Given) (list : Listed) (texts : List (List ℕ)) (first i : ℕ) (x : List ℕ)
    → IfSome known (λ g. texts ++ drop i (listed list g) ≡ drop first (listed list g)) → IfSome known (λ g. slice_get (listed list g) i ≡ Some x)
    → IfSome known (λ g. (texts ++ x ∷ []) ++ drop (i + 1) (listed list g) ≡ drop first (listed list g))
next_text None list texts first i x so is = so
next_text (Some g) list texts first i x so is = one_more texts (listed list g) (drop first (listed list g)) i x so is

pub last_text : (known : Option Given) (list : Listed) (texts : List (List ℕ)) (first i : ℕ)
    → IfSome known (λ g. texts ++ drop i (listed list g) ≡ drop first (listed list g)) → IfSome known (λ g. slice_get (listed list g) i ≡ None)
    → IfSome known (λ g. texts ≡ drop first (listed list g))
last_text None list texts first i so is = so
last_text (Some g) list texts first i so is = no_more texts (listed list g) (drop first (listed list g)) i so is

-- an entry that has no name is left out
pub no_entry : (entries : List (List ℕ × List ℕ)) (text : List ℕ) → None ≡ cut text → entries ≡ entries ++ entry_of text
unfolding entry_of
no_entry entries text is = sym (append-nil entries) ∙ ap (λ c. entries ++ as_list c) is

-- one that has a name is added
pub one_entry : (entries more : List (List ℕ × List ℕ)) (text name value : List ℕ) → Some (name, value) ≡ cut text → more ≡ entries ++ (name, value) ∷ [] → more ≡ entries ++ entry_of text
unfolding entry_of
one_entry entries more text name value is so = so ∙ ap (λ c. entries ++ as_list c) is
