-- The directories of a path.
use Rattle.std.proofs.Common.{◌≡◌, ℕ, zero, suc, ◌+◌, ◌-◌, ◌≤◌, ◌==◌, true, cond, List, [], ◌∷◌, length, map, take, get_or, Bor, refl, sym, ap, ◌∙◌, subst, arith}
use Rattle.std.proofs.lemmas.List.{length-map, take-map}
use Rattle.text_cut.specs.Cuts.{parts}
use Rattle.meaning.specs.Directories.{ends_empty, without_last_empty, directory_of, directories_of}

-- The last part.
pub last_at : (xs : List (Bor (List ℕ))) (d : Bor (List ℕ)) (i : ℕ) → i + 1 ≡ length xs → (length (get_or xs i d).now == 0) ≡ ends_empty (map (λ part. part.now) xs)
last_at [] d i e = absurd (omega arith)
last_at (x ∷ []) d zero e = refl
last_at (x ∷ []) d (suc i) e = absurd (omega arith)
last_at (x ∷ y ∷ xs) d zero e = absurd (omega arith)
last_at (x ∷ y ∷ xs) d (suc i) e = last_at (y ∷ xs) d i (omega arith)

pub without_last : (xs : List (Bor (List ℕ))) (n : ℕ) → n ≡ length xs - 1 → ends_empty (map (λ part. part.now) xs) ≡ true → map (λ part. part.now) (take n xs) ≡ without_last_empty (map (λ part. part.now) xs)
without_last xs n is empty =
    let ys = map (λ part. part.now) xs in
    let same : n ≡ length ys - 1 = omega (arith, is, length-map xs (λ part. part.now)) in
    sym (take-map (λ part. part.now) n xs) ∙ ap (λ k. take k ys) same ∙ sym (ap (λ b. cond b (take (length ys - 1) ys) ys) empty)

pub directories_are : (found : List (List ℕ)) (tried all kept : List (Bor (List ℕ))) (path : List ℕ) → found ≡ map directory_of (map (λ part. part.now) tried)
    → tried ≡ take 65536 kept → map (λ part. part.now) kept ≡ without_last_empty (map (λ part. part.now) all) → map (λ part. part.now) all ≡ parts 58 path
    → found ≡ directories_of path
unfolding directories_of
directories_are found tried all kept path is few left cut =
    is ∙ ap (λ l. map directory_of (map (λ part. part.now) l)) few ∙ ap (map directory_of) (sym (take-map (λ part. part.now) 65536 kept))
    ∙ ap (λ l. map directory_of (take 65536 l)) (left ∙ ap without_last_empty cut)

take_few : {A : Type 0} (n : ℕ) (l : List A) → length (take n l) ≤ n
take_few zero l = omega arith
take_few (suc n) [] = omega arith
take_few (suc n) (x ∷ l) = omega (arith, take_few n l)

pub few_directories : (path : List ℕ) → length (directories_of path) ≤ 65536
unfolding directories_of
few_directories path =
    let l = without_last_empty (parts 58 path) in
    subst (λ k. k ≤ 65536) (sym (length-map (take 65536 l) directory_of)) (take_few 65536 l)
