-- What is done to write a conftest is done to files that a run has for itself.
use Rattle.std.proofs.Common.{◌≡◌, ◌==◌, ◌&&◌, ◌||◌, ℕ, zero, suc, ◌+◌, ◌-◌, List, [], ◌∷◌, ◌++◌, length, take, drop, true, false, not, Bool, Option, Some, None, Result, Ok, Err, OnErr, OnOk, refl, sym, ap, subst, ◌∙◌, arith, append-nil, append_assoc, if◌then◌else◌, inl, inr}
use Rattle.std.specs.Prelude.{◌⊎◌, All, codes, nat_eq}
use Rattle.std.specs.List.{ends_with, list_any, starts_with}
use Rattle.std.proofs.Math.Seq.{take-append-add, take-append_seam}
use Rattle.std.proofs.lemmas.Bool.{and_parts, and_from}
use Rattle.std.proofs.lemmas.Bool.Decides.{Decides-eqb}
use Rattle.std.proofs.lemmas.List.Elements.{All-append, All-cons, All-head, All-nil, All-same, All-tail, All-take, All-weaker}
use Rattle.std.proofs.lemmas.List.Folds.{list_any-append}
use Rattle.std.proofs.lemmas.Slice.Eq.{starts_is}
use Rattle.file_disk.specs.Known.{Known, Deed, Adds, Does, Failed, Filled, Made, MadeDirectories, Removed, Renamed, kind_under, with_deeds}
use Rattle.file_disk.specs.Clearing.{DoesAll, clearing, clearing_now, filling}
use Rattle.file_disk.specs.declared.found.Found.{Found}
use Rattle.file_disk.specs.declared.found.Found.TheVariants as found
use Rattle.file_disk.proofs.Deeds.{adds_none, does, does_none, does_then}
use Rattle.crew_launch.specs.Fresh.{DoesFront, Prepares, PreparesAfter, after, breaking, clearing_each, clearing_stale, made_of, preparing, products_of, replacing, spoiling}
use Rattle.crew_launch.specs.Own.{AreOnOwn, AreOnStale, AreOwn, IsDeedOn, is_own}
use Rattle.crew_launch.proofs.Freeing.{does_map}

-- ---- deeds on files of one kind

-- What is removed of a name
on_clearing : (P : List ℕ → Type 0) (name : List ℕ) (f : Found) → P name → All (IsDeedOn P) (clearing name f)
on_clearing P name (found.File mode) is = All-cons (IsDeedOn P) (Removed name) [] is (All-nil (IsDeedOn P))
on_clearing P name found.Link is = All-cons (IsDeedOn P) (Removed name) [] is (All-nil (IsDeedOn P))
on_clearing P name found.Nothing is = All-nil (IsDeedOn P)
on_clearing P name found.Directory is = All-nil (IsDeedOn P)
on_clearing P name found.Special is = All-nil (IsDeedOn P)

-- and of each of several names
on_each : (P : List ℕ → Type 0) (names : List (List ℕ)) (k : Known) → All P names → All (IsDeedOn P) (clearing_each names k)
on_each P [] k are = All-nil (IsDeedOn P)
on_each P (name ∷ names) k are =
    All-append (IsDeedOn P) (clearing_now name k) (clearing_each names (with_deeds k (clearing_now name k)))
    (on_clearing P name (kind_under k name) (All-head P name names are))
    (on_each P names (with_deeds k (clearing_now name k)) (All-tail P name names are))

-- Two deeds
on_two : (P : List ℕ → Type 0) (d e : Deed) → IsDeedOn P d → IsDeedOn P e → All (IsDeedOn P) (d ∷ e ∷ [])
on_two P d e one two = All-cons (IsDeedOn P) d (e ∷ []) one (All-cons (IsDeedOn P) e [] two (All-nil (IsDeedOn P)))

-- The first of some deeds
on_front : (P : List ℕ → Type 0) (done rest all : List Deed) → done ++ rest ≡ all → All (IsDeedOn P) all → All (IsDeedOn P) done
on_front P done rest all is are =
    All-same (IsDeedOn P) done (take (length done) (done ++ rest)) (sym (take-append_seam done rest))
    (All-take (IsDeedOn P) (length done) (done ++ rest) (subst (All (IsDeedOn P)) (sym is) are))

-- ---- names that a run has for itself

not_true : (b : Bool) → not b ≡ true → b ≡ false
not_true true is = absurd cc
not_true false is = refl

or_none : (a b : Bool) → a ≡ false → b ≡ false → (a || b) ≡ false
or_none a b p q = ap (λ t. t || b) p ∙ q

or_first : (a b : Bool) → (a || b) ≡ false → a ≡ false
or_first true b is = is
or_first false b is = refl

or_rest : (a b : Bool) → (a || b) ≡ false → b ≡ false
or_rest true b is = absurd cc
or_rest false b is = is

-- A name of this front, and without a slash after it
pub own_front : (rest : List ℕ) → list_any (λ b. b == 47) rest ≡ false → is_own (codes "conftest" ++ rest) ≡ true
unfolding is_own
own_front rest none = ap not none

own_parts : (name : List ℕ) → is_own name ≡ true → (name ≡ codes "conftest" ++ drop 8 name) × (list_any (λ b. b == 47) name ≡ false)
unfolding is_own
own_parts name is =
    let parts = and_parts (starts_with ◌==◌ name (codes "conftest")) (not (list_any (λ b. b == 47) name)) is in
    ((starts_is Decides-eqb name (codes "conftest") (starts_with ◌==◌ name (codes "conftest")) refl).0 parts.0, not_true (list_any (λ b. b == 47) name) parts.1)

none_taken : (p : ℕ → Bool) (n : ℕ) (xs : List ℕ) → list_any p xs ≡ false → list_any p (take n xs) ≡ false
none_taken p zero xs none = refl
none_taken p (suc n) [] none = refl
none_taken p (suc n) (x ∷ xs) none = or_none (p x) (list_any p (take n xs)) (or_first (p x) (list_any p xs) none) (none_taken p n xs (or_rest (p x) (list_any p xs) none))

-- What a compiler makes for a program of such a name
own_made : (rest : List ℕ) → list_any (λ b. b == 47) rest ≡ false → All (λ name. is_own name ≡ true) (made_of (codes "conftest" ++ rest))
own_made rest none =
    let O : List ℕ → Type 0 = λ name. is_own name ≡ true in
    let object : list_any (λ b. b == 47) (rest ++ codes ".o") ≡ false = list_any-append (λ b. b == 47) rest (codes ".o") ∙ or_none (list_any (λ b. b == 47) rest) false none refl in
    All-cons O ((codes "conftest" ++ rest) ++ codes ".o") ((codes "conftest" ++ rest) ∷ [])
    (own_front (rest ++ codes ".o") object)
    (All-cons O (codes "conftest" ++ rest) [] (own_front rest none) (All-nil O))

-- and of the text in a file of such a name
own_ended : (rest : List ℕ) → list_any (λ b. b == 47) rest ≡ false → ends_with ◌==◌ (codes "conftest" ++ rest) (codes ".c") ≡ true
    → All (λ name. is_own name ≡ true) (made_of (take (length (codes "conftest" ++ rest) - 2) (codes "conftest" ++ rest)))
own_ended [] none ends = absurd cc
own_ended (x ∷ []) none ends = absurd cc
own_ended (x ∷ y ∷ rest) none ends =
    let m = length rest in
    let short : length (codes "conftest" ++ x ∷ y ∷ rest) - 2 ≡ length (codes "conftest") + m = omega arith in
    let same : take (length (codes "conftest" ++ x ∷ y ∷ rest) - 2) (codes "conftest" ++ x ∷ y ∷ rest) ≡ codes "conftest" ++ take m (x ∷ y ∷ rest)
    = ap (λ n. take n (codes "conftest" ++ x ∷ y ∷ rest)) short ∙ take-append-add (codes "conftest") (x ∷ y ∷ rest) m in
    subst (λ program. All (λ name. is_own name ≡ true) (made_of program)) (sym same)
    (own_made (take m (x ∷ y ∷ rest)) (none_taken (λ b. b == 47) m (x ∷ y ∷ rest) none))

own_either : (b : Bool) (program : List ℕ) → (b ≡ true → All (λ name. is_own name ≡ true) (made_of program)) → All (λ name. is_own name ≡ true) (if b then made_of program else [])
own_either true program made = made refl
own_either false program made = All-nil (λ name. is_own name ≡ true)

own_products : (name : List ℕ) → is_own name ≡ true → All (λ name. is_own name ≡ true) (products_of name)
unfolding products_of
own_products name is =
    let parts = own_parts name is in
    let rest = drop 8 name in
    let G : List ℕ → Type 0 = λ n. All (λ it. is_own it ≡ true) (if ends_with ◌==◌ n (codes ".c") then made_of (take (length n - 2) n) else []) in
    let none : list_any (λ b. b == 47) rest ≡ false = subst (λ n. list_any (λ b. b == 47) n ≡ false) parts.0 parts.1 in
    subst G (sym parts.0)
    (own_either (ends_with ◌==◌ (codes "conftest" ++ rest) (codes ".c")) (take (length (codes "conftest" ++ rest) - 2) (codes "conftest" ++ rest)) (own_ended rest none))

-- ---- a conftest

own_preparing : (name text : List ℕ) (k : Known) → is_own name ≡ true → All (IsDeedOn (λ n. is_own n ≡ true)) (preparing name text k)
own_preparing name text k is =
    let P : List ℕ → Type 0 = λ n. is_own n ≡ true in
    let first = clearing_each (products_of name) k in
    let second = clearing_now name (with_deeds k first) in
    All-append (IsDeedOn P) first (second ++ Made name ∷ Filled name None text ∷ [])
    (on_each P (products_of name) k (own_products name is))
    (All-append (IsDeedOn P) second (Made name ∷ Filled name None text ∷ [])
    (on_clearing P name (kind_under (with_deeds k first) name) is)
    (on_two P (Made name) (Filled name None text) is is))

own_breaking : (name : List ℕ) (k : Known) → is_own name ≡ true → All (IsDeedOn (λ n. is_own n ≡ true)) (breaking name k)
own_breaking name k is =
    let P : List ℕ → Type 0 = λ n. is_own n ≡ true in
    let first = clearing_each (products_of name) k in
    let second = clearing_now name (with_deeds k first) in
    All-append (IsDeedOn P) first (second ++ Made name ∷ Failed name ∷ [])
    (on_each P (products_of name) k (own_products name is))
    (All-append (IsDeedOn P) second (Made name ∷ Failed name ∷ [])
    (on_clearing P name (kind_under (with_deeds k first) name) is)
    (on_two P (Made name) (Failed name) is is))

-- of an answer, whether it is an error or not
pub own : {X E : Type 0} (r : Result X E) (a b : Option Known) (name text : List ℕ) → is_own name ≡ true → OnOk r (Does a b (Prepares name text)) → OnErr r (DoesFront a b (breaking name))
    → Does a b (λ k d. AreOnOwn d)
unfolding AreOnOwn
own (Ok x) a b name text is written spoilt =
    let P : List ℕ → Type 0 = λ n. is_own n ≡ true in
    does_map a b (Prepares name text) (λ k d. All (IsDeedOn P) d) written
    (λ k d p. All-same (IsDeedOn P) d (preparing name text k) p.0 (own_preparing name text k is))
own (Err e) a b name text is written spoilt =
    let P : List ℕ → Type 0 = λ n. is_own n ≡ true in
    does_map a b (λ k d. (rest : List Deed) × (d ++ rest ≡ breaking name k)) (λ k d. All (IsDeedOn P) d) spoilt
    (λ k d p. on_front P d p.0 (breaking name k) p.1 (own_breaking name k is))

-- Nothing is done.
pub own_none : (a : Option Known) → Does a a (λ k d. AreOnOwn d)
unfolding AreOnOwn
own_none a = does_none a (λ k d. All (IsDeedOn (λ n. is_own n ≡ true)) d) (λ k. All-nil (IsDeedOn (λ n. is_own n ≡ true)))

pub front_none : (a : Option Known) (f : Known → List Deed) → DoesFront a a f
front_none a f = does_none a (λ k d. (rest : List Deed) × (d ++ rest ≡ f k)) (λ k. (f k, refl))

-- ---- after the file that is stale is removed

stale_clearing : (P : List ℕ → Type 0) (stale : Option (List ℕ)) (k : Known) → ((name : List ℕ) → stale ≡ Some name → P name) → All (IsDeedOn P) (clearing_stale stale k)
stale_clearing P None k given = All-nil (IsDeedOn P)
stale_clearing P (Some name) k given = on_clearing P name (kind_under k name) (given name refl)

-- Deeds on files of one kind are deeds on files of another that has them.
on_weaker : (P Q : List ℕ → Type 0) → ((name : List ℕ) → P name → Q name) → (deed : Deed) → IsDeedOn P deed → IsDeedOn Q deed
on_weaker P Q f (MadeDirectories name) is = f name is
on_weaker P Q f (Made name) is = f name is
on_weaker P Q f (Filled name mode text) is = f name is
on_weaker P Q f (Failed name) is = f name is
on_weaker P Q f (Renamed from to) is = (f from is.0, f to is.1)
on_weaker P Q f (Removed name) is = f name is

pub own_after : (a b c : Option Known) (stale : Option (List ℕ)) → DoesAll a b (clearing_stale stale) → Does b c (λ k d. AreOnOwn d) → Does a c (λ k d. AreOwn stale d)
unfolding AreOnOwn AreOwn
own_after a b c stale cleared written =
    let O : List ℕ → Type 0 = λ n. is_own n ≡ true in
    let P : List ℕ → Type 0 = λ n. (is_own n ≡ true) ⊎ (stale ≡ Some n) in
    does_then a b c (λ k d. d ≡ clearing_stale stale k) (λ k d. All (IsDeedOn O) d) (λ k d. All (IsDeedOn P) d) cleared written
    (λ k d e is are. All-append (IsDeedOn P) d e
    (All-same (IsDeedOn P) d (clearing_stale stale k) is (stale_clearing P stale k (λ n same. inr same)))
    (All-weaker (IsDeedOn O) (IsDeedOn P) (on_weaker O P (λ n own. inl own)) e are))

-- The file that is stale is not removed.
pub own_kept : (a b : Option Known) (stale : Option (List ℕ)) → DoesAll a b (λ k. []) → Does a b (λ k d. AreOwn stale d)
unfolding AreOwn
own_kept a b stale kept =
    let P : List ℕ → Type 0 = λ n. (is_own n ≡ true) ⊎ (stale ≡ Some n) in
    does_map a b (λ k d. d ≡ []) (λ k d. All (IsDeedOn P) d) kept (λ k d is. All-same (IsDeedOn P) d [] is (All-nil (IsDeedOn P)))

-- All is done, and then nothing.
pub front_all : (a b c : Option Known) (f : Known → List Deed) → DoesAll a b f → Adds b c [] → DoesFront a c f
front_all a b c f all none =
    does_then a b c (λ k d. d ≡ f k) (λ k d. d ≡ []) (λ k d. (rest : List Deed) × (d ++ rest ≡ f k)) all (does b c [] (λ k d. d ≡ []) none (λ k. refl))
    (λ k d e is empty. ([], append_assoc d e [] ∙ ap (λ l. d ++ (l ++ [])) empty ∙ append-nil d ∙ is))

-- The file that is stale is removed, and nothing else is done.
pub stale_all : (a b : Option Known) (stale : Option (List ℕ)) → DoesAll a b (clearing_stale stale) → Does a b (λ k d. AreOnStale stale d)
unfolding AreOnStale
stale_all a b stale cleared =
    let P : List ℕ → Type 0 = λ n. stale ≡ Some n in
    does_map a b (λ k d. d ≡ clearing_stale stale k) (λ k d. All (IsDeedOn P) d) cleared
    (λ k d is. All-same (IsDeedOn P) d (clearing_stale stale k) is (stale_clearing P stale k (λ n same. same)))

pub stale_none : (a b : Option Known) (stale : Option (List ℕ)) → DoesAll a b (λ k. []) → Does a b (λ k d. AreOnStale stale d)
unfolding AreOnStale
stale_none a b stale kept =
    let P : List ℕ → Type 0 = λ n. stale ≡ Some n in
    does_map a b (λ k d. d ≡ []) (λ k d. All (IsDeedOn P) d) kept (λ k d is. All-same (IsDeedOn P) d [] is (All-nil (IsDeedOn P)))
