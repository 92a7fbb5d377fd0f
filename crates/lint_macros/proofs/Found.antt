-- What is known of the first record about a name.
use Rattle.std.proofs.Common.{◌≡◌, ℕ, Bool, true, false, List, [], ◌∷◌, Option, Some, None, option_map, Result, Ok, Err, IfOk, All, IfSome, IfNone, cond, refl, sym, subst}
use Rattle.std.proofs.lemmas.List.Elements.{All-nil, All-cons}
use Rattle.text_cut.specs.Cuts.{parts}
use Rattle.lint_macros.specs.declared.entry.MacroEntry.{MacroEntry}
use Rattle.lint_macros.specs.declared.entry.MacroKind.{MacroKind}
use Rattle.lint_macros.specs.Entries.{Said, said, Read, read_in, names, is_about, first_name, said_with, said_of, said_about, or_later, first_about}

pick : (b : Bool) (n : List ℕ) (o : Option (List ℕ)) (P : List ℕ → Type 0) → (b ≡ true → P n) → IfSome o P → IfSome (cond b (Some n) o) P
pick true n o P holds rest = holds refl
pick false n o P holds rest = rest

first_name-is : (kind : MacroKind) (name : List ℕ) (ns : List (List ℕ)) → IfSome (first_name kind name ns) (λ n. names kind n name ≡ true)
first_name-is kind name [] = tt
first_name-is kind name (n ∷ more) =
    pick (names kind n name) n (first_name kind name more) (λ n. names kind n name ≡ true) (λ is. is) (first_name-is kind name more)

said_with-is : (name : List ℕ) (r : Read) (o : Option (List ℕ)) → IfSome o (λ n. names r.kind n name ≡ true) → IfSome (said_with r o) (λ e. is_about name e ≡ true)
said_with-is name r (Some n) is = is
said_with-is name r None is = tt

said_of-is : (name : List ℕ) (o : Option Read) → IfSome (said_of name o) (λ e. is_about name e ≡ true)
said_of-is name None = tt
said_of-is name (Some r) = said_with-is name r (first_name r.kind name (parts 32 r.names)) (first_name-is r.kind name (parts 32 r.names))

later : (P : Said → Type 0) (o p : Option Said) → IfSome o P → IfSome p P → IfSome (or_later o p) P
later P (Some e) p first rest = first
later P None p first rest = rest

first_about-is : (name : List ℕ) (rs : List (List ℕ)) → IfSome (first_about name rs) (λ e. is_about name e ≡ true)
first_about-is name [] = tt
first_about-is name (r ∷ more) = later (λ e. is_about name e ≡ true) (said_about name r) (first_about name more) (said_of-is name (read_in r)) (first_about-is name more)

both : (name : List ℕ) (r : List ℕ) (more : List (List ℕ)) (o p : Option Said) → o ≡ said_about name r
    → IfNone p (All (λ r. said_about name r ≡ None) more) → IfNone (or_later o p) (All (λ r. said_about name r ≡ None) (r ∷ more))
both name r more (Some e) p is all = tt
both name r more None (Some e) is all = tt
both name r more None None is all = All-cons (λ r. said_about name r ≡ None) r more (sym is) all

first_about-none : (name : List ℕ) (rs : List (List ℕ)) → IfNone (first_about name rs) (All (λ r. said_about name r ≡ None) rs)
first_about-none name [] = All-nil (λ r. said_about name r ≡ None)
first_about-none name (r ∷ more) = both name r more (said_about name r) (first_about name more) refl (first_about-none name more)

some_is : (P : Said → Type 0) (found : Option MacroEntry) → IfSome (option_map said found) P → IfSome found (λ e. P (said e))
some_is P (Some e) holds = holds
some_is P None holds = tt

none_is : (P : Type 0) (found : Option MacroEntry) → IfNone (option_map said found) P → IfNone found P
none_is P (Some e) holds = tt
none_is P None holds = holds

found_about : (name : List ℕ) (rs : List (List ℕ)) (found : Option MacroEntry) → option_map said found ≡ first_about name rs
    → IfSome found (λ e. is_about name (said e) ≡ true)
found_about name rs found is =
    some_is (λ e. is_about name e ≡ true) found (subst (λ o. IfSome o (λ e. is_about name e ≡ true)) (sym is) (first_about-is name rs))

found_none : (name : List ℕ) (rs : List (List ℕ)) (found : Option MacroEntry) → option_map said found ≡ first_about name rs
    → IfNone found (All (λ r. said_about name r ≡ None) rs)
found_none name rs found is =
    none_is (All (λ r. said_about name r ≡ None) rs) found (subst (λ o. IfNone o (All (λ r. said_about name r ≡ None) rs)) (sym is) (first_about-none name rs))

-- the entry that is found is about the name
pub about : {E : Type 0} (name : List ℕ) (rs all : List (List ℕ)) (r : Result (Option MacroEntry) E) → rs ≡ all
    → IfOk r (λ found. option_map said found ≡ first_about name rs) → IfOk r (λ found. IfSome found (λ e. is_about name (said e) ≡ true))
about name rs all (Ok found) same is = found_about name rs found is
about name rs all (Err e) same is = tt

-- if none is found, no record is about the name
pub none : {E : Type 0} (name : List ℕ) (rs all : List (List ℕ)) (r : Result (Option MacroEntry) E) → rs ≡ all
    → IfOk r (λ found. option_map said found ≡ first_about name rs) → IfOk r (λ found. IfNone found (All (λ r. said_about name r ≡ None) all))
none name rs all (Ok found) same is = subst (λ rs. IfNone found (All (λ r. said_about name r ≡ None) rs)) same (found_none name rs found is)
none name rs all (Err e) same is = tt
