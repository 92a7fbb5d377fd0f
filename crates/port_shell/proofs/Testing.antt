-- What is known of conditions, and of the calls that ask for files.
use Rattle.std.proofs.Common.{◌≡◌, ℕ, ◌<◌, List, [], ◌∷◌, ◌++◌, length, slice_range, sym, subst, ap, ◌∙◌, map, get_or, Result, Option}
use Rattle.std.specs.Prelude.{Contains, IfOk, IfSome, codes}
use Rattle.std.proofs.lemmas.List.{get_or-map, length-map}
use Rattle.std.proofs.lemmas.List.Elements.{Contains-get_or}
use Rattle.ac_calls.specs.declared.call.CallAt.{CallAt}
use Rattle.ac_calls.specs.Calls.{MacroCall, macro_call_of}
use Rattle.port_compounds.specs.Guards.{IsGuarded}
use Rattle.port_joints.specs.Files.{program_of}
use Rattle.port_put.specs.Calls.{IsPut}
use Rattle.port_shell.specs.Formed.{IsListTest, Asks, lacking}

-- The arguments of a call that asks.
pub asks_for : {V E : Type 0} (items : V → List ℕ) (r : Result (Option V) E) (letter : ℕ) (path name program found lacks none : List ℕ)
    → program ≡ program_of letter path → found ≡ name ++ codes "=yes" → lacks ≡ lacking name → none ≡ name ++ codes "=no"
    → IfOk r (λ o. IfSome o (λ v. IsPut (codes "AC_RUN_IFELSE") (program ∷ found ∷ lacks ∷ none ∷ []) (items v))) → IfOk r (λ o. IfSome o (λ v. Asks letter path name (items v)))
asks_for items r letter path name program found lacks none program_is found_is lacks_is none_is is =
    subst (λ p. IfOk r (λ o. IfSome o (λ v. IsPut (codes "AC_RUN_IFELSE") (p ∷ (name ++ codes "=yes") ∷ lacking name ∷ (name ++ codes "=no") ∷ []) (items v)))) program_is
    (subst (λ f. IfOk r (λ o. IfSome o (λ v. IsPut (codes "AC_RUN_IFELSE") (program ∷ f ∷ lacking name ∷ (name ++ codes "=no") ∷ []) (items v)))) found_is
    (subst (λ l. IfOk r (λ o. IfSome o (λ v. IsPut (codes "AC_RUN_IFELSE") (program ∷ found ∷ l ∷ (name ++ codes "=no") ∷ []) (items v)))) lacks_is
    (subst (λ n. IfOk r (λ o. IfSome o (λ v. IsPut (codes "AC_RUN_IFELSE") (program ∷ found ∷ lacks ∷ n ∷ []) (items v)))) none_is is)))

-- The call of an index is one of the calls.
pub has_call : (calls : List CallAt) (all : List MacroCall) (i : ℕ) (c : CallAt) → map macro_call_of calls ≡ all → i < length calls → c ≡ get_or calls i c → Contains all (macro_call_of c)
has_call calls all i c is lt here =
    let within : i < length (map macro_call_of calls) = subst (λ n. i < n) (sym (length-map calls macro_call_of)) lt in
    let found : get_or (map macro_call_of calls) i (macro_call_of c) ≡ macro_call_of c = get_or-map macro_call_of calls i c (macro_call_of c) lt ∙ ap macro_call_of (sym here) in
    subst (λ l. Contains l (macro_call_of c)) is (subst (Contains (map macro_call_of calls)) found (Contains-get_or (map macro_call_of calls) i (macro_call_of c) within))

-- A statement at this offset, whose first part is between these offsets.
pub list_test : (text first : List ℕ) (rest : List (List ℕ)) (cut_start end start from to : ℕ) → IsGuarded text cut_start end (first ∷ rest) → cut_start ≡ start → start ≡ from
    → first ≡ slice_range text from to → IsListTest text start from to
list_test text first rest cut_start end start from to is here begins same =
    record { end = end; rest = rest; begins = begins; is = subst (λ s. IsGuarded text s end (slice_range text from to ∷ rest)) here (subst (λ p. IsGuarded text cut_start end (p ∷ rest)) same is) }

-- The parts of a statement with a first one.
pub first_part : {V : Type 0} (view : V → List ℕ) (text : List ℕ) (start end : ℕ) (parts rest : List V) (first : V) → parts ≡ first ∷ rest → IsGuarded text start end (map view parts)
    → IsGuarded text start end (view first ∷ map view rest)
first_part view text start end parts rest first split is = subst (λ p. IsGuarded text start end (map view p)) split is
