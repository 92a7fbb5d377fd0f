-- The output variables in a table, one after another.
use Rattle.std.proofs.Common.{◌≡◌, ℕ, List, [], ◌∷◌, ◌||◌, Bool, true, false, cond, Some, refl, sym, ap, ◌∙◌, fold}
use Rattle.std.specs.Prelude.{bytes_eq}
use Rattle.std.proofs.lemmas.Slice.Eq.{bytes_eq-Decides}
use Rattle.deftable.proofs.Names.{names_of-with_entry}
use Rattle.deftable.proofs.Tables.{value_of-with_entry, value_of-[]}
use Rattle.deftable.specs.NameList.{has_name, with_name}
use Rattle.deftable.specs.Table.{names_of, value_of, with_entry}
use Rattle.output_make.specs.Variables.{AreOutputVariables, output_names_of, output_value, with_variable}

names_of-fold : (vars : List (List ℕ × List ℕ)) (has_header : Bool) (es : List (List ℕ × List ℕ)) (ns : List (List ℕ))
    → names_of (fold (with_variable vars has_header) es ns) ≡ fold with_name (names_of es) ns
names_of-fold vars h es [] = refl
names_of-fold vars h es (n ∷ ns) =
    names_of-fold vars h (with_variable vars h es n) ns ∙ ap (λ t. fold with_name t ns) (names_of-with_entry es n (output_value vars h n))

-- The value of one more name, before those that come later.
later : {A : Type 0} (same later : Bool) (x y z : A) → (same ≡ true → y ≡ x) → cond later x (cond same y z) ≡ cond (same || later) x z
later true true x y z e = refl
later true false x y z e = e refl
later false true x y z e = refl
later false false x y z e = refl

value_of-fold : (vars : List (List ℕ × List ℕ)) (has_header : Bool) (es : List (List ℕ × List ℕ)) (ns : List (List ℕ)) (q : List ℕ)
    → value_of (fold (with_variable vars has_header) es ns) q ≡ cond (has_name ns q) (Some (output_value vars has_header q)) (value_of es q)
unfolding has_name
value_of-fold vars h es [] q = refl
value_of-fold vars h es (n ∷ ns) q =
    value_of-fold vars h (with_variable vars h es n) ns q
    ∙ ap (cond (has_name ns q) (Some (output_value vars h q))) (value_of-with_entry es n (output_value vars h n) q)
    ∙ later (bytes_eq q n) (has_name ns q) (Some (output_value vars h q)) (Some (output_value vars h n)) (value_of es q)
    (λ is. ap (λ name. Some (output_value vars h name)) (sym ((bytes_eq-Decides q n).0 is)))

pub AreOutputVariables-fold : (vars : List (List ℕ × List ℕ)) (has_header : Bool) (names : List (List ℕ)) → AreOutputVariables vars has_header names (fold (with_variable vars has_header) [] (output_names_of has_header names))
AreOutputVariables-fold vars h names = record {
  in_order = names_of-fold vars h [] (output_names_of h names);
  values = λ name. value_of-fold vars h [] (output_names_of h names) name ∙ ap (cond (has_name (output_names_of h names) name) (Some (output_value vars h name))) (value_of-[] name);
}
