-- Marks alone decide what precious variables are compared with.
use Rattle.std.proofs.Common.{◌≡◌, ℕ, ◌+◌, List, [], ◌∷◌, ◌++◌, Some, None, Ok, refl, ap, ◌∙◌}
use Rattle.std.specs.Prelude.{option_to_list, unwrap_or, if◌then◌else◌}
use Rattle.std.specs.Str.{bytes_eq}
use Rattle.cachefile.specs.Cache.{HaveSameMarks}
use Rattle.cachefile.specs.Name.{is_mark}
use Rattle.options.specs.Opening.{set_name, value_name}
use Rattle.options.specs.Precious.{old_value, value_or_empty, value_before, restored, change_of, restored_variable, restored_from}
use Rattle.options.specs.Reading.{◌>>=◌}

same_old : (a b : List (List ℕ × List ℕ)) (name : List ℕ) → HaveSameMarks a b → old_value a name ≡ old_value b name
unfolding old_value HaveSameMarks is_mark
same_old a b name same =
    ap (λ v. if bytes_eq (unwrap_or v []) [] then None else Some (value_or_empty a (value_name name))) (same (set_name name) refl)
    ∙ ap (λ v. if bytes_eq (value_or_empty b (set_name name)) [] then None else Some (unwrap_or v [])) (same (value_name name) refl)

pub same_found : (all : List (List ℕ)) (place : ℕ) (vars a b : List (List ℕ × List ℕ)) (names : List (List ℕ)) → HaveSameMarks a b
    → restored_from all place vars a names ≡ restored_from all place vars b names
unfolding restored_from restored_variable
same_found all place vars a b [] same = refl
same_found all place vars a b (name ∷ more) same =
    ap (λ old. (restored place old (value_before vars name) >>= λ back. Ok (change_of all name back)) >>= λ one. restored_from all (place + 1) vars a more >>= λ rest. Ok (option_to_list one ++ rest)) (same_old a b name same)
    ∙ ap (λ others. (restored place (old_value b name) (value_before vars name) >>= λ back. Ok (change_of all name back)) >>= λ one. others >>= λ rest. Ok (option_to_list one ++ rest)) (same_found all (place + 1) vars a b more same)
