-- What is put below a comment.
use Rattle.std.proofs.Common.{◌≡◌, ℕ, List, ◌∷◌, ◌++◌, Bool, true, false, Some, Result, Ok, Err, map, subst, sym, ap, ◌∙◌, append-nil}
use Rattle.std.specs.Prelude.{IfOk, IsTrue}
use Rattle.std.specs.List.{flat_map, list_all}
use Rattle.text_cut.specs.Cuts.{fields, parts, trimmed}
use Rattle.lint_macros.specs.Values.{unquoted}
use Rattle.port_idioms.specs.Rows.{Differs}
use Rattle.ac_calls.specs.Calls.{MacroCall}
use Rattle.port_spots.specs.Put.{IsNoted, arg_text, below, count_of, difference, each_of, each_word, is_space_or_return, noted, put_for, row_name, writes_each_word, written_as, written_with}
use Rattle.port_spots.specs.Put as specs
use Rattle.lint_macros.specs.Members.{takes_list}

pub noted_is : (text : List ℕ) (c : MacroCall) (it indent said name front out : List ℕ) (has_words is_list : Bool) (args : List (List ℕ))
    → put_for text c ≡ Some it → list_all is_space_or_return indent ≡ true → Differs (row_name text c) (count_of text c.args) said
    → name ≡ row_name text c → has_words ≡ writes_each_word name → is_list ≡ takes_list name → args ≡ map (arg_text text) c.args → front ≡ difference name said
    → out ≡ front ++ flat_map (below indent it) (written_as has_words is_list args) → IsNoted text c out
unfolding noted
noted_is text c it indent said name front out has_words is_list args puts spaces differs name_is words_are list_is args_is front_is out_is =
    let comment = difference (row_name text c) said in
    let words = writes_each_word (row_name text c) in
    let front_same : front ≡ comment = front_is ∙ ap (λ n. difference n said) name_is in
    let words_same : has_words ≡ words = words_are ∙ ap writes_each_word name_is in
    let list_same : is_list ≡ takes_list (row_name text c) = list_is ∙ ap takes_list name_is in
    subst (IsNoted text c)
    (sym (out_is ∙ ap (λ f. f ++ flat_map (below indent it) (written_as has_words is_list args)) front_same
    ∙ ap (λ w. comment ++ flat_map (below indent it) (written_as w is_list args)) words_same
    ∙ ap (λ l. comment ++ flat_map (below indent it) (written_as words l args)) list_same
    ∙ ap (λ a. comment ++ flat_map (below indent it) (written_as words (takes_list (row_name text c)) a)) args_is))
    (specs.IsNoted.idiom it indent said puts spaces differs)

-- An idiom that is written once.
pub once : {E : Type 0} (r : Result Bool E) (old new indent it : List ℕ) (is_list : Bool) (args : List (List ℕ)) → is_list ≡ false
    → IfOk r (λ b. IsTrue b → new ≡ old ++ below indent it args) → IfOk r (λ b. IsTrue b → new ≡ old ++ flat_map (below indent it) (written_with is_list args))
once (Ok b) old new indent it is_list args is put =
    λ yes_it. subst (λ l. new ≡ old ++ flat_map (below indent it) (written_with l args)) (sym is) (put yes_it ∙ ap (λ t. old ++ t) (sym (append-nil (below indent it args))))
once (Err e) old new indent it is_list args is put = tt

-- An idiom that is written with each name of a list.
pub listed : {E : Type 0} (r : Result Bool E) (old new indent it text list : List ℕ) (names more : List (List ℕ)) → text ≡ unquoted (trimmed list) → names ≡ parts 44 text
    → IfOk r (λ b. IsTrue b → new ≡ old ++ flat_map (below indent it) (map (λ name. name ∷ more) names))
    → IfOk r (λ b. IsTrue b → new ≡ old ++ flat_map (below indent it) (each_of (list ∷ more)))
listed r old new indent it text list names more text_is names_is put =
    subst (λ ns. IfOk r (λ b. IsTrue b → new ≡ old ++ flat_map (below indent it) (map (λ name. name ∷ more) ns))) (names_is ∙ ap (parts 44) text_is) put

-- An idiom that is written with each word of a list.
pub worded : {E : Type 0} (r : Result Bool E) (old new indent it text list : List ℕ) (names more : List (List ℕ)) → text ≡ unquoted (trimmed list) → names ≡ fields text
    → IfOk r (λ b. IsTrue b → new ≡ old ++ flat_map (below indent it) (map (λ name. name ∷ more) names))
    → IfOk r (λ b. IsTrue b → new ≡ old ++ flat_map (below indent it) (each_word (list ∷ more)))
worded r old new indent it text list names more text_is names_is put =
    subst (λ ns. IfOk r (λ b. IsTrue b → new ≡ old ++ flat_map (below indent it) (map (λ name. name ∷ more) ns))) (names_is ∙ ap fields text_is) put
