-- The turns of the loops over items and over arguments.
use Rattle.std.proofs.Common.{◌≡◌, ℕ, ◌+◌, ◌<◌, Bool, cond, List, [], ◌∷◌, ◌++◌, length, drop, get_or, map, sym, ap, subst, ◌∙◌}
use Rattle.std.specs.Prelude.{All}
use Rattle.std.proofs.lemmas.List.{drop_more, append_assoc}
use Rattle.std.proofs.lemmas.List.Elements.{All-nil, All-cons, All-get_or, All-head, All-tail}
use Rattle.m4quote.specs.declared.item.Arg.{Arg}
use Rattle.m4quote.specs.declared.item.Item.{Item}
use Rattle.m4quote.specs.ItemValue.{span, view, views}
use Rattle.ac_calls.specs.Calls.{MacroCall, Bodies, IsItemPlaced, ArePlaced, in_args}

unmapped : (items : List Item) → ArePlaced (views items) → All (λ x. IsItemPlaced (view x)) items
unmapped [] all = All-nil (λ x. IsItemPlaced (view x))
unmapped (item ∷ items) all =
    All-cons (λ x. IsItemPlaced (view x)) item items (All-head IsItemPlaced (view item) (views items) all) (unmapped items (All-tail IsItemPlaced (view item) (views items) all))

-- an item of placed items is placed
pub placed_at : (items : List Item) (i : ℕ) (item : Item) → i < length items → item ≡ get_or items i item → ArePlaced (views items) → IsItemPlaced (view item)
placed_at items i item inside is all = subst (λ x. IsItemPlaced (view x)) (sym is) (All-get_or (λ x. IsItemPlaced (view x)) items i item inside (unmapped items all))

args_step : (bodies : Bodies) (holds : ℕ → Bool) (i : ℕ) (args : List Arg) (arg : Arg) → i < length args → arg ≡ get_or args i arg
    → in_args bodies holds i (map span (drop i args)) ≡ cond (holds i) (bodies (span arg)) [] ++ in_args bodies holds (i + 1) (map span (drop (i + 1) args))
args_step bodies holds i args arg inside is =
    ap (λ xs. in_args bodies holds i (map span xs)) (drop_more args i arg inside)
    ∙ ap (λ a. cond (holds i) (bodies (span a)) [] ++ in_args bodies holds (i + 1) (map span (drop (i + 1) args))) (sym is)

-- a turn of the loop over arguments
pub args_turn : (bodies : Bodies) (holds : ℕ → Bool) (i : ℕ) (args : List Arg) (arg : Arg) (h : Bool) (old new whole : List MacroCall) → i < length args → arg ≡ get_or args i arg → h ≡ holds i
    → new ≡ old ++ cond h (bodies (span arg)) [] → old ++ in_args bodies holds i (map span (drop i args)) ≡ whole
    → new ++ in_args bodies holds (i + 1) (map span (drop (i + 1) args)) ≡ whole
args_turn bodies holds i args arg h old new whole inside is same made before =
    let later = in_args bodies holds (i + 1) (map span (drop (i + 1) args)) in
    ap (λ t. t ++ later) (made ∙ ap (λ t. old ++ cond t (bodies (span arg)) []) same)
    ∙ append_assoc old (cond (holds i) (bodies (span arg)) []) later
    ∙ ap (λ t. old ++ t) (sym (args_step bodies holds i args arg inside is))
    ∙ before
