-- What is handed over depends on variables by their values alone.
use Rattle.std.proofs.Common.{◌≡◌, ℕ, Bool, true, false, cond, ◌&&◌, ◌==◌, not, T, List, [], ◌∷◌, ◌++◌, Option, Some, None, length, filter, refl, sym, ap, ◌∙◌, subst, Ordering, Less, Equal, Greater}
use Rattle.std.specs.Prelude.{fold, bytes_eq, codes, unwrap_or, if◌then◌else◌}
use Rattle.std.specs.List.{IsDistinct, AllByRecursion}
use Rattle.std.specs.BTreeMap.{insert_entry}
use Rattle.std.specs.FinMap.{slice_cmp-IsAntisymmetric, nat_cmp-IsAntisymmetric}
use Rattle.std.specs.FinMap.Entries.{by_order, put, find, is_sorted, below_all, is_sorted-put, same_entries}
use Rattle.std.specs.Ordering.{nat_cmp, match_ordering, is_eq, is_lt}
use Rattle.std.specs.Cmp.Lexicographic.{slice_cmp, nat_list_cmp_total}
use Rattle.std.proofs.Math.Path.{fun_ext}
use Rattle.std.proofs.lemmas.Map.Text.{is_eq-slice_cmp}
use Rattle.cachefile.specs.Text.{is_saved, saved_value, in_order, saved_entries, lines_for, cache_text_of}
use Rattle.cachefile.proofs.Texts.{values_saved}
use Rattle.cachefile.proofs.Orders.{Entries}
use Rattle.deftable.specs.Table.{value_of, with_entry, names_of, HasDistinctNames}
use Rattle.engine_frame.specs.Handing.{cache_artifacts, completed_artifacts, run_record, artifacts_of}
use Rattle.engine_frame.specs.declared.report.Outcome.{Outcome}
use Rattle.engine_frame.specs.declared.report.Outcome.TheVariants.{Completed, Stopped, CutShort, Shown}
use Rattle.output_make.specs.Making.{record_of_run}
use Rattle.output_make.specs.Variables.{output_names_of, output_value, output_variables}
use Rattle.output_put.specs.declared.artifact.Artifact.{Artifact}
use Rattle.output_put.specs.declared.artifact.Kind.TheVariants.{Cache}
use Rattle.status_record.specs.declared.record.Record.{Record}
use Rattle.ac_tree.specs.Lists.{lists_of}
use Rattle.ac_tree.specs.Script.{Script}

-- ---- the saved entries are sorted, and have distinct names

abbrev order : List ℕ → List ℕ → Ordering
order x y = slice_cmp nat_cmp x y

put_by : (o : Ordering) (a b c d : Entries) → c ≡ d → match_ordering o a b c ≡ by_order o a b d
put_by Less a b c d e = refl
put_by Equal a b c d e = refl
put_by Greater a b c d e = e

puts : (es : Entries) (k v : List ℕ) → insert_entry order es k v ≡ put order k v es
puts [] k v = refl
puts (e ∷ es) k v = put_by (order k e.0) ((k, v) ∷ e ∷ es) ((e.0, v) ∷ es) (e ∷ insert_entry order es k v) (e ∷ put order k v es) (ap (λ x. e ∷ x) (puts es k v))

in_order_sorted : (es : Entries) → T (is_sorted order (in_order es))
in_order_sorted [] = tt
in_order_sorted (e ∷ es) =
    subst (λ x. T (is_sorted order x)) (sym (puts (in_order es) e.0 e.1)) (is_sorted-put order nat_list_cmp_total e.0 e.1 (in_order es) (in_order_sorted es))

both : (a b : Bool) → T (a && b) → T a × T b
both true b h = (tt, h)
both false b h = absurd h

less_apart : (o : Ordering) → T (is_lt o) → is_eq o ≡ false
less_apart Less h = refl
less_apart Equal h = absurd h
less_apart Greater h = refl

below_apart : (x : List ℕ) (es : Entries) → T (below_all order x es) → AllByRecursion (λ y. bytes_eq x y ≡ false) (names_of es)
below_apart x [] h = tt
below_apart x (e ∷ es) h =
    let p = both (is_lt (order x e.0)) (below_all order x es) h in
    (sym (is_eq-slice_cmp x e.0) ∙ less_apart (order x e.0) p.0, below_apart x es p.1)

sorted_distinct : (es : Entries) → T (is_sorted order es) → HasDistinctNames es
unfolding IsDistinct
sorted_distinct [] h = tt
sorted_distinct (e ∷ es) h =
    let p = both (below_all order e.0 es) (is_sorted order es) h in
    (below_apart e.0 es p.0, sorted_distinct es p.1)

saved_sorted : (vars : Entries) → T (is_sorted order (saved_entries vars))
saved_sorted vars = in_order_sorted (filter is_saved vars)

pub saved_distinct : (vars : Entries) → HasDistinctNames (saved_entries vars)
saved_distinct vars = sorted_distinct (saved_entries vars) (saved_sorted vars)

-- ---- equal values

abbrev Alike : Entries → Entries → Type 0
Alike xs ys = (name : List ℕ) → value_of xs name ≡ value_of ys name

finds : (es : Entries) (q : List ℕ) → find order q es ≡ value_of es q
unfolding value_of
finds [] q = refl
finds (e ∷ es) q = ap (λ b. cond b (Some e.1) (find order q es)) (is_eq-slice_cmp q e.0) ∙ ap (cond (bytes_eq q e.0) (Some e.1)) (finds es q)

same_saved : (xs ys : Entries) → HasDistinctNames xs → HasDistinctNames ys → Alike xs ys → saved_entries xs ≡ saved_entries ys
same_saved xs ys dx dy h =
    same_entries order nat_list_cmp_total (slice_cmp-IsAntisymmetric nat_cmp-IsAntisymmetric) (saved_entries xs) (saved_entries ys) (saved_sorted xs) (saved_sorted ys)
    (λ q. finds (saved_entries xs) q ∙ values_saved xs q dx ∙ ap (saved_value q) (h q) ∙ sym (values_saved ys q dy) ∙ sym (finds (saved_entries ys) q))

pub same_text : (xs ys : Entries) → HasDistinctNames xs → HasDistinctNames ys → Alike xs ys → cache_text_of xs ≡ cache_text_of ys
same_text xs ys dx dy h = ap (λ es. codes "# config.cache of configure\n" ++ lines_for es) (same_saved xs ys dx dy h)

same_outputs : (xs ys : Entries) (has_header : Bool) (names : List (List ℕ)) → Alike xs ys → output_variables xs has_header names ≡ output_variables ys has_header names
unfolding output_variables output_value
same_outputs xs ys has_header names h =
    let table : (List ℕ → Option (List ℕ)) → Entries = λ f. fold (λ es name. with_entry es name (if has_header && bytes_eq name (codes "DEFS") then codes "-DHAVE_CONFIG_H" else unwrap_or (f name) [])) [] (output_names_of has_header names) in
    ap table (fun_ext h)

pub same_record : (script : Script) (srcdir : List ℕ) (args : List (List ℕ)) (xs ys defs : Entries) → Alike xs ys → run_record script srcdir args xs defs ≡ run_record script srcdir args ys defs
unfolding record_of_run
same_record script srcdir args xs ys defs h =
    let lists = lists_of script in
    let made : Entries → Record = λ vars. record { srcdir = srcdir; args = Some args; vars = vars; defs = defs; files = lists.files; headers = lists.headers } in
    ap made (same_outputs xs ys (not (length lists.headers == 0)) lists.substituted h)

same_cache : (name : Option (List ℕ)) (xs ys : Entries) → cache_text_of xs ≡ cache_text_of ys → cache_artifacts name xs ≡ cache_artifacts name ys
same_cache None xs ys e = refl
same_cache (Some name) xs ys e =
    let artifact : List ℕ → List Artifact = λ text. record { kind = Cache; name = name; text = text } ∷ [] in
    ap artifact e

pub same_artifacts : (name : Option (List ℕ)) (no_create : Bool) (templates : Entries) (outcome : Outcome) (xs ys : Entries) (r s : Record) → cache_text_of xs ≡ cache_text_of ys → r ≡ s
    → artifacts_of name no_create templates outcome xs r ≡ artifacts_of name no_create templates outcome ys s
unfolding artifacts_of
same_artifacts name no_create templates Completed xs ys r s e h =
    ap (λ c. c ++ completed_artifacts no_create templates r) (same_cache name xs ys e) ∙ ap (λ x. cache_artifacts name ys ++ completed_artifacts no_create templates x) h
same_artifacts name no_create templates (Stopped status) xs ys r s e h = same_cache name xs ys e
same_artifacts name no_create templates (CutShort number) xs ys r s e h = same_cache name xs ys e
same_artifacts name no_create templates Shown xs ys r s e h = same_cache name xs ys e
