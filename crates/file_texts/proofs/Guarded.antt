-- One name more is guarded.
use Rattle.std.specs.Prelude.{All, bytes_eq}
use Rattle.std.specs.List.{list_any}
use Rattle.std.proofs.lemmas.List.Elements.{All-nil, All-cons, All-append}
use Rattle.std.proofs.lemmas.List.Folds.{list_any-append}
use Rattle.std.proofs.lemmas.Bool.{or_left, or_right}
use Rattle.std.proofs.lemmas.Slice.Eq.{bytes_eq-Decides}
use Rattle.std.proofs.Common.{◌≡◌, ℕ, Bool, true, false, List, [], ◌∷◌, ◌++◌, Option, IfSome, refl, sym, ap, subst, ◌∙◌}
use Rattle.file_disk.specs.Known.{Known}
use Rattle.file_texts.specs.Held.{Held, IsGuarded, GuardsMore, AreUnguarded, with_guards}
use Rattle.file_texts.specs.Places.{place_under, is_name_guarded}
use Rattle.file_texts.specs.declared.places.Guard.{Guard}
use Rattle.file_texts.specs.declared.places.FilePlace.{FilePlace}
use Rattle.output_put.specs.declared.artifact.Artifact.{Artifact}

pub guards_one : {D : Type 0} (known : D → Option Known) (old : Held D) (name path : List ℕ) (guard : Guard) (guards : List Guard)
    → path ≡ name → guard.name ≡ path
    → IfSome (known old.disk) (λ k. guard.place ≡ place_under k path)
    → guards ≡ old.guards ++ guard ∷ []
    → IsGuarded known old (with_guards old guards) name
guards_one known old name path guard guards same named there added =
    let one : List ℕ → List Guard = λ n. old.guards ++ record { name = n; place = guard.place } ∷ [] in
    record {
      place = guard.place;
      at = subst (λ n. IfSome (known old.disk) (λ k. guard.place ≡ place_under k n)) same there;
      guarded = ap (with_guards old) (added ∙ ap one (named ∙ same));
    }

-- It is guarded then.
pub is_guarded : (guards : List Guard) (name : List ℕ) (place : Option FilePlace) (new : List Guard)
    → new ≡ guards ++ record { name = name; place = place } ∷ []
    → is_name_guarded name new ≡ true
is_guarded guards name place new added =
    let test : Guard → Bool = λ guard. bytes_eq guard.name name in
    let one : Guard = record { name = name; place = place } in
    ap (list_any test) added ∙ list_any-append test guards (one ∷ []) ∙ or_right (list_any test guards) (list_any test (one ∷ [])) (or_left (bytes_eq name name) false ((bytes_eq-Decides name name).1 refl))

pub guards_all : {D : Type 0} (known : D → Option Known) (o old : Held D) (name path : List ℕ) (guard : Guard) (guards : List Guard)
    → old ≡ o → path ≡ name → guard.name ≡ path
    → IfSome (known old.disk) (λ k. guard.place ≡ place_under k path)
    → guards ≡ old.guards ++ guard ∷ []
    → IsGuarded known o (with_guards old guards) name × (is_name_guarded name guards ≡ true) × GuardsMore o (with_guards old guards)
guards_all known o old name path guard guards view same named there added =
    let new = with_guards old guards in
    let is = guards_one known old name path guard guards same named there added in (
      subst (λ q. IsGuarded known q new name) view is,
      is_guarded old.guards name is.place guards (ap (λ h. h.guards) is.guarded),
      subst (λ q. GuardsMore q new) view (record { name = name; place = is.place } ∷ [], is.guarded),
    )

-- No artifact has a guarded name, also after one more is taken.
pub none_yet : (guards : List Guard) (artifacts : List Artifact) → artifacts ≡ []
    → AreUnguarded guards artifacts
none_yet guards artifacts is = subst (λ a. AreUnguarded guards a) (sym is) (All-nil (λ a. is_name_guarded a.name guards ≡ false))

pub one_unguarded : (guards lent : List Guard) (artifacts new : List Artifact) (artifact : Artifact)
    → lent ≡ guards → new ≡ artifacts ++ artifact ∷ []
    → is_name_guarded artifact.name lent ≡ false
    → AreUnguarded guards artifacts → AreUnguarded guards new
one_unguarded guards lent artifacts new artifact same added free are =
    let P : Artifact → Type 0 = λ a. is_name_guarded a.name guards ≡ false in
    subst (All P) (sym added) (All-append P artifacts (artifact ∷ []) are (All-cons P artifact [] (subst (λ gs. is_name_guarded artifact.name gs ≡ false) same free) (All-nil P)))
