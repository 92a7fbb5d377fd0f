-- Names that are guarded, one after the other.
use Rattle.std.proofs.Common.{◌≡◌, ℕ, ◌+◌, ◌<◌, ◌≤◌, Result, Ok, Err, OnOk, List, [], ◌∷◌, ◌++◌, Option, refl, sym, subst, ap, ◌∙◌, length, take, get_or}
use Rattle.std.specs.Prelude.{All, IfSome, codes, map}
use Rattle.std.specs.List.{Contains}
use Rattle.std.proofs.lemmas.List.{take_all, take_more}
use Rattle.std.proofs.lemmas.List.Elements.{All-nil, All-cons, All-push, Contains-append_left, Contains-push}
use Rattle.file_disk.specs.Known.{Known}
use Rattle.file_texts.specs.Held.{Held, GuardsMore, IsGuarded}
use Rattle.file_texts.specs.Names.{IsFileName}
use Rattle.file_texts.specs.Places.{place_under}
use Rattle.file_texts.specs.declared.places.Guard.{Guard}
use Rattle.file_texts.specs.declared.places.FilePlace.{FilePlace}
use Rattle.cmd_call.specs.Guarded.{AreGuarded, HasGuard, IsGuardedNow, inputs_of, paths_of}
use Rattle.cmd_call.specs.Supplies.{path_of}

-- A name that was just guarded.
pub guarded_now : {D : Type 0} (known : D → Option Known) (old new : Held D) (name : List ℕ)
    → (IsFileName name → IsGuarded known old new name) → IsGuardedNow known new name
guarded_now known old new name h = λ file.
    let is = h file in
    let same : old.disk ≡ new.disk = sym (ap (λ o. o.disk) is.guarded) in
    record {
      place = is.place;
      at = subst (λ d. IfSome (known d) (λ k. is.place ≡ place_under k name)) same is.at;
      guarded = subst (λ gs. Contains gs (record { name = name; place = is.place })) (sym (ap (λ o. o.guards) is.guarded))
          (Contains-push old.guards (record { name = name; place = is.place }));
    }

-- The same under the name that was made for it.
pub guarded_at : {D : Type 0} (known : D → Option Known) (old new : Held D) (made name : List ℕ) → made ≡ name
    → (IsFileName made → IsGuarded known old new made) → IsGuardedNow known new name
guarded_at known old new made name is h = subst (λ n. IsGuardedNow known new n) is (guarded_now known old new made h)

-- It stays guarded.
still_one : {D : Type 0} (known : D → Option Known) (a b : Held D) (name : List ℕ) → GuardsMore a b
    → HasGuard (known a.disk) a.guards name → HasGuard (known b.disk) b.guards name
still_one known a b name more h =
    let same : a.disk ≡ b.disk = sym (ap (λ o. o.disk) more.1) in
    record {
      place = h.place;
      at = subst (λ d. IfSome (known d) (λ k. h.place ≡ place_under k name)) same h.at;
      guarded = subst (λ gs. Contains gs (record { name = name; place = h.place })) (sym (ap (λ o. o.guards) more.1))
          (Contains-append_left a.guards more.0 (record { name = name; place = h.place }) h.guarded);
    }

pub still_now : {D : Type 0} (known : D → Option Known) (a b : Held D) (name : List ℕ) → GuardsMore a b
    → IsGuardedNow known a name → IsGuardedNow known b name
still_now known a b name more h = λ file. still_one known a b name more (h file)

pub still_guarded : {D : Type 0} (known : D → Option Known) (a b : Held D) (names : List (List ℕ)) → GuardsMore a b
    → AreGuarded (known a.disk) a.guards names → AreGuarded (known b.disk) b.guards names
unfolding AreGuarded
still_guarded known a b names more h = λ k d lt. still_now known a b _ more (h k d lt)

-- One name more, before the others.
pub first_guarded : {D : Type 0} (known : D → Option Known) (o : Held D) (name : List ℕ) (names : List (List ℕ))
    → IsGuardedNow known o name → AreGuarded (known o.disk) o.guards names → AreGuarded (known o.disk) o.guards (name ∷ names)
unfolding AreGuarded
first_guarded known o name names one h = All-cons (λ n. IsFileName n → HasGuard (known o.disk) o.guards n) name names one h

pub none_guarded : (files : Option Known) (guards : List Guard) → AreGuarded files guards []
unfolding AreGuarded
none_guarded files guards = All-nil (λ n. IsFileName n → HasGuard files guards n)

paths_more : (srcdir : List ℕ) (xs : List (List ℕ × List ℕ)) (x : List ℕ × List ℕ) → paths_of srcdir (xs ++ x ∷ []) ≡ paths_of srcdir xs ++ path_of srcdir x.0 ∷ []
paths_more srcdir [] x = refl
paths_more srcdir (y ∷ ys) x = ap (λ l. path_of srcdir y.0 ∷ l) (paths_more srcdir ys x)

-- The templates up to the next one.
pub next_guarded : {D : Type 0} (known : D → Option Known) (o : Held D) (srcdir : List ℕ) (templates : List (List ℕ × List ℕ)) (i : ℕ) (template : List ℕ × List ℕ)
    → i < length templates → template ≡ get_or templates i template
    → AreGuarded (known o.disk) o.guards (paths_of srcdir (take i templates)) → IsGuardedNow known o (path_of srcdir template.0)
    → AreGuarded (known o.disk) o.guards (paths_of srcdir (take (i + 1) templates))
unfolding AreGuarded
next_guarded known o srcdir templates i template lt at h one =
    let same : take (i + 1) templates ≡ take i templates ++ template ∷ [] = take_more templates i template lt ∙ ap (λ t. take i templates ++ t ∷ []) (sym at) in
    subst (λ names. AreGuarded (known o.disk) o.guards names) (sym (ap (paths_of srcdir) same ∙ paths_more srcdir (take i templates) template))
    (All-push (λ n. IsFileName n → HasGuard (known o.disk) o.guards n) (paths_of srcdir (take i templates)) (path_of srcdir template.0) h one)

pub all_guarded : {D : Type 0} (known : D → Option Known) (o : Held D) (srcdir : List ℕ) (templates : List (List ℕ × List ℕ)) (i : ℕ) → length templates ≤ i
    → AreGuarded (known o.disk) o.guards (paths_of srcdir (take i templates)) → AreGuarded (known o.disk) o.guards (paths_of srcdir templates)
all_guarded known o srcdir templates i past h = subst (λ ts. AreGuarded (known o.disk) o.guards (paths_of srcdir ts)) (take_all i templates past) h

-- The log, the source and the templates, one after the other.
pub inputs_guarded : {D A E : Type 0} (known : D → Option Known) (r : Result A E) (one two three four : Held D) (name srcdir : List ℕ) (templates : List (List ℕ × List ℕ)) → name ≡ codes "config.log"
    → (IsFileName name → IsGuarded known one two name) → GuardsMore two three → IsGuardedNow known three (path_of srcdir (codes "configure.ac")) → GuardsMore three four
    → OnOk r (AreGuarded (known four.disk) four.guards (paths_of srcdir templates)) → OnOk r (AreGuarded (known four.disk) four.guards (inputs_of srcdir templates))
inputs_guarded known (Err e) one two three four name srcdir templates is log more source further h = tt
inputs_guarded known (Ok x) one two three four name srcdir templates is log more source further h =
    first_guarded known four (codes "config.log") (path_of srcdir (codes "configure.ac") ∷ paths_of srcdir templates) (still_now known three four _ further (still_now known two three _ more (guarded_at known one two name _ is log)))
    (first_guarded known four (path_of srcdir (codes "configure.ac")) (paths_of srcdir templates) (still_now known three four _ further source) h)
