-- By which steps a text is written.
use Rattle.std.proofs.Common.{◌≡◌, ◌⊎◌, ℕ, List, [], ◌∷◌, ◌++◌, Option, Some, None, IfSome, Result, Ok, Err, OnOk, OnErr, inl, inr, refl, sym, ap, subst, ◌∙◌, append-nil, bit_and, bit_or}
use Rattle.file_disk.specs.Known.{Known, Deed, Made, Filled, Failed, Renamed, Removed, Adds, Does, kind_under, mode_under, with_deeds}
use Rattle.file_disk.specs.Clearing.{DoesAll, clearing_now, filling}
use Rattle.file_disk.specs.declared.found.Found.{Found}
use Rattle.file_disk.specs.declared.found.Found.TheVariants as found
use Rattle.file_disk.proofs.Deeds.{with_none, adds_then, does, does_none, does_then}
use Rattle.file_texts.specs.Names.{temporary}
use Rattle.file_texts.specs.Steps.{executable, staying, of_readers, mode_for, writing, new_mode, IsMode, of_file, of_link, of_nothing, IsOld, old_file, old_link, no_old, IsModeFor, IsWritten, written, IsUnnamed, empty, cut, whole, IsDropped, removed, left, IsUndone, nothing, dropped, IsReplaced, replaced, IsBegun, unseen, cleared_only, torn}
use Rattle.file_texts.specs.declared.writing.Keeps.{Keeps}

-- What holds of an answer that is right.
pub ok_then : {X E A B : Type 0} (r : Result X E) → OnOk r A → (A → B) → OnOk r B
ok_then (Ok x) a f = f a
ok_then (Err e) a f = tt

-- What holds of an error.
pub err_then : {X E A B : Type 0} (r : Result X E) → OnErr r A → (A → B) → OnErr r B
err_then (Ok x) a f = tt
err_then (Err e) a f = f a

pub on_err : {X E A : Type 0} (r : Result X E) → A → OnErr r A
on_err (Ok x) a = tt
on_err (Err e) a = a

-- What a new file has once a step failed.
pub tried_none : (a : Option Known) (other : List ℕ) → Does a a (λ _ d. IsUnnamed other d)
tried_none a other = does_none a (λ _ d. IsUnnamed other d) (λ _. empty)

pub tried_fill : (a b : Option Known) (other : List ℕ) → Adds a b (Failed other ∷ [])
    → Does a b (λ _ d. IsUnnamed other d)
tried_fill a b other failed = does a b (Failed other ∷ []) (λ _ d. IsUnnamed other d) failed (λ _. cut)

pub tried_name : (a b c : Option Known) (other : List ℕ) (mode : Option ℕ) (text : List ℕ)
    → Adds a b (Filled other mode text ∷ []) → Adds b c []
    → Does a c (λ _ d. IsUnnamed other d)
tried_name a b c other mode text filled none =
    does a c (Filled other mode text ∷ []) (λ _ d. IsUnnamed other d)
    (adds_then a b c (Filled other mode text ∷ []) [] filled none) (λ _. whole mode text)

-- A new file that did not get its name was removed, or could not be removed.
pub dropped_if : {E : Type 0} (r : Result (Unit {0}) E) (a b c : Option Known) (other : List ℕ)
    → Does a b (λ _ d. IsUnnamed other d) → OnOk r (Adds b c (Removed other ∷ []))
    → OnErr r (Adds b c []) → Does a c (λ _ d. IsDropped other d)
dropped_if (Ok u) a b c other tried gone kept =
    does_then a b c (λ _ d. IsUnnamed other d) (λ _ e. e ≡ Removed other ∷ []) (λ _ d. IsDropped other d) tried
    (does b c (Removed other ∷ []) (λ _ e. e ≡ Removed other ∷ []) gone (λ _. refl))
    (λ k d e u is. subst (λ l. IsDropped other (d ++ l)) (sym is) (removed d u))
dropped_if (Err f) a b c other tried gone kept =
    does_then a b c (λ _ d. IsUnnamed other d) (λ _ e. e ≡ []) (λ _ d. IsDropped other d) tried
    (does b c [] (λ _ e. e ≡ []) kept (λ _. refl))
    (λ k d e u is. subst (λ l. IsDropped other (d ++ l)) (sym is) (subst (λ l. IsDropped other l) (sym (append-nil d)) (left d u)))

pub undone : (a b c : Option Known) (name : List ℕ) (n : ℕ) (other : List ℕ)
    → other ≡ temporary name n → Adds a b (Made (temporary name n) ∷ [])
    → Does b c (λ _ d. IsDropped other d) → Does a c (λ _ deeds. IsUndone name deeds)
undone a b c name n other is made drops =
    let new : List Deed = Made (temporary name n) ∷ [] in
    does_then a b c (λ _ d. d ≡ new) (λ _ d. IsDropped other d) (λ _ d. IsUndone name d)
    (does a b new (λ _ d. d ≡ new) made (λ _. refl)) drops
    (λ k d e d_is u. subst (λ l. IsUndone name (l ++ e)) (sym d_is) (dropped n e (subst (λ o. IsDropped o e) is u)))

pub nothing_undone : (a : Option Known) (name : List ℕ) → Does a a (λ _ deeds. IsUndone name deeds)
nothing_undone a name = does_none a (λ _ deeds. IsUndone name deeds) (λ k. nothing)

-- What is free after nothing was done was free before.
free_before : (a b : Option Known) (name other : List ℕ) → Adds a b [] → name ≡ other
    → IfSome b (λ k. kind_under k name ≡ found.Nothing)
    → IfSome a (λ k. kind_under k other ≡ found.Nothing)
free_before None b name other none is free = tt
free_before (Some a) None name other none is free = absurd none
free_before (Some a) (Some b) name other none is free =
    subst (λ o. kind_under a o ≡ found.Nothing) is (subst (λ k. kind_under k name ≡ found.Nothing) (none ∙ sym (with_none a)) free)

-- What is said of a new file's permission bits once it is made, said of the files before.
mode_before : (a b : Option Known) (keeps : Keeps) (old : Option ℕ) (mode : Option ℕ) (t other : List ℕ)
    → other ≡ t → Adds a b (Made t ∷ [])
    → IfSome b (λ k. IsModeFor keeps (mode_under k other) old mode)
    → IfSome a (λ k. IsModeFor keeps (new_mode k t) old mode)
mode_before None b keeps old mode t other is made for = tt
mode_before (Some a) None keeps old mode t other is made for = absurd made
mode_before (Some a) (Some b) keeps old mode t other is made for =
    subst (λ o. IsModeFor keeps (new_mode a o) old mode) is
    (subst (λ k. IsModeFor keeps (mode_under k other) old mode) (made ∙ ap (λ o. with_deeds a (Made o ∷ [])) (sym is)) for)

-- A file that was made, filled and renamed.
pub done : (a b c : Option Known) (keeps : Keeps) (old : Option ℕ) (name : List ℕ) (n : ℕ) (text other : List ℕ)
    → other ≡ temporary name n
    → Adds a b (Made (temporary name n) ∷ [])
    → IfSome a (λ k. kind_under k (temporary name n) ≡ found.Nothing)
    → (mode : Option ℕ) × IfSome b (λ k. IsModeFor keeps (mode_under k other) old mode) × Adds b c (Filled other mode text ∷ Renamed other name ∷ [])
    → (m : ℕ) × (mode : Option ℕ) × IfSome a (λ k. kind_under k (temporary name m) ≡ found.Nothing) × IfSome a (λ k. IsModeFor keeps (new_mode k (temporary name m)) old mode) × Adds a c (writing name mode text m)
done a b c keeps old name n text other is made free w =
    let t = temporary name n in
    let mode : Option ℕ = w.0 in
    let filled : Adds b c (Filled t mode text ∷ Renamed t name ∷ []) = subst (λ o. Adds b c (Filled o mode text ∷ Renamed o name ∷ [])) is w.2 in
    (n, mode, free, mode_before a b keeps old mode t other is made w.1, adds_then a b c (Made t ∷ []) (Filled t mode text ∷ Renamed t name ∷ []) made filled)

-- A new file was made where there was nothing, after other names were tried.
pub made_beside : (a b c : Option Known) (n : ℕ) (name other : List ℕ) → other ≡ temporary name n
    → Adds a b [] → IfSome b (λ k. kind_under k other ≡ found.Nothing) → Adds b c (Made other ∷ [])
    → (m : ℕ) × (other ≡ temporary name m) × IfSome a (λ k. kind_under k (temporary name m) ≡ found.Nothing) × Adds a c (Made (temporary name m) ∷ [])
made_beside a b c n name other is none free made = (
  n,
  is,
  free_before a b other (temporary name n) none is free,
  subst (λ o. Adds a c (Made o ∷ [])) is (adds_then a b c [] (Made other ∷ []) none made),
)

pub nothing_done : (a b : Option Known) (name : List ℕ) → Adds a b []
    → Does a b (λ _ deeds. IsUndone name deeds)
nothing_done a b name none = does a b [] (λ _ deeds. IsUndone name deeds) none (λ k. nothing)

-- A text was written, with permission bits for what was there.
pub is_written : (a b : Option Known) (keeps : Keeps) (name text : List ℕ) (old : Option ℕ) (seen : Found) → IfSome a (λ k. seen ≡ kind_under k name) → IsOld seen old
    → (n : ℕ) × (mode : Option ℕ) × IfSome a (λ k. kind_under k (temporary name n) ≡ found.Nothing) × IfSome a (λ k. IsModeFor keeps (new_mode k (temporary name n)) old mode) × Adds a b (writing name mode text n)
    → Does a b (λ k deeds. IsWritten k keeps name text deeds)
is_written None None keeps name text old seen is is_old w = tt
is_written None (Some b) keeps name text old seen is is_old w = absurd w.4
is_written (Some a) None keeps name text old seen is is_old w = absurd w.4
is_written (Some a) (Some b) keeps name text old seen is is_old w =
    (writing name w.1 text w.0, w.4, written w.0 w.1 w.2 (subst (λ f. IsMode keeps (new_mode a (temporary name w.0)) f w.1) is (w.3 seen is_old)))

-- The permission bits of a new file in the place of an old one.
pub mode_of_file : (keeps : Keeps) (old new bits : ℕ) → bits ≡ executable keeps
    → IsModeFor keeps (Some new) (Some old) (Some (bit_or (staying old new) (bit_and (bit_and old bits) (of_readers (staying old new)))))
mode_of_file keeps old new bits is _ (old_file _) = rw is (of_file old new refl)

pub no_mode : (keeps : Keeps) (made : Option ℕ) → IsModeFor keeps made None None
no_mode keeps made _ old_link = of_link
no_mode keeps made _ no_old = of_nothing

pub none_kept : (known : Option Known) (keeps : Keeps) (old : Option ℕ) (other : List ℕ) → old ≡ None
    → IfSome known (λ k. IsModeFor keeps (mode_under k other) old None)
none_kept None keeps old other is = tt
none_kept (Some k) keeps old other is = rw is (no_mode keeps (mode_under k other))

-- A new file that is not in the place of another.
pub made_anew : (a b c : Option Known) (name text : List ℕ) → DoesAll a b (clearing_now name)
    → DoesAll b c (filling name text) → Does a c (λ k d. IsReplaced k name text d)
made_anew a b c name text cleared made =
    does_then a b c (λ k d. d ≡ clearing_now name k) (λ k e. e ≡ filling name text k) (λ k d. IsReplaced k name text d) cleared made
    (λ k d e d_is e_is. subst (λ l. IsReplaced k name text (l ++ e)) (sym d_is) (subst (λ l. IsReplaced k name text (clearing_now name k ++ l)) (sym e_is) replaced))

pub begun_anew : (a b c : Option Known) (name : List ℕ) → DoesAll a b (clearing_now name)
    → (Adds b c [] ⊎ Adds b c (Made name ∷ Failed name ∷ [])) → Does a c (λ k d. IsBegun k name d)
begun_anew a b c name cleared (inl none) =
    does_then a b c (λ k d. d ≡ clearing_now name k) (λ _ e. e ≡ []) (λ k d. IsBegun k name d) cleared (does b c [] (λ _ e. e ≡ []) none (λ _. refl))
    (λ k d e d_is e_is. subst (λ l. IsBegun k name (d ++ l)) (sym e_is) (subst (λ l. IsBegun k name l) (sym (append-nil d)) (subst (λ l. IsBegun k name l) (sym d_is) cleared_only)))
begun_anew a b c name cleared (inr made) =
    let new = Made name ∷ Failed name ∷ [] in
    does_then a b c (λ k d. d ≡ clearing_now name k) (λ _ e. e ≡ new) (λ k d. IsBegun k name d) cleared (does b c new (λ _ e. e ≡ new) made (λ _. refl))
    (λ k d e d_is e_is. subst (λ l. IsBegun k name (d ++ l)) (sym e_is) (subst (λ l. IsBegun k name (l ++ new)) (sym d_is) torn))

-- What is under the name was not said, so nothing was done.
pub unseen_begun : (a b : Option Known) (name : List ℕ) → Adds a b []
    → Does a b (λ k d. IsBegun k name d)
unseen_begun a b name none = does a b [] (λ k d. IsBegun k name d) none (λ k. unseen)

pub not_begun : (a : Option Known) (name : List ℕ) → Does a a (λ k d. IsBegun k name d)
not_begun a name = does_none a (λ k d. IsBegun k name d) (λ k. unseen)
