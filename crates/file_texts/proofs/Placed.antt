-- The steps of a put.
use Rattle.std.proofs.Common.{◌≡◌, ℕ, Bool, true, false, List, [], ◌++◌, Option, Some, None, IfSome, refl, sym, ap, subst, append-nil}
use Rattle.file_disk.specs.Known.{Known, Deed, Adds, Does, with_deeds}
use Rattle.file_disk.proofs.Deeds.{does, does_none, does_then, does_more}
use Rattle.file_texts.specs.Keeping.{IsStepped, IsUnstepped, before, after, made_for}
use Rattle.file_texts.specs.Places.{IsAdded, ArePlaced, alone, both}
use Rattle.file_texts.specs.Steps.{IsWritten, IsUndone, nothing}
use Rattle.file_texts.specs.declared.lines.Saying.{Saying}
use Rattle.file_texts.specs.declared.places.Guard.{Guard}
use Rattle.file_texts.specs.declared.places.FilePlace.{FilePlace}
use Rattle.file_texts.specs.declared.writing.Keeps.{Keeps}

-- Directories were made, places were added, and then a text was written.
pub stepped_on : (a b c : Option Known) (guards : List Guard) (places new_places : List FilePlace) (saying : Saying) (keeps : Keeps) (name file text : List ℕ)
    → Adds a b (made_for saying name)
    → IfSome b (λ k. ArePlaced k guards places new_places name file)
    → Does b c (λ k d. IsWritten k keeps file text d)
    → Does a c (λ k d. IsStepped k guards places new_places saying false keeps name file text d)
stepped_on a b c guards places new_places saying keeps name file text made placed written =
    let new = made_for saying name in
    let At : Known → Type 0 = λ k. ArePlaced k guards places new_places name file in
    let Q : Known → List Deed → Type 0 = λ k d. At k × IsWritten k keeps file text d in
    does_then a b c (λ _ d. d ≡ new) Q (λ k d. IsStepped k guards places new_places saying false keeps name file text d)
    (does a b new (λ _ d. d ≡ new) made (λ _. refl)) (does_more b c At (λ k d. IsWritten k keeps file text d) Q placed written (λ k d x w. (x, w)))
    (λ k d e d_is w. record {
      rest = e;
      parts = ap (λ l. l ++ e) d_is;
      placed = subst (λ l. At (with_deeds k l)) d_is w.0;
      fills = subst (λ l. IsWritten (with_deeds k l) keeps file text e) d_is w.1;
    })

-- Directories were made, places were added, and the file was left as it was.
pub stepped_over : (a b : Option Known) (guards : List Guard) (places new_places : List FilePlace) (saying : Saying) (keeps : Keeps) (name file text : List ℕ)
    → Adds a b (made_for saying name)
    → IfSome b (λ k. ArePlaced k guards places new_places name file)
    → Does a b (λ k d. IsStepped k guards places new_places saying true keeps name file text d)
stepped_over None None guards places new_places saying keeps name file text made placed = tt
stepped_over None (Some b) guards places new_places saying keeps name file text made placed = absurd made
stepped_over (Some a) None guards places new_places saying keeps name file text made placed = absurd made
stepped_over (Some a) (Some b) guards places new_places saying keeps name file text made placed = (
  made_for saying name,
  made,
  record {
    rest = [];
    parts = sym (append-nil (made_for saying name));
    placed = subst (λ k. ArePlaced k guards places new_places name file) made placed;
    fills = refl;
  },
)

-- The same, whether the file was left as it was or not.
pub stepped_if_left : (a b : Option Known) (guards : List Guard) (places new_places : List FilePlace) (saying : Saying) (left : Bool) (keeps : Keeps) (name file text : List ℕ)
    → left ≡ true → Adds a b (made_for saying name)
    → IfSome b (λ k. ArePlaced k guards places new_places name file)
    → Does a b (λ k d. IsStepped k guards places new_places saying left keeps name file text d)
stepped_if_left a b guards places new_places saying left keeps name file text is made placed =
    subst (λ l. Does a b (λ k d. IsStepped k guards places new_places saying l keeps name file text d)) (sym is) (stepped_over a b guards places new_places saying keeps name file text made placed)

pub stepped_if_not : (a b c : Option Known) (guards : List Guard) (places new_places : List FilePlace) (saying : Saying) (left : Bool) (keeps : Keeps) (name file text : List ℕ)
    → left ≡ false → Adds a b (made_for saying name)
    → IfSome b (λ k. ArePlaced k guards places new_places name file)
    → Does b c (λ k d. IsWritten k keeps file text d)
    → Does a c (λ k d. IsStepped k guards places new_places saying left keeps name file text d)
stepped_if_not a b c guards places new_places saying left keeps name file text is made placed written =
    subst (λ l. Does a c (λ k d. IsStepped k guards places new_places saying l keeps name file text d)) (sym is) (stepped_on a b c guards places new_places saying keeps name file text made placed written)

-- The places of a file and of a link that leads to it.
pub placed_both : (known : Option Known) (guards : List Guard) (places middle new : List FilePlace) (name file : List ℕ)
    → IfSome known (λ k. IsAdded k guards places middle file)
    → IfSome known (λ k. IsAdded k guards middle new name)
    → IfSome known (λ k. ArePlaced k guards places new name file)
placed_both None guards places middle new name file first second = tt
placed_both (Some k) guards places middle new name file first second = both file middle first second

pub placed_alone : (known : Option Known) (guards : List Guard) (places new : List FilePlace) (name : List ℕ)
    → IfSome known (λ k. IsAdded k guards places new name)
    → IfSome known (λ k. ArePlaced k guards places new name name)
placed_alone None guards places new name is = tt
placed_alone (Some k) guards places new name is = alone is

-- Directories were made, and no more.
pub unstepped_over : (a b : Option Known) (saying : Saying) (name file : List ℕ)
    → Adds a b (made_for saying name)
    → Does a b (λ _ d. IsUnstepped saying name file d)
unstepped_over a b saying name file made =
    does a b (made_for saying name) (λ _ d. IsUnstepped saying name file d) made
    (λ _. subst (λ l. IsUnstepped saying name file l) (append-nil (made_for saying name)) (after [] nothing))

-- Directories were made, and then what was begun was undone.
pub unstepped_on : (a b c : Option Known) (saying : Saying) (name file : List ℕ)
    → Adds a b (made_for saying name)
    → Does b c (λ _ d. IsUndone file d) → Does a c (λ _ d. IsUnstepped saying name file d)
unstepped_on a b c saying name file made undone =
    let new = made_for saying name in
    does_then a b c (λ _ d. d ≡ new) (λ _ d. IsUndone file d) (λ _ d. IsUnstepped saying name file d)
    (does a b new (λ _ d. d ≡ new) made (λ _. refl)) undone
    (λ k d e d_is u. subst (λ l. IsUnstepped saying name file (l ++ e)) (sym d_is) (after e u))

pub unstepped : (a : Option Known) (saying : Saying) (name file : List ℕ)
    → Does a a (λ _ d. IsUnstepped saying name file d)
unstepped a saying name file = does_none a (λ _ d. IsUnstepped saying name file d) (λ _. before)
