-- Directories and places that stay while artifacts are put.
use Rattle.std.proofs.Common.{◌≡◌, ◌≢◌, ℕ, Bool, true, false, List, [], ◌∷◌, ◌++◌, Option, Some, None, refl, sym, ap, subst, ◌∙◌, append-nil, append_assoc}
use Rattle.std.specs.Prelude.{◌&&◌, ◌||◌, ◌==◌, bytes_eq, option_map}
use Rattle.std.proofs.lemmas.Bool.{true≢false, and_from, or_left, or_right, eq-eqb}
use Rattle.std.proofs.lemmas.List.Folds.{list_any-append}
use Rattle.std.proofs.lemmas.Slice.Eq.{bytes_eq-Decides}
use Rattle.file_disk.specs.Known.{Known, Files, Deed, MadeDirectories, Made, Filled, Renamed, with_deeds, kind_under, text_under}
use Rattle.file_disk.specs.declared.found.Found.TheVariants as found
use Rattle.file_texts.specs.Coherent.{after, IsCoherent}
use Rattle.file_texts.specs.Done.{IsEnd, IsPut, cache_same, cache_put, record_put, file_put, header_same, header_put, may_make, HasPlaces, there, made}
use Rattle.file_texts.specs.Links.{is_link, LeadsTo, itself, on}
use Rattle.file_texts.specs.Names.{directory_of, home_of, temporary}
use Rattle.file_texts.specs.Places.{ArePlaced, alone, both, IsAdded, is_among, is_held_at, is_place, place_at, place_under}
use Rattle.file_texts.specs.Steps.{IsWritten, written, making, directories_for}
use Rattle.file_texts.specs.declared.places.Guard.{Guard}
use Rattle.file_texts.specs.declared.places.FilePlace.{FilePlace}
use Rattle.file_texts.specs.declared.writing.Keeps.{Keeps}
use Rattle.output_put.specs.declared.artifact.Kind.{Kind}
use Rattle.output_put.specs.declared.artifact.Kind.TheVariants.{Cache, Record, File, Header}
use Rattle.file_laws.specs.Rerun.{AreOfRun, IsNeverLink}
use Rattle.file_laws.proofs.Runs.{three, of_making, of_filled, new_plain}

-- ---- directories

-- The directory under a name is this one.
abbrev pub IsIn : Files → List Deed → List ℕ → ℕ × ℕ → Type 0
IsIn f d name directory = f.directories d name ≡ Some directory

pub in_after_none : (f : Files) (d : List Deed) (name : List ℕ) (x : ℕ × ℕ) → IsIn f d name x → IsIn f (d ++ []) name x
in_after_none f d name x at = subst (λ l. IsIn f l name x) (sym (append-nil d)) at

in_after_making : (f : Files) → IsCoherent f → (d : List Deed) (directory : Option (List ℕ)) (name : List ℕ) (x : ℕ × ℕ) → IsIn f d name x → IsIn f (d ++ making directory) name x
in_after_making f c d None name x at = in_after_none f d name x at
in_after_making f c d (Some m) name x at = c.directories_last d m name x at

in_after_written : (f : Files) → IsCoherent f → (d : List Deed) (keeps : Keeps) (file text : List ℕ) (deeds : List Deed) (name : List ℕ) (x : ℕ × ℕ)
    → IsNeverLink f file → AreOfRun f d → IsWritten (after f d) keeps file text deeds → IsIn f d name x → IsIn f (d ++ deeds) name x
in_after_written f c d keeps file text deeds name x never of (written n mode free is) at =
    let t : List ℕ = temporary file n in
    let one : List Deed = d ++ Made t ∷ [] in
    let two : List Deed = one ++ Filled t mode text ∷ [] in
    let second : is_link (kind_under (after f two) t) ≡ false = new_plain f c d t text mode free in
    subst (λ l. IsIn f l name x) (three d (Made t) (Filled t mode text) (Renamed t file))
    (c.directories_stay two (Renamed t file) name (second, never two (of_filled f d t text mode of)) ∙ c.directories_stay one (Filled t mode text) name tt ∙ c.directories_stay d (Made t) name tt ∙ at)

in_after_both : (f : Files) → IsCoherent f → (d : List Deed) (keeps : Keeps) (own file text : List ℕ) (deeds : List Deed) (name : List ℕ) (x : ℕ × ℕ)
    → IsNeverLink f file → AreOfRun f d → IsWritten (with_deeds (after f d) (directories_for own)) keeps file text deeds → IsIn f d name x → IsIn f (d ++ (directories_for own ++ deeds)) name x
in_after_both f c d keeps own file text deeds name x never of w at =
    subst (λ l. IsIn f l name x) (append_assoc d (directories_for own) deeds)
    (in_after_written f c (d ++ directories_for own) keeps file text deeds name x never (of_making f d (directory_of own) of) w (in_after_making f c d (directory_of own) name x at))

pub in_after_put : (f : Files) → IsCoherent f → (d : List Deed) (kind : Kind) (own file text line : List ℕ) (deeds : List Deed) (name : List ℕ) (x : ℕ × ℕ)
    → IsNeverLink f file → AreOfRun f d → IsPut (after f d) own file text kind line deeds → IsIn f d name x → IsIn f (d ++ deeds) name x
in_after_put f c d Cache own file text line [] name x never of (cache_same is) at = in_after_none f d name x at
in_after_put f c d Cache own file text line deeds name x never of (cache_put rest other may w) at = in_after_written f c d _ file text rest name x never of w at
in_after_put f c d Record own file text line deeds name x never of (record_put rest w) at = in_after_written f c d _ file text rest name x never of w at
in_after_put f c d File own file text line deeds name x never of (file_put rest w) at = in_after_both f c d _ own file text rest name x never of w at
in_after_put f c d Header own file text line [] name x never of (header_same is) at = in_after_none f d name x at
in_after_put f c d Header own file text line deeds name x never of (header_put rest other w) at = in_after_both f c d _ own file text rest name x never of w at

-- ---- places

-- A place is that of a directory.
pub directory_of_place : (name : List ℕ) (o : Option (ℕ × ℕ)) (place : FilePlace) → option_map (place_at name) o ≡ Some place → (x : ℕ × ℕ) × (o ≡ Some x) × (place_at name x ≡ place)
directory_of_place name None place is = absurd (cc)
directory_of_place name (Some x) place is = (x, refl, cc)

-- A place stays if its directory does.
pub place_stays : (f : Files) (d e : List Deed) (name : List ℕ) (place : FilePlace) → ((x : ℕ × ℕ) → IsIn f d (home_of name) x → IsIn f e (home_of name) x)
    → place_under (after f d) name ≡ Some place → place_under (after f e) name ≡ Some place
place_stays f d e name place stays at =
    let found = directory_of_place name (f.directories d (home_of name)) place at in
    ap (option_map (place_at name)) (stays found.0 found.1) ∙ ap Some found.2

pub place_after_made : (f : Files) → IsCoherent f → (d : List Deed) (kind : Kind) (own name : List ℕ) (place : FilePlace) → place_under (after f d) name ≡ Some place
    → place_under (after f (d ++ may_make kind own)) name ≡ Some place
place_after_made f c d Cache own name place at = place_stays f d (d ++ []) name place (λ x is. in_after_none f d (home_of name) x is) at
place_after_made f c d Record own name place at = place_stays f d (d ++ []) name place (λ x is. in_after_none f d (home_of name) x is) at
place_after_made f c d File own name place at = place_stays f d (d ++ directories_for own) name place (λ x is. in_after_making f c d (directory_of own) (home_of name) x is) at
place_after_made f c d Header own name place at = place_stays f d (d ++ directories_for own) name place (λ x is. in_after_making f c d (directory_of own) (home_of name) x is) at

pub place_after_put : (f : Files) → IsCoherent f → (d : List Deed) (kind : Kind) (own file text line : List ℕ) (deeds : List Deed) (name : List ℕ) (place : FilePlace)
    → IsNeverLink f file → AreOfRun f d → IsPut (after f d) own file text kind line deeds → place_under (after f d) name ≡ Some place → place_under (after f (d ++ deeds)) name ≡ Some place
place_after_put f c d kind own file text line deeds name place never of put at =
    place_stays f d (d ++ deeds) name place (λ x is. in_after_put f c d kind own file text line deeds (home_of name) x never of put is) at

-- A place is itself, and is among those to which it was added.
same_place : (p : FilePlace) → is_place p p ≡ true
same_place p = and_from (p.directory == p.directory) _ (eq-eqb p.directory p.directory refl)
    (and_from (p.device == p.device) (bytes_eq p.name p.name) (eq-eqb p.device p.device refl) ((bytes_eq-Decides p.name p.name).1 refl))

pub among_added : (p : FilePlace) (places : List FilePlace) → is_among p (places ++ p ∷ []) ≡ true
among_added p places =
    list_any-append (λ other. is_place p other) places (p ∷ []) ∙ or_right (is_among p places) (is_among p (p ∷ [])) (or_left (is_place p p) false (same_place p))

pub among_more : (p : FilePlace) (places more : List FilePlace) → is_among p places ≡ true → is_among p (places ++ more) ≡ true
among_more p places more is = list_any-append (λ other. is_place p other) places more ∙ or_left (is_among p places) (is_among p more) is

-- An artifact whose name is that of no link is put to the file of its name.
pub end_is_name : (f : Files) (d : List Deed) (name : List ℕ) (kind : Kind) (file : List ℕ) → IsNeverLink f name → AreOfRun f d → IsEnd (after f d) name kind file → file ≡ name
end_is_name f d name Cache file never of end = leads_nowhere file end
  where
    leads_nowhere : (file : List ℕ) → LeadsTo (after f d) name file → file ≡ name
    leads_nowhere file (itself is) = refl
    leads_nowhere file (on next last link n leads) = absurd (true≢false (sym link ∙ never d of))
end_is_name f d name Record file never of end = end
end_is_name f d name File file never of end = end
end_is_name f d name Header file never of end = end

-- What was added for an artifact: the place of its file, which was free.
pub record HasFree (k : Known) (guards : List Guard) (places new : List FilePlace) (name file : List ℕ) : Type 0 where
  pub own : FilePlace
  pub at : place_under k file ≡ Some own
  pub free : is_held_at (Some own) guards places ≡ false
  pub among : is_among own new ≡ true
  pub more : List FilePlace
  pub are : new ≡ places ++ more

free_of : (k : Known) (guards : List Guard) (places new : List FilePlace) (name file : List ℕ) → ArePlaced k guards places new name file → HasFree k guards places new name file
free_of k guards places new name file (alone added) = record {
  own = added.place;
  at = added.at;
  free = added.free;
  among = subst (λ l. is_among added.place l ≡ true) (sym added.added) (among_added added.place places);
  more = added.place ∷ [];
  are = added.added;
}
free_of k guards places new name file (both f middle first second) = record {
  own = first.place;
  at = first.at;
  free = first.free;
  among = subst (λ l. is_among first.place l ≡ true) (sym second.added)
      (among_more first.place middle (second.place ∷ []) (subst (λ l. is_among first.place l ≡ true) (sym first.added) (among_added first.place places)));
  more = first.place ∷ second.place ∷ [];
  are = second.added ∙ ap (λ l. l ++ second.place ∷ []) first.added ∙ append_assoc places (first.place ∷ []) (second.place ∷ []);
}

-- The same once its directories are made.
pub free_made : (f : Files) → IsCoherent f → (d : List Deed) (guards : List Guard) (places new : List FilePlace) (name file : List ℕ) (kind : Kind)
    → HasPlaces (after f d) guards places new name file kind → HasFree (after f (d ++ may_make kind name)) guards places new name file
free_made f c d guards places new name file kind (there placed) =
    let free = free_of (after f d) guards places new name file placed in
    record { own = free.own; at = place_after_made f c d kind name file free.own free.at; free = free.free; among = free.among; more = free.more; are = free.are }
free_made f c d guards places new name file kind (made placed) = free_of (after f (d ++ may_make kind name)) guards places new name file placed

-- ---- the place of what was put

after_none : (f : Files) (d : List Deed) (name : List ℕ) (place : FilePlace) → place_under (after f (d ++ [])) name ≡ Some place → place_under (after f d) name ≡ Some place
after_none f d name place at = subst (λ l. place_under (after f l) name ≡ Some place) (append-nil d) at

before_none : (f : Files) (d : List Deed) (name : List ℕ) (place : FilePlace) → place_under (after f d) name ≡ Some place → place_under (after f (d ++ [])) name ≡ Some place
before_none f d name place at = subst (λ l. place_under (after f l) name ≡ Some place) (sym (append-nil d)) at

stays_written : (f : Files) → IsCoherent f → (d : List Deed) (keeps : Keeps) (file text : List ℕ) (deeds : List Deed) (place : FilePlace)
    → IsNeverLink f file → AreOfRun f d → IsWritten (after f d) keeps file text deeds → place_under (after f d) file ≡ Some place → place_under (after f (d ++ deeds)) file ≡ Some place
stays_written f c d keeps file text deeds place never of w at =
    place_stays f d (d ++ deeds) file place (λ x is. in_after_written f c d keeps file text deeds (home_of file) x never of w is) at

stays_both : (f : Files) → IsCoherent f → (d : List Deed) (keeps : Keeps) (own file text : List ℕ) (deeds : List Deed) (place : FilePlace)
    → IsNeverLink f file → AreOfRun f d → IsWritten (with_deeds (after f d) (directories_for own)) keeps file text deeds → place_under (after f (d ++ directories_for own)) file ≡ Some place
    → place_under (after f (d ++ (directories_for own ++ deeds))) file ≡ Some place
stays_both f c d keeps own file text deeds place never of w at =
    subst (λ l. place_under (after f l) file ≡ Some place) (append_assoc d (directories_for own) deeds)
    (stays_written f c (d ++ directories_for own) keeps file text deeds place never (of_making f d (directory_of own) of) w at)

-- What has a text is somewhere.
somewhere_of : (f : Files) → IsCoherent f → (d : List Deed) (name text : List ℕ) → text_under (after f d) name ≡ Some text → (place : FilePlace) × (place_under (after f d) name ≡ Some place)
somewhere_of f c d name text is = c.somewhere d name (λ nothing. absurd (some_none (sym is ∙ c.nothing d name nothing)))
  where
    some_none : {t : List ℕ} → Some t ≡ None → ⊥
    some_none e = cc

same_header : (f : Files) → IsCoherent f → (d : List Deed) (name file text : List ℕ) (place : FilePlace) → file ≡ name → text_under (after f d) name ≡ Some text
    → place_under (after f (d ++ directories_for name)) file ≡ Some place → place_under (after f (d ++ [])) file ≡ Some place
same_header f c d name file text place same is at =
    let found = somewhere_of f c d name text is in
    let later : place_under (after f (d ++ directories_for name)) name ≡ Some found.0 = place_after_made f c d Header name name found.0 found.1 in
    let there : place_under (after f (d ++ directories_for name)) name ≡ Some place = subst (λ n. place_under (after f (d ++ directories_for name)) n ≡ Some place) same at in
    let one : found.0 ≡ place = cc in
    before_none f d file place (subst (λ n. place_under (after f d) n ≡ Some place) (sym same) (found.1 ∙ ap Some one))

pub own_stays : (f : Files) → IsCoherent f → (d : List Deed) (kind : Kind) (name file text line : List ℕ) (deeds : List Deed) (place : FilePlace)
    → IsNeverLink f file → AreOfRun f d → file ≡ name → IsPut (after f d) name file text kind line deeds → place_under (after f (d ++ may_make kind name)) file ≡ Some place
    → place_under (after f (d ++ deeds)) file ≡ Some place
own_stays f c d Cache name file text line [] place never of same (cache_same is) at = at
own_stays f c d Cache name file text line deeds place never of same (cache_put rest other may w) at = stays_written f c d _ file text rest place never of w (after_none f d file place at)
own_stays f c d Record name file text line deeds place never of same (record_put rest w) at = stays_written f c d _ file text rest place never of w (after_none f d file place at)
own_stays f c d File name file text line deeds place never of same (file_put rest w) at = stays_both f c d _ name file text rest place never of w at
own_stays f c d Header name file text line [] place never of same (header_same is) at = same_header f c d name file text place same is at
own_stays f c d Header name file text line deeds place never of same (header_put rest other w) at = stays_both f c d _ name file text rest place never of w at
