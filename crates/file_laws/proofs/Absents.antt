-- A disk that lacks a directory, or that has a link.
use Rattle.std.proofs.Common.{◌≡◌, ℕ, true, false, List, [], ◌∷◌, ◌++◌, Option, Some, None, sym, ap, ◌∙◌}
use Rattle.std.specs.Prelude.{option_map}
use Rattle.std.proofs.lemmas.Bool.{true≢false}
use Rattle.file_disk.specs.Known.{Files, Deed, Filled, Renamed, text_under, kind_under}
use Rattle.file_texts.specs.Coherent.{after, HasPlace, IsCoherent}
use Rattle.file_texts.specs.Links.{is_link}
use Rattle.file_texts.specs.Names.{home_of}
use Rattle.file_texts.specs.Places.{place_at}
use Rattle.file_texts.specs.declared.places.FilePlace.{FilePlace}
use Rattle.file_laws.specs.Absent.{ReadsEachFile, RenamesEachFile}

some_none : {t : List ℕ} → Some t ≡ None → ⊥
some_none e = cc

none_place : {p : FilePlace} → None ≡ Some p → ⊥
none_place e = cc

pub none_lacks : (files : Files) → IsCoherent files → ReadsEachFile files → (d : List Deed) (name : List ℕ)
    → files.directories d (home_of name) ≡ None → ⊥
unfolding ReadsEachFile
none_lacks files c reads d name none =
    let deed : Deed = Filled name None [] in
    let same : files.directories (d ++ deed ∷ []) (home_of name) ≡ None = c.directories_stay d deed (home_of name) tt ∙ none in
    let text : text_under (after files (d ++ deed ∷ [])) name ≡ Some [] = reads d name None [] in
    let is : HasPlace (after files (d ++ deed ∷ [])) name =
    c.somewhere (d ++ deed ∷ []) name (λ nothing. some_none (sym text ∙ c.nothing (d ++ deed ∷ []) name nothing)) in
    none_place (sym (ap (option_map (place_at name)) same) ∙ is.1)

pub each_links : (files : Files) → RenamesEachFile files → (link name : List ℕ) → is_link (kind_under (after files []) link) ≡ true
    → ((d : List Deed) → is_link (kind_under (after files d) name) ≡ false) → ⊥
unfolding RenamesEachFile
each_links files renames link name there never =
    true≢false (sym (ap is_link (renames [] link name) ∙ there) ∙ never (Renamed link name ∷ []))
