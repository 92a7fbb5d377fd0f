-- A disk of one directory is changed by what is done to it alone.
use Rattle.std.proofs.Common.{◌≡◌, ◌≢◌, ℕ, Bool, true, false, List, [], ◌∷◌, ◌++◌, Option, Some, None, refl, sym, ap, subst, ◌∙◌}
use Rattle.std.specs.Prelude.{bytes_eq, if◌then◌else◌}
use Rattle.std.proofs.lemmas.Bool.{true≢false, false_from_ne_true}
use Rattle.std.proofs.lemmas.Slice.Eq.{bytes_eq-Decides}
use Rattle.file_disk.specs.Known.{Files, Deed, MadeDirectories, Made, Filled, Failed, Renamed, Removed, text_under, kind_under}
use Rattle.file_disk.specs.declared.found.Found.TheVariants as found
use Rattle.file_texts.specs.Coherent.{after, IsCoherent, IsElsewhere}
use Rattle.file_texts.specs.Links.{is_link, LeadsTo, itself, on}
use Rattle.file_texts.specs.Names.{last_of}
use Rattle.file_texts.specs.Places.{place_at, place_under}
use Rattle.file_texts.specs.declared.places.FilePlace.{FilePlace}
use Rattle.file_laws.specs.Flat.{Texts, after_deed, after_deeds, flat, kind_of}

-- The last deed of several.
last_deed : (start : Texts) (d : List Deed) (deed : Deed) (own : List ℕ) → after_deeds start (d ++ deed ∷ []) own ≡ after_deed deed (after_deeds start d) own
last_deed start [] deed own = refl
last_deed start (first ∷ d) deed own = last_deed (after_deed first start) d deed own

plain : (text : Option (List ℕ)) → is_link (kind_of text) ≡ false
plain None = refl
plain (Some text) = refl

no_text : (text : Option (List ℕ)) → kind_of text ≡ found.Nothing → text ≡ None
no_text None is = refl
no_text (Some text) is = absurd (cc)

same_name : (name : List ℕ) → bytes_eq name name ≡ true
same_name name = (bytes_eq-Decides name name).1 refl

at_name : {A : Type 0} (name : List ℕ) (x y : A) → (if bytes_eq name name then x else y) ≡ x
at_name name x y = ap (λ b. if b then x else y) (same_name name)

not_at : {A : Type 0} (own name : List ℕ) (x y : A) → bytes_eq own name ≡ false → (if bytes_eq own name then x else y) ≡ y
not_at own name x y is = ap (λ b. if b then x else y) is

-- Names at other places differ in their last parts.
differ : (name other : List ℕ) (place : FilePlace) → Some (place_at other (0, 0)) ≢ Some place → Some (place_at name (0, 0)) ≡ Some place → bytes_eq (last_of name) (last_of other) ≡ false
differ name other place apart at =
    false_from_ne_true (bytes_eq (last_of name) (last_of other))
    (λ is.
    let same : last_of name ≡ last_of other = (bytes_eq-Decides (last_of name) (last_of other)).0 is in
    let one : FilePlace → Option FilePlace = λ p. Some p in
    apart (ap (λ (l : List ℕ). one (record { device = 0; directory = 0; name = l })) (sym same) ∙ at))

elsewhere_same : (start : Texts) (d : List Deed) (deed : Deed) (name : List ℕ) (place : FilePlace) → Some (place_at name (0, 0)) ≡ Some place → IsElsewhere (after (flat start) d) place deed
    → after_deed deed (after_deeds start d) (last_of name) ≡ after_deeds start d (last_of name)
elsewhere_same start d (MadeDirectories other) name place at apart = refl
elsewhere_same start d (Made other) name place at apart = not_at (last_of name) (last_of other) (Some []) (after_deeds start d (last_of name)) (differ name other place apart at)
elsewhere_same start d (Filled other mode text) name place at apart = not_at (last_of name) (last_of other) (Some text) (after_deeds start d (last_of name)) (differ name other place apart at)
elsewhere_same start d (Failed other) name place at apart = not_at (last_of name) (last_of other) (Some []) (after_deeds start d (last_of name)) (differ name other place apart at)
elsewhere_same start d (Renamed from to) name place at apart =
    not_at (last_of name) (last_of to) (after_deeds start d (last_of from)) (if bytes_eq (last_of name) (last_of from) then None else after_deeds start d (last_of name)) (differ name to place apart.1 at)
    ∙ not_at (last_of name) (last_of from) None (after_deeds start d (last_of name)) (differ name from place apart.0 at)
elsewhere_same start d (Removed other) name place at apart = not_at (last_of name) (last_of other) None (after_deeds start d (last_of name)) (differ name other place apart at)

leads_itself : (start : Texts) (d : List Deed) (name end : List ℕ) → LeadsTo (after (flat start) d) name end → text_under (after (flat start) d) name ≡ text_under (after (flat start) d) end
leads_itself start d name end (itself is) = refl
leads_itself start d name end (on next last link n leads) = absurd (true≢false (sym link ∙ plain (after_deeds start d (last_of name))))

renamed_text : (start : Texts) (d : List Deed) (from to : List ℕ) → after_deeds start (d ++ Renamed from to ∷ []) (last_of to) ≡ after_deeds start d (last_of from)
renamed_text start d from to =
    last_deed start d (Renamed from to) (last_of to)
    ∙ at_name (last_of to) (after_deeds start d (last_of from)) (if bytes_eq (last_of to) (last_of from) then None else after_deeds start d (last_of to))

pub is_coherent : (start : Texts) → IsCoherent (flat start)
is_coherent start = record {
  filled = λ d name mode text has. last_deed start d (Filled name mode text) (last_of name) ∙ at_name (last_of name) (Some text) (after_deeds start d (last_of name));
  renamed = λ d from to has not_link. renamed_text start d from to;
  renamed_kind = λ d from to has not_link. ap kind_of (renamed_text start d from to);
  gone = λ d name. ap kind_of (last_deed start d (Removed name) (last_of name) ∙ at_name (last_of name) None (after_deeds start d (last_of name)));
  nothing = λ d name is. no_text (after_deeds start d (last_of name)) is;
  somewhere = λ d name some. (place_at name (0, 0), refl);
  one = λ d a b place at_a at_b. ap (λ l. kind_of (after_deeds start d l)) (last_same a b (at_a ∙ sym at_b));
  linked = λ d name end leads. leads_itself start d name end leads;
  stays = λ d deed name place at now apart is. (
    plain (after_deeds start (d ++ deed ∷ []) (last_of name)),
    last_deed start d deed (last_of name) ∙ elsewhere_same start d deed name place at apart,
  );
  links_stay = λ d deed name place at now apart is. absurd (true≢false (sym is ∙ plain (after_deeds start d (last_of name))));
  no_new_link = λ d deed name new is. plain (after_deeds start (d ++ deed ∷ []) (last_of name));
  directories_stay = λ d deed name keeps. refl;
  directories_last = λ d made name directory is. is;
}
  where
    name_in : Option FilePlace → List ℕ
    name_in None = []
    name_in (Some p) = p.name

    last_same : (a b : List ℕ) → Some (place_at a (0, 0)) ≡ Some (place_at b (0, 0)) → last_of a ≡ last_of b
    last_same a b is = ap name_in is
