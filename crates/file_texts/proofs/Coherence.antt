-- What is read on a coherent disk after a text is written.
use Rattle.std.proofs.Common.{◌≡◌, ◌≢◌, ℕ, true, false, List, [], ◌∷◌, ◌++◌, Option, Some, None, IfNone, refl, sym, ap, subst, ◌∙◌, append_assoc}
use Rattle.std.proofs.lemmas.Bool.{true≢false}
use Rattle.std.specs.Prelude.{option_map}
use Rattle.file_disk.specs.Clearing.{clearing}
use Rattle.file_disk.specs.Known.{Known, Files, Deed, MadeDirectories, Made, Filled, Renamed, Removed, text_under, kind_under}
use Rattle.file_disk.specs.declared.found.Found.{Found}
use Rattle.file_disk.specs.declared.found.Found.TheVariants as found
use Rattle.file_texts.specs.Coherent.{after, HasPlace, IsElsewhere, KeepsDirectories, IsCoherent}
use Rattle.file_texts.specs.Links.{is_link, LeadsTo, itself, on}
use Rattle.file_texts.specs.Names.{home_of, temporary}
use Rattle.file_texts.specs.Places.{place_at, place_under}
use Rattle.file_texts.specs.Steps.{IsWritten, written}
use Rattle.file_texts.specs.declared.places.FilePlace.{FilePlace}
use Rattle.file_texts.specs.declared.writing.Keeps.{Keeps}
use Rattle.file_texts.proofs.Beside.{has_beside}

three : (d : List Deed) (a b c : Deed) → ((d ++ a ∷ []) ++ b ∷ []) ++ c ∷ [] ≡ d ++ a ∷ b ∷ c ∷ []
three d a b c = ap (λ l. l ++ c ∷ []) (append_assoc d (a ∷ []) (b ∷ [])) ∙ append_assoc d (a ∷ b ∷ []) (c ∷ [])

-- A name of a directory is one afterwards, so a place stays.
place_stays : (f : Files) → IsCoherent f → (d : List Deed) (e : Deed) (name : List ℕ)
    → KeepsDirectories (after f d) e
    → place_under (after f (d ++ e ∷ [])) name ≡ place_under (after f d) name
place_stays f c d e name keeps = ap (option_map (place_at name)) (c.directories_stay d e (home_of name) keeps)

-- What a name is and has, if it is no link.
record Stands (f : Files) (d : List Deed) (name : List ℕ) (place : FilePlace) (text : Option (List ℕ)) : Type 0 where
  at : place_under (after f d) name ≡ Some place
  plain : is_link (kind_under (after f d) name) ≡ false
  has : text_under (after f d) name ≡ text

stands_on : (f : Files) → IsCoherent f → (d : List Deed) (e : Deed) (name : List ℕ) (place : FilePlace) (text : Option (List ℕ))
    → KeepsDirectories (after f d) e → IsElsewhere (after f d) place e → Stands f d name place text
    → Stands f (d ++ e ∷ []) name place text
stands_on f c d e name place text keeps elsewhere s =
    let at : place_under (after f (d ++ e ∷ [])) name ≡ Some place = place_stays f c d e name keeps ∙ s.at in
    let same = c.stays d e name place s.at at elsewhere s.plain in
    record { at = at; plain = same.0; has = same.1 ∙ s.has }

-- What a name is and has, if it is a link.
record Links (f : Files) (d : List Deed) (name : List ℕ) (place : FilePlace) (target : Option (List ℕ)) : Type 0 where
  at : place_under (after f d) name ≡ Some place
  link : is_link (kind_under (after f d) name) ≡ true
  has : f.targets d name ≡ target

links_on : (f : Files) → IsCoherent f → (d : List Deed) (e : Deed) (name : List ℕ) (place : FilePlace) (target : Option (List ℕ))
    → KeepsDirectories (after f d) e → IsElsewhere (after f d) place e → Links f d name place target
    → Links f (d ++ e ∷ []) name place target
links_on f c d e name place target keeps elsewhere s =
    let at : place_under (after f (d ++ e ∷ [])) name ≡ Some place = place_stays f c d e name keeps ∙ s.at in
    let same = c.links_stay d e name place s.at at elsewhere s.link in
    record { at = at; link = same.0; has = same.1 ∙ s.has }

-- The files before a text is written: the new file's name is free, and the name that it gets is that
-- of no link.
record Writable (f : Files) (d : List Deed) (t file : List ℕ) : Type 0 where
  free : kind_under (after f d) t ≡ found.Nothing
  plain : is_link (kind_under (after f d) file) ≡ false

free_plain : (k : Found) → k ≡ found.Nothing → is_link k ≡ false
free_plain k is = subst (λ x. is_link x ≡ false) (sym is) refl

-- The deeds of a text that is written keep directories.
keeps_last : (f : Files) → IsCoherent f → (d : List Deed) (t file text : List ℕ) (mode : Option ℕ)
    → Writable f d t file
    → KeepsDirectories (after f ((d ++ Made t ∷ []) ++ Filled t mode text ∷ [])) (Renamed t file)
keeps_last f c d t file text mode w =
    let d1 = d ++ Made t ∷ [] in (
      c.no_new_link d1 (Filled t mode text) t tt (c.no_new_link d (Made t) t tt (free_plain _ w.free)),
      c.no_new_link d1 (Filled t mode text) file tt (c.no_new_link d (Made t) file tt w.plain),
    )

-- They are elsewhere than a place that is neither the new file's nor the old one's.
moved : (f : Files) → IsCoherent f → (d : List Deed) (e : Deed) (name : List ℕ) (place : FilePlace)
    → KeepsDirectories (after f d) e → place_under (after f d) name ≢ Some place
    → place_under (after f (d ++ e ∷ [])) name ≢ Some place
moved f c d e name place keeps other is = other (sym (place_stays f c d e name keeps) ∙ is)

stands_through : (f : Files) → IsCoherent f → (d : List Deed) (t file text : List ℕ) (mode : Option ℕ) (name : List ℕ) (place : FilePlace) (has : Option (List ℕ))
    → Writable f d t file → place_under (after f d) t ≢ Some place
    → place_under (after f d) file ≢ Some place → Stands f d name place has
    → Stands f (d ++ Made t ∷ Filled t mode text ∷ Renamed t file ∷ []) name place has
stands_through f c d t file text mode name place has w not_new not_old s =
    let a = Made t in
    let b = Filled t mode text in
    let d1 = d ++ a ∷ [] in
    let d2 = d1 ++ b ∷ [] in
    let new1 = moved f c d a t place tt not_new in
    let new2 = moved f c d1 b t place tt new1 in
    let old2 = moved f c d1 b file place tt (moved f c d a file place tt not_old) in
    let s1 = stands_on f c d a name place has tt not_new s in
    let s2 = stands_on f c d1 b name place has tt new1 s1 in
    subst (λ l. Stands f l name place has) (three d a b (Renamed t file))
    (stands_on f c d2 (Renamed t file) name place has (keeps_last f c d t file text mode w) (new2, old2) s2)

links_through : (f : Files) → IsCoherent f → (d : List Deed) (t file text : List ℕ) (mode : Option ℕ) (name : List ℕ) (place : FilePlace) (has : Option (List ℕ))
    → Writable f d t file → place_under (after f d) t ≢ Some place
    → place_under (after f d) file ≢ Some place → Links f d name place has
    → Links f (d ++ Made t ∷ Filled t mode text ∷ Renamed t file ∷ []) name place has
links_through f c d t file text mode name place has w not_new not_old s =
    let a = Made t in
    let b = Filled t mode text in
    let d1 = d ++ a ∷ [] in
    let d2 = d1 ++ b ∷ [] in
    let new1 = moved f c d a t place tt not_new in
    let new2 = moved f c d1 b t place tt new1 in
    let old2 = moved f c d1 b file place tt (moved f c d a file place tt not_old) in
    let s1 = links_on f c d a name place has tt not_new s in
    let s2 = links_on f c d1 b name place has tt new1 s1 in
    subst (λ l. Links f l name place has) (three d a b (Renamed t file))
    (links_on f c d2 (Renamed t file) name place has (keeps_last f c d t file text mode w) (new2, old2) s2)

-- A link is somewhere, and is at the place of nothing that is no link.
link_is_there : (k : Found) → is_link k ≡ true → k ≢ found.Nothing
link_is_there k is none = true≢false (sym is ∙ free_plain k none)

apart_from_link : (f : Files) → IsCoherent f → (d : List Deed) (name other : List ℕ) (place : FilePlace)
    → place_under (after f d) name ≡ Some place → is_link (kind_under (after f d) name) ≡ true
    → is_link (kind_under (after f d) other) ≡ false → place_under (after f d) other ≢ Some place
apart_from_link f c d name other place at link plain same =
    true≢false (sym link ∙ ap is_link (c.one d name other place at same) ∙ plain)

-- A name leads to where it led, if that is no link afterwards.
leads_through : (f : Files) → IsCoherent f → (d : List Deed) (t file text : List ℕ) (mode : Option ℕ) (name end : List ℕ)
    → Writable f d t file
    → is_link (kind_under (after f (d ++ Made t ∷ Filled t mode text ∷ Renamed t file ∷ [])) end) ≡ false
    → LeadsTo (after f d) name end
    → LeadsTo (after f (d ++ Made t ∷ Filled t mode text ∷ Renamed t file ∷ [])) name end
leads_through f c d t file text mode name end w plain (itself is) = itself plain
leads_through f c d t file text mode name end w plain (on next last link is_next leads) =
    let there = c.somewhere d name (link_is_there _ link) in
    let s = links_through f c d t file text mode name there.0 (f.targets d name) w
    (apart_from_link f c d name t there.0 there.1 link (free_plain _ w.free))
    (apart_from_link f c d name file there.0 there.1 link w.plain)
    (record { at = there.1; link = link; has = refl }) in
    on next end s.link (record { target = is_next.target; there = s.has ∙ is_next.there; from = is_next.from })
    (leads_through f c d t file text mode next end w plain leads)

-- A place that is there stays.
pub place_still : (f : Files) → IsCoherent f → (d : List Deed) (e : Deed) (name : List ℕ)
    → KeepsDirectories (after f d) e → HasPlace (after f d) name → HasPlace (after f (d ++ e ∷ [])) name
place_still f c d e name keeps has = (has.0, place_stays f c d e name keeps ∙ has.1)

-- A new file is no link.
new_plain : (f : Files) → IsCoherent f → (d : List Deed) (t text : List ℕ) (mode : Option ℕ)
    → kind_under (after f d) t ≡ found.Nothing
    → is_link (kind_under (after f ((d ++ Made t ∷ []) ++ Filled t mode text ∷ [])) t) ≡ false
new_plain f c d t text mode free =
    c.no_new_link (d ++ Made t ∷ []) (Filled t mode text) t tt (c.no_new_link d (Made t) t tt (free_plain _ free))

-- What was written is read.
pub own_text : (f : Files) → IsCoherent f → (d : List Deed) (keeps : Keeps) (file text : List ℕ) (deeds : List Deed)
    → HasPlace (after f d) file → IsWritten (after f d) keeps file text deeds
    → text_under (after f (d ++ deeds)) file ≡ Some text
own_text f c d keeps file text deeds has (written n mode free is_mode) =
    let t = temporary file n in
    let d1 = d ++ Made t ∷ [] in
    let d2 = d1 ++ Filled t mode text ∷ [] in
    let beside : HasPlace (after f d1) t = place_still f c d (Made t) t tt (has_beside (after f d) file n has) in
    let later : HasPlace (after f d2) file = place_still f c d1 (Filled t mode text) file tt (place_still f c d (Made t) file tt has) in
    subst (λ l. text_under (after f l) file ≡ Some text) (three d (Made t) (Filled t mode text) (Renamed t file))
    (c.renamed d2 t file later (new_plain f c d t text mode free) ∙ c.filled d1 t mode text beside)

-- The same through a link.
pub linked_text : (f : Files) → IsCoherent f → (d : List Deed) (keeps : Keeps) (name file text : List ℕ) (deeds : List Deed)
    → LeadsTo (after f d) name file → is_link (kind_under (after f d) file) ≡ false
    → HasPlace (after f d) file → IsWritten (after f d) keeps file text deeds
    → text_under (after f (d ++ deeds)) name ≡ Some text
linked_text f c d keeps name file text deeds leads plain has (written n mode free is_mode) =
    let t = temporary file n in
    let d1 = d ++ Made t ∷ [] in
    let d2 = d1 ++ Filled t mode text ∷ [] in
    let w : Writable f d t file = record { free = free; plain = plain } in
    let later : HasPlace (after f d2) file = place_still f c d1 (Filled t mode text) file tt (place_still f c d (Made t) file tt has) in
    let plain_new = new_plain f c d t text mode free in
    let still : is_link (kind_under (after f (d2 ++ Renamed t file ∷ [])) file) ≡ false =
    ap is_link (c.renamed_kind d2 t file later plain_new) ∙ plain_new in
    let end : is_link (kind_under (after f (d ++ Made t ∷ Filled t mode text ∷ Renamed t file ∷ [])) file) ≡ false =
    subst (λ l. is_link (kind_under (after f l) file) ≡ false) (three d (Made t) (Filled t mode text) (Renamed t file)) still in
    c.linked _ name file (leads_through f c d t file text mode name file w end leads)
    ∙ own_text f c d keeps file text (Made t ∷ Filled t mode text ∷ Renamed t file ∷ []) has (written n mode free is_mode)

-- A name leads to a file that has a text.
pub end_is_plain : (k : Known) (name end : List ℕ) → LeadsTo k name end
    → is_link (kind_under k end) ≡ false
end_is_plain k name end (itself is) = is
end_is_plain k name end (on next last link is_next leads) = end_is_plain k next end leads

none_or_some : {X : Type 0} {x : X} → None ≡ Some x → ⊥
none_or_some is = subst (λ o. IfNone o ⊥ → ⊥) is (λ b. b) tt

has_something : (f : Files) → IsCoherent f → (d : List Deed) (name text : List ℕ)
    → text_under (after f d) name ≡ Some text → kind_under (after f d) name ≢ found.Nothing
has_something f c d name text has none = none_or_some (sym (c.nothing d name none) ∙ has)

-- What is read under another name stays.
pub other_text : (f : Files) → IsCoherent f → (d : List Deed) (keeps : Keeps) (file text : List ℕ) (deeds : List Deed) (name end : List ℕ) (place : FilePlace) (has : List ℕ)
    → is_link (kind_under (after f d) file) ≡ false → LeadsTo (after f d) name end
    → place_under (after f d) end ≡ Some place → place_under (after f d) file ≢ Some place
    → text_under (after f d) name ≡ Some has → IsWritten (after f d) keeps file text deeds
    → (text_under (after f (d ++ deeds)) name ≡ Some has) × LeadsTo (after f (d ++ deeds)) name end
    × (place_under (after f (d ++ deeds)) end ≡ Some place)
other_text f c d keeps file text deeds name end place has plain leads at apart read (written n mode free is_mode) =
    let t = temporary file n in
    let w : Writable f d t file = record { free = free; plain = plain } in
    let end_has : text_under (after f d) end ≡ Some has = sym (c.linked d name end leads) ∙ read in
    let not_new : place_under (after f d) t ≢ Some place = λ same. has_something f c d end has end_has (c.one d end t place at same ∙ free) in
    let s = stands_through f c d t file text mode end place (Some has) w not_new apart
    (record { at = at; plain = end_is_plain _ name end leads; has = end_has }) in
    let leads_on = leads_through f c d t file text mode name end w s.plain leads in
    (c.linked _ name end leads_on ∙ s.has, leads_on, s.at)

-- Directories that are made change no text.
pub made_stays : (f : Files) → IsCoherent f → (d : List Deed) (made name : List ℕ) (place : FilePlace)
    → place_under (after f d) name ≡ Some place
    → place_under (after f (d ++ MadeDirectories made ∷ [])) name ≡ Some place
made_stays f c d made name place at = in_place name _ _ place (λ x is. c.directories_last d made (home_of name) x is) at
  where
    in_place : (name : List ℕ) (before now : Option (ℕ × ℕ)) (place : FilePlace)
        → ((x : ℕ × ℕ) → before ≡ Some x → now ≡ Some x)
        → option_map (place_at name) before ≡ Some place → option_map (place_at name) now ≡ Some place
    in_place name None now place keeps is = absurd (none_or_some is)
    in_place name (Some x) now place keeps is = ap (option_map (place_at name)) (keeps x refl) ∙ is

made_leads : (f : Files) → IsCoherent f → (d : List Deed) (made name end : List ℕ)
    → is_link (kind_under (after f (d ++ MadeDirectories made ∷ [])) end) ≡ false
    → LeadsTo (after f d) name end → LeadsTo (after f (d ++ MadeDirectories made ∷ [])) name end
made_leads f c d made name end plain (itself is) = itself plain
made_leads f c d made name end plain (on next last link is_next leads) =
    let there = c.somewhere d name (link_is_there _ link) in
    let same = c.links_stay d (MadeDirectories made) name there.0 there.1 (made_stays f c d made name there.0 there.1) tt link in
    on next end same.0 (record { target = is_next.target; there = same.1 ∙ is_next.there; from = is_next.from })
    (made_leads f c d made next end plain leads)

pub made_text : (f : Files) → IsCoherent f → (d : List Deed) (made name end : List ℕ) (place : FilePlace) (has : List ℕ)
    → LeadsTo (after f d) name end → place_under (after f d) end ≡ Some place
    → text_under (after f d) name ≡ Some has
    → (text_under (after f (d ++ MadeDirectories made ∷ [])) name ≡ Some has)
    × LeadsTo (after f (d ++ MadeDirectories made ∷ [])) name end
    × (place_under (after f (d ++ MadeDirectories made ∷ [])) end ≡ Some place)
made_text f c d made name end place has leads at read =
    let at_last = made_stays f c d made end place at in
    let same = c.stays d (MadeDirectories made) end place at at_last tt (end_is_plain _ name end leads) in
    let leads_on = made_leads f c d made name end same.0 leads in
    (c.linked _ name end leads_on ∙ same.1 ∙ sym (c.linked d name end leads) ∙ read, leads_on, at_last)

-- ---- the last file, which is made anew

own_filled : (f : Files) → IsCoherent f → (d : List Deed) (file text : List ℕ) → HasPlace (after f d) file
    → text_under (after f (d ++ Made file ∷ Filled file None text ∷ [])) file ≡ Some text
own_filled f c d file text has =
    let made = d ++ Made file ∷ [] in
    subst (λ l. text_under (after f l) file ≡ Some text) (append_assoc d (Made file ∷ []) (Filled file None text ∷ []))
    (c.filled made file None text (place_still f c d (Made file) file tt has))

own_removed : (f : Files) → IsCoherent f → (d : List Deed) (file text : List ℕ) → HasPlace (after f d) file
    → is_link (kind_under (after f d) file) ≡ false
    → text_under (after f (d ++ Removed file ∷ Made file ∷ Filled file None text ∷ [])) file ≡ Some text
own_removed f c d file text has plain =
    subst (λ l. text_under (after f l) file ≡ Some text) (append_assoc d (Removed file ∷ []) (Made file ∷ Filled file None text ∷ []))
    (own_filled f c (d ++ Removed file ∷ []) file text (place_still f c d (Removed file) file plain has))

pub own_last : (f : Files) → IsCoherent f → (d : List Deed) (file text : List ℕ) (seen : Found)
    → HasPlace (after f d) file → is_link (kind_under (after f d) file) ≡ false
    → text_under (after f (d ++ (clearing file seen ++ Made file ∷ Filled file None text ∷ []))) file ≡ Some text
own_last f c d file text found.Nothing has plain = own_filled f c d file text has
own_last f c d file text found.Directory has plain = own_filled f c d file text has
own_last f c d file text found.Special has plain = own_filled f c d file text has
own_last f c d file text found.Link has plain = own_removed f c d file text has plain
own_last f c d file text (found.File mode) has plain = own_removed f c d file text has plain

-- A name leads to where it led after one deed, if nothing that is a link is at a place that the deed changes.
leads_on : (f : Files) → IsCoherent f → (d : List Deed) (e : Deed) (name end : List ℕ)
    → KeepsDirectories (after f d) e
    → ((place : FilePlace) (link : List ℕ) → place_under (after f d) link ≡ Some place
    → is_link (kind_under (after f d) link) ≡ true → IsElsewhere (after f d) place e)
    → is_link (kind_under (after f (d ++ e ∷ [])) end) ≡ false
    → LeadsTo (after f d) name end → LeadsTo (after f (d ++ e ∷ [])) name end
leads_on f c d e name end keeps elsewhere plain (itself is) = itself plain
leads_on f c d e name end keeps elsewhere plain (on next last link is_next leads) =
    let there = c.somewhere d name (link_is_there _ link) in
    let s = links_on f c d e name there.0 (f.targets d name) keeps (elsewhere there.0 name there.1 link)
    (record { at = there.1; link = link; has = refl }) in
    on next end s.link (record { target = is_next.target; there = s.has ∙ is_next.there; from = is_next.from })
    (leads_on f c d e next end keeps elsewhere plain leads)

-- What is read, where, and what is known of the file that is made anew.
record Reads (f : Files) (d : List Deed) (file name end : List ℕ) (place : FilePlace) (has : List ℕ) : Type 0 where
  plain : is_link (kind_under (after f d) file) ≡ false
  leads : LeadsTo (after f d) name end
  at : place_under (after f d) end ≡ Some place
  apart : place_under (after f d) file ≢ Some place
  read : text_under (after f d) name ≡ Some has

reads_on : (f : Files) → IsCoherent f → (d : List Deed) (e : Deed) (file name end : List ℕ) (place : FilePlace) (has : List ℕ)
    → KeepsDirectories (after f d) e
    → ((p : FilePlace) → place_under (after f d) file ≢ Some p → IsElsewhere (after f d) p e)
    → is_link (kind_under (after f (d ++ e ∷ [])) file) ≡ false
    → Reads f d file name end place has → Reads f (d ++ e ∷ []) file name end place has
reads_on f c d e file name end place has keeps elsewhere still r =
    let s = stands_on f c d e end place (Some has) keeps (elsewhere place r.apart)
    (record { at = r.at; plain = end_is_plain _ name end r.leads; has = sym (c.linked d name end r.leads) ∙ r.read }) in
    let leads_still = leads_on f c d e name end keeps (λ p link at is. elsewhere p (apart_from_link f c d link file p at is r.plain)) s.plain r.leads in
    record {
      plain = still;
      leads = leads_still;
      at = s.at;
      apart = moved f c d e file place keeps r.apart;
      read = c.linked _ name end leads_still ∙ s.has;
    }

reads_filled : (f : Files) → IsCoherent f → (d : List Deed) (file text name end : List ℕ) (place : FilePlace) (has : List ℕ)
    → Reads f d file name end place has
    → Reads f (d ++ Made file ∷ Filled file None text ∷ []) file name end place has
reads_filled f c d file text name end place has r =
    let d1 = d ++ Made file ∷ [] in
    let made_plain = c.no_new_link d (Made file) file tt r.plain in
    let r1 = reads_on f c d (Made file) file name end place has tt (λ p other. other) made_plain r in
    let r2 = reads_on f c d1 (Filled file None text) file name end place has tt (λ p other. other) (c.no_new_link d1 (Filled file None text) file tt made_plain) r1 in
    subst (λ l. Reads f l file name end place has) (append_assoc d (Made file ∷ []) (Filled file None text ∷ [])) r2

-- The same after what was under the name is removed.
other_removed : (f : Files) → IsCoherent f → (d : List Deed) (file text name end : List ℕ) (place : FilePlace) (has : List ℕ)
    → is_link (kind_under (after f d) file) ≡ false → LeadsTo (after f d) name end
    → place_under (after f d) end ≡ Some place → place_under (after f d) file ≢ Some place
    → text_under (after f d) name ≡ Some has
    → (let new = d ++ Removed file ∷ Made file ∷ Filled file None text ∷ [] in
    (text_under (after f new) name ≡ Some has) × LeadsTo (after f new) name end
    × (place_under (after f new) end ≡ Some place))
other_removed f c d file text name end place has plain leads at apart read =
    let r0 : Reads f d file name end place has = record { plain = plain; leads = leads; at = at; apart = apart; read = read } in
    let r1 = reads_on f c d (Removed file) file name end place has plain (λ p other. other) (free_plain _ (c.gone d file)) r0 in
    let r = subst (λ l. Reads f l file name end place has) (append_assoc d (Removed file ∷ []) (Made file ∷ Filled file None text ∷ []))
    (reads_filled f c (d ++ Removed file ∷ []) file text name end place has r1) in
    (r.read, r.leads, r.at)

-- What is read under another name stays after the last file is made anew.
pub other_last : (f : Files) → IsCoherent f → (d : List Deed) (file text name end : List ℕ) (place : FilePlace) (has : List ℕ) (seen : Found)
    → is_link (kind_under (after f d) file) ≡ false → LeadsTo (after f d) name end
    → place_under (after f d) end ≡ Some place → place_under (after f d) file ≢ Some place
    → text_under (after f d) name ≡ Some has
    → (let new = d ++ (clearing file seen ++ Made file ∷ Filled file None text ∷ []) in
    (text_under (after f new) name ≡ Some has) × LeadsTo (after f new) name end
    × (place_under (after f new) end ≡ Some place))
other_last f c d file text name end place has found.Nothing plain leads at apart read =
    let r = reads_filled f c d file text name end place has (record { plain = plain; leads = leads; at = at; apart = apart; read = read }) in (r.read, r.leads, r.at)
other_last f c d file text name end place has found.Directory plain leads at apart read =
    let r = reads_filled f c d file text name end place has (record { plain = plain; leads = leads; at = at; apart = apart; read = read }) in (r.read, r.leads, r.at)
other_last f c d file text name end place has found.Special plain leads at apart read =
    let r = reads_filled f c d file text name end place has (record { plain = plain; leads = leads; at = at; apart = apart; read = read }) in (r.read, r.leads, r.at)
other_last f c d file text name end place has found.Link plain leads at apart read = other_removed f c d file text name end place has plain leads at apart read
other_last f c d file text name end place has (found.File mode) plain leads at apart read = other_removed f c d file text name end place has plain leads at apart read
