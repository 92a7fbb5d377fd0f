-- A disk of directories, files and a link is changed by what is done to it alone.
use Rattle.std.proofs.Common.{◌≡◌, ◌≢◌, ℕ, suc, Bool, true, false, List, [], ◌∷◌, ◌++◌, Option, Some, None, refl, sym, ap, subst, ◌∙◌}
use Rattle.std.specs.Prelude.{◌&&◌, not, is_some, option_map, bytes_eq, codes, if◌then◌else◌}
use Rattle.std.proofs.lemmas.Bool.{true≢false, false_from_ne_true}
use Rattle.std.proofs.lemmas.Slice.Eq.{bytes_eq-Decides}
use Rattle.file_disk.specs.Known.{Known, Files, Deed, MadeDirectories, Made, Filled, Failed, Renamed, Removed, text_under, kind_under}
use Rattle.file_disk.specs.declared.found.Found.{Found}
use Rattle.file_disk.specs.declared.found.Found.TheVariants as found
use Rattle.file_texts.specs.Coherent.{after, HasPlace, IsCoherent, IsElsewhere, IsOfNewFile, KeepsDirectories}
use Rattle.file_texts.specs.Links.{is_link, name_from, IsNext, LeadsTo, itself, on}
use Rattle.file_texts.specs.Names.{home_of, last_of}
use Rattle.file_texts.specs.Places.{place_at, place_under}
use Rattle.file_texts.specs.declared.places.FilePlace.{FilePlace}
use Rattle.file_texts.proofs.Beside.{name_is}
use Rattle.file_laws.specs.Rerun.{AreOfRun, no_deeds, one_more, IsNeverLink, IsOfRun}
use Rattle.file_laws.specs.Tree.{Link, State, index_of, is_there, is_linked, own_text, end_of, plain_kind, text_in, kind_in, with_file, after_deed, after_deeds, tree}

-- ---- names and truth values

none_some : {X : Type 0} {x : X} → None ≡ Some x → ⊥
none_some e = cc

same_text : (a b : List ℕ) → bytes_eq a b ≡ true → a ≡ b
same_text a b is = (bytes_eq-Decides a b).0 is

turned : (a b : List ℕ) → bytes_eq a b ≡ true → bytes_eq b a ≡ true
turned a b is = (bytes_eq-Decides b a).1 (sym (same_text a b is))

differ : (a b : List ℕ) → (a ≡ b → ⊥) → bytes_eq a b ≡ false
differ a b other = false_from_ne_true (bytes_eq a b) (λ is. other (same_text a b is))

and_no : (b : Bool) → (b && false) ≡ false
and_no true = refl
and_no false = refl

-- a condition more makes nothing true
less_true : (l n r : Bool) → (l && r) ≡ false → ((l && n) && r) ≡ false
less_true true true r is = is
less_true true false r is = refl
less_true false n r is = refl

same_true : (l n r : Bool) → n ≡ true → (l && r) ≡ true → ((l && n) && r) ≡ true
same_true true true r n_is is = is
same_true true false r n_is is = absurd (true≢false (sym n_is))
same_true false n r n_is is = is

both_true : (l e t : Bool) → (l && (e && t)) ≡ true → (l ≡ true) × (e ≡ true) × (t ≡ true)
both_true true true true is = (refl, refl, refl)
both_true true true false is = absurd (true≢false (sym is))
both_true true false t is = absurd (true≢false (sym is))
both_true false e t is = absurd (true≢false (sym is))

never_both : (l e turned t : Bool) → (e ≡ true → turned ≡ true) → ((l && not turned) && (e && t)) ≡ false
never_both l false turned t same = and_no (l && not turned)
never_both l true turned t same = ap (λ b. (l && not b) && t) (same refl) ∙ ap (λ b. b && t) (and_no l)

if_true : {A : Type 0} (b : Bool) (x y : A) → b ≡ true → (if b then x else y) ≡ x
if_true b x y is = ap (λ c. if c then x else y) is

if_false : {A : Type 0} (b : Bool) (x y : A) → b ≡ false → (if b then x else y) ≡ y
if_false b x y is = ap (λ c. if c then x else y) is

if_same : {A : Type 0} (b : Bool) (x : A) → (if b then x else x) ≡ x
if_same true x = refl
if_same false x = refl

-- ---- numbers of directories

abbrev Numbered : Option ℕ → Type 0
Numbered o = (i : ℕ) × (o ≡ Some i)

index_more_by : (b : Bool) (o p : Option ℕ) (i : ℕ) → ((j : ℕ) → o ≡ Some j → p ≡ Some j)
    → (if b then Some 0 else option_map suc o) ≡ Some i → (if b then Some 0 else option_map suc p) ≡ Some i
index_more_by true o p i more is = is
index_more_by false None p i more is = absurd (none_some is)
index_more_by false (Some j) p i more is = ap (option_map suc) (more j refl) ∙ is

index_more : (homes more : List (List ℕ)) (home : List ℕ) (i : ℕ) → index_of homes home ≡ Some i → index_of (homes ++ more) home ≡ Some i
index_more [] more home i is = absurd (none_some is)
index_more (first ∷ homes) more home i is =
    index_more_by (bytes_eq home first) (index_of homes home) (index_of (homes ++ more) home) i (λ j at. index_more homes more home j at) is

index_same_by : (a b : Bool) (o p : Option ℕ) (i : ℕ) (R : Type 0) → (a ≡ true → b ≡ true → R) → ((j : ℕ) → o ≡ Some j → p ≡ Some j → R)
    → (if a then Some 0 else option_map suc o) ≡ Some i → (if b then Some 0 else option_map suc p) ≡ Some i → R
index_same_by true true o p i R here later is_a is_b = here refl refl
index_same_by true false o None i R here later is_a is_b = absurd (none_some is_b)
index_same_by true false o (Some k) i R here later is_a is_b = absurd (some_suc (is_a ∙ sym is_b))
  where
    some_suc : {n : ℕ} → Some 0 ≡ Some (suc n) → ⊥
    some_suc e = cc
index_same_by false true None p i R here later is_a is_b = absurd (none_some is_a)
index_same_by false true (Some j) p i R here later is_a is_b = absurd (some_suc (is_b ∙ sym is_a))
  where
    some_suc : {n : ℕ} → Some 0 ≡ Some (suc n) → ⊥
    some_suc e = cc
index_same_by false false None p i R here later is_a is_b = absurd (none_some is_a)
index_same_by false false (Some j) None i R here later is_a is_b = absurd (none_some is_b)
index_same_by false false (Some j) (Some k) i R here later is_a is_b = later j refl (one (is_a ∙ sym is_b))
  where
    one : {m n : ℕ} → Some (suc m) ≡ Some (suc n) → Some n ≡ Some m
    one e = cc

index_same : (homes : List (List ℕ)) (a b : List ℕ) (i : ℕ) → index_of homes a ≡ Some i → index_of homes b ≡ Some i → a ≡ b
index_same [] a b i is_a is_b = absurd (none_some is_a)
index_same (first ∷ homes) a b i is_a is_b =
    index_same_by (bytes_eq a first) (bytes_eq b first) (index_of homes a) (index_of homes b) i (a ≡ b)
    (λ at_a at_b. same_text a first at_a ∙ sym (same_text b first at_b)) (λ j at_a at_b. index_same homes a b j at_a at_b) is_a is_b

-- ---- places

abbrev place_for : List ℕ → Option ℕ → Option FilePlace
place_for name o = option_map (place_at name) (option_map (λ i. (0, i)) o)

there_by : (name : List ℕ) (o : Option ℕ) (place : FilePlace) → place_for name o ≡ Some place → is_some o ≡ true
there_by name None place is = absurd (none_some is)
there_by name (Some i) place is = refl

place_by : (name : List ℕ) (o : Option ℕ) (place : FilePlace) → place_for name o ≡ Some place → (o ≡ Some place.directory) × (last_of name ≡ place.name)
place_by name None place is = absurd (none_some is)
place_by name (Some i) place is = (ap Some (ap place_number is), ap place_name is)
  where
    place_number : Option FilePlace → ℕ
    place_number None = 0
    place_number (Some p) = p.directory

    place_name : Option FilePlace → List ℕ
    place_name None = []
    place_name (Some p) = p.name

has_place_by : (name : List ℕ) (o : Option ℕ) → is_some o ≡ true → (place : FilePlace) × (place_for name o ≡ Some place)
has_place_by name None is = absurd (true≢false (sym is))
has_place_by name (Some i) is = (place_at name (0, i), refl)

-- ---- what is under a name

link_is : (b : Bool) (o : Option (List ℕ)) → is_link (if b then found.Link else plain_kind o) ≡ b
link_is true o = refl
link_is false None = refl
link_is false (Some text) = refl

kind_is_link : (link : Link) (s : State) (name : List ℕ) → is_link (kind_in link s name) ≡ is_linked link s name
kind_is_link link s name = link_is (is_linked link s name) (own_text s name)

no_text : (b : Bool) (o p : Option (List ℕ)) → (if b then found.Link else plain_kind o) ≡ found.Nothing → (if b then p else o) ≡ None
no_text true o p is = absurd (link_nothing is)
  where
    link_nothing : found.Link ≡ found.Nothing → ⊥
    link_nothing e = cc
no_text false None p is = refl
no_text false (Some text) p is = absurd (file_nothing is)
  where
    file_nothing : found.File 0o100644 ≡ found.Nothing → ⊥
    file_nothing e = cc

nothing_by : (l e t : Bool) (o : Option (List ℕ)) → t ≡ false → (if (l && (e && t)) then found.Link else plain_kind (if t then o else None)) ≡ found.Nothing
nothing_by l e true o is = absurd (true≢false is)
nothing_by l e false o is = ap (λ b. if b then found.Link else found.Nothing) (ap (λ b. l && b) (and_no e) ∙ and_no l)

-- A file that is put, where it is put.
unlinked : (link : Link) (s : State) (name : List ℕ) (text : Option (List ℕ)) → is_linked link (with_file link s name text) name ≡ false
unlinked link s name text = never_both s.linked (bytes_eq name link.name) (bytes_eq link.name name) (is_there s name) (turned name link.name)

put_own : (link : Link) (s : State) (name : List ℕ) (text : Option (List ℕ)) → own_text (with_file link s name text) name ≡ (if is_there s name then text else None)
put_own link s name text = ap (λ t. if is_there s name then t else None) (if_true (bytes_eq name name) text (s.texts name) ((bytes_eq-Decides name name).1 refl))

put_text : (link : Link) (s : State) (name : List ℕ) (text : Option (List ℕ)) → text_in link (with_file link s name text) name ≡ (if is_there s name then text else None)
put_text link s name text =
    let new = with_file link s name text in
    if_false (is_linked link new name) (own_text new (end_of link)) (own_text new name) (unlinked link s name text) ∙ put_own link s name text

put_kind : (link : Link) (s : State) (name : List ℕ) (text : Option (List ℕ)) → kind_in link (with_file link s name text) name ≡ plain_kind (if is_there s name then text else None)
put_kind link s name text =
    let new = with_file link s name text in
    if_false (is_linked link new name) found.Link (plain_kind (own_text new name)) (unlinked link s name text) ∙ ap plain_kind (put_own link s name text)

-- What stays under another name.
record Stays (link : Link) (old new : State) (name : List ℕ) : Type 0 where
  texts : new.texts name ≡ old.texts name
  less : (r : Bool) → (old.linked && r) ≡ false → (new.linked && r) ≡ false
  same : bytes_eq name link.name ≡ true → old.linked ≡ true → new.linked ≡ true

stays_all : (link : Link) (s : State) (name : List ℕ) → Stays link s s name
stays_all link s name = record { texts = refl; less = λ r is. is; same = λ n is. is }

put_stays : (link : Link) (s : State) (other name : List ℕ) (text : Option (List ℕ)) → (other ≡ name → ⊥) → Stays link s (with_file link s other text) name
put_stays link s other name text apart = record {
  texts = if_false (bytes_eq name other) text (s.texts name) (differ name other (λ is. apart (sym is)));
  less = λ r is. less_true s.linked (not (bytes_eq link.name other)) r is;
  same = λ named is.
      ap (λ b. b && not (bytes_eq link.name other)) is
      ∙ ap not (differ link.name other (λ same. apart (sym same ∙ sym (same_text name link.name named))));
}

stays_then : (link : Link) (a b c : State) (name : List ℕ) → Stays link a b name → Stays link b c name → Stays link a c name
stays_then link a b c name s t = record {
  texts = t.texts ∙ s.texts;
  less = λ r is. t.less r (s.less r is);
  same = λ named is. t.same named (s.same named is);
}

if_stays : (link : Link) (b : Bool) (s new : State) (name : List ℕ) → Stays link s new name → Stays link s (if b then s else new) name
if_stays link true s new name is = stays_all link s name
if_stays link false s new name is = is

module _ (link : Link) (start : State) where
  abbrev f : Files
  f = tree link start

  abbrev at : List Deed → State
  at d = after_deeds link start d

  last : (d : List Deed) (deed : Deed) → at (d ++ deed ∷ []) ≡ after_deed link deed (at d)
  last d deed = last_of_all start d deed
    where
      last_of_all : (s : State) (d : List Deed) (deed : Deed) → after_deeds link s (d ++ deed ∷ []) ≡ after_deed link deed (after_deeds link s d)
      last_of_all s [] deed = refl
      last_of_all s (first ∷ d) deed = last_of_all (after_deed link first s) d deed

  there : (d : List Deed) (name : List ℕ) → HasPlace (after f d) name → is_there (at d) name ≡ true
  there d name has = there_by name (index_of (at d).homes (home_of name)) has.0 has.1

  -- A deed elsewhere leaves what is under a name.
  elsewhere : (d : List Deed) (deed : Deed) (name : List ℕ) (place : FilePlace) → place_under (after f d) name ≡ Some place → IsElsewhere (after f d) place deed
      → Stays link (at d) (after_deed link deed (at d)) name
  elsewhere d (MadeDirectories made) name place is apart = record { texts = refl; less = λ r none. none; same = λ named linked_is. linked_is }
  elsewhere d (Made other) name place is apart = put_stays link (at d) other name (Some []) (λ same. apart (ap (place_under (after f d)) same ∙ is))
  elsewhere d (Filled other mode text) name place is apart = put_stays link (at d) other name (Some text) (λ same. apart (ap (place_under (after f d)) same ∙ is))
  elsewhere d (Failed other) name place is apart = put_stays link (at d) other name (Some []) (λ same. apart (ap (place_under (after f d)) same ∙ is))
  elsewhere d (Renamed from to) name place is apart =
      let s = at d in
      let gone = with_file link s from None in
      if_stays link (is_linked link s from) s (with_file link gone to (own_text s from)) name
      (stays_then link s gone (with_file link gone to (own_text s from)) name
      (put_stays link s from name None (λ same. apart.0 (ap (place_under (after f d)) same ∙ is)))
      (put_stays link gone to name (own_text s from) (λ same. apart.1 (ap (place_under (after f d)) same ∙ is))))
  elsewhere d (Removed other) name place is apart = put_stays link (at d) other name None (λ same. apart (ap (place_under (after f d)) same ∙ is))

  stays_on : (d : List Deed) (deed : Deed) (name : List ℕ) (place : FilePlace) → place_under (after f d) name ≡ Some place → IsElsewhere (after f d) place deed
      → Stays link (at d) (at (d ++ deed ∷ [])) name
  stays_on d deed name place is apart = subst (λ s. Stays link (at d) s name) (sym (last d deed)) (elsewhere d deed name place is apart)

  -- A new file makes no link.
  new_file : (d : List Deed) (name other : List ℕ) (text : Option (List ℕ)) → is_link (kind_under (after f d) name) ≡ false
      → is_link (kind_in link (with_file link (at d) other text) name) ≡ false
  new_file d name other text is =
      kind_is_link link (with_file link (at d) other text) name
      ∙ less_true (at d).linked (not (bytes_eq link.name other)) (bytes_eq name link.name && is_there (at d) name) (sym (kind_is_link link (at d) name) ∙ is)

  new_link : (d : List Deed) (deed : Deed) (name : List ℕ) → IsOfNewFile deed → is_link (kind_under (after f d) name) ≡ false
      → is_link (kind_in link (after_deed link deed (at d)) name) ≡ false
  new_link d (MadeDirectories made) name new is = absurd new
  new_link d (Made other) name new is = new_file d name other (Some []) is
  new_link d (Filled other mode text) name new is = new_file d name other (Some text) is
  new_link d (Failed other) name new is = new_file d name other (Some []) is
  new_link d (Renamed from to) name new is = absurd new
  new_link d (Removed other) name new is = absurd new

  same_homes : (d : List Deed) (deed : Deed) → KeepsDirectories (after f d) deed → (after_deed link deed (at d)).homes ≡ (at d).homes
  same_homes d (MadeDirectories made) keeps = absurd keeps
  same_homes d (Made other) keeps = refl
  same_homes d (Filled other mode text) keeps = refl
  same_homes d (Failed other) keeps = refl
  same_homes d (Renamed from to) keeps = by (is_linked link (at d) from)
    where
      by : (b : Bool) → (if b then at d else with_file link (with_file link (at d) from None) to (own_text (at d) from)).homes ≡ (at d).homes
      by true = refl
      by false = refl
  same_homes d (Removed other) keeps = refl

  -- What is renamed.
  renamed_state : (d : List Deed) (from to : List ℕ) → is_link (kind_under (after f d) from) ≡ false
      → at (d ++ Renamed from to ∷ []) ≡ with_file link (with_file link (at d) from None) to (own_text (at d) from)
  renamed_state d from to plain =
      last d (Renamed from to)
      ∙ if_false (is_linked link (at d) from) (at d) (with_file link (with_file link (at d) from None) to (own_text (at d) from)) (sym (kind_is_link link (at d) from) ∙ plain)

  renamed_own : (d : List Deed) (from to : List ℕ) → HasPlace (after f d) to → (if is_there (at d) to then own_text (at d) from else None) ≡ own_text (at d) from
  renamed_own d from to has = if_true (is_there (at d) to) (own_text (at d) from) None (there d to has)

  -- Where the link leads.
  linked_name : (d : List Deed) (name : List ℕ) → is_link (kind_under (after f d) name) ≡ true
      → (is_linked link (at d) name ≡ true) × (name ≡ link.name)
  linked_name d name is =
      let linked : is_linked link (at d) name ≡ true = sym (kind_is_link link (at d) name) ∙ is in
      (linked, same_text name link.name (both_true (at d).linked (bytes_eq name link.name) (is_there (at d) name) linked).1)

  plain_end : end_of link ≢ link.name → (d : List Deed) → is_linked link (at d) (end_of link) ≡ false
  plain_end apart d = ap (λ b. (at d).linked && (b && is_there (at d) (end_of link))) (differ (end_of link) link.name apart) ∙ and_no (at d).linked

  target_of : (d : List Deed) (name next : List ℕ) → is_linked link (at d) name ≡ true → name ≡ link.name → IsNext (after f d) name next → next ≡ end_of link
  target_of d name next linked same is =
      let some : Some is.target ≡ Some link.target = sym is.there ∙ if_true (is_linked link (at d) name) (Some link.target) None linked in
      let target : is.target ≡ link.target = cc in
      is.from ∙ ap (λ n. name_from n is.target) same ∙ ap (name_from link.name) target

  leads_to : end_of link ≢ link.name → (d : List Deed) (name end : List ℕ) → name ≡ end_of link → LeadsTo (after f d) name end → end ≡ end_of link
  leads_to apart d name end same (itself is) = same
  leads_to apart d name end same (on next last link_is n leads) = absurd (apart (sym same ∙ (linked_name d name link_is).1))

  read_through : end_of link ≢ link.name → (d : List Deed) (name end : List ℕ) → LeadsTo (after f d) name end → text_in link (at d) name ≡ text_in link (at d) end
  read_through apart d name end (itself is) = refl
  read_through apart d name end (on next last link_is n leads) =
      let here = linked_name d name link_is in
      let next_is = target_of d name next here.0 here.1 n in
      let end_is = leads_to apart d next end next_is leads in
      if_true (is_linked link (at d) name) (own_text (at d) (end_of link)) (own_text (at d) name) here.0
      ∙ sym (if_false (is_linked link (at d) (end_of link)) (own_text (at d) (end_of link)) (own_text (at d) (end_of link)) (plain_end apart d))
      ∙ ap (text_in link (at d)) (sym end_is)

  -- A name that is no link reads what its own file has.
  reads_own : (d : List Deed) (name : List ℕ) → HasPlace (after f d) name → is_linked link (at d) name ≡ false → text_in link (at d) name ≡ (at d).texts name
  reads_own d name has plain =
      if_false (is_linked link (at d) name) (own_text (at d) (end_of link)) (own_text (at d) name) plain
      ∙ if_true (is_there (at d) name) ((at d).texts name) None (there d name has)

  plain_still : (d : List Deed) (deed : Deed) (name : List ℕ) (place : FilePlace) → place_under (after f d) name ≡ Some place
      → place_under (after f (d ++ deed ∷ [])) name ≡ Some place → Stays link (at d) (at (d ++ deed ∷ [])) name
      → is_link (kind_under (after f d) name) ≡ false → is_linked link (at (d ++ deed ∷ [])) name ≡ false
  plain_still d deed name place is now stays plain =
      stays.less (bytes_eq name link.name && is_there (at (d ++ deed ∷ [])) name)
      (ap (λ t. (at d).linked && (bytes_eq name link.name && t)) (there (d ++ deed ∷ []) name (place, now) ∙ sym (there d name (place, is))) ∙ sym (kind_is_link link (at d) name) ∙ plain)

  linked_still : (d : List Deed) (deed : Deed) (name : List ℕ) (place : FilePlace)
      → place_under (after f (d ++ deed ∷ [])) name ≡ Some place → Stays link (at d) (at (d ++ deed ∷ [])) name
      → is_link (kind_under (after f d) name) ≡ true → is_linked link (at (d ++ deed ∷ [])) name ≡ true
  linked_still d deed name place now stays linked_is =
      let parts = both_true (at d).linked (bytes_eq name link.name) (is_there (at d) name) (sym (kind_is_link link (at d) name) ∙ linked_is) in
      let new = at (d ++ deed ∷ []) in
      ap (λ l. l && (bytes_eq name link.name && is_there new name)) (stays.same parts.1 parts.0)
      ∙ ap (λ b. b && is_there new name) parts.1
      ∙ there (d ++ deed ∷ []) name (place, now)

  pub tree_is_coherent : end_of link ≢ link.name → IsCoherent (tree link start)
  tree_is_coherent apart = record {
    filled = λ d name mode text has.
        ap (λ s. text_in link s name) (last d (Filled name mode text)) ∙ put_text link (at d) name (Some text) ∙ if_true (is_there (at d) name) (Some text) None (there d name has);
    renamed = λ d from to has plain.
        ap (λ s. text_in link s to) (renamed_state d from to plain)
        ∙ put_text link (with_file link (at d) from None) to (own_text (at d) from) ∙ renamed_own d from to has
        ∙ sym (if_false (is_linked link (at d) from) (own_text (at d) (end_of link)) (own_text (at d) from) (sym (kind_is_link link (at d) from) ∙ plain));
    renamed_kind = λ d from to has plain.
        ap (λ s. kind_in link s to) (renamed_state d from to plain)
        ∙ put_kind link (with_file link (at d) from None) to (own_text (at d) from) ∙ ap plain_kind (renamed_own d from to has)
        ∙ sym (if_false (is_linked link (at d) from) found.Link (plain_kind (own_text (at d) from)) (sym (kind_is_link link (at d) from) ∙ plain));
    gone = λ d name.
        ap (λ s. kind_in link s name) (last d (Removed name)) ∙ put_kind link (at d) name None ∙ ap plain_kind (if_same (is_there (at d) name) None);
    nothing = λ d name is. no_text (is_linked link (at d) name) (own_text (at d) name) (own_text (at d) (end_of link)) is;
    somewhere = λ d name some. is_somewhere d name some (is_there (at d) name) refl;
    one = λ d a b place at_a at_b.
        let in_a = place_by a (index_of (at d).homes (home_of a)) place at_a in
        let in_b = place_by b (index_of (at d).homes (home_of b)) place at_b in
        ap (kind_in link (at d)) (name_is a b (index_same (at d).homes (home_of a) (home_of b) place.directory in_a.0 in_b.0) (in_a.1 ∙ sym in_b.1));
    linked = λ d name end leads. read_through apart d name end leads;
    stays = λ d deed name place is now elsewhere_is plain.
        let s = stays_on d deed name place is elsewhere_is in
        let still = plain_still d deed name place is now s plain in (
          kind_is_link link (at (d ++ deed ∷ [])) name ∙ still,
          reads_own (d ++ deed ∷ []) name (place, now) still ∙ s.texts ∙ sym (reads_own d name (place, is) (sym (kind_is_link link (at d) name) ∙ plain)),
        );
    links_stay = λ d deed name place is now elsewhere_is linked_is.
        let still = linked_still d deed name place now (stays_on d deed name place is elsewhere_is) linked_is in (
          kind_is_link link (at (d ++ deed ∷ [])) name ∙ still,
          if_true (is_linked link (at (d ++ deed ∷ [])) name) (Some link.target) None still
              ∙ sym (if_true (is_linked link (at d) name) (Some link.target) None (sym (kind_is_link link (at d) name) ∙ linked_is)),
        );
    no_new_link = λ d deed name new is. ap (λ s. is_link (kind_in link s name)) (last d deed) ∙ new_link d deed name new is;
    directories_stay = λ d deed name keeps.
        ap (λ homes. option_map (λ i. (0, i)) (index_of homes name)) (ap (λ s. s.homes) (last d deed) ∙ same_homes d deed keeps);
    directories_last = λ d made name directory is.
        ap (λ (s : State). option_map (λ i. (0, i)) (index_of s.homes name)) (last d (MadeDirectories made)) ∙ still_in (index_of (at d).homes name) made name directory d refl is;
  }
    where
      is_somewhere : (d : List Deed) (name : List ℕ) → kind_under (after f d) name ≢ found.Nothing → (t : Bool) → is_there (at d) name ≡ t → HasPlace (after f d) name
      is_somewhere d name some true is = has_place_by name (index_of (at d).homes (home_of name)) is
      is_somewhere d name some false is = absurd (some (nothing_by (at d).linked (bytes_eq name link.name) (is_there (at d) name) ((at d).texts name) is))

      still_in : (o : Option ℕ) (made name : List ℕ) (directory : ℕ × ℕ) (d : List Deed) → index_of (at d).homes name ≡ o → option_map (λ i. (0, i)) o ≡ Some directory
          → option_map (λ i. (0, i)) (index_of ((at d).homes ++ (made ++ codes "/") ∷ []) name) ≡ Some directory
      still_in None made name directory d is some = absurd (none_some some)
      still_in (Some i) made name directory d is some =
          ap (option_map (λ j. (0, j))) (index_more (at d).homes ((made ++ codes "/") ∷ []) name i is) ∙ some

  -- Another name than the link's is never that of a link.
  pub never_linked : (name : List ℕ) → name ≢ link.name → IsNeverLink (tree link start) name
  never_linked name apart d of =
      kind_is_link link (at d) name ∙ ap (λ b. (at d).linked && (b && is_there (at d) name)) (differ name link.name apart) ∙ and_no (at d).linked
