-- What is read after a run, one put after the other.
use Rattle.std.proofs.Common.{◌≡◌, ◌≢◌, ℕ, ◌+◌, Bool, true, false, List, [], ◌∷◌, ◌++◌, Option, Some, None, refl, sym, ap, subst, ◌∙◌, append_assoc, arith}
use Rattle.std.specs.Prelude.{◌||◌, All}
use Rattle.std.proofs.lemmas.Bool.{true≢false, or_left, or_parts, or_right}
use Rattle.std.proofs.lemmas.List.Elements.{All-nil, All-pop, All-push, All-weaker}
use Rattle.file_disk.specs.Clearing.{clearing, clearing_now}
use Rattle.file_disk.specs.Known.{Known, Files, Deed, Made, Filled, Removed, with_deeds, kind_under, text_under}
use Rattle.file_disk.specs.declared.found.Found.{Found}
use Rattle.file_disk.specs.declared.found.Found.TheVariants as found
use Rattle.file_texts.specs.Coherent.{after, HasPlace, IsCoherent, IsApart, IsPutApart, ReadsAt}
use Rattle.file_texts.specs.Done.{AreDone, none, taken, refused, IsTakenSo, may_make}
use Rattle.file_texts.specs.Links.{is_link, itself}
use Rattle.file_texts.specs.Places.{is_among, is_held_at, is_place_guarded, place_under}
use Rattle.file_texts.specs.Steps.{IsReplaced, replaced}
use Rattle.file_texts.specs.declared.places.Guard.{Guard}
use Rattle.file_texts.specs.declared.places.FilePlace.{FilePlace}
use Rattle.output_put.specs.declared.artifact.Artifact.{Artifact}
use Rattle.file_laws.proofs.Places.{IsIn, among_more, end_is_name, free_made, in_after_none, in_after_put, own_stays, place_after_put}
use Rattle.file_laws.proofs.Runs.{of_done, of_made, of_put}
use Rattle.file_laws.specs.Rerun.{AreNeverLinks, AreOfRun, InputsAreKept, IsNeverLink, IsOver, LastIsRead, OutputsAreRead}

-- What the laws of `file_texts` say.
abbrev PutsAreRead : Type 0
PutsAreRead = (k : Known) (guards : List Guard) (places new : List FilePlace) (artifact : Artifact) (line : List ℕ) (deeds : List Deed)
    → IsCoherent k.files → IsTakenSo k guards places new artifact line deeds
    → text_under (with_deeds k deeds) artifact.name ≡ Some artifact.text

abbrev PutsLeaveOthers : Type 0
PutsLeaveOthers = (k : Known) (guards : List Guard) (places new : List FilePlace) (artifact : Artifact) (line : List ℕ) (deeds : List Deed) (name : List ℕ) (place : FilePlace) (text : List ℕ)
    → IsCoherent k.files → (put : IsTakenSo k guards places new artifact line deeds)
    → IsPutApart k artifact put.file place → ReadsAt k name place text
    → ReadsAt (with_deeds k deeds) name place text

abbrev LastLeavesOthers : Type 0
LastLeavesOthers = (k : Known) (file written : List ℕ) (deeds : List Deed) (name : List ℕ) (place : FilePlace) (text : List ℕ)
    → IsCoherent k.files → IsReplaced k file written deeds → IsApart k file place
    → ReadsAt k name place text → ReadsAt (with_deeds k deeds) name place text

abbrev LastsAreRead : Type 0
LastsAreRead = (k : Known) (file text : List ℕ) (deeds : List Deed)
    → IsCoherent k.files → HasPlace k file → is_link (kind_under k file) ≡ false
    → IsReplaced k file text deeds
    → text_under (with_deeds k deeds) file ≡ Some text

-- ---- one put

-- A place that is held is not that of a put.
put_apart : (f : Files) → IsCoherent f → (d : List Deed) (guards : List Guard) (places new : List FilePlace) (artifact : Artifact) (line : List ℕ) (deeds : List Deed) (place : FilePlace)
    → IsNeverLink f artifact.name → AreOfRun f d → (so : IsTakenSo (after f d) guards places new artifact line deeds) → is_held_at (Some place) guards places ≡ true
    → IsPutApart (after f d) artifact so.file place
put_apart f c d guards places new artifact line deeds place never of so held =
    let named : so.file ≡ artifact.name = end_is_name f d artifact.name artifact.kind so.file never of so.ends in
    let free = free_made f c d guards places new artifact.name so.file artifact.kind so.placed in
    let at : List Deed = d ++ may_make artifact.kind artifact.name in (
      subst (λ n. is_link (kind_under (after f at) n) ≡ false) (sym named) (never at (of_made f d artifact.kind artifact.name of)),
      λ same.
          let own : free.own ≡ place = cc in
          true≢false (sym held ∙ subst (λ p. is_held_at (Some p) guards places ≡ false) own free.free),
    )

-- ---- what was read before

inputs_by : (f : Files) → IsCoherent f → PutsLeaveOthers → (guards : List Guard) (artifacts : List Artifact) (failures : ℕ) (lines : List ℕ) (places : List FilePlace) (deeds : List Deed)
    → AreDone f guards artifacts failures lines places deeds → failures ≡ 0 → AreNeverLinks f artifacts
    → (name : List ℕ) (place : FilePlace) (text : List ℕ) → is_place_guarded place guards ≡ true → ReadsAt (after f []) name place text → ReadsAt (after f deeds) name place text
inputs_by f c law guards artifacts failures lines places deeds none zero never name place text guarded r = r
inputs_by f c law guards artifacts failures lines places deeds (taken earlier count before_lines before_places new before artifact line more done so) zero never name place text guarded r =
    let split = All-pop (λ a. IsNeverLink f a.name) (earlier ++ artifact ∷ []) earlier (Some artifact) refl never in
    let kept = inputs_by f c law guards earlier count before_lines before_places before done zero split.0 name place text guarded r in
    law (after f before) guards before_places new artifact line more name place text c so
    (put_apart f c before guards before_places new artifact line more place split.1 (of_done f c guards earlier count before_lines before_places before done zero) so (or_left (is_place_guarded place guards) (is_among place before_places) guarded)) kept
inputs_by f c law guards artifacts failures lines places deeds (refused earlier count before_lines before_places before kind refused_name more done so) zero never name place text guarded r =
    absurd (omega (arith, zero))

-- A place stays over all puts.
place_by : (f : Files) → IsCoherent f → (guards : List Guard) (artifacts : List Artifact) (failures : ℕ) (lines : List ℕ) (places : List FilePlace) (deeds : List Deed)
    → AreDone f guards artifacts failures lines places deeds → failures ≡ 0 → AreNeverLinks f artifacts
    → (name : List ℕ) (place : FilePlace) → place_under (after f []) name ≡ Some place → place_under (after f deeds) name ≡ Some place
place_by f c guards artifacts failures lines places deeds none zero never name place at = at
place_by f c guards artifacts failures lines places deeds (taken earlier count before_lines before_places new before artifact line more done so) zero never name place at =
    let split = All-pop (λ a. IsNeverLink f a.name) (earlier ++ artifact ∷ []) earlier (Some artifact) refl never in
    let of = of_done f c guards earlier count before_lines before_places before done zero in
    let named : so.file ≡ artifact.name = end_is_name f before artifact.name artifact.kind so.file split.1 of so.ends in
    place_after_put f c before artifact.kind artifact.name so.file artifact.text line more name place (subst (IsNeverLink f) (sym named) split.1) of so.put
    (place_by f c guards earlier count before_lines before_places before done zero split.0 name place at)
place_by f c guards artifacts failures lines places deeds (refused earlier count before_lines before_places before kind refused_name more done so) zero never name place at =
    absurd (omega (arith, zero))

-- ---- what was written

-- The artifact is read under its name, at a place that is that of an artifact, and isn't guarded.
record IsRead (f : Files) (guards : List Guard) (places : List FilePlace) (deeds : List Deed) (artifact : Artifact) : Type 0 where
  place : FilePlace
  among : is_among place places ≡ true
  free : is_place_guarded place guards ≡ false
  reads : ReadsAt (after f deeds) artifact.name place artifact.text

read_still : (f : Files) → IsCoherent f → PutsLeaveOthers → (d : List Deed) (guards : List Guard) (places new : List FilePlace) (artifact : Artifact) (line : List ℕ) (deeds : List Deed)
    → IsNeverLink f artifact.name → AreOfRun f d → IsTakenSo (after f d) guards places new artifact line deeds
    → (other : Artifact) → IsRead f guards places d other → IsRead f guards new (d ++ deeds) other
read_still f c law d guards places new artifact line deeds never of so other is =
    let free = free_made f c d guards places new artifact.name so.file artifact.kind so.placed in
    record {
      place = is.place;
      among = subst (λ l. is_among is.place l ≡ true) (sym free.are) (among_more is.place places free.more is.among);
      free = is.free;
      reads = law (after f d) guards places new artifact line deeds other.name is.place other.text c so
          (put_apart f c d guards places new artifact line deeds is.place never of so (or_right (is_place_guarded is.place guards) (is_among is.place places) is.among)) is.reads;
    }

read_now : (f : Files) → IsCoherent f → PutsAreRead → (d : List Deed) (guards : List Guard) (places new : List FilePlace) (artifact : Artifact) (line : List ℕ) (deeds : List Deed)
    → IsNeverLink f artifact.name → AreOfRun f d → IsTakenSo (after f d) guards places new artifact line deeds → IsRead f guards new (d ++ deeds) artifact
read_now f c law d guards places new artifact line deeds never of so =
    let named : so.file ≡ artifact.name = end_is_name f d artifact.name artifact.kind so.file never of so.ends in
    let free = free_made f c d guards places new artifact.name so.file artifact.kind so.placed in
    let text : text_under (after f (d ++ deeds)) artifact.name ≡ Some artifact.text = law (after f d) guards places new artifact line deeds c so in
    let at : place_under (after f (d ++ deeds)) so.file ≡ Some free.own =
    own_stays f c d artifact.kind artifact.name so.file artifact.text line deeds free.own (subst (IsNeverLink f) (sym named) never) of named so.put free.at in
    record {
      place = free.own;
      among = free.among;
      free = (or_parts (is_place_guarded free.own guards) (is_among free.own places) free.free).0;
      reads = record {
        end = artifact.name;
        leads = itself (never (d ++ deeds) (of_put f c d artifact.kind artifact.name so.file artifact.text line deeds so.put of));
        at = subst (λ n. place_under (after f (d ++ deeds)) n ≡ Some free.own) named at;
        read = text;
      };
    }

reads_by : (f : Files) → IsCoherent f → PutsAreRead → PutsLeaveOthers → (guards : List Guard) (artifacts : List Artifact) (failures : ℕ) (lines : List ℕ) (places : List FilePlace) (deeds : List Deed)
    → AreDone f guards artifacts failures lines places deeds → failures ≡ 0 → AreNeverLinks f artifacts → All (IsRead f guards places deeds) artifacts
reads_by f c own others guards artifacts failures lines places deeds none zero never = All-nil (IsRead f guards [] [])
reads_by f c own others guards artifacts failures lines places deeds (taken earlier count before_lines before_places new before artifact line more done so) zero never =
    let split = All-pop (λ a. IsNeverLink f a.name) (earlier ++ artifact ∷ []) earlier (Some artifact) refl never in
    let of = of_done f c guards earlier count before_lines before_places before done zero in
    All-push (IsRead f guards new (before ++ more)) earlier artifact
    (All-weaker (IsRead f guards before_places before) (IsRead f guards new (before ++ more)) (λ a is. read_still f c others before guards before_places new artifact line more split.1 of so a is) earlier
    (reads_by f c own others guards earlier count before_lines before_places before done zero split.0))
    (read_now f c own before guards before_places new artifact line more split.1 of so)
reads_by f c own others guards artifacts failures lines places deeds (refused earlier count before_lines before_places before kind refused_name more done so) zero never =
    absurd (omega (arith, zero))

-- ---- the whole run

-- The place of the last file, once all is put.
last_at : (f : Files) → IsCoherent f → (guards : List Guard) (artifacts : List Artifact) (last text : List ℕ) (place : FilePlace) (deeds : List Deed)
    → AreNeverLinks f artifacts → (over : IsOver f guards artifacts last text place deeds) → place_under (after f over.before) last ≡ Some place
last_at f c guards artifacts last text place deeds never over =
    place_by f c guards artifacts 0 over.lines over.places over.before over.done refl never last place over.at

-- What was done before the last file is what a run does.
of_over : (f : Files) → IsCoherent f → (guards : List Guard) (artifacts : List Artifact) (last text : List ℕ) (place : FilePlace) (deeds : List Deed)
    → (over : IsOver f guards artifacts last text place deeds) → AreOfRun f over.before
of_over f c guards artifacts last text place deeds over = of_done f c guards artifacts 0 over.lines over.places over.before over.done refl

-- Another place is apart from that of the last file.
last_apart : (f : Files) (d : List Deed) (last : List ℕ) (place other : FilePlace) → IsNeverLink f last → AreOfRun f d → place_under (after f d) last ≡ Some place → other ≢ place → IsApart (after f d) last other
last_apart f d last place other never of at differ = (never d of, λ is. differ (cc))

pub outputs_read : PutsAreRead → PutsLeaveOthers → LastLeavesOthers → OutputsAreRead
unfolding OutputsAreRead
outputs_read own others law f guards artifacts last text place deeds c never last_never over =
    All-weaker (IsRead f guards over.places over.before) (λ a. text_under (after f deeds) a.name ≡ Some a.text)
    (λ a is.
    let differ : is.place ≢ place = λ same. true≢false (sym over.guarded ∙ subst (λ p. is_place_guarded p guards ≡ false) same is.free) in
    let read = law (after f over.before) last text over.logged a.name is.place a.text c over.written
    (last_apart f over.before last place is.place last_never (of_over f c guards artifacts last text place deeds over) (last_at f c guards artifacts last text place deeds never over) differ) is.reads in
    subst (λ l. text_under (after f l) a.name ≡ Some a.text) (sym over.are) read.read)
    artifacts (reads_by f c own others guards artifacts 0 over.lines over.places over.before over.done refl never)

pub last_read : LastsAreRead → LastIsRead
unfolding LastIsRead
last_read law f guards artifacts last text place deeds c never last_never over =
    subst (λ l. text_under (after f l) last ≡ Some text) (sym over.are)
    (law (after f over.before) last text over.logged c (place, last_at f c guards artifacts last text place deeds never over)
    (last_never over.before (of_over f c guards artifacts last text place deeds over)) over.written)

pub inputs_kept : PutsLeaveOthers → LastLeavesOthers → InputsAreKept
unfolding InputsAreKept
inputs_kept others law f guards artifacts last written place deeds name own text c never last_never over guarded differ r =
    let kept = inputs_by f c others guards artifacts 0 over.lines over.places over.before over.done refl never name own text guarded r in
    let read = law (after f over.before) last written over.logged name own text c over.written
    (last_apart f over.before last place own last_never (of_over f c guards artifacts last written place deeds over) (last_at f c guards artifacts last written place deeds never over) differ) kept in
    subst (λ l. text_under (after f l) name ≡ Some text) (sym over.are) read.read

-- ---- directories

-- A directory stays over all puts.
in_by : (f : Files) → IsCoherent f → (guards : List Guard) (artifacts : List Artifact) (failures : ℕ) (lines : List ℕ) (places : List FilePlace) (deeds : List Deed)
    → AreDone f guards artifacts failures lines places deeds → failures ≡ 0 → AreNeverLinks f artifacts
    → (name : List ℕ) (x : ℕ × ℕ) → IsIn f [] name x → IsIn f deeds name x
in_by f c guards artifacts failures lines places deeds none zero never name x at = at
in_by f c guards artifacts failures lines places deeds (taken earlier count before_lines before_places new before artifact line more done so) zero never name x at =
    let split = All-pop (λ a. IsNeverLink f a.name) (earlier ++ artifact ∷ []) earlier (Some artifact) refl never in
    let of = of_done f c guards earlier count before_lines before_places before done zero in
    let named : so.file ≡ artifact.name = end_is_name f before artifact.name artifact.kind so.file split.1 of so.ends in
    in_after_put f c before artifact.kind artifact.name so.file artifact.text line more name x (subst (IsNeverLink f) (sym named) split.1) of so.put
    (in_by f c guards earlier count before_lines before_places before done zero split.0 name x at)
in_by f c guards artifacts failures lines places deeds (refused earlier count before_lines before_places before kind refused_name more done so) zero never name x at =
    absurd (omega (arith, zero))

in_after_clearing : (f : Files) → IsCoherent f → (d : List Deed) (file : List ℕ) (seen : Found) (name : List ℕ) (x : ℕ × ℕ)
    → is_link (kind_under (after f d) file) ≡ false → IsIn f d name x → IsIn f (d ++ clearing file seen) name x
in_after_clearing f c d file (found.File mode) name x plain at = c.directories_stay d (Removed file) name plain ∙ at
in_after_clearing f c d file found.Link name x plain at = c.directories_stay d (Removed file) name plain ∙ at
in_after_clearing f c d file found.Nothing name x plain at = in_after_none f d name x at
in_after_clearing f c d file found.Directory name x plain at = in_after_none f d name x at
in_after_clearing f c d file found.Special name x plain at = in_after_none f d name x at

in_after_replaced : (f : Files) → IsCoherent f → (d : List Deed) (file text : List ℕ) (deeds : List Deed) (name : List ℕ) (x : ℕ × ℕ)
    → is_link (kind_under (after f d) file) ≡ false → IsReplaced (after f d) file text deeds → IsIn f d name x → IsIn f (d ++ deeds) name x
in_after_replaced f c d file text deeds name x plain replaced at =
    let cleared : List Deed = clearing_now file (after f d) in
    let one : List Deed = d ++ cleared in
    let two : List Deed = one ++ Made file ∷ [] in
    subst (λ l. IsIn f l name x) (append_assoc one (Made file ∷ []) (Filled file None text ∷ []) ∙ append_assoc d cleared (Made file ∷ Filled file None text ∷ []))
    (c.directories_stay two (Filled file None text) name tt ∙ c.directories_stay one (Made file) name tt
    ∙ in_after_clearing f c d file (kind_under (after f d) file) name x plain at)

-- A directory that was there before a run is there once it is over.
pub in_after_run : (f : Files) → IsCoherent f → (guards : List Guard) (artifacts : List Artifact) (last text : List ℕ) (place : FilePlace) (deeds : List Deed)
    → AreNeverLinks f artifacts → IsNeverLink f last → IsOver f guards artifacts last text place deeds
    → (name : List ℕ) (x : ℕ × ℕ) → IsIn f [] name x → IsIn f deeds name x
in_after_run f c guards artifacts last text place deeds never last_never over name x at =
    subst (λ l. IsIn f l name x) (sym over.are)
    (in_after_replaced f c over.before last text over.logged name x (last_never over.before (of_over f c guards artifacts last text place deeds over)) over.written
    (in_by f c guards artifacts 0 over.lines over.places over.before over.done refl never name x at))
