-- What is read after a put.
use Rattle.std.proofs.Common.{◌≡◌, ℕ, false, List, [], ◌++◌, Option, Some, None, sym, subst}
use Rattle.file_disk.specs.Known.{Known, Deed, with_deeds, text_under, kind_under}
use Rattle.file_disk.proofs.Deeds.{with_none, with_more}
use Rattle.output_put.specs.declared.artifact.Artifact.{Artifact}
use Rattle.output_put.specs.declared.artifact.Kind.{Kind}
use Rattle.output_put.specs.declared.artifact.Kind.TheVariants.{Cache, Record, File, Header}
use Rattle.file_texts.specs.Coherent.{HasPlace, IsCoherent, IsApart, IsPutApart, ReadsAt}
use Rattle.file_texts.specs.Done.{IsEnd, IsPut, cache_same, cache_put, record_put, file_put, header_same, header_put, HasPlaces, there, made, IsTakenSo, may_make}
use Rattle.file_texts.specs.Names.{directory_of}
use Rattle.file_texts.specs.Steps.{IsWritten, IsReplaced, replaced, making, directories_for}
use Rattle.file_texts.specs.declared.places.Guard.{Guard}
use Rattle.file_texts.specs.declared.places.FilePlace.{FilePlace}
use Rattle.file_texts.specs.declared.writing.Keeps.{Keeps}
use Rattle.file_texts.specs.Links.{is_link}
use Rattle.file_texts.specs.Places.{ArePlaced, alone, both}
use Rattle.file_texts.proofs.Coherence.{made_stays, own_text, linked_text, other_text, made_text, end_is_plain, own_last, other_last}

-- After no deed everything is as it was.
none_read : (k : Known) (name text : List ℕ) → text_under k name ≡ Some text
    → text_under (with_deeds k []) name ≡ Some text
none_read k name text is = subst (λ q. text_under q name ≡ Some text) (with_none k) is

made_then : (k : Known) (keeps : Keeps) (name file text : List ℕ) (rest : List Deed) → IsCoherent k.files → file ≡ name
    → HasPlace (with_deeds k (directories_for name)) file
    → IsWritten (with_deeds k (directories_for name)) keeps file text rest
    → text_under (with_deeds k (directories_for name ++ rest)) name ≡ Some text
made_then k keeps name file text rest c end has w =
    subst (λ n. text_under (with_deeds k (directories_for name ++ rest)) n ≡ Some text) end
    (subst (λ q. text_under q file ≡ Some text) (with_more k (directories_for name) rest)
    (own_text k.files c (k.deeds ++ directories_for name) keeps file text rest has w))

-- The file of an artifact has a place before it is written.
of_placed : (k : Known) (guards : List Guard) (places new : List FilePlace) (name file : List ℕ)
    → ArePlaced k guards places new name file → HasPlace k file
of_placed k guards places new name file (alone added) = (added.place, added.at)
of_placed k guards places new name file (both end middle first second) = (first.place, first.at)

has_none : (k : Known) (file : List ℕ) → HasPlace k file → HasPlace (with_deeds k []) file
has_none k file has = subst (λ q. HasPlace q file) (with_none k) has

none_has : (k : Known) (file : List ℕ) → HasPlace (with_deeds k []) file → HasPlace k file
none_has k file has = subst (λ q. HasPlace q file) (sym (with_none k)) has

has_making : (k : Known) (directory : Option (List ℕ)) (file : List ℕ) → IsCoherent k.files
    → HasPlace k file → HasPlace (with_deeds k (making directory)) file
has_making k None file c has = has_none k file has
has_making k (Some directory) file c has = (has.0, made_stays k.files c k.deeds directory file has.0 has.1)

has_made : (k : Known) (kind : Kind) (name file : List ℕ) → IsCoherent k.files → HasPlace k file
    → HasPlace (with_deeds k (may_make kind name)) file
has_made k Cache name file c has = has_none k file has
has_made k Record name file c has = has_none k file has
has_made k File name file c has = has_making k (directory_of name) file c has
has_made k Header name file c has = has_making k (directory_of name) file c has

has_placed : (k : Known) (guards : List Guard) (places new : List FilePlace) (name file : List ℕ) (kind : Kind)
    → IsCoherent k.files → HasPlaces k guards places new name file kind
    → HasPlace (with_deeds k (may_make kind name)) file
has_placed k guards places new name file kind c (there placed) = has_made k kind name file c (of_placed k guards places new name file placed)
has_placed k guards places new name file kind c (made placed) = of_placed _ guards places new name file placed

-- What was put is read, by how it was put.
own_by : (k : Known) (kind : Kind) (name file text line : List ℕ) (deeds : List Deed) → IsCoherent k.files
    → IsEnd k name kind file → HasPlace (with_deeds k (may_make kind name)) file
    → IsPut k name file text kind line deeds
    → text_under (with_deeds k deeds) name ≡ Some text
own_by k Cache name file text line [] c end has (cache_same is) = none_read k name text is
own_by k Cache name file text line deeds c end has (cache_put rest other may w) =
    linked_text k.files c k.deeds _ name file text rest end (end_is_plain k name file end) (none_has k file has) w
own_by k Record name file text line deeds c end has (record_put rest w) =
    subst (λ n. text_under (with_deeds k rest) n ≡ Some text) end (own_text k.files c k.deeds _ file text rest (none_has k file has) w)
own_by k File name file text line deeds c end has (file_put rest w) = made_then k _ name file text rest c end has w
own_by k Header name file text line [] c end has (header_same is) = none_read k name text is
own_by k Header name file text line deeds c end has (header_put rest other w) = made_then k _ name file text rest c end has w

pub own_is_read : (k : Known) (guards : List Guard) (places new : List FilePlace) (artifact : Artifact) (line : List ℕ) (deeds : List Deed)
    → IsCoherent k.files → IsTakenSo k guards places new artifact line deeds
    → text_under (with_deeds k deeds) artifact.name ≡ Some artifact.text
own_is_read k guards places new artifact line deeds c so =
    own_by k artifact.kind artifact.name so.file artifact.text line deeds c so.ends
    (has_placed k guards places new artifact.name so.file artifact.kind c so.placed) so.put

-- What is read elsewhere stays.
reads_none : (k : Known) (name : List ℕ) (place : FilePlace) (text : List ℕ) → ReadsAt k name place text
    → ReadsAt (with_deeds k []) name place text
reads_none k name place text r = subst (λ q. ReadsAt q name place text) (with_none k) r

reads_written : (k : Known) (keeps : Keeps) (file written : List ℕ) (deeds : List Deed) (name : List ℕ) (place : FilePlace) (text : List ℕ)
    → IsCoherent k.files → IsApart k file place → IsWritten k keeps file written deeds
    → ReadsAt k name place text → ReadsAt (with_deeds k deeds) name place text
reads_written k keeps file written deeds name place text c apart w r =
    let s = other_text k.files c k.deeds keeps file written deeds name r.end place text apart.0 r.leads r.at apart.1 r.read w in
    record { end = r.end; leads = s.1; at = s.2; read = s.0 }

reads_making : (k : Known) (directory : Option (List ℕ)) (name : List ℕ) (place : FilePlace) (text : List ℕ)
    → IsCoherent k.files → ReadsAt k name place text
    → ReadsAt (with_deeds k (making directory)) name place text
reads_making k None name place text c r = reads_none k name place text r
reads_making k (Some directory) name place text c r =
    let s = made_text k.files c k.deeds directory name r.end place text r.leads r.at r.read in
    record { end = r.end; leads = s.1; at = s.2; read = s.0 }

reads_made_then : (k : Known) (keeps : Keeps) (own file written : List ℕ) (rest : List Deed) (name : List ℕ) (place : FilePlace) (text : List ℕ)
    → IsCoherent k.files → IsApart (with_deeds k (directories_for own)) file place
    → IsWritten (with_deeds k (directories_for own)) keeps file written rest
    → ReadsAt k name place text → ReadsAt (with_deeds k (directories_for own ++ rest)) name place text
reads_made_then k keeps own file written rest name place text c apart w r =
    subst (λ q. ReadsAt q name place text) (with_more k (directories_for own) rest)
    (reads_written (with_deeds k (directories_for own)) keeps file written rest name place text c apart w
    (reads_making k (directory_of own) name place text c r))

apart_none : (k : Known) (file : List ℕ) (place : FilePlace) → IsApart (with_deeds k []) file place
    → IsApart k file place
apart_none k file place a = subst (λ q. IsApart q file place) (sym (with_none k)) a

other_by : (k : Known) (kind : Kind) (own file written line : List ℕ) (deeds : List Deed) (name : List ℕ) (place : FilePlace) (text : List ℕ)
    → IsCoherent k.files → IsApart (with_deeds k (may_make kind own)) file place
    → IsPut k own file written kind line deeds
    → ReadsAt k name place text → ReadsAt (with_deeds k deeds) name place text
other_by k Cache own file written line [] name place text c apart (cache_same is) r = reads_none k name place text r
other_by k Cache own file written line deeds name place text c apart (cache_put rest other may w) r =
    reads_written k _ file written rest name place text c (apart_none k file place apart) w r
other_by k Record own file written line deeds name place text c apart (record_put rest w) r =
    reads_written k _ file written rest name place text c (apart_none k file place apart) w r
other_by k File own file written line deeds name place text c apart (file_put rest w) r =
    reads_made_then k _ own file written rest name place text c apart w r
other_by k Header own file written line [] name place text c apart (header_same is) r = reads_none k name place text r
other_by k Header own file written line deeds name place text c apart (header_put rest other w) r =
    reads_made_then k _ own file written rest name place text c apart w r

pub other_is_read : (k : Known) (guards : List Guard) (places new : List FilePlace) (artifact : Artifact) (line : List ℕ) (deeds : List Deed) (name : List ℕ) (place : FilePlace) (text : List ℕ)
    → IsCoherent k.files → (put : IsTakenSo k guards places new artifact line deeds)
    → IsPutApart k artifact put.file place → ReadsAt k name place text
    → ReadsAt (with_deeds k deeds) name place text
other_is_read k guards places new artifact line deeds name place text c put apart r =
    other_by k artifact.kind artifact.name put.file artifact.text line deeds name place text c apart put.put r

-- The last file.
pub last_is_read : (k : Known) (file text : List ℕ) (deeds : List Deed) → IsCoherent k.files
    → HasPlace k file → is_link (kind_under k file) ≡ false
    → IsReplaced k file text deeds → text_under (with_deeds k deeds) file ≡ Some text
last_is_read k file text deeds c has plain replaced = own_last k.files c k.deeds file text (kind_under k file) has plain

pub last_leaves_others : (k : Known) (file written : List ℕ) (deeds : List Deed) (name : List ℕ) (place : FilePlace) (text : List ℕ)
    → IsCoherent k.files → IsReplaced k file written deeds → IsApart k file place
    → ReadsAt k name place text → ReadsAt (with_deeds k deeds) name place text
last_leaves_others k file written deeds name place text c replaced apart r =
    let s = other_last k.files c k.deeds file written name r.end place text (kind_under k file) apart.0 r.leads r.at apart.1 r.read in
    record { end = r.end; leads = s.1; at = s.2; read = s.0 }
