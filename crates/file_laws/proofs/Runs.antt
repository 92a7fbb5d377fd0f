-- The deeds of a run.
use Rattle.std.proofs.Common.{◌≡◌, ℕ, ◌+◌, false, List, [], ◌∷◌, ◌++◌, Option, Some, None, sym, ap, subst, ◌∙◌, append-nil, append_assoc, arith}
use Rattle.file_disk.specs.Known.{Known, Files, Deed, MadeDirectories, Made, Filled, Renamed, with_deeds, kind_under}
use Rattle.file_disk.specs.declared.found.Found.TheVariants as found
use Rattle.file_texts.specs.Coherent.{after, IsCoherent}
use Rattle.file_texts.specs.Done.{AreDone, none, taken, refused, IsPut, cache_same, cache_put, record_put, file_put, header_same, header_put, may_make}
use Rattle.file_texts.specs.Links.{is_link}
use Rattle.file_texts.specs.Names.{directory_of, temporary}
use Rattle.file_texts.specs.Steps.{IsWritten, written, making, directories_for}
use Rattle.file_texts.specs.declared.places.Guard.{Guard}
use Rattle.file_texts.specs.declared.places.FilePlace.{FilePlace}
use Rattle.file_texts.specs.declared.writing.Keeps.{Keeps}
use Rattle.output_put.specs.declared.artifact.Artifact.{Artifact}
use Rattle.output_put.specs.declared.artifact.Kind.{Kind}
use Rattle.output_put.specs.declared.artifact.Kind.TheVariants.{Cache, Record, File, Header}
use Rattle.file_laws.specs.Rerun.{AreOfRun, no_deeds, one_more}

pub three : (d : List Deed) (a b c : Deed) → ((d ++ a ∷ []) ++ b ∷ []) ++ c ∷ [] ≡ d ++ a ∷ b ∷ c ∷ []
three d a b c = ap (λ l. l ++ c ∷ []) (append_assoc d (a ∷ []) (b ∷ [])) ∙ append_assoc d (a ∷ b ∷ []) (c ∷ [])

of_none : (f : Files) (d : List Deed) → AreOfRun f d → AreOfRun f (d ++ [])
of_none f d of = subst (AreOfRun f) (sym (append-nil d)) of

pub of_making : (f : Files) (d : List Deed) (directory : Option (List ℕ)) → AreOfRun f d → AreOfRun f (d ++ making directory)
of_making f d None of = of_none f d of
of_making f d (Some m) of = one_more d (MadeDirectories m) of tt

pub of_made : (f : Files) (d : List Deed) (kind : Kind) (own : List ℕ) → AreOfRun f d → AreOfRun f (d ++ may_make kind own)
of_made f d Cache own of = of_none f d of
of_made f d Record own of = of_none f d of
of_made f d File own of = of_making f d (directory_of own) of
of_made f d Header own of = of_making f d (directory_of own) of

-- A new file that has its text.
pub of_filled : (f : Files) (d : List Deed) (t text : List ℕ) (mode : Option ℕ) → AreOfRun f d
    → AreOfRun f ((d ++ Made t ∷ []) ++ Filled t mode text ∷ [])
of_filled f d t text mode of = one_more (d ++ Made t ∷ []) (Filled t mode text) (one_more d (Made t) of tt) tt

-- It is no link.
pub new_plain : (f : Files) → IsCoherent f → (d : List Deed) (t text : List ℕ) (mode : Option ℕ) → kind_under (after f d) t ≡ found.Nothing
    → is_link (kind_under (after f ((d ++ Made t ∷ []) ++ Filled t mode text ∷ [])) t) ≡ false
new_plain f c d t text mode free = c.no_new_link (d ++ Made t ∷ []) (Filled t mode text) t tt (c.no_new_link d (Made t) t tt (ap is_link free))

of_written : (f : Files) → IsCoherent f → (d : List Deed) (keeps : Keeps) (file text : List ℕ) (deeds : List Deed)
    → IsWritten (after f d) keeps file text deeds → AreOfRun f d → AreOfRun f (d ++ deeds)
of_written f c d keeps file text deeds (written n mode free is) of =
    let t : List ℕ = temporary file n in
    let two : List Deed = (d ++ Made t ∷ []) ++ Filled t mode text ∷ [] in
    subst (AreOfRun f) (three d (Made t) (Filled t mode text) (Renamed t file)) (one_more two (Renamed t file) (of_filled f d t text mode of) (new_plain f c d t text mode free))

of_both : (f : Files) → IsCoherent f → (d : List Deed) (keeps : Keeps) (own file text : List ℕ) (deeds : List Deed)
    → IsWritten (with_deeds (after f d) (directories_for own)) keeps file text deeds → AreOfRun f d → AreOfRun f (d ++ (directories_for own ++ deeds))
of_both f c d keeps own file text deeds w of =
    subst (AreOfRun f) (append_assoc d (directories_for own) deeds) (of_written f c (d ++ directories_for own) keeps file text deeds w (of_making f d (directory_of own) of))

-- The deeds of a put.
pub of_put : (f : Files) → IsCoherent f → (d : List Deed) (kind : Kind) (own file text line : List ℕ) (deeds : List Deed)
    → IsPut (after f d) own file text kind line deeds → AreOfRun f d → AreOfRun f (d ++ deeds)
of_put f c d Cache own file text line [] (cache_same is) of = of_none f d of
of_put f c d Cache own file text line deeds (cache_put rest other may w) of = of_written f c d _ file text rest w of
of_put f c d Record own file text line deeds (record_put rest w) of = of_written f c d _ file text rest w of
of_put f c d File own file text line deeds (file_put rest w) of = of_both f c d _ own file text rest w of
of_put f c d Header own file text line [] (header_same is) of = of_none f d of
of_put f c d Header own file text line deeds (header_put rest other w) of = of_both f c d _ own file text rest w of

-- All deeds of the puts of a run.
pub of_done : (f : Files) → IsCoherent f → (guards : List Guard) (artifacts : List Artifact) (failures : ℕ) (lines : List ℕ) (places : List FilePlace) (deeds : List Deed)
    → AreDone f guards artifacts failures lines places deeds → failures ≡ 0 → AreOfRun f deeds
of_done f c guards artifacts failures lines places deeds none zero = no_deeds
of_done f c guards artifacts failures lines places deeds (taken earlier count before_lines before_places new before artifact line more done so) zero =
    of_put f c before artifact.kind artifact.name so.file artifact.text line more so.put (of_done f c guards earlier count before_lines before_places before done zero)
of_done f c guards artifacts failures lines places deeds (refused earlier count before_lines before_places before kind refused_name more done so) zero =
    absurd (omega (arith, zero))
