-- The premises of the laws of a run hold together.
use Rattle.std.proofs.Common.{◌≡◌, ◌≢◌, ℕ, true, List, [], ◌∷◌, ◌++◌, Some, None, refl, ap, arith}
use Rattle.std.specs.Prelude.{All, codes}
use Rattle.std.specs.Fmt.{digits}
use Rattle.std.proofs.lemmas.List.Elements.{All-nil, All-cons}
use Rattle.file_disk.specs.Known.{text_under}
use Rattle.file_texts.specs.Coherent.{after, IsCoherent, ReadsAt}
use Rattle.file_texts.specs.Done.{AreDone, none, taken, IsOther, record_put, file_put, header_put, made}
use Rattle.file_texts.specs.Lines.{creating_line}
use Rattle.file_texts.specs.Links.{itself}
use Rattle.file_texts.specs.Places.{alone, is_place_guarded}
use Rattle.file_texts.specs.Steps.{written, of_nothing, replaced}
use Rattle.file_texts.specs.declared.places.FilePlace.{FilePlace}
use Rattle.output_put.specs.declared.artifact.Artifact.{Artifact}
use Rattle.file_laws.specs.Example as the
use Rattle.file_laws.specs.Rerun.{AreNeverLinks, InputsAreKept, IsNeverLink, IsOver, LastIsRead, OutputsAreRead}
use Rattle.file_laws.specs.Tree.{end_of}
use Rattle.file_laws.proofs.Trees.{tree_is_coherent, never_linked}

other_end : end_of the.link ≢ the.link.name
other_end e = cc

pub example_is_coherent : IsCoherent the.disk
example_is_coherent = tree_is_coherent the.link the.start other_end

no_status : codes "config.status" ≢ codes "old.h"
no_status e = cc

no_makefile : codes "src/Makefile" ≢ codes "old.h"
no_makefile e = cc

no_header : codes "config.h" ≢ codes "old.h"
no_header e = cc

no_log : codes "config.log" ≢ codes "old.h"
no_log e = cc

pub example_is_plain : AreNeverLinks the.disk the.handed
example_is_plain =
    let plain : Artifact → Type 0 = λ a. IsNeverLink the.disk a.name in
    All-cons plain the.record_put (the.file_put ∷ the.header_put ∷ []) (never_linked the.link the.start (codes "config.status") no_status)
    (All-cons plain the.file_put (the.header_put ∷ []) (never_linked the.link the.start (codes "src/Makefile") no_makefile)
    (All-cons plain the.header_put [] (never_linked the.link the.start (codes "config.h") no_header) (All-nil plain)))

pub example_log : IsNeverLink the.disk the.log
example_log = never_linked the.link the.start the.log no_log

-- ---- one put after the other

abbrev at : ℕ → List ℕ → FilePlace
at directory name = record { device = 0; directory = directory; name = name }

abbrev one : List FilePlace
one = [] ++ at 0 (codes "config.status") ∷ []

abbrev two : List FilePlace
two = one ++ at 3 (codes "Makefile") ∷ []

abbrev three_places : List FilePlace
three_places = two ++ at 0 (codes "config.h") ∷ []

record_done : AreDone the.disk the.guards ([] ++ the.record_put ∷ []) 0 ([] ++ []) one the.after_record
unfolding digits
record_done =
    taken [] 0 [] [] one [] the.record_put [] _ none
    (record {
      file = codes "config.status";
      ends = refl;
      named = refl;
      own = refl;
      readable = refl;
      placed = made (alone (record { place = at 0 (codes "config.status"); at = refl; own = refl; free = refl; added = refl }));
      put = record_put _ (written 1 None refl of_nothing);
    })

file_done : AreDone the.disk the.guards (([] ++ the.record_put ∷ []) ++ the.file_put ∷ []) 0 (([] ++ []) ++ creating_line (codes "src/Makefile")) two the.after_file
unfolding digits
file_done =
    taken _ 0 _ one two the.after_record the.file_put _ _ record_done
    (record {
      file = codes "src/Makefile";
      ends = refl;
      named = refl;
      own = refl;
      readable = refl;
      placed = made (alone (record { place = at 3 (codes "Makefile"); at = refl; own = refl; free = refl; added = refl }));
      put = file_put _ (written 1 None refl of_nothing);
    })

other_header : IsOther (after the.disk the.after_file) (codes "config.h") (codes "h")
unfolding digits
other_header same = absurd (none_is same)
  where
    none_is : None ≡ Some (codes "h") → ⊥
    none_is e = cc

header_done : AreDone the.disk the.guards the.handed 0 ((([] ++ []) ++ creating_line (codes "src/Makefile")) ++ creating_line (codes "config.h")) three_places the.after_header
unfolding digits
header_done =
    taken _ 0 _ two three_places the.after_file the.header_put _ _ file_done
    (record {
      file = codes "config.h";
      ends = refl;
      named = refl;
      own = refl;
      readable = refl;
      placed = made (alone (record { place = at 0 (codes "config.h"); at = refl; own = refl; free = refl; added = refl }));
      put = header_put _ other_header (written 1 None refl of_nothing);
    })

pub example_is_over : IsOver the.disk the.guards the.handed the.log (codes "l") the.log_place the.all_deeds
unfolding digits
example_is_over = record {
  lines = _;
  places = three_places;
  before = the.after_header;
  logged = _;
  are = refl;
  done = header_done;
  written = replaced;
  at = refl;
  guarded = refl;
}

-- The template is read, at its place, which is guarded, and is not that of the log.
pub example_input : ReadsAt (after the.disk []) the.template the.template_place (codes "NAME = @PACKAGE_NAME@\n")
example_input = record { end = the.template; leads = itself refl; at = refl; read = refl }

pub example_guarded : is_place_guarded the.template_place the.guards ≡ true
example_guarded = refl

pub example_apart : the.template_place ≢ the.log_place
example_apart same =
    let numbers : the.template_place.directory ≡ the.log_place.directory = ap (λ (p : FilePlace). p.directory) same in omega (arith, numbers)

-- There is no directory of the file at first.
pub example_lacks : the.disk.directories [] (codes "src/") ≡ None
example_lacks = refl

-- ---- what the laws say of it

pub example_reads : OutputsAreRead → All (λ artifact. text_under (after the.disk the.all_deeds) artifact.name ≡ Some artifact.text) the.handed
unfolding OutputsAreRead
example_reads law =
    law the.disk the.guards the.handed the.log (codes "l") the.log_place the.all_deeds example_is_coherent example_is_plain example_log example_is_over

pub example_last : LastIsRead → text_under (after the.disk the.all_deeds) the.log ≡ Some (codes "l")
unfolding LastIsRead
example_last law =
    law the.disk the.guards the.handed the.log (codes "l") the.log_place the.all_deeds example_is_coherent example_is_plain example_log example_is_over

pub example_keeps : InputsAreKept → text_under (after the.disk the.all_deeds) the.template ≡ Some (codes "NAME = @PACKAGE_NAME@\n")
unfolding InputsAreKept
example_keeps law =
    law the.disk the.guards the.handed the.log (codes "l") the.log_place the.all_deeds the.template the.template_place (codes "NAME = @PACKAGE_NAME@\n")
    example_is_coherent example_is_plain example_log example_is_over example_guarded example_apart example_input
