-- What a run of the package leaves on the disk, and what is made of it again, whatever the texts are.
use Rattle.std.proofs.Common.{◌≡◌, ◌≢◌, ℕ, length, true, List, [], ◌∷◌, ◌++◌, Some, None, refl, inl}
use Rattle.std.specs.Prelude.{◌^◌, All, codes, nat_le}
use Rattle.std.specs.Fmt.{digits}
use Rattle.std.proofs.lemmas.List.Elements.{All-nil, All-cons}
use Rattle.file_disk.specs.Clearing.{filling}
use Rattle.file_disk.specs.Known.{Known, Deed, text_under}
use Rattle.file_texts.specs.Coherent.{after}
use Rattle.file_texts.specs.Done.{AreDone, none, taken, IsOther, cache_put, record_put, file_put, header_put, header_same, made}
use Rattle.file_texts.specs.Lines.{creating_line, unchanged_line}
use Rattle.file_texts.specs.Links.{itself}
use Rattle.file_texts.specs.Places.{alone, place_under}
use Rattle.file_texts.specs.declared.writing.Keeps.TheVariants.{Permissions}
use Rattle.file_texts.specs.Steps.{written, of_nothing, of_file, mode_for, directories_for, writing, IsReplaced, replaced}
use Rattle.file_texts.specs.declared.places.Guard.{Guard}
use Rattle.file_texts.specs.declared.places.FilePlace.{FilePlace}
use Rattle.output_put.specs.declared.artifact.Artifact.{Artifact}
use Rattle.output_put.specs.declared.artifact.Kind.TheVariants.{Cache, File, Header, Record}
use Rattle.file_laws.specs.Again.{handed_on}
use Rattle.file_laws.specs.Example.{disk, log}

abbrev pub place : ℕ → List ℕ → FilePlace
place directory name = record { device = 0; directory = directory; name = name }

abbrev guard : List ℕ → FilePlace → Guard
guard name place = record { name = name; place = Some place }

-- The name has this place now.
abbrev IsAt : Known → Guard → Type 0
IsAt k g = g.place ≡ place_under k g.name

-- The guards of a run.
abbrev log_guard : Guard
log_guard = guard (codes "config.log") (place 0 (codes "config.log"))

abbrev source_guard : Guard
source_guard = guard (codes "../pkg/configure.ac") (place 1 (codes "configure.ac"))

abbrev makefile_guard : Guard
makefile_guard = guard (codes "../pkg/src/Makefile.in") (place 2 (codes "Makefile.in"))

abbrev header_guard : Guard
header_guard = guard (codes "../pkg/config.h.in") (place 1 (codes "config.h.in"))

abbrev record_guard : Guard
record_guard = guard (codes "config.status") (place 0 (codes "config.status"))

abbrev pub guards : List Guard
guards = log_guard ∷ source_guard ∷ makefile_guard ∷ header_guard ∷ []

-- Each has its place, if the log, the source and the templates have theirs.
are_at : (k : Known) → IsAt k log_guard → IsAt k source_guard → IsAt k makefile_guard → IsAt k header_guard → All (IsAt k) guards
are_at k one two three four =
    All-cons (IsAt k) log_guard (source_guard ∷ makefile_guard ∷ header_guard ∷ []) one
    (All-cons (IsAt k) source_guard (makefile_guard ∷ header_guard ∷ []) two
    (All-cons (IsAt k) makefile_guard (header_guard ∷ []) three
    (All-cons (IsAt k) header_guard [] four (All-nil (IsAt k)))))

pub guards_at : All (λ g. g.place ≡ place_under (after disk []) g.name) guards
guards_at = are_at (after disk []) refl refl refl refl

none_is : (t : List ℕ) → None ≡ Some t → ⊥
none_is t e = cc

abbrev pub lines : List ℕ
lines = creating_line (codes "src/Makefile") ++ creating_line (codes "config.h")

abbrev one : List FilePlace
one = place 0 (codes "config.cache") ∷ []

abbrev two : List FilePlace
two = one ++ place 0 (codes "config.status") ∷ []

abbrev three : List FilePlace
three = two ++ place 3 (codes "Makefile") ∷ []

abbrev pub four : List FilePlace
four = three ++ place 0 (codes "config.h") ∷ []

abbrev pub again_guards : List Guard
again_guards = record_guard ∷ guards

abbrev pub again_lines : List ℕ
again_lines = creating_line (codes "src/Makefile") ++ unchanged_line (codes "config.h")

abbrev again_one : List FilePlace
again_one = place 3 (codes "Makefile") ∷ []

abbrev pub again_two : List FilePlace
again_two = again_one ++ place 0 (codes "config.h") ∷ []

-- The texts of the cache, the record, the file, the header and the log.
module _ (c r m h l : List ℕ) where
  abbrev cached : Artifact
  cached = record { kind = Cache; name = codes "config.cache"; text = c }

  abbrev recorded : Artifact
  recorded = record { kind = Record; name = codes "config.status"; text = r }

  abbrev makefile : Artifact
  makefile = record { kind = File; name = codes "src/Makefile"; text = m }

  abbrev header : Artifact
  header = record { kind = Header; name = codes "config.h"; text = h }

  abbrev pub handed : List Artifact
  handed = cached ∷ recorded ∷ makefile ∷ header ∷ []

  abbrev pub outputs : List Artifact
  outputs = makefile ∷ header ∷ []

  -- What holds of the name of each.
  pub all_handed : (P : List ℕ → Type 0) → P (codes "config.cache") → P (codes "config.status") → P (codes "src/Makefile") → P (codes "config.h") → All (λ a. P a.name) handed
  all_handed P one two three four =
      let holds : Artifact → Type 0 = λ a. P a.name in
      All-cons holds cached (recorded ∷ makefile ∷ header ∷ []) one
      (All-cons holds recorded (makefile ∷ header ∷ []) two
      (All-cons holds makefile (header ∷ []) three
      (All-cons holds header [] four (All-nil holds))))

  abbrev after_cache : List Deed
  after_cache = writing (codes "config.cache") None c 1

  abbrev after_record : List Deed
  after_record = after_cache ++ writing (codes "config.status") None r 1

  abbrev after_file : List Deed
  after_file = after_record ++ (directories_for (codes "src/Makefile") ++ writing (codes "src/Makefile") None m 1)

  abbrev pub after_header : List Deed
  after_header = after_file ++ (directories_for (codes "config.h") ++ writing (codes "config.h") None h 1)

  abbrev pub all : List Deed
  all = after_header ++ filling log l (after disk after_header)

  other_cache : IsOther (after disk []) (codes "config.cache") c
  other_cache same = absurd (none_is c same)

  cache_done : AreDone disk guards (cached ∷ []) 0 [] one after_cache
  unfolding digits
  cache_done =
      taken [] 0 [] [] one [] cached [] _ none
      (record {
        file = codes "config.cache";
        ends = itself refl;
        named = refl;
        own = refl;
        readable = refl;
        placed = made (alone (record { place = place 0 (codes "config.cache"); at = refl; own = refl; free = refl; added = refl }));
        put = cache_put _ other_cache (inl refl) (written 1 None refl of_nothing);
      })

  record_done : nat_le (length r) (2 ^ 26) ≡ true → AreDone disk guards (cached ∷ recorded ∷ []) 0 [] two after_record
  unfolding digits
  record_done small =
      taken (cached ∷ []) 0 [] one two after_cache recorded [] _ cache_done
      (record {
        file = codes "config.status";
        ends = refl;
        named = refl;
        own = refl;
        readable = small;
        placed = made (alone (record { place = place 0 (codes "config.status"); at = refl; own = refl; free = refl; added = refl }));
        put = record_put _ (written 1 None refl of_nothing);
      })

  file_done : nat_le (length r) (2 ^ 26) ≡ true → AreDone disk guards (cached ∷ recorded ∷ makefile ∷ []) 0 (creating_line (codes "src/Makefile")) three after_file
  unfolding digits
  file_done small =
      taken (cached ∷ recorded ∷ []) 0 [] two three after_record makefile (creating_line (codes "src/Makefile")) _ (record_done small)
      (record {
        file = codes "src/Makefile";
        ends = refl;
        named = refl;
        own = refl;
        readable = refl;
        placed = made (alone (record { place = place 3 (codes "Makefile"); at = refl; own = refl; free = refl; added = refl }));
        put = file_put _ (written 1 None refl of_nothing);
      })

  other_header : IsOther (after disk after_file) (codes "config.h") h
  unfolding digits
  other_header same = absurd (none_is h same)

  pub all_done : nat_le (length r) (2 ^ 26) ≡ true → AreDone disk guards handed 0 lines four after_header
  unfolding digits
  all_done small =
      taken (cached ∷ recorded ∷ makefile ∷ []) 0 _ three four after_file header (creating_line (codes "config.h")) _ (file_done small)
      (record {
        file = codes "config.h";
        ends = refl;
        named = refl;
        own = refl;
        readable = refl;
        placed = made (alone (record { place = place 0 (codes "config.h"); at = refl; own = refl; free = refl; added = refl }));
        put = header_put _ other_header (written 1 None refl of_nothing);
      })

  pub log_done : IsReplaced (after disk after_header) (codes "config.log") l (filling log l (after disk after_header))
  unfolding digits
  log_done = replaced

  -- ---- what is made again

  abbrev pub left : Known
  left = after disk all

  abbrev pub again_file : List Deed
  again_file = directories_for (codes "src/Makefile") ++ writing (codes "src/Makefile") (Some (mode_for Permissions 0o100644 0o100644)) m 1

  again_file_done : AreDone (handed_on left).files again_guards (makefile ∷ []) 0 (creating_line (codes "src/Makefile")) again_one again_file
  unfolding digits
  again_file_done =
      taken [] 0 [] [] again_one [] makefile (creating_line (codes "src/Makefile")) _ none
      (record {
        file = codes "src/Makefile";
        ends = refl;
        named = refl;
        own = refl;
        readable = refl;
        placed = made (alone (record { place = place 3 (codes "Makefile"); at = refl; own = refl; free = refl; added = refl }));
        put = file_put _ (written 1 (Some (mode_for Permissions 0o100644 0o100644)) refl (of_file _ _ refl));
      })

  pub again_done : AreDone (handed_on left).files again_guards (makefile ∷ header ∷ []) 0 again_lines again_two again_file
  unfolding digits
  again_done =
      taken (makefile ∷ []) 0 _ again_one again_two again_file header (unchanged_line (codes "config.h")) [] again_file_done
      (record {
        file = codes "config.h";
        ends = refl;
        named = refl;
        own = refl;
        readable = refl;
        placed = made (alone (record { place = place 0 (codes "config.h"); at = refl; own = refl; free = refl; added = refl }));
        put = header_same refl;
      })

  -- What is read of the disk as the run left it.
  pub reads_record : text_under (handed_on left) (codes "config.status") ≡ Some r
  unfolding digits
  reads_record = refl

  -- What holds of both outputs.
  pub all_made : (P : Artifact → Type 0) → P makefile → P header → All P outputs
  all_made P one two = All-cons P makefile (header ∷ []) one (All-cons P header [] two (All-nil P))

  pub reads_file : text_under left (codes "src/Makefile") ≡ Some m
  unfolding digits
  reads_file = refl

  pub reads_header : text_under left (codes "config.h") ≡ Some h
  unfolding digits
  reads_header = refl

  pub reads_cache : text_under left (codes "config.cache") ≡ Some c
  unfolding digits
  reads_cache = refl

  pub reads_first : text_under (handed_on left) (codes "../pkg/src/Makefile.in") ≡ Some (codes "NAME = @PACKAGE_NAME@\n")
  unfolding digits
  reads_first = refl

  pub reads_second : text_under (handed_on left) (codes "../pkg/config.h.in") ≡ Some (codes "#undef PACKAGE_NAME\n")
  unfolding digits
  reads_second = refl

  -- Where each guarded name is then.
  pub again_at : All (λ g. g.place ≡ place_under (handed_on left) g.name) again_guards
  unfolding digits
  again_at = All-cons (IsAt (handed_on left)) record_guard guards refl (are_at (handed_on left) refl refl refl refl)
