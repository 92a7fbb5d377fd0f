-- What is made again of the record of a run.
use Rattle.std.proofs.Common.{◌≡◌, ℕ, Bool, true, false, cond, List, [], ◌∷◌, ◌++◌, map, Ok, refl, sym, ap, ◌∙◌}
use Rattle.std.specs.Prelude.{filter, Option, Some, None, Result}
use Rattle.std.proofs.lemmas.List.Elements.{filter-append}
use Rattle.output_list.specs.declared.output.Output.{Output}
use Rattle.output_put.specs.declared.artifact.Artifact.{Artifact}
use Rattle.status_record.specs.Reading.{record_in}
use Rattle.status_record.specs.RecordText.{record_text}
use Rattle.status_record.specs.declared.record.Record.{Record}
use Rattle.ac_tree.specs.Script.{Script}
use Rattle.engine_frame.specs.Faults.{of_record, named, ◌>>=◌}
use Rattle.engine_frame.specs.Handing.{ReadsBack, IfCompleted, record_artifact, wanted_outputs, artifacts_of}
use Rattle.engine_frame.specs.Remade as choice
use Rattle.engine_frame.specs.Remade.{none_unknown, present, made_again, remade, unknown, made, made_file, made_header}
use Rattle.engine_frame.specs.declared.starting.Start.{Start}
use Rattle.engine_frame.specs.declared.fault.RemakeFault.{RemakeFault}
use Rattle.engine_frame.specs.declared.report.Outcome.{Outcome}
use Rattle.engine_frame.specs.declared.report.Outcome.TheVariants.{Completed, Stopped, CutShort, Shown}
use Rattle.engine_frame.specs.declared.report.Report.{Report}
use Rattle.engine.specs.Configured.{record_after}
use Rattle.engine.specs.Remaking.{is_record, is_chosen, Remakes, RemakesAgree}

-- ---- lists

-- A test of what a function gives, as a test of its argument.
filter_mapped : {A B : Type 0} (p : B → Bool) (g : A → Bool) (f : A → B) (xs : List A) → ((x : A) → p (f x) ≡ g x) → filter p (map f xs) ≡ map f (filter g xs)
filter_mapped p g f [] same = refl
filter_mapped p g f (x ∷ xs) same =
    ap (λ b. cond b (f x ∷ filter p (map f xs)) (filter p (map f xs))) (same x) ∙ by_test (g x) (filter_mapped p g f xs same)
  where
    by_test : (b : Bool) → filter p (map f xs) ≡ map f (filter g xs) → cond b (f x ∷ filter p (map f xs)) (filter p (map f xs)) ≡ map f (cond b (x ∷ filter g xs) (filter g xs))
    by_test true rest = ap (λ l. f x ∷ l) rest
    by_test false rest = rest

filter_all : {A : Type 0} (p : A → Bool) (xs : List A) → ((x : A) → p x ≡ true) → filter p xs ≡ xs
filter_all p [] all = refl
filter_all p (x ∷ xs) all = ap (λ b. cond b (x ∷ filter p xs) (filter p xs)) (all x) ∙ ap (λ l. x ∷ l) (filter_all p xs all)

filter_none : {A : Type 0} (p : A → Bool) (xs : List A) → ((x : A) → p x ≡ false) → filter p xs ≡ []
filter_none p [] none = refl
filter_none p (x ∷ xs) none = ap (λ b. cond b (x ∷ filter p xs) (filter p xs)) (none x) ∙ filter_none p xs none

-- ---- what is handed over

-- The files and headers that tags choose, of all that are made of a record.
outputs_made : (r : Record) (templates : List (List ℕ × List ℕ)) (tags : List (List ℕ)) → filter (is_chosen tags) (made r templates []) ≡ made r templates tags
unfolding made made_file made_header
outputs_made r templates tags =
    filter-append (is_chosen tags) (map (made_file r templates) (choice.chosen [] r.files)) (map (made_header r templates) (choice.chosen [] r.headers))
    ∙ ap (λ l. l ++ filter (is_chosen tags) (map (made_header r templates) (choice.chosen [] r.headers))) (files r.files)
    ∙ ap (λ l. map (made_file r templates) (choice.chosen tags r.files) ++ l) (headers r.headers)
  where
    files : (xs : List Output) → filter (is_chosen tags) (map (made_file r templates) (choice.chosen [] xs)) ≡ map (made_file r templates) (choice.chosen tags xs)
    files xs =
        ap (λ l. filter (is_chosen tags) (map (made_file r templates) l)) (filter_all (choice.is_chosen []) xs (λ o. refl))
        ∙ filter_mapped (is_chosen tags) (choice.is_chosen tags) (made_file r templates) xs (λ o. refl)

    headers : (xs : List Output) → filter (is_chosen tags) (map (made_header r templates) (choice.chosen [] xs)) ≡ map (made_header r templates) (choice.chosen tags xs)
    headers xs =
        ap (λ l. filter (is_chosen tags) (map (made_header r templates) l)) (filter_all (choice.is_chosen []) xs (λ o. refl))
        ∙ filter_mapped (is_chosen tags) (choice.is_chosen tags) (made_header r templates) xs (λ o. refl)

-- No record is made of a record.
no_record_made : (r : Record) (templates : List (List ℕ × List ℕ)) → filter (λ artifact. is_record artifact.kind) (made r templates []) ≡ []
unfolding made made_file made_header
no_record_made r templates =
    filter-append (λ artifact. is_record artifact.kind) (map (made_file r templates) (choice.chosen [] r.files)) (map (made_header r templates) (choice.chosen [] r.headers))
    ∙ ap (λ l. l ++ filter (λ artifact. is_record artifact.kind) (map (made_header r templates) (choice.chosen [] r.headers))) (files (choice.chosen [] r.files))
    ∙ headers (choice.chosen [] r.headers)
  where
    files : (xs : List Output) → filter (λ artifact. is_record artifact.kind) (map (made_file r templates) xs) ≡ []
    files xs =
        filter_mapped (λ artifact. is_record artifact.kind) (λ o. false) (made_file r templates) xs (λ o. refl)
        ∙ ap (map (made_file r templates)) (filter_none (λ o. false) xs (λ o. refl))

    headers : (xs : List Output) → filter (λ artifact. is_record artifact.kind) (map (made_header r templates) xs) ≡ []
    headers xs =
        filter_mapped (λ artifact. is_record artifact.kind) (λ o. false) (made_header r templates) xs (λ o. refl)
        ∙ ap (map (made_header r templates)) (filter_none (λ o. false) xs (λ o. refl))

no_record_wanted : (no_create : Bool) (templates : List (List ℕ × List ℕ)) (r : Record) → filter (λ artifact. is_record artifact.kind) (wanted_outputs no_create templates r) ≡ []
no_record_wanted true templates r = refl
no_record_wanted false templates r = no_record_made r templates

-- One record is handed over after the cache.
one_record : (name : Option (List ℕ)) (no_create : Bool) (templates : List (List ℕ × List ℕ)) (vars : List (List ℕ × List ℕ)) (r : Record)
    → filter (λ artifact. is_record artifact.kind) (artifacts_of name no_create templates Completed vars r) ≡ record_artifact r ∷ []
unfolding artifacts_of
one_record None no_create templates vars r = ap (λ l. record_artifact r ∷ l) (no_record_wanted no_create templates r)
one_record (Some name) no_create templates vars r = ap (λ l. record_artifact r ∷ l) (no_record_wanted no_create templates r)

-- The files and headers that tags choose, of all that is handed over.
outputs_handed : (name : Option (List ℕ)) (templates : List (List ℕ × List ℕ)) (vars : List (List ℕ × List ℕ)) (r : Record) (tags : List (List ℕ))
    → filter (is_chosen tags) (artifacts_of name false templates Completed vars r) ≡ made r templates tags
unfolding artifacts_of
outputs_handed None templates vars r tags = outputs_made r templates tags
outputs_handed (Some name) templates vars r tags = outputs_made r templates tags

-- ---- what is made again

abbrev after_checks : Record → List (List ℕ × List ℕ) → List (List ℕ) → List Artifact → Result (List Artifact) RemakeFault
after_checks r templates tags all = none_unknown (unknown r tags) >>= λ _. present r templates tags >>= λ _. Ok all

abbrev from_record : List (List ℕ × List ℕ) → List (List ℕ) → Record → Result (List Artifact) RemakeFault
from_record templates tags r = after_checks r templates tags (made r templates tags)

remade_is : (text : List ℕ) (templates : List (List ℕ × List ℕ)) (tags : List (List ℕ)) → remade text templates tags ≡ (named of_record (record_in text) >>= from_record templates tags)
unfolding remade made_again
remade_is text templates tags = refl

pub remakes_agree : RemakesAgree
remakes_agree script start templates report completed read =
    let r = record_after script start report in
    let given : List (List ℕ × List ℕ) → Bool → Outcome → List Artifact = λ ts no_create o. artifacts_of start.cache_name no_create ts o report.vars r in
    record {
      text = record_text r;
      handed =
          ap (λ o. filter (λ artifact. is_record artifact.kind) (given templates start.no_create o)) completed
          ∙ one_record start.cache_name start.no_create templates report.vars r;
      read = read;
      again = λ others tags.
          remade_is (record_text r) others tags
          ∙ ap (λ x. named of_record x >>= from_record others tags) read
          ∙ ap (after_checks r others tags)
          (sym (ap (λ o. filter (is_chosen tags) (given others false o)) completed ∙ outputs_handed start.cache_name others report.vars r tags));
    }

-- The same of a run whose record is read, if it is completed.
pub remakes_completed : (script : Script) (start : Start) (templates : List (List ℕ × List ℕ)) (report : Report)
    → IfCompleted report.outcome (ReadsBack (record_after script start report)) → IfCompleted report.outcome (Remakes script start templates report)
remakes_completed script start templates report reads =
    by_outcome report.outcome (λ completed. remakes_agree script start templates report completed) reads
  where
    by_outcome : {P Q : Type 0} (o : Outcome) → (o ≡ Completed → P → Q) → IfCompleted o P → IfCompleted o Q
    by_outcome Completed agree p = agree refl p
    by_outcome (Stopped status) agree p = tt
    by_outcome (CutShort number) agree p = tt
    by_outcome Shown agree p = tt
