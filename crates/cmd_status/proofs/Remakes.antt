-- What follows from a call that makes outputs again for the program.
use Rattle.std.proofs.Common.{◌≡◌, ℕ, ◌+◌, ◌≤◌, take, length, Bool, true, false, List, [], ◌∷◌, ◌++◌, Option, Some, None, Result, Ok, Err, OnOk, refl, sym, subst, ap, ◌∙◌, arith}
use Rattle.std.specs.Prelude.{IfSome, codes, option_map}
use Rattle.std.proofs.Math.Seq.{take-length}
use Rattle.file_disk.specs.Known.{Known}
use Rattle.file_texts.specs.Done.{IsDoneApart}
use Rattle.file_texts.specs.Held.{Held, AreUnguarded, GuardsMore, IsGuarded, IsUnused, receipt_of, closings}
use Rattle.file_texts.specs.Names.{IsFileName}
use Rattle.file_texts.specs.declared.places.Guard.{Guard}
use Rattle.file_texts.specs.declared.places.FilePlace.{FilePlace}
use Rattle.file_texts.proofs.Unused.{unused_receipt}
use Rattle.file_texts.specs.Lines.{AreLines}
use Rattle.engine_frame.specs.Faults.{named, of_record, ◌>>=◌}
use Rattle.engine_frame.specs.Remade.{remade, IsRemade, refused, memory, all, cut}
use Rattle.engine_frame.specs.Remade as again
use Rattle.engine_frame.specs.declared.fault.RemakeFault.{RemakeFault}
use Rattle.cmd_call.proofs.Guards.{first_guarded, guarded_at, still_now}
use Rattle.cmd_call.specs.Guarded.{AreGuarded, inputs_of}
use Rattle.cmd_call.specs.Supplies.{AreTemplates, ReadsWhole, GivenAgain}
use Rattle.output_put.specs.Receipt.{Receipt}
use Rattle.output_put.specs.declared.artifact.Artifact.{Artifact}
use Rattle.status_record.specs.Reading.{record_in}
use Rattle.status_record.specs.declared.record.Record.{Record}
use Rattle.cmd_status.specs.Left.{AreSameFiles}
use Rattle.cmd_status.specs.LeftAgain.{IsLeftAgain, nothing, part}
use Rattle.cmd_status.specs.MadeAgain.{GuardsAgain, IsMadeAgain, IsRecordFound}

-- A text that was read is handed on.
pub found_by : {D : Type 0} (known : D → Option Known) (d lent : D) (name : List ℕ) (read : Option (List ℕ)) (text slice : List ℕ) → lent ≡ d → read ≡ Some text → slice ≡ text
    → ReadsWhole (known lent) name read → ReadsWhole (known d) name (Some slice)
found_by known d lent name read text slice same is shown h =
    subst (λ x. ReadsWhole (known x) name (Some slice)) same
    (subst (λ t. ReadsWhole (known lent) name (Some t)) (sym shown) (subst (λ o. ReadsWhole (known lent) name o) is h))

-- If nothing was refused, and no closing counts as a refusal, the receiver is not closed.
pub nothing_refused : (failures : ℕ) (closed : Bool) → failures + closings closed ≡ 0 → (failures ≡ 0) × (closed ≡ false)
nothing_refused failures false is = (omega (arith, is), refl)
nothing_refused failures true is = absurd (omega (arith, is))

-- What was done is what was done for other names of the same artifacts and guards.
pub done_apart : (known : Option Known) (guards lent : List Guard) (handed artifacts : List Artifact) (failures : ℕ) (said lines : List ℕ) (places : List FilePlace) → guards ≡ lent → handed ≡ artifacts → failures ≡ 0 → said ≡ lines
    → IfSome known (λ k. IsDoneApart k guards handed failures said places) → IfSome known (λ k. IsDoneApart k lent artifacts 0 lines places)
done_apart known guards lent handed artifacts failures said lines places same artifacts_are none lines_are h =
    subst (λ gs. IfSome known (λ k. IsDoneApart k gs artifacts 0 lines places)) same
    (subst (λ ts. IfSome known (λ k. IsDoneApart k guards ts 0 lines places)) artifacts_are
    (subst (λ n. IfSome known (λ k. IsDoneApart k guards handed n lines places)) none (subst (λ l. IfSome known (λ k. IsDoneApart k guards handed failures l places)) lines_are h)))

-- No artifact has a guarded name, under other names of both.
pub unguarded_too : (guards lent : List Guard) (handed artifacts : List Artifact) → guards ≡ lent → handed ≡ artifacts → AreUnguarded guards handed → AreUnguarded lent artifacts
unguarded_too guards lent handed artifacts same artifacts_are h = subst (λ gs. AreUnguarded gs artifacts) same (subst (λ ts. AreUnguarded guards ts) artifacts_are h)

-- The name of the record is guarded, and then those of its inputs.
pub record_guarded : {D A E : Type 0} (known : D → Option Known) (r : Result A E) (one two three : Held D) (name : List ℕ) (names : List (List ℕ)) → name ≡ codes "config.status"
    → (IsFileName name → IsGuarded known one two name) → GuardsMore two three
    → OnOk r (AreGuarded (known three.disk) three.guards names) → OnOk r (AreGuarded (known three.disk) three.guards (codes "config.status" ∷ names))
record_guarded known (Err e) one two three name names is first more h = tt
record_guarded known (Ok x) one two three name names is first more h =
    first_guarded known three (codes "config.status") names (still_now known two three (codes "config.status") more (guarded_at known one two name (codes "config.status") is first)) h

-- The same on the disk as it was before.
pub guarded_before : {D : Type 0} (known : D → Option Known) (d now : D) (guards : List Guard) (names : List (List ℕ)) → now ≡ d → AreGuarded (known now) guards names → AreGuarded (known d) guards names
guarded_before known d now guards names same h = subst (λ x. AreGuarded (known x) guards names) same h

pub remade_of : (text : List ℕ) (recorded : Record) (templates : List (List ℕ × List ℕ)) (tags : List (List ℕ)) → record_in text ≡ Ok recorded → remade text templates tags ≡ again.made_again recorded templates tags
unfolding remade
remade_of text recorded templates tags is = ap (λ r. named of_record r >>= λ x. again.made_again x templates tags) is

-- No put changes what is under names.
same_files : (old new : Option Known) → option_map (λ k. k.files) new ≡ option_map (λ k. k.files) old → AreSameFiles old new
same_files None new kept = tt
same_files (Some before) None kept = tt
same_files (Some before) (Some now) kept = cc

-- What a call of `remake_record` made, if it returned a number.
pub made_again : {D : Type 0} (known : D → Option Known) (d : D) (before now : Held D) (recorded : Record) (templates : List (List ℕ × List ℕ)) (tags : List (List ℕ)) (same : Type 0) (answer : Result ℕ RemakeFault) (n : ℕ) (lines : List ℕ)
    → IsUnused before → IsRecordFound (known d) recorded → AreTemplates (known d) recorded.srcdir (recorded.files ++ recorded.headers) templates
    → IsRemade (again.made_again recorded templates tags) same (receipt_of before) (receipt_of now) answer → answer ≡ Ok n → lines ≡ now.lines → AreLines now.handed lines
    → AreUnguarded now.guards now.handed
    → (now.closed ≡ false → IfSome (known now.disk) (λ k. IsDoneApart k now.guards now.handed now.failures now.lines now.places))
    → now.guards ≡ before.guards → option_map (λ k. k.files) (known now.disk) ≡ option_map (λ k. k.files) (known before.disk) → before.disk ≡ d → AreGuarded (known before.disk) before.guards (codes "config.status" ∷ inputs_of recorded.srcdir templates)
    → IsMadeAgain (known d) (known now.disk) tags lines
made_again known d before now recorded templates tags same (Err f) n lines new found given (refused is s) returned shown are free done same_guards same_names disk guarded = absurd (cc)
made_again known d before now recorded templates tags same (Err f) n lines new found given (memory s) returned shown are free done same_guards same_names disk guarded = absurd (cc)
made_again known d before now recorded templates tags same (Err f) n lines new found given (cut is at) returned shown are free done same_guards same_names disk guarded = absurd (cc)
made_again known d before now recorded templates tags same (Ok m) n lines new found given (all {artifacts = made} is handed) returned shown are free done same_guards same_names disk guarded =
    let empty : receipt_of before ≡ record { handed = []; failures = 0 } = unused_receipt before new in
    let made_all : now.handed ≡ made = ap (λ (r : Receipt). r.handed) handed ∙ ap (λ (r : Receipt). r.handed ++ made) empty in
    let counted : now.failures + closings now.closed ≡ 0 = ap (λ (r : Receipt). r.failures) handed ∙ ap (λ (r : Receipt). r.failures) empty in
    let none = nothing_refused now.failures now.closed counted in
    record {
      text = found.text;
      templates = templates;
      made = made;
      found = found.found;
      given = subst (λ r. GivenAgain (known d) r templates) (sym found.is) given;
      remakes = remade_of found.text recorded templates tags found.is ∙ is;
      lines = subst (λ l. AreLines l lines) made_all are;
      guards = before.guards;
      guarded = subst (λ r. GuardsAgain (known d) before.guards r templates) (sym found.is) (guarded_before known d before.disk before.guards (codes "config.status" ∷ inputs_of recorded.srcdir templates) disk guarded);
      unguarded = unguarded_too now.guards before.guards now.handed made same_guards made_all free;
      same = same_files (known d) (known now.disk) (same_names ∙ ap (λ x. option_map (λ k. k.files) (known x)) disk);
      places = now.places;
      written = done_apart (known now.disk) now.guards before.guards now.handed made now.failures now.lines lines now.places same_guards made_all none.0 (sym shown) (done none.1);
    }

-- What is left if the first of these artifacts were taken.
left_in_part : {D : Type 0} (known : D → Option Known) (d : D) (before now : Held D) (recorded : Record) (templates : List (List ℕ × List ℕ)) (tags : List (List ℕ)) (silent : Type 0) (prints : List ℕ → Type 0) (wanted : List Artifact) (count : ℕ)
    → IsRecordFound (known d) recorded → AreTemplates (known d) recorded.srcdir (recorded.files ++ recorded.headers) templates
    → again.made_again recorded templates tags ≡ Ok wanted → now.handed ≡ take count wanted → now.failures ≤ 1 → AreLines now.handed now.lines
    → AreUnguarded now.guards now.handed → IfSome (known now.disk) (λ k. IsDoneApart k now.guards now.handed now.failures now.lines now.places)
    → now.guards ≡ before.guards → option_map (λ k. k.files) (known now.disk) ≡ option_map (λ k. k.files) (known before.disk) → before.disk ≡ d → AreGuarded (known before.disk) before.guards (codes "config.status" ∷ inputs_of recorded.srcdir templates) → prints now.lines
    → IsLeftAgain (known d) (known now.disk) tags silent prints
left_in_part known d before now recorded templates tags silent prints wanted count found given is handed once are free done same_guards same_names disk guarded shown =
    part now.lines (record {
      text = found.text;
      templates = templates;
      wanted = wanted;
      count = count;
      found = found.found;
      given = subst (λ r. GivenAgain (known d) r templates) (sym found.is) given;
      remakes = remade_of found.text recorded templates tags found.is ∙ is;
      guards = now.guards;
      guarded = subst (λ r. GuardsAgain (known d) now.guards r templates) (sym found.is) (subst (λ gs. AreGuarded (known d) gs (codes "config.status" ∷ inputs_of recorded.srcdir templates)) (sym same_guards) (guarded_before known d before.disk before.guards (codes "config.status" ∷ inputs_of recorded.srcdir templates) disk guarded));
      unguarded = subst (AreUnguarded now.guards) handed free;
      same = same_files (known d) (known now.disk) (same_names ∙ ap (λ x. option_map (λ k. k.files) (known x)) disk);
      refusals = now.failures;
      once = once;
      lines = subst (λ xs. AreLines xs now.lines) handed are;
      places = now.places;
      written = subst (λ xs. IfSome (known now.disk) (λ k. IsDoneApart k now.guards xs now.failures now.lines now.places)) handed done;
    }) shown

-- The number of refusals of a receiver that isn't closed.
refusals_counted : (failures : ℕ) (closed : Bool) (n : ℕ) → closed ≡ false → failures + closings closed ≡ n → failures ≡ n
refusals_counted failures false n opened is = omega (arith, is)
refusals_counted failures true n opened is = absurd (cc)

none_at_most_one : (n : ℕ) → n ≡ 0 → n ≤ 1
none_at_most_one n is = omega (arith, is)

one_at_most_one : (n : ℕ) → n ≡ 1 → n ≤ 1
one_at_most_one n is = omega (arith, is)

-- What a call of `remake_record` left, whatever it returned.
pub left_again : {D : Type 0} (known : D → Option Known) (d : D) (before now : Held D) (recorded : Record) (templates : List (List ℕ × List ℕ)) (tags : List (List ℕ)) (silent : Type 0) (prints : List ℕ → Type 0) (answer : Result ℕ RemakeFault) (lines : List ℕ)
    → IsUnused before → IsRecordFound (known d) recorded → AreTemplates (known d) recorded.srcdir (recorded.files ++ recorded.headers) templates
    → IsRemade (again.made_again recorded templates tags) (now ≡ before) (receipt_of before) (receipt_of now) answer → lines ≡ now.lines → (lines ≡ [] → silent) → AreLines now.handed lines
    → AreUnguarded now.guards now.handed
    → (now.closed ≡ false → IfSome (known now.disk) (λ k. IsDoneApart k now.guards now.handed now.failures now.lines now.places))
    → now.guards ≡ before.guards → now.closed ≡ before.closed → option_map (λ k. k.files) (known now.disk) ≡ option_map (λ k. k.files) (known before.disk) → before.disk ≡ d → AreGuarded (known before.disk) before.guards (codes "config.status" ∷ inputs_of recorded.srcdir templates) → prints lines
    → IsLeftAgain (known d) (known now.disk) tags silent prints
left_again known d before now recorded templates tags silent prints (Err f) lines new found given (refused is s) shown quiet are free done same_guards same_closed same_names disk guarded printed =
    nothing (ap (λ h. known h.disk) s ∙ ap known disk) (quiet (shown ∙ ap (λ h. h.lines) s ∙ new.silent))
left_again known d before now recorded templates tags silent prints (Err f) lines new found given (memory s) shown quiet are free done same_guards same_closed same_names disk guarded printed =
    nothing (ap (λ h. known h.disk) s ∙ ap known disk) (quiet (shown ∙ ap (λ h. h.lines) s ∙ new.silent))
left_again known d before now recorded templates tags silent prints (Ok m) lines new found given (all {artifacts = made} is handed) shown quiet are free done same_guards same_closed same_names disk guarded printed =
    let empty : receipt_of before ≡ record { handed = []; failures = 0 } = unused_receipt before new in
    let opened : now.closed ≡ false = same_closed ∙ new.opened in
    let made_all : now.handed ≡ made = ap (λ (r : Receipt). r.handed) handed ∙ ap (λ (r : Receipt). r.handed ++ made) empty in
    let counted : now.failures + closings now.closed ≡ 0 = ap (λ (r : Receipt). r.failures) handed ∙ ap (λ (r : Receipt). r.failures) empty in
    left_in_part known d before now recorded templates tags silent prints made (length made) found given is (made_all ∙ sym (take-length made))
    (none_at_most_one now.failures (refusals_counted now.failures now.closed 0 opened counted)) (subst (AreLines now.handed) shown are) free (done opened) same_guards same_names disk guarded (subst prints shown printed)
left_again known d before now recorded templates tags silent prints (Err f) lines new found given (cut {artifacts = made} is at) shown quiet are free done same_guards same_closed same_names disk guarded printed =
    let empty : receipt_of before ≡ record { handed = []; failures = 0 } = unused_receipt before new in
    let opened : now.closed ≡ false = same_closed ∙ new.opened in
    let made_first : now.handed ≡ take at.first made = ap (λ (r : Receipt). r.handed) at.receipt ∙ ap (λ (r : Receipt). r.handed ++ take at.first made) empty in
    let counted : now.failures + closings now.closed ≡ 1 = ap (λ (r : Receipt). r.failures) at.receipt ∙ ap (λ (r : Receipt). r.failures + 1) empty in
    left_in_part known d before now recorded templates tags silent prints made at.first found given is made_first
    (one_at_most_one now.failures (refusals_counted now.failures now.closed 1 opened counted)) (subst (AreLines now.handed) shown are) free (done opened) same_guards same_names disk guarded (subst prints shown printed)
