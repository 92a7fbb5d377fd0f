-- Why outputs are not made again, from what is known of a record.
use Rattle.std.proofs.Common.{◌≡◌, ℕ, Bool, true, false, List, [], ◌∷◌, ◌++◌, Option, Some, None, Result, Ok, Err, refl, sym, subst, ap, arith}
use Rattle.std.specs.Prelude.{codes, not}
use Rattle.cmd_call.specs.Lines.{IsTold, SaysLines, error_line}
use Rattle.cmd_call.specs.Supplies.{AreTemplates, GivenAgain, ReadsWhole}
use Rattle.cmd_call.proofs.Pages.{says_line, says_then}
use Rattle.cmd_status.specs.MadeAgain.{IsRecordFound}
use Rattle.cmd_status.specs.Reasons.{answer_line, unwritten}
use Rattle.cmd_status.specs.Unmade.{HasFault, IsUnmade, SaysUnmade, first, no_memory, put, unread, memory, unmade, unprinted, neither}
use Rattle.cmd_status.proofs.Remakes.{remade_of}
use Rattle.engine_frame.specs.Faults.{named, of_record, ◌>>=◌}
use Rattle.engine_frame.specs.Remade.{remade, IsRemade, refused, memory as ran_out, cut}
use Rattle.engine_frame.specs.Remade as again
use Rattle.engine_frame.specs.declared.fault.RemakeFault.{RemakeFault}
use Rattle.fault_spots.specs.FaultLines.{remake_line}
use Rattle.file_disk.specs.Known.{Known}
use Rattle.output_put.specs.Receipt.{Receipt}
use Rattle.output_put.specs.declared.artifact.Artifact.{Artifact}
use Rattle.status_record.specs.Reading as reading
use Rattle.status_record.specs.Reading.{record_in}
use Rattle.status_record.specs.declared.fault.RecordFault.{RecordFault}
use Rattle.status_record.specs.declared.fault.RecordFault.TheVariants as records
use Rattle.status_record.specs.declared.record.Record.{Record}

-- Outputs that were not made have a fault.
has_fault : (wanted : Result (List Artifact) RemakeFault) (same : Type 0) (old new : Receipt) (f : RemakeFault) → IsRemade wanted same old new (Err f) → HasFault wanted f
has_fault wanted same old new f (refused is s) = first is
has_fault wanted same old new f (ran_out s) = no_memory
has_fault wanted same old new f (cut {artifacts = made} {k = k} is at) = let w = at.within in let n = at.number in put k made is (omega arith)

-- The outputs of a record that was found have a fault.
pub not_made : {D : Type 0} (known : D → Option Known) (d : D) (recorded : Record) (templates : List (List ℕ × List ℕ)) (tags : List (List ℕ)) (same : Type 0) (old new : Receipt) (answer : Result ℕ RemakeFault) (f : RemakeFault)
    → IsRecordFound (known d) recorded → AreTemplates (known d) recorded.srcdir (recorded.files ++ recorded.headers) templates
    → IsRemade (again.made_again recorded templates tags) same old new answer → answer ≡ Err f → IsUnmade (known d) tags f
not_made known d recorded templates tags same old new answer f found given remade_so is = record {
  text = found.text;
  templates = templates;
  found = found.found;
  given = subst (λ r. GivenAgain (known d) r templates) (sym found.is) given;
  faulty = subst (λ w. HasFault w f) (sym (remade_of found.text recorded templates tags found.is))
      (has_fault (again.made_again recorded templates tags) same old new f (subst (λ a. IsRemade (again.made_again recorded templates tags) same old new a) is remade_so));
}

-- What was said, by what standard output took and by the answer, if not all was done.
pub said_by : {E : Type 0} (contents : E → Option (List ℕ)) (has_failed : E → Bool) (old mid new : E) (is_asked : Bool) (files : Option Known) (tags : List (List ℕ)) (is_full is_printed : Bool) (answer : Result ℕ RemakeFault)
    → (not is_printed ≡ true → is_full ≡ true) → (is_printed ≡ true → (f : RemakeFault) × (answer ≡ Err f)) → ((f : RemakeFault) → answer ≡ Err f → IsUnmade files tags f)
    → SaysLines contents has_failed old mid is_asked (unwritten (codes "standard output") is_printed) → SaysLines contents has_failed mid new is_asked (answer_line answer)
    → (lines : List (List ℕ)) × SaysUnmade files tags is_full lines × SaysLines contents has_failed old new is_asked lines
said_by contents has_failed old mid new is_asked files tags is_full true (Ok n) full fails faulty one two = let f = fails refl in absurd (let e = f.1 in cc)
said_by contents has_failed old mid new is_asked files tags is_full true (Err f) full fails faulty one two =
    (remake_line f ∷ [], unmade f (faulty f refl), says_then contents has_failed old mid new is_asked [] (remake_line f ∷ []) one two)
said_by contents has_failed old mid new is_asked files tags is_full false (Ok n) full fails faulty one two =
    (error_line (codes "file") (codes "standard output") ∷ [], unprinted (full refl), says_then contents has_failed old mid new is_asked (error_line (codes "file") (codes "standard output") ∷ []) [] one two)
said_by contents has_failed old mid new is_asked files tags is_full false (Err f) full fails faulty one two =
    (error_line (codes "file") (codes "standard output") ∷ remake_line f ∷ [], neither f (full refl) (faulty f refl), says_then contents has_failed old mid new is_asked (error_line (codes "file") (codes "standard output") ∷ []) (remake_line f ∷ []) one two)

-- Memory ran out.
pub said_memory : {E : Type 0} (contents : E → Option (List ℕ)) (has_failed : E → Bool) (old new : E) (is_asked : Bool) (files : Option Known) (tags : List (List ℕ)) (is_full : Bool)
    → IsTold contents has_failed old new (error_line (codes "memory") []) → (lines : List (List ℕ)) × SaysUnmade files tags is_full lines × SaysLines contents has_failed old new is_asked lines
said_memory contents has_failed old new is_asked files tags is_full told = (_, memory, says_line contents has_failed old new is_asked _ told)

-- config.status was not read.
pub said_unread : {D E : Type 0} (contents : E → Option (List ℕ)) (has_failed : E → Bool) (old new : E) (is_asked : Bool) (known : D → Option Known) (d lent : D) (tags : List (List ℕ)) (is_full : Bool) (read : Option (List ℕ))
    → lent ≡ d → read ≡ None → ReadsWhole (known lent) (codes "config.status") read
    → SaysLines contents has_failed old new is_asked (error_line (codes "file") (codes "config.status") ∷ []) → (lines : List (List ℕ)) × SaysUnmade (known d) tags is_full lines × SaysLines contents has_failed old new is_asked lines
said_unread contents has_failed old new is_asked known d lent tags is_full read same is h told = (
  _,
  unread (subst (λ x. ReadsWhole (known x) (codes "config.status") None) same (subst (λ o. ReadsWhole (known lent) (codes "config.status") o) is h)),
  told,
)

fails_first : (text : List ℕ) (r : RecordFault) (templates : List (List ℕ × List ℕ)) (tags : List (List ℕ)) → record_in text ≡ Err r → remade text templates tags ≡ Err (of_record r)
unfolding remade
fails_first text r templates tags is = ap (λ x. named of_record x >>= λ y. again.made_again y templates tags) is

-- The text is no record.
says_record : (files : Option Known) (tags : List (List ℕ)) (is_full : Bool) (text : List ℕ) (r : RecordFault) → ReadsWhole files (codes "config.status") (Some text) → record_in text ≡ Err r
    → SaysUnmade files tags is_full (remake_line (of_record r) ∷ [])
says_record files tags is_full text r found is = unmade (of_record r) (record {
  text = text;
  templates = [];
  found = found;
  given = subst (λ x. GivenAgain files x []) (sym is) tt;
  faulty = first (fails_first text r [] tags is);
})

says_fault : (files : Option Known) (tags : List (List ℕ)) (is_full : Bool) (text : List ℕ) (r : RecordFault) → ReadsWhole files (codes "config.status") (Some text) → reading.Fails r (record_in text)
    → SaysUnmade files tags is_full (remake_line (of_record r) ∷ [])
says_fault files tags is_full text records.OutOfMemory found fails = memory
says_fault files tags is_full text r found fails = says_record files tags is_full text _ found fails

pub said_record : {E : Type 0} (contents : E → Option (List ℕ)) (has_failed : E → Bool) (old new : E) (is_asked asked : Bool) (files : Option Known) (tags : List (List ℕ)) (is_full : Bool) (text : List ℕ) (r : RecordFault) (f : RemakeFault)
    → ReadsWhole files (codes "config.status") (Some text) → reading.Fails r (record_in text) → f ≡ of_record r → asked ≡ is_asked
    → SaysLines contents has_failed old new asked (remake_line f ∷ []) → (lines : List (List ℕ)) × SaysUnmade files tags is_full lines × SaysLines contents has_failed old new is_asked lines
said_record contents has_failed old new is_asked asked files tags is_full text r f found fails is same told =
    (_, subst (λ x. SaysUnmade files tags is_full (remake_line x ∷ [])) (sym is) (says_fault files tags is_full text r found fails), subst (λ b. SaysLines contents has_failed old new b (remake_line f ∷ [])) same told)
