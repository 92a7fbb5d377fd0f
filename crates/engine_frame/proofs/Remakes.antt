-- What comes of outputs that are made again.
use Rattle.std.proofs.Common.{◌≡◌, ℕ, List, length, Result, Ok, Err, refl, sym, subst, ap, ◌∙◌}
use Rattle.std.specs.Prelude.{IfOk, IfErr, IsErrAnd}
use Rattle.output_put.specs.Receipt.{Receipt, with_artifacts, IsCutAt}
use Rattle.output_put.specs.declared.artifact.Artifact.{Artifact}
use Rattle.status_record.specs.Reading.{record_in}
use Rattle.status_record.specs.declared.record.Record.{Record}
use Rattle.engine_frame.specs.Faults.{FailsAgain, named, of_record, ◌>>=◌}
use Rattle.engine_frame.specs.Remade.{IsRemade, refused, memory, all, cut, IsPut, made_again, remade}
use Rattle.engine_frame.specs.declared.fault.RemakeFault.{RemakeFault}
use Rattle.engine_frame.specs.declared.fault.RemakeFault.TheVariants.{OutOfMemory, PutRefused}

pub fails : (f : RemakeFault) (wanted : Result (List Artifact) RemakeFault) (same : Type 0) (old new : Receipt) (result : Result ℕ RemakeFault)
    → FailsAgain f wanted → IsErrAnd result (λ e. e ≡ f) → same → IsRemade wanted same old new result
fails f wanted same old new (Ok n) is h s = absurd h
fails OutOfMemory wanted same old new (Err e) is h s = subst (λ e. IsRemade wanted same old new (Err e)) (sym h) (memory s)
fails f wanted same old new (Err e) is h s = subst (λ e. IsRemade wanted same old new (Err e)) (sym h) (refused is s)

pub put : (artifacts : List Artifact) (wanted : Result (List Artifact) RemakeFault) (same : Type 0) (old new : Receipt) (result : Result ℕ RemakeFault)
    → wanted ≡ Ok artifacts → IsPut artifacts old new result → IsRemade wanted same old new result
put artifacts wanted same old new (Ok n) is ok = subst (λ n. IsRemade wanted same old new (Ok n)) (sym ok.0) (all is ok.1)
put artifacts wanted same old new (Err f) is err = subst (λ f. IsRemade wanted same old new (Err f)) (sym err.1) (cut is err.2)

pub put_slice : (artifacts slice : List Artifact) (wanted : Result (List Artifact) RemakeFault) (same : Type 0) (old new : Receipt) (result : Result ℕ RemakeFault)
    → wanted ≡ Ok artifacts → slice ≡ artifacts → IsPut slice old new result → IsRemade wanted same old new result
put_slice artifacts slice wanted same old new result is e h = put slice wanted same old new result (is ∙ ap (λ ts. Ok ts) (sym e)) h

-- The text of a record that is read gives what the record gives.
remade_is : (text : List ℕ) (templates : List (List ℕ × List ℕ)) (tags : List (List ℕ)) → remade text templates tags ≡ (named of_record (record_in text) >>= λ r. made_again r templates tags)
unfolding remade
remade_is text templates tags = refl

fails_whole : {A B : Type 0} (f : RemakeFault) (read : Result A RemakeFault) (next : A → Result B RemakeFault) → FailsAgain f read → FailsAgain f (read >>= next)
fails_whole OutOfMemory read next is = tt
fails_whole f read next is = ap (λ r. r >>= next) is

pub unread : (f : RemakeFault) (text : List ℕ) (templates : List (List ℕ × List ℕ)) (tags : List (List ℕ)) (same : Type 0) (old new : Receipt) (result : Result ℕ RemakeFault)
    → FailsAgain f (named of_record (record_in text)) → IsErrAnd result (λ e. e ≡ f) → same → IsRemade (remade text templates tags) same old new result
unread f text templates tags same old new result is h s =
    fails f (remade text templates tags) same old new result
    (subst (FailsAgain f) (sym (remade_is text templates tags)) (fails_whole f (named of_record (record_in text)) (λ r. made_again r templates tags) is)) h s

pub of_text : (text : List ℕ) (recorded : Record) (templates : List (List ℕ × List ℕ)) (tags : List (List ℕ)) (same : Type 0) (old new : Receipt) (result : Result ℕ RemakeFault)
    → named of_record (record_in text) ≡ Ok recorded → IsRemade (made_again recorded templates tags) same old new result → IsRemade (remade text templates tags) same old new result
of_text text recorded templates tags same old new result is h =
    subst (λ wanted. IsRemade wanted same old new result) (sym (remade_is text templates tags ∙ ap (λ r. r >>= λ x. made_again x templates tags) is)) h
