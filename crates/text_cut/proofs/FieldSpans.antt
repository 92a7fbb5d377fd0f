-- The fields of a text, read from its pieces, are the parts between the bytes that the test accepts, except for empty ones.
use Rattle.std.proofs.Common.{◌≡◌, ℕ, zero, suc, ◌+◌, ◌-◌, ◌<◌, ◌≤◌, Bool, false, Some, None, List, [], ◌∷◌, ◌++◌, length, take, drop, sym, ap, ◌∙◌, arith, ⊎_elim, drop-drop, length-drop, length-take-le}
use Rattle.std.proofs.lemmas.Bool.{cases_lt}
use Rattle.std.proofs.lemmas.List.{drop_all}
use Rattle.bstr.specs.Text.{part}
use Rattle.bstr.specs.Fields.{fields_acc}
use Rattle.bstr.specs.Utf8.{decoded, or_replacement, pieces, spans_from}
use Rattle.bstr.proofs.lemmas.FieldLemmas.{fields-skip, fields-start, fields-stop, fields-more, fields-nil, fields-last}
use Rattle.bstr.proofs.lemmas.PieceLemmas.{piece-bounds, spans-first, spans-nil}
use Rattle.text_cut.specs.Cuts.{parts_by}
use Rattle.text_cut.proofs.FirstPiece.{Passed, Kept, first-piece}
use Rattle.text_cut.proofs.PartsLists.{onto, onto-empty, onto-append, part-more, part-none, parts_by-passed, parts_by-kept, parts_by-nil, filled, filled-some}

module _ (test : ℕ → Bool) (low : (c : ℕ) → 128 ≤ c → test c ≡ false) (hay : List ℕ) where
  abbrev spans_at : ℕ → List (ℕ × ℕ × ℕ)
  spans_at off = spans_from off (pieces (drop off hay))

  -- the fields from offset off on, with no field begun, and with one begun
  record FieldsFrom (off : ℕ) : Type 0 where
    fresh : fields_acc test hay None (spans_at off) ≡ filled (parts_by test (drop off hay))
    begun : (a : ℕ) → a < off → fields_acc test hay (Some (a, off)) (spans_at off) ≡ filled (onto (part a off hay) (parts_by test (drop off hay)))

  part-some : (a off : ℕ) → a < off → off ≤ length hay → 0 < length (part a off hay)
  part-some a off below le =
      let left = length-drop a hay in
      let n : length (part a off hay) ≡ off - a = length-take-le (off - a) (drop a hay) (omega arith) in
      omega arith

  at-end : (off : ℕ) → off ≤ length hay → length hay ≤ off → FieldsFrom off
  at-end off le ge =
      let none : drop off hay ≡ [] = drop_all off hay ge in
      let spans : spans_at off ≡ [] = spans-nil (drop off hay) off none in
      let parts : parts_by test (drop off hay) ≡ [] ∷ [] = ap (parts_by test) none ∙ parts_by-nil test in
      record {
        fresh = ap (fields_acc test hay None) spans ∙ fields-nil test hay ∙ sym (ap filled parts);
        begun = λ a below. ap (fields_acc test hay (Some (a, off))) spans ∙ fields-last test hay a off
            ∙ sym (ap (λ p. filled (onto (part a off hay) p)) parts ∙ ap filled (onto-empty (part a off hay) []) ∙ filled-some _ [] (part-some a off below le));
      }

  module _ (off : ℕ) (inside : off < length hay) where
    abbrev rest : List ℕ
    rest = drop off hay

    abbrev size : ℕ
    size = (decoded rest).size

    some : 0 < length rest
    some = omega (arith, length-drop off hay)

    spans : spans_at off ≡ (off, off + size, or_replacement (decoded rest).char) ∷ spans_at (off + size)
    spans = spans-first rest off some ∙ ap (λ t. (off, off + size, or_replacement (decoded rest).char) ∷ spans_from (off + size) (pieces t)) (drop-drop size off hay)

    passed : Passed test low rest → FieldsFrom (off + size) → FieldsFrom off
    passed piece later =
        let parts : parts_by test rest ≡ [] ∷ parts_by test (drop (off + size) hay) =
        parts_by-passed test rest size piece.1 some piece.2 ∙ ap (λ t. [] ∷ parts_by test t) (drop-drop size off hay) in
        record {
          fresh = ap (fields_acc test hay None) spans ∙ fields-skip test hay _ _ piece.0 ∙ later.fresh ∙ sym (ap filled parts);
          begun = λ a below. ap (fields_acc test hay (Some (a, off))) spans ∙ fields-stop test hay _ _ a off piece.0
              ∙ ap (λ t. part a off hay ∷ t) later.fresh
              ∙ sym (ap (λ p. filled (onto (part a off hay) p)) parts ∙ ap filled (onto-empty (part a off hay) _) ∙ filled-some _ (parts_by test (drop (off + size) hay)) (part-some a off below (omega arith)));
        }

    kept : Kept test low rest → FieldsFrom (off + size) → FieldsFrom off
    kept piece later =
        let bounds = piece-bounds rest some in
        let parts : parts_by test rest ≡ onto (take size rest) (parts_by test (drop (off + size) hay)) =
        parts_by-kept test size rest bounds.2 piece.1 ∙ ap (λ t. onto (take size rest) (parts_by test t)) (drop-drop size off hay) in
        let first : part off (off + size) hay ≡ take size rest = part-more off off size hay (omega arith) ∙ ap (λ t. t ++ take size rest) (part-none off hay) in
        record {
          fresh = ap (fields_acc test hay None) spans ∙ fields-start test hay _ _ piece.0 ∙ later.begun off (omega arith)
              ∙ ap (λ t. filled (onto t (parts_by test (drop (off + size) hay)))) first ∙ sym (ap filled parts);
          begun = λ a below. ap (fields_acc test hay (Some (a, off))) spans ∙ fields-more test hay _ _ a off piece.0 ∙ later.begun a (omega arith)
              ∙ ap (λ t. filled (onto t (parts_by test (drop (off + size) hay)))) (part-more a off size hay (omega arith))
              ∙ ap filled (onto-append (part a off hay) (take size rest) _)
              ∙ sym (ap (λ p. filled (onto (part a off hay) p)) parts);
        }

  fields-from : (fuel off : ℕ) → length hay - off ≤ fuel → off ≤ length hay → FieldsFrom off
  fields-from zero off enough le = at-end off le (omega arith)
  fields-from (suc fuel) off enough le =
      ⊎_elim
      (λ (inside : off < length hay).
      let bounds = piece-bounds (drop off hay) (some off inside) in
      let left = length-drop off hay in
      let later = fields-from fuel (off + size off inside) (omega arith) (omega arith) in
      ⊎_elim (λ yes. passed off inside yes later) (λ no. kept off inside no later) (first-piece test low (drop off hay) (some off inside)))
      (λ (ge : length hay ≤ off). at-end off le ge)
      (cases_lt off (length hay))

  pub fields_acc-parts : fields_acc test hay None (spans_from 0 (pieces hay)) ≡ filled (parts_by test hay)
  fields_acc-parts = (fields-from (length hay) 0 (omega arith) (omega arith)).fresh
