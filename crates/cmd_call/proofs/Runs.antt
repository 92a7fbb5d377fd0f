-- Pieces that are printed as one run, up to one for standard error.
use Rattle.std.proofs.Common.{◌≡◌, ℕ, ◌+◌, ◌-◌, ◌<◌, ◌≤◌, Bool, true, false, List, [], ◌∷◌, ◌++◌, Option, Result, Ok, Err, OnOk, take, drop, length, get_or, sym, subst, refl, ap, ◌∙◌, append_assoc, arith}
use Rattle.std.specs.List.{flat_map}
use Rattle.std.specs.Prelude.{if◌then◌else◌}
use Rattle.std.proofs.Math.Seq.{take-add}
use Rattle.std.proofs.lemmas.List.{take_more, take_rest, take-append-drop, append-nil}
use Rattle.std.proofs.lemmas.Grind.{flat_map-append}
use Rattle.cfglog.specs.Texts.{messages_of, note_text, is_shown}
use Rattle.deftable.specs.declared.note.Note.{Note}
use Rattle.deftable.specs.declared.note.Stream.{Stream}
use Rattle.deftable.specs.declared.note.Stream.TheVariants.{Out}
use Rattle.deftable.specs.declared.note.Stream.TheVariants.{Err as ToErr}
use Rattle.cmd_call.specs.Lines.{IsBegun}

-- nothing of a piece for standard error is shown on standard output
hidden : (quiet : Bool) (note : Note) → note.stream ≡ ToErr → note_text Out quiet note ≡ []
hidden quiet note is = ap (λ s. if is_shown Out quiet s then note.text else []) is

no_lines : (quiet : Bool) → (let none : List ℕ = [] in if quiet then none else none) ≡ []
no_lines true = refl
no_lines false = refl

take_run : (notes : List Note) (start i : ℕ) → start ≤ i → take i notes ≡ take start notes ++ take (i - start) (drop start notes)
take_run notes start i le =
    let e : i ≡ start + (i - start) = omega arith in
    ap (λ n. take n notes) e ∙ take-add start (i - start) notes

-- the pieces up to one for standard error, which are those before a run, and the run
up_to : (quiet : Bool) (notes : List Note) (start i : ℕ) (note : Note) → start ≤ i → i < length notes → note ≡ get_or notes i note → note.stream ≡ ToErr
    → messages_of Out quiet (take (i + 1) notes) ≡ messages_of Out quiet (take start notes) ++ messages_of Out quiet (take (i - start) (drop start notes))
up_to quiet notes start i note le lt at is =
    ap (flat_map (note_text Out quiet)) (take_more notes i note lt ∙ ap (λ n. take i notes ++ n ∷ []) (sym at))
    ∙ flat_map-append (note_text Out quiet) (take i notes) (note ∷ [])
    ∙ ap (λ t. flat_map (note_text Out quiet) (take i notes) ++ (t ++ [])) (hidden quiet note is)
    ∙ append-nil (flat_map (note_text Out quiet) (take i notes))
    ∙ ap (flat_map (note_text Out quiet)) (take_run notes start i le)
    ∙ flat_map-append (note_text Out quiet) (take start notes) (take (i - start) (drop start notes))

-- The text so far, and a run that ends before a piece for standard error.
pub run_begun : (o n : Option (List ℕ)) (has_failed is_cut quiet : Bool) (notes : List Note) (start i : ℕ) (note : Note)
    → start ≤ i → i < length notes → note ≡ get_or notes i note → note.stream ≡ ToErr
    → IsBegun o n has_failed is_cut (messages_of Out quiet (take start notes) ++ (messages_of Out quiet (take (i - start) (drop start notes)) ++ (let none : List ℕ = [] in if quiet then none else none)))
    → IsBegun o n has_failed is_cut (messages_of Out quiet (take (i + 1) notes))
run_begun o n has_failed is_cut quiet notes start i note le lt at is begun =
    subst (IsBegun o n has_failed is_cut)
    (sym (up_to quiet notes start i note le lt at is
    ∙ ap (λ t. messages_of Out quiet (take start notes) ++ t) (sym (append-nil (messages_of Out quiet (take (i - start) (drop start notes)))) ∙ ap (λ t. messages_of Out quiet (take (i - start) (drop start notes)) ++ t) (sym (no_lines quiet)))))
    begun

-- The text so far, the last run, and the lines.
pub end_begun : (o n : Option (List ℕ)) (has_failed is_cut quiet : Bool) (notes : List Note) (start : ℕ) (lines : List ℕ)
    → IsBegun o n has_failed is_cut (messages_of Out quiet (take start notes) ++ (messages_of Out quiet (take (length notes - start) (drop start notes)) ++ lines))
    → IsBegun o n has_failed is_cut (messages_of Out quiet notes ++ lines)
end_begun o n has_failed is_cut quiet notes start lines begun =
    subst (IsBegun o n has_failed is_cut)
    (sym (ap (λ t. flat_map (note_text Out quiet) t ++ lines) (sym (take-append-drop start notes))
    ∙ ap (λ t. t ++ lines) (flat_map-append (note_text Out quiet) (take start notes) (drop start notes))
    ∙ append_assoc (messages_of Out quiet (take start notes)) (messages_of Out quiet (drop start notes)) lines
    ∙ ap (λ r. messages_of Out quiet (take start notes) ++ (messages_of Out quiet r ++ lines)) (sym (take_rest notes start))))
    begun

-- The pieces so far, and one more.
pub piece_begun : (o n : Option (List ℕ)) (has_failed is_cut quiet : Bool) (notes : List Note) (i : ℕ) (note : Note)
    → i < length notes → note ≡ get_or notes i note
    → IsBegun o n has_failed is_cut (messages_of Out quiet (take i notes) ++ note_text Out quiet note)
    → IsBegun o n has_failed is_cut (messages_of Out quiet (take (i + 1) notes))
piece_begun o n has_failed is_cut quiet notes i note lt at begun =
    subst (IsBegun o n has_failed is_cut)
    (sym (ap (flat_map (note_text Out quiet)) (take_more notes i note lt ∙ ap (λ n. take i notes ++ n ∷ []) (sym at))
    ∙ flat_map-append (note_text Out quiet) (take i notes) (note ∷ [])
    ∙ ap (λ t. flat_map (note_text Out quiet) (take i notes) ++ t) (append-nil (note_text Out quiet note))))
    begun
