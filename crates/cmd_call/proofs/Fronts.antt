-- Texts of which fronts are written, one after the other.
use Rattle.std.proofs.Common.{◌≡◌, ℕ, ◌+◌, ◌<◌, List, [], ◌∷◌, ◌++◌, Option, Some, None, take, drop, length, get_or, sym, subst, refl, ap, ◌∙◌, append_assoc}
use Rattle.std.specs.Io.KnownBytes.{Appends, Keeps}
use Rattle.std.proofs.Math.Seq.{take-add}
use Rattle.std.proofs.lemmas.List.{take_more, append-nil}
use Rattle.std.proofs.lemmas.Grind.{flat_map-append}
use Rattle.deftable.specs.declared.note.Note.{Note}
use Rattle.deftable.specs.declared.note.Stream.{Stream}
use Rattle.deftable.specs.declared.note.Stream.TheVariants.{Out}
use Rattle.deftable.specs.declared.note.Stream.TheVariants.{Err as ToErr}
use Rattle.cmd_call.specs.Errors.{AreFronts, AreTold, error_of, errors_of, none, more}
use Rattle.cmd_call.proofs.Appending.{appends_more}

fronts_joined : (xs ys : List (List ℕ)) (a b : List ℕ) → AreFronts xs a → AreFronts ys b → AreFronts (xs ++ ys) (a ++ b)
fronts_joined xs ys a b none second = second
fronts_joined xs ys a b (more n text {texts} {bytes} first) second =
    subst (AreFronts (text ∷ (texts ++ ys))) (sym (append_assoc (take n text) bytes b)) (more n text (fronts_joined texts ys bytes b first second))

pub nothing_appended : (o : Option (List ℕ)) → Appends o o []
nothing_appended None = tt
nothing_appended (Some x) = sym (append-nil x)

pub front_none : (o : Option (List ℕ)) (text : List ℕ) → Appends o o (take 0 text)
front_none o text = nothing_appended o

-- A write took n bytes more of a text.
pub front_more : (old mid new : Option (List ℕ)) (text : List ℕ) (k n : ℕ) → Appends old mid (take k text) → Appends mid new (take n (drop k text)) → Appends old new (take (k + n) text)
front_more old mid new text k n first second = appends_more old mid new (take k text) (take n (drop k text)) (take (k + n) text) first second (take-add k n text)

-- A write took nothing.
pub nothing_more : (old new : Option (List ℕ)) → Keeps old new → Appends old new []
nothing_more None new kept = tt
nothing_more (Some o) None kept = absurd kept
nothing_more (Some o) (Some n) kept = kept ∙ sym (append-nil o)

pub front_kept : (old mid new : Option (List ℕ)) (bytes : List ℕ) → Appends old mid bytes → Appends mid new [] → Appends old new bytes
front_kept old mid new bytes first second = appends_more old mid new bytes [] bytes first second (sym (append-nil bytes))

pub told_nothing : (o : Option (List ℕ)) → AreTold o o []
told_nothing o = record { bytes = []; fronts = none; appended = nothing_appended o }

pub told_joined : (old mid new : Option (List ℕ)) (xs ys : List (List ℕ)) → AreTold old mid xs → AreTold mid new ys → AreTold old new (xs ++ ys)
told_joined old mid new xs ys first second = record {
  bytes = first.bytes ++ second.bytes;
  fronts = fronts_joined xs ys first.bytes second.bytes first.fronts second.fronts;
  appended = appends_more old mid new first.bytes second.bytes (first.bytes ++ second.bytes) first.appended second.appended refl;
}

-- One text was written, or a front of it.
pub told_one : (old new : Option (List ℕ)) (n : ℕ) (text : List ℕ) → Appends old new (take n text) → AreTold old new (text ∷ [])
told_one old new n text appended = record {
  bytes = take n text ++ [];
  fronts = more n text none;
  appended = subst (Appends old new) (sym (append-nil (take n text))) appended;
}

-- The same, of a front of some length.
pub told_front : (old new : Option (List ℕ)) (text : List ℕ) → (n : ℕ) × Appends old new (take n text) → AreTold old new (text ∷ [])
told_front old new text front = told_one old new front.0 text front.1

pub errors_more : (notes : List Note) (i : ℕ) (note : Note) → i < length notes → note ≡ get_or notes i note
    → errors_of (take (i + 1) notes) ≡ errors_of (take i notes) ++ error_of note
errors_more notes i note lt at =
    ap errors_of (take_more notes i note lt ∙ ap (λ n. take i notes ++ n ∷ []) (sym at))
    ∙ flat_map-append error_of (take i notes) (note ∷ [])
    ∙ ap (λ t. errors_of (take i notes) ++ t) (append-nil (error_of note))

-- One message more was printed.
pub told_more : (old mid new : Option (List ℕ)) (notes : List Note) (i : ℕ) (note : Note) → i < length notes → note ≡ get_or notes i note
    → AreTold old mid (errors_of (take i notes)) → AreTold mid new (error_of note) → AreTold old new (errors_of (take (i + 1) notes))
told_more old mid new notes i note lt at first second =
    subst (AreTold old new) (sym (errors_more notes i note lt at)) (told_joined old mid new _ _ first second)

-- An empty text is written by no write.
pub told_blank : (o : Option (List ℕ)) (text : List ℕ) → text ≡ [] → AreTold o o (text ∷ [])
told_blank o text is = subst (λ t. AreTold o o (t ∷ [])) (sym is) (told_one o o 0 [] (nothing_appended o))
