-- Lines that are written part by part.
use Rattle.std.proofs.Common.{arith, ◌≡◌, ℕ, zero, suc, ◌+◌, ◌<◌, Bool, true, false, List, [], ◌∷◌, ◌++◌, Option, Result, Ok, Err, OnErr, OnOk, take, length, get_or, sym, subst, refl, ap, ◌∙◌, append_assoc}
use Rattle.std.specs.Io.KnownBytes.{Appends}
use Rattle.std.proofs.lemmas.List.{append-nil, take_all}
use Rattle.std.proofs.lemmas.List.Folds.{concat-append}
use Rattle.std.specs.List.{concat}
use Rattle.deftable.specs.declared.note.Note.{Note}
use Rattle.cmd_call.specs.Errors.{AreTold, error_of, errors_of}
use Rattle.cmd_call.specs.Lines.{AreSaid, IsBegun, IsTold}
use Rattle.cmd_call.proofs.Appending.{appends_more}
use Rattle.cmd_call.proofs.Fronts.{errors_more, nothing_appended, told_front, told_joined, told_nothing}

-- A front of a text is one of a longer text.
front_longer : (n : ℕ) (text more : List ℕ) → (m : ℕ) × (take n text ≡ take m (text ++ more))
front_longer zero text more = (0, refl)
front_longer (suc n) [] more = (0, refl)
front_longer (suc n) (c ∷ cs) more = let rest = front_longer n cs more in (suc rest.0, ap (λ t. c ∷ t) rest.1)

-- A text, and a front of what follows it, are a front of both.
front_after : (text more : List ℕ) (n : ℕ) → (m : ℕ) × (take m (text ++ more) ≡ text ++ take n more)
front_after [] more n = (n, refl)
front_after (c ∷ cs) more n = let rest = front_after cs more n in (suc rest.0, ap (λ t. c ∷ t) rest.1)

-- After a line was cut, nothing more of it is written.
pub part_after_cut : (start now : Option (List ℕ)) (has_failed : Bool) (before part : List ℕ) → IsBegun start now has_failed true before → IsBegun start now has_failed true (before ++ part)
part_after_cut start now has_failed before part b =
    let longer = front_longer b.front.0 before part in record {
      front = (longer.0, subst (Appends start now) longer.1 b.front.1);
      whole = λ e. absurd cc;
      failed = b.failed;
    }

-- The stream took the next part.
pub part_taken : (start mid now : Option (List ℕ)) (failed has_failed : Bool) (before part : List ℕ) → Appends mid now part → IsBegun start mid failed false before → IsBegun start now has_failed false (before ++ part)
part_taken start mid now failed has_failed before part more b =
    let all : Appends start now (before ++ part) = appends_more start mid now before part (before ++ part) (b.whole refl) more refl in record {
      front = (length (before ++ part), subst (Appends start now) (sym (take_all (length (before ++ part)) (before ++ part) (omega arith))) all);
      whole = λ e. all;
      failed = λ e. absurd cc;
    }

-- It took a front of the next part.
pub part_cut : (start mid now : Option (List ℕ)) (failed has_failed : Bool) (before part : List ℕ) → (n : ℕ) × Appends mid now (take n part) → has_failed ≡ true → IsBegun start mid failed false before → IsBegun start now has_failed true (before ++ part)
part_cut start mid now failed has_failed before part more is b = record {
  front = let m = front_after before part more.0 in (m.0, appends_more start mid now before (take more.0 part) _ (b.whole refl) more.1 m.1);
  whole = λ e. absurd cc;
  failed = λ e. is;
}

-- A text that the stream took whole.
pub whole_begun : (start now : Option (List ℕ)) (has_failed : Bool) (text : List ℕ) → Appends start now text → IsBegun start now has_failed false text
whole_begun start now has_failed text all = record {
  front = (length text, subst (Appends start now) (sym (take_all (length text) text (omega arith))) all);
  whole = λ e. all;
  failed = λ e. absurd cc;
}

-- A text of which the stream took a front.
pub front_begun : (start now : Option (List ℕ)) (has_failed : Bool) (text : List ℕ) → (n : ℕ) × Appends start now (take n text) → has_failed ≡ true → IsBegun start now has_failed true text
front_begun start now has_failed text front is = record { front = front; whole = λ e. absurd cc; failed = λ e. is }

-- A text that is empty.
pub blank_begun : (start : Option (List ℕ)) (has_failed : Bool) (text : List ℕ) → text ≡ [] → IsBegun start start has_failed false text
blank_begun start has_failed text is = whole_begun start start has_failed text (subst (Appends start start) (sym is) (nothing_appended start))

-- A text, and then a text that was begun.
pub begun_then : (start mid now : Option (List ℕ)) (failed has_failed is_cut : Bool) (before part : List ℕ)
    → IsBegun start mid failed false before → IsBegun mid now has_failed is_cut part → IsBegun start now has_failed is_cut (before ++ part)
begun_then start mid now failed has_failed is_cut before part b next = record {
  front = let m = front_after before part next.front.0 in (m.0, appends_more start mid now before (take next.front.0 part) _ (b.whole refl) next.front.1 m.1);
  whole = λ e. appends_more start mid now before part (before ++ part) (b.whole refl) (next.whole e) refl;
  failed = next.failed;
}

-- A text that was written whole unless the stream failed.
pub taken_whole : {E A : Type 0} (r : Result A E) (old new : Option (List ℕ)) (has_failed : Bool) (text : List ℕ)
    → OnOk r (Appends old new text) → OnErr r (has_failed ≡ true) → has_failed ≡ false → Appends old new text
taken_whole (Ok x) old new has_failed text whole failed e = whole
taken_whole (Err f) old new has_failed text whole failed e = absurd cc

pub one_whole : (old new : Option (List ℕ)) (text : List ℕ) → Appends old new text → Appends old new (concat (text ∷ []))
one_whole old new text h = subst (Appends old new) (sym (append-nil text)) h

-- One message more was written whole.
pub whole_more : (old mid new : Option (List ℕ)) (mid_failed new_failed : Bool) (notes : List Note) (i : ℕ) (note : Note) → i < length notes → note ≡ get_or notes i note
    → (mid_failed ≡ false → Appends old mid (concat (errors_of (take i notes)))) → (new_failed ≡ false → Appends mid new (concat (error_of note)))
    → (new_failed ≡ false → mid_failed ≡ false) → new_failed ≡ false → Appends old new (concat (errors_of (take (i + 1) notes)))
whole_more old mid new mid_failed new_failed notes i note lt at first second kept e =
    appends_more old mid new _ _ _ (first (kept e)) (second e) (ap concat (errors_more notes i note lt at) ∙ concat-append (errors_of (take i notes)) (error_of note))

-- Nothing more was written after a line.
pub still_told : {E : Type 0} (contents : E → Option (List ℕ)) (has_failed : E → Bool) (old mid new : E) (text : List ℕ)
    → IsTold contents has_failed old mid text → new ≡ mid → IsTold contents has_failed old new text
still_told contents has_failed old mid new text told is = subst (λ e. IsTold contents has_failed old e text) (sym is) told

-- The same if it wasn't asked for more.
pub told_unasked : {E : Type 0} (contents : E → Option (List ℕ)) (has_failed : E → Bool) (old mid new : E) (text : List ℕ) (is_asked : Bool)
    → IsTold contents has_failed old mid text → (is_asked ≡ false → new ≡ mid) → is_asked ≡ false → IsTold contents has_failed old new text
told_unasked contents has_failed old mid new text is_asked told silent e = still_told contents has_failed old mid new text told (silent e)

-- Nothing was said.
pub said_nothing : {E : Type 0} (contents : E → Option (List ℕ)) (has_failed : E → Bool) (e : E) → AreSaid contents has_failed e e []
said_nothing contents has_failed e = record { told = told_nothing (contents e); whole = λ f. nothing_appended (contents e); kept = λ f. f }

-- A line is a list of one text.
pub said_line : {E : Type 0} (contents : E → Option (List ℕ)) (has_failed : E → Bool) (old new : E) (text : List ℕ)
    → IsTold contents has_failed old new text → AreSaid contents has_failed old new (text ∷ [])
said_line contents has_failed old new text t =
    record { told = t.told; whole = λ f. one_whole (contents old) (contents new) text (t.whole f); kept = t.kept }

-- The same if it wasn't asked for more.
pub said_unasked : {E : Type 0} (contents : E → Option (List ℕ)) (has_failed : E → Bool) (old new : E) (text : List ℕ) (is_asked : Bool)
    → (is_asked ≡ false → IsTold contents has_failed old new text) → is_asked ≡ false → AreSaid contents has_failed old new (text ∷ [])
said_unasked contents has_failed old new text is_asked told e = said_line contents has_failed old new text (told e)

-- Texts that are said one after the other.
pub said_then : {E : Type 0} (contents : E → Option (List ℕ)) (has_failed : E → Bool) (old mid new : E) (xs ys : List (List ℕ))
    → AreSaid contents has_failed old mid xs → AreSaid contents has_failed mid new ys → AreSaid contents has_failed old new (xs ++ ys)
said_then contents has_failed old mid new xs ys first second = record {
  told = told_joined (contents old) (contents mid) (contents new) xs ys first.told second.told;
  whole = λ f. appends_more (contents old) (contents mid) (contents new) (concat xs) (concat ys) _ (first.whole (second.kept f)) (second.whole f) (concat-append xs ys);
  kept = λ f. first.kept (second.kept f);
}

-- Nothing more was said after texts, and then others were.
pub said_after : {E : Type 0} (contents : E → Option (List ℕ)) (has_failed : E → Bool) (old mid same new : E) (xs ys : List (List ℕ))
    → AreSaid contents has_failed old mid xs → same ≡ mid → AreSaid contents has_failed same new ys → AreSaid contents has_failed old new (xs ++ ys)
said_after contents has_failed old mid same new xs ys first is second =
    said_then contents has_failed old mid new xs ys first (subst (λ e. AreSaid contents has_failed e new ys) is second)

-- Three lists of texts that are said one after the other.
pub said_thrice : {E : Type 0} (contents : E → Option (List ℕ)) (has_failed : E → Bool) (one two three four : E) (ms xs ys zs : List (List ℕ))
    → AreSaid contents has_failed one two (ms ++ xs) → AreSaid contents has_failed two three ys → AreSaid contents has_failed three four zs
    → AreSaid contents has_failed one four (ms ++ (xs ++ (ys ++ zs)))
said_thrice contents has_failed one two three four ms xs ys zs first second third =
    subst (AreSaid contents has_failed one four) (append_assoc ms xs (ys ++ zs))
    (said_then contents has_failed one two four (ms ++ xs) (ys ++ zs) first (said_then contents has_failed two three four ys zs second third))

-- An empty text is written by no write.
pub blank_whole : (o : Option (List ℕ)) (text : List ℕ) → text ≡ [] → Appends o o text
blank_whole o text is = subst (Appends o o) (sym is) (nothing_appended o)

-- The same, if the line was cut, or not.
pub after_cut_is : (start now : Option (List ℕ)) (has_failed cut : Bool) (before part : List ℕ) → cut ≡ true → IsBegun start now has_failed cut before → IsBegun start now has_failed true (before ++ part)
after_cut_is start now has_failed cut before part is b = part_after_cut start now has_failed before part (subst (λ c. IsBegun start now has_failed c before) is b)

-- Nothing of a line is written yet.
pub none_begun : (start : Option (List ℕ)) (has_failed : Bool) → IsBegun start start has_failed false []
none_begun start has_failed = record { front = (zero, nothing_appended start); whole = λ e. nothing_appended start; failed = λ e. absurd cc }

not_cut : (cut has_failed : Bool) → (cut ≡ true → has_failed ≡ true) → has_failed ≡ false → cut ≡ false
not_cut false has_failed h e = refl
not_cut true has_failed h e = let t = h refl in absurd cc

joined : (a k w d n t : List ℕ) → ((((a ++ k) ++ w) ++ d) ++ n) ++ t ≡ a ++ ((k ++ (w ++ d)) ++ (n ++ t))
joined a k w d n t =
    append_assoc (((a ++ k) ++ w) ++ d) n t
    ∙ ap (λ l. l ++ (n ++ t)) (append_assoc (a ++ k) w d ∙ append_assoc a k (w ++ d))
    ∙ append_assoc a (k ++ (w ++ d)) (n ++ t)

-- A line of six parts.
pub line_told : {E : Type 0} (contents : E → Option (List ℕ)) (has_failed : E → Bool) (old new : E) (cut : Bool) (a k w d n t : List ℕ)
    → IsBegun (contents old) (contents new) (has_failed new) cut (((((a ++ k) ++ w) ++ d) ++ n) ++ t)
    → (has_failed new ≡ false → has_failed old ≡ false) → IsTold contents has_failed old new (a ++ ((k ++ (w ++ d)) ++ (n ++ t)))
line_told contents has_failed old new cut a k w d n t b kept =
    let c : IsBegun (contents old) (contents new) (has_failed new) cut (a ++ ((k ++ (w ++ d)) ++ (n ++ t))) =
    subst (IsBegun (contents old) (contents new) (has_failed new) cut) (joined a k w d n t) b in
    record {
      told = told_front (contents old) (contents new) _ c.front;
      whole = λ e. c.whole (not_cut cut (has_failed new) c.failed e);
      kept = kept;
    }
