-- How an artifact is put.
use Rattle.std.proofs.lemmas.Bool.{true≢false}
use Rattle.std.proofs.Common.{◌≡◌, ℕ, ◌+◌, Bool, true, false, List, [], ◌∷◌, ◌++◌, Option, Some, None, IfSome, Result, Ok, Err, OnOk, OnErr, sym, ◌∙◌, subst, arith}
use Rattle.file_disk.specs.Known.{Known, Deed, Does, with_deeds}
use Rattle.file_disk.proofs.Deeds.{with_none, does_none, does_more, after_does}
use Rattle.output_put.specs.declared.artifact.Artifact.{Artifact}
use Rattle.output_put.specs.declared.artifact.Kind.{Kind}
use Rattle.output_put.specs.declared.artifact.Kind.TheVariants.{Cache, Record, File, Header}
use Rattle.file_texts.specs.Done.{can_be_read, IsOther, IsEnd, IsPut, cache_same, cache_put, record_put, file_put, header_same, header_put, HasPlaces, there, IsTakenSo, IsRefused, AreDone, taken, refused, IsAllDone, IsDoneApart}
use Rattle.file_texts.specs.Done as made
use Rattle.file_texts.specs.Held.{Held, AreUnguarded}
use Rattle.file_texts.specs.Keeping.{IsKept, AreSame, IsLeft, MayReplace, IsStepped, IsUnstepped, before, after, Takes, keeps_of, made_for}
use Rattle.file_texts.specs.Lines.{AreLines}
use Rattle.file_texts.specs.Sayings.{saying_of, said}
use Rattle.file_texts.specs.Places.{ArePlaced, is_name_guarded, is_own, is_own_in}
use Rattle.file_texts.specs.Steps.{IsWritten, IsUndone}
use Rattle.file_texts.specs.declared.lines.Saying.{Saying}
use Rattle.file_texts.specs.declared.places.Guard.{Guard}
use Rattle.file_texts.specs.declared.places.FilePlace.{FilePlace}
use Rattle.file_texts.specs.declared.writing.Keeps.{Keeps}
use Rattle.file_texts.proofs.Kept.{is_said, one_more}

-- directories that are not made change nothing
no_directories : (k : Known) (keeps : Keeps) (file text : List ℕ) (deeds : List Deed)
    → IsWritten (with_deeds k []) keeps file text deeds → IsWritten k keeps file text deeds
no_directories k keeps file text deeds is = subst (λ l. IsWritten l keeps file text deeds) (sym (with_none k)) is

pub put_is : (k : Known) (guards : List Guard) (places new_places : List FilePlace) (kind : Kind) (left : Bool) (name file text : List ℕ) (deeds : List Deed)
    → IsLeft kind k name text left × MayReplace kind left k name file
    → IsStepped k guards places new_places (saying_of kind left) left (keeps_of kind) name file text deeds
    → IsPut k name file text kind (said (saying_of kind left) name) deeds
put_is k guards places new_places Cache true name file text deeds is s =
    let P : List Deed → Type 0 = λ d. IsPut k name file text Cache [] d in subst P (sym (s.parts ∙ s.fills)) (cache_same is.0)
put_is k guards places new_places Cache false name file text deeds is s =
    let P : List Deed → Type 0 = λ d. IsPut k name file text Cache [] d in subst P (sym s.parts) (cache_put s.rest is.0 is.1 (no_directories k _ file text s.rest s.fills))
put_is k guards places new_places Record true name file text deeds is s = absurd (true≢false is.0)
put_is k guards places new_places Record false name file text deeds is s =
    let P : List Deed → Type 0 = λ d. IsPut k name file text Record [] d in subst P (sym s.parts) (record_put s.rest (no_directories k _ file text s.rest s.fills))
put_is k guards places new_places File true name file text deeds is s = absurd (true≢false is.0)
put_is k guards places new_places File false name file text deeds is s =
    let P : List Deed → Type 0 = λ d. IsPut k name file text File (said (saying_of File false) name) d in subst P (sym s.parts) (file_put s.rest s.fills)
put_is k guards places new_places Header true name file text deeds is s =
    let P : List Deed → Type 0 = λ d. IsPut k name file text Header (said (saying_of Header true) name) d in subst P (sym (s.parts ∙ s.fills)) (header_same is.0)
put_is k guards places new_places Header false name file text deeds is s =
    let P : List Deed → Type 0 = λ d. IsPut k name file text Header (said (saying_of Header false) name) d in subst P (sym s.parts) (header_put s.rest is.0 s.fills)

-- the places of what was put
has_places : (k : Known) (guards : List Guard) (places new_places : List FilePlace) (kind : Kind) (left : Bool) (name file : List ℕ)
    → ArePlaced (with_deeds k (made_for (saying_of kind left) name)) guards places new_places name file
    → HasPlaces k guards places new_places name file kind
has_places k guards places new_places Cache left name file are = made.made are
has_places k guards places new_places Record left name file are = made.made are
has_places k guards places new_places File left name file are = made.made are
has_places k guards places new_places Header true name file are = there (subst (λ q. ArePlaced q guards places new_places name file) (sym (with_none k)) are)
has_places k guards places new_places Header false name file are = made.made are

pub refused_is : (k : Known) (kind : Kind) (left : Bool) (name file : List ℕ) (deeds : List Deed)
    → IsEnd k name kind file
    → IsUnstepped (saying_of kind left) name file deeds → IsRefused k name kind deeds
refused_is k kind left name file [] end before = made.nothing
refused_is k Cache left name file deeds end (after rest u) = made.undone file rest end u
refused_is k Record left name file deeds end (after rest u) = made.undone file rest end u
refused_is k File left name file deeds end (after rest u) = made.file_undone rest (subst (λ f. IsUndone f rest) end u)
refused_is k Header true name file deeds end (after rest u) = made.undone file rest end u
refused_is k Header false name file deeds end (after rest u) = made.header_undone rest (subst (λ f. IsUndone f rest) end u)

both : (X Y : Known → Type 0) (a : Option Known) → IfSome a X → IfSome a Y
    → IfSome a (λ k. X k × Y k)
both X Y None x y = tt
both X Y (Some k) x y = (x, y)

-- The name, if something is known, is none that a run has for itself.
not_own : (a : Option Known) (name : List ℕ) → is_own_in a name ≡ false
    → IfSome a (λ k. is_own k name ≡ false)
not_own None name is = tt
not_own (Some k) name is = is

pub takes_is : {E : Type 0} (r : Result (Unit {0}) E) (a b : Option Known) (guards : List Guard) (places new_places : List FilePlace) (artifacts : List Artifact) (lines : List ℕ) (new_artifacts : List Artifact) (new_lines : List ℕ)
    (kind : Kind) (left : Bool) (name file text : List ℕ) (artifact : Artifact) (saying : Saying)
    → artifact ≡ record { kind = kind; name = name; text = text } → saying ≡ saying_of kind left
    → is_name_guarded name guards ≡ false → is_own_in a name ≡ false → can_be_read kind text ≡ true
    → IfSome a (λ k. IsLeft kind k name text left) → IfSome a (λ k. IsEnd k name kind file)
    → IfSome a (λ k. MayReplace kind left k name file)
    → OnOk r (IsKept artifacts lines new_artifacts new_lines artifact (said saying name))
    → OnOk r (Does a b (λ k deeds. IsStepped k guards places new_places saying left (keeps_of kind) name file text deeds))
    → OnOk r (Takes a b guards places new_places artifacts lines new_artifacts new_lines (record { kind = kind; name = name; text = text }))
takes_is (Err e) a b guards places new_places artifacts lines new_artifacts new_lines kind left name file text artifact saying is says named own readable lefts ends may kept does = tt
takes_is (Ok u) a b guards places new_places artifacts lines new_artifacts new_lines kind left name file text artifact saying is says named own readable lefts ends may kept does =
    let line = said (saying_of kind left) name in
    let one : Artifact = record { kind = kind; name = name; text = text } in
    let steps : Does a b (λ k deeds. IsStepped k guards places new_places (saying_of kind left) left (keeps_of kind) name file text deeds) =
    subst (λ s. Does a b (λ k deeds. IsStepped k guards places new_places s left (keeps_of kind) name file text deeds)) says does in
    record {
      line = line;
      kept = subst (λ t. IsKept artifacts lines new_artifacts new_lines t line) is (subst (λ s. IsKept artifacts lines new_artifacts new_lines artifact (said s name)) says kept);
      said = is_said kind left name;
      does = does_more a b (λ k. ((IsLeft kind k name text left × MayReplace kind left k name file) × IsEnd k name kind file) × (is_own k name ≡ false)) _ (λ k deeds. IsTakenSo k guards places new_places one line deeds)
          (both (λ k. (IsLeft kind k name text left × MayReplace kind left k name file) × IsEnd k name kind file) (λ k. is_own k name ≡ false) a
          (both (λ k. IsLeft kind k name text left × MayReplace kind left k name file) (λ k. IsEnd k name kind file) a (both (λ k. IsLeft kind k name text left) (λ k. MayReplace kind left k name file) a lefts may) ends)
          (not_own a name own)) steps
          (λ k d x s. record {
            file = file;
            ends = x.0.1;
            named = named;
            own = x.1;
            readable = readable;
            placed = has_places k guards places new_places kind left name file s.placed;
            put = put_is k guards places new_places kind left name file text d x.0.0 s;
          });
    }

pub refuses_is : {E : Type 0} (r : Result (Unit {0}) E) (a b : Option Known) (kind : Kind) (left : Bool) (name file : List ℕ) (saying : Saying) → saying ≡ saying_of kind left
    → IfSome a (λ k. IsEnd k name kind file)
    → OnErr r (Does a b (λ _ deeds. IsUnstepped saying name file deeds))
    → OnErr r (Does a b (λ k deeds. IsRefused k name kind deeds))
refuses_is (Ok u) a b kind left name file saying says ends does = tt
refuses_is (Err e) a b kind left name file saying says ends does =
    does_more a b (λ k. IsEnd k name kind file) _ (λ k deeds. IsRefused k name kind deeds) ends
    (subst (λ s. Does a b (λ _ deeds. IsUnstepped s name file deeds)) says does)
    (λ k d x s. refused_is k kind left name file d x s)

-- Nothing was done for a put that was refused.
pub refused_before : (a : Option Known) (kind : Kind) (name : List ℕ)
    → Does a a (λ k deeds. IsRefused k name kind deeds)
refused_before a kind name = does_none a (λ k deeds. IsRefused k name kind deeds) (λ k. made.nothing)

-- The lines after a put that was taken.
pub lines_after : (a b : Option Known) (guards : List Guard) (places new_places : List FilePlace) (artifacts : List Artifact) (lines : List ℕ) (new_artifacts : List Artifact) (new_lines : List ℕ) (artifact : Artifact)
    → AreLines artifacts lines → Takes a b guards places new_places artifacts lines new_artifacts new_lines artifact
    → AreLines new_artifacts new_lines
lines_after a b guards places new_places artifacts lines new_artifacts new_lines artifact are takes =
    rw (takes.kept.artifact_kept, takes.kept.line_kept) (one_more artifact takes.line are takes.said)

-- The deeds after a put that was taken.
pub done_after : (a b : Option Known) (guards lent : List Guard) (places new_places : List FilePlace) (artifacts : List Artifact) (failures : ℕ) (lines : List ℕ) (new_artifacts : List Artifact) (new_lines : List ℕ) (artifact : Artifact)
    → lent ≡ guards → IfSome a (λ k. IsDoneApart k guards artifacts failures lines places)
    → Takes a b lent places new_places artifacts lines new_artifacts new_lines artifact
    → IfSome b (λ k. IsDoneApart k guards new_artifacts failures new_lines new_places)
done_after a b guards lent places new_places artifacts failures lines new_artifacts new_lines artifact same are takes =
    let P : Known → List Deed → Type 0 = λ k d. IsTakenSo k lent places new_places artifact takes.line d in
    rw (takes.kept.artifact_kept, takes.kept.line_kept)
    (after_does a b (λ k. IsDoneApart k guards artifacts failures lines places) (λ k. IsDoneApart k guards (artifacts ++ artifact ∷ []) failures (lines ++ takes.line) new_places) P are takes.does
    (λ k d x p. taken artifacts failures lines places new_places k.deeds artifact takes.line d x (subst (λ gs. IsTakenSo k gs places new_places artifact takes.line d) same p)))

-- The deeds after a put that was refused.
pub done_refused : (a b : Option Known) (guards : List Guard) (places new_places : List FilePlace) (artifacts : List Artifact) (failures : ℕ) (lines : List ℕ) (new_artifacts : List Artifact) (new_lines : List ℕ) (kind : Kind) (name : List ℕ)
    → IfSome a (λ k. IsDoneApart k guards artifacts failures lines places) → AreSame artifacts lines new_artifacts new_lines
    → new_places ≡ places
    → Does a b (λ k d. IsRefused k name kind d)
    → IfSome b (λ k. IsDoneApart k guards new_artifacts (failures + 1) new_lines new_places)
done_refused a b guards places new_places artifacts failures lines new_artifacts new_lines kind name are same unplaced does =
    rw (same.same_artifacts, same.same_lines, unplaced)
    (after_does a b (λ k. IsDoneApart k guards artifacts failures lines places) (λ k. IsDoneApart k guards artifacts (failures + 1) lines places) (λ k d. IsRefused k name kind d) are does
    (λ k d x p. refused artifacts failures lines places k.deeds kind name d x p))

-- Nothing was done yet.
pub begun : (a : Option Known) → IfSome a (λ k. k.deeds ≡ [])
    → IfSome a (λ k. IsDoneApart k [] [] 0 [] [])
begun None e = tt
begun (Some k) e = subst (λ d. AreDone k.files [] [] 0 [] [] d) (sym e) made.none

-- If nothing was put, other names may be guarded from now on.
one_at_least : (xs : List Artifact) (x : Artifact) → xs ++ x ∷ [] ≡ [] → ⊥
one_at_least [] x is = cc
one_at_least (y ∷ xs) x is = cc

regarded : (k : Known) (guards new_guards : List Guard) (artifacts : List Artifact) (failures : ℕ) (lines : List ℕ) (places : List FilePlace) (deeds : List Deed)
    → AreDone k.files guards artifacts failures lines places deeds → artifacts ≡ [] → failures ≡ 0
    → AreDone k.files new_guards artifacts failures lines places deeds
regarded k guards new_guards artifacts failures lines places deeds made.none unhanded unrefused = made.none
regarded k guards new_guards artifacts failures lines places deeds (taken earlier f l p n d artifact line more are so) unhanded unrefused = absurd (one_at_least earlier artifact unhanded)
regarded k guards new_guards artifacts failures lines places deeds (refused earlier f l p d kind name more are so) unhanded unrefused = absurd (omega (arith, unrefused))

pub guarded_after : (a : Option Known) (guards new_guards : List Guard) (artifacts : List Artifact) (failures : ℕ) (lines : List ℕ) (places : List FilePlace)
    → artifacts ≡ [] → failures ≡ 0
    → IfSome a (λ k. IsDoneApart k guards artifacts failures lines places)
    → IfSome a (λ k. IsDoneApart k new_guards artifacts failures lines places)
guarded_after None guards new_guards artifacts failures lines places unhanded unrefused are = tt
guarded_after (Some k) guards new_guards artifacts failures lines places unhanded unrefused are =
    regarded k guards new_guards artifacts failures lines places k.deeds are unhanded unrefused

-- What was done apart was done.
pub all_of_apart : (a : Option Known) (guards : List Guard) (artifacts : List Artifact) (failures : ℕ) (lines : List ℕ) (places : List FilePlace)
    → IfSome a (λ k. IsDoneApart k guards artifacts failures lines places)
    → IfSome a (λ k. IsAllDone k artifacts failures lines)
all_of_apart None guards artifacts failures lines places are = tt
all_of_apart (Some k) guards artifacts failures lines places are = (guards, places, are)

-- The same of a receiver, by what is inside it.
pub done_of_view : {D : Type 0} (known : D → Option Known) (inside o : Held D) → inside ≡ o
    → (inside.closed ≡ false → IfSome (known inside.disk) (λ k. IsDoneApart k inside.guards inside.handed inside.failures inside.lines inside.places))
    → o.closed ≡ false → IfSome (known o.disk) (λ k. IsAllDone k o.handed o.failures o.lines)
done_of_view known inside o is are =
    subst (λ h. h.closed ≡ false → IfSome (known h.disk) (λ k. IsAllDone k h.handed h.failures h.lines)) is
    (λ unclosed. all_of_apart (known inside.disk) inside.guards inside.handed inside.failures inside.lines inside.places (are unclosed))

-- An artifact that is no cache is written to the file of its name.
pub ends_as : (known : Option Known) (name : List ℕ) (kind other : Kind) → kind ≡ other
    → ((k : Known) → IsEnd k name other name) → IfSome known (λ k. IsEnd k name kind name)
ends_as None name kind other is here = tt
ends_as (Some k) name kind other is here = subst (λ q. IsEnd k name q name) (sym is) (here k)

-- The lines after a put that was refused.
pub same_lines_after : (artifacts : List Artifact) (lines : List ℕ) (new_artifacts : List Artifact) (new_lines : List ℕ) → AreLines artifacts lines
    → AreSame artifacts lines new_artifacts new_lines → AreLines new_artifacts new_lines
same_lines_after artifacts lines new_artifacts new_lines are same = rw (same.same_artifacts, same.same_lines) are

-- The artifacts after a put that was refused.
pub same_unguarded : (guards : List Guard) (artifacts : List Artifact) (lines : List ℕ) (new_artifacts : List Artifact) (new_lines : List ℕ)
    → AreSame artifacts lines new_artifacts new_lines → AreUnguarded guards artifacts
    → AreUnguarded guards new_artifacts
same_unguarded guards artifacts lines new_artifacts new_lines same are = rw same.same_artifacts are
