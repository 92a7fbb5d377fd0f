-- A text has at most one first fault, and that of a record has none.
use Rattle.std.proofs.Common.{◌≡◌, ◌≢◌, ℕ, ◌+◌, List, [], ◌∷◌, ◌++◌, false, true, length, Option, Some, None, Result, Ok, Err, refl, ap, ◌∙◌, sym, subst, ◌⊎◌, inl, inr, append_assoc}
use Rattle.std.specs.Prelude.{codes, bytes_eq, IfErr}
use Rattle.std.specs.List.{AllByRecursion}
use Rattle.std.proofs.lemmas.List.{append-nil, append_cancel_left}
use Rattle.std.proofs.lemmas.Slice.Eq.{bytes_eq-Decides}
use Rattle.status_record.specs.declared.fault.RecordFault.{RecordFault}
use Rattle.status_record.specs.declared.fault.RecordFault.TheVariants.{BadMagic, BadLine, Truncated, UnknownVersion, DuplicateName, OutOfMemory}
use Rattle.status_record.specs.declared.record.Record.{Record}
use Rattle.status_record.specs.Escape.{escaped}
use Rattle.status_record.specs.Line.{entry_fields, output_fields}
use Rattle.status_record.specs.RecordText.{version_line, arg_lines, lines_of, body_lines, record_lines, IsRecord, IsRecordText}
use Rattle.status_record.specs.Reading.{record_in, Gives, Fails, IsTruncated}
use Rattle.status_record.specs.Faults as forms
use Rattle.status_record.specs.Faults.{whole_lines, rest_of, IsVersion, HasBadMagic, HasUnknownVersion, BeginRecord, BeginButForNames, IsAtFault, HasMore, EndsEarly, IsRecordFault}
use Rattle.status_record.proofs.Fronts.{failed, four}
use Rattle.status_record.proofs.FirstFaults.{number_is, fault_in-sound}
use Rattle.status_record.proofs.Only.{lines_only, record_in-complete}

-- ---- the end of a record

-- none of the lines is `end`
abbrev NoEnd : List (List ℕ) → Type 0
NoEnd lines = AllByRecursion (λ l. bytes_eq l (codes "end") ≡ false) lines

no_end_both : (a b : List (List ℕ)) → NoEnd a → NoEnd b → NoEnd (a ++ b)
no_end_both [] b h k = k
no_end_both (x ∷ a) b h k = (h.0, no_end_both a b h.1 k)

no_end_of : {A : Type 0} (keyword : List ℕ) (fields : A → List ℕ) (items : List A) → ((t : List ℕ) → bytes_eq (keyword ++ t) (codes "end") ≡ false) → NoEnd (lines_of keyword fields items)
no_end_of keyword fields [] h = tt
no_end_of keyword fields (x ∷ items) h = (h (fields x), no_end_of keyword fields items h)

no_end_args : (args : Option (List (List ℕ))) → NoEnd (arg_lines args)
no_end_args None = tt
no_end_args (Some args) = no_end_of (codes "arg ") escaped args (λ t. refl)

no_end_version : (args : Option (List (List ℕ))) → bytes_eq (version_line args) (codes "end") ≡ false
no_end_version None = refl
no_end_version (Some args) = refl

-- the lines before the last
abbrev before_end : Record → List (List ℕ)
before_end r =
    version_line r.args ∷ (codes "srcdir " ++ escaped r.srcdir) ∷ (arg_lines r.args
    ++ (lines_of (codes "var ") entry_fields r.vars ++ (lines_of (codes "def ") entry_fields r.defs ++ (lines_of (codes "file ") output_fields r.files ++ lines_of (codes "header ") output_fields r.headers))))

ends : (r : Record) → record_lines r ≡ before_end r ++ codes "end" ∷ []
ends r =
    let v = lines_of (codes "var ") entry_fields r.vars in
    let d = lines_of (codes "def ") entry_fields r.defs in
    let f = lines_of (codes "file ") output_fields r.files in
    let h = lines_of (codes "header ") output_fields r.headers in
    let body : body_lines r ≡ (v ++ (d ++ (f ++ h))) ++ codes "end" ∷ [] = four v d f h (codes "end" ∷ []) in
    ap (λ t. version_line r.args ∷ (codes "srcdir " ++ escaped r.srcdir) ∷ t) (ap (λ t. arg_lines r.args ++ t) body ∙ sym (append_assoc (arg_lines r.args) (v ++ (d ++ (f ++ h))) (codes "end" ∷ [])))

no_end_before : (r : Record) → NoEnd (before_end r)
no_end_before r = (
  no_end_version r.args,
  (
    refl,
    no_end_both (arg_lines r.args) _ (no_end_args r.args)
        (no_end_both (lines_of (codes "var ") entry_fields r.vars) _ (no_end_of (codes "var ") entry_fields r.vars (λ t. refl))
        (no_end_both (lines_of (codes "def ") entry_fields r.defs) _ (no_end_of (codes "def ") entry_fields r.defs (λ t. refl))
        (no_end_both (lines_of (codes "file ") output_fields r.files) _ (no_end_of (codes "file ") output_fields r.files (λ t. refl))
        (no_end_of (codes "header ") output_fields r.headers (λ t. refl))))),
  ),
)

cons_is : (x y : List ℕ) (xs ys : List (List ℕ)) → x ∷ xs ≡ y ∷ ys → (x ≡ y) × (xs ≡ ys)
cons_is x y xs ys e = (cc, cc)

end_within : (a b : List (List ℕ)) (next : List ℕ) (more : List (List ℕ)) → NoEnd b → b ++ codes "end" ∷ [] ≡ a ++ codes "end" ∷ next ∷ more → ⊥
end_within [] [] next more h e = let t = (cons_is _ _ [] (next ∷ more) e).1 in cc
end_within [] (y ∷ b) next more h e =
    let same : bytes_eq y (codes "end") ≡ true = (bytes_eq-Decides y (codes "end")).1 (cons_is y _ (b ++ codes "end" ∷ []) (next ∷ more) e).0 in
    let other : bytes_eq y (codes "end") ≡ false = h.0 in cc
end_within (z ∷ []) [] next more h e = let t = (cons_is _ z [] (codes "end" ∷ next ∷ more) e).1 in cc
end_within (z ∷ w ∷ a) [] next more h e = let t = (cons_is _ z [] (w ∷ (a ++ codes "end" ∷ next ∷ more)) e).1 in cc
end_within (z ∷ a) (y ∷ b) next more h e = end_within a b next more h.1 (cons_is y z (b ++ codes "end" ∷ []) (a ++ codes "end" ∷ next ∷ more) e).1

-- no record's lines are the first of another's
no_longer : (r s : Record) (next : List ℕ) (more : List (List ℕ)) → record_lines s ≡ record_lines r ++ next ∷ more → ⊥
no_longer r s next more e =
    end_within (before_end r) (before_end s) next more (no_end_before s)
    (sym (ends s) ∙ e ∙ ap (λ t. t ++ next ∷ more) (ends r) ∙ append_assoc (before_end r) (codes "end" ∷ []) (next ∷ more))

not_truncated : (lines : List (List ℕ)) (r : Record) → lines ≡ record_lines r → IsTruncated lines → ⊥
not_truncated lines r e t = no_longer r t.whole t.next t.more (t.begins ∙ ap (λ l. l ++ t.next ∷ t.more) e)

-- ---- the first line

version_known : (args : Option (List (List ℕ))) → (number : List ℕ) × IsVersion (version_line args) number
version_known None = (codes "1", record { line_is = refl; is_number = number_is (codes "1") refl })
version_known (Some args) = (codes "2", record { line_is = refl; is_number = number_is (codes "2") refl })

-- the first line is that of a version
abbrev Known : List (List ℕ) → Type 0
Known lines = (args : Option (List (List ℕ))) × ((more : List (List ℕ)) × (lines ≡ version_line args ∷ more))

known_magic : (text : List ℕ) → Known (whole_lines text) → HasBadMagic text → ⊥
known_magic text k h = let v = version_known k.0 in h.no_version (version_line k.0) v.0 k.1.0 k.1.1 v.1

known_version : (args : Option (List (List ℕ))) (first number : List ℕ) → first ≡ version_line args → first ≡ codes "acrun-record " ++ number → number ≢ codes "1" → number ≢ codes "2" → ⊥
known_version None first number e is one two = one (append_cancel_left (codes "acrun-record ") number (codes "1") (sym is ∙ e))
known_version (Some args) first number e is one two = two (append_cancel_left (codes "acrun-record ") number (codes "2") (sym is ∙ e))

known_later : (text : List ℕ) → Known (whole_lines text) → HasUnknownVersion text → ⊥
known_later text k h =
    let p = cons_is h.first (version_line k.0) h.more k.1.0 (sym h.lines_are ∙ k.1.1) in
    known_version k.0 h.first h.number p.0 h.version.line_is h.not_first h.not_second

known_begun : (lines rest : List (List ℕ)) → BeginRecord lines → lines ≢ [] → Known (lines ++ rest)
known_begun [] rest b some = absurd (some refl)
known_begun (first ∷ lines) rest b some =
    let p = cons_is (version_line b.whole.args) first _ (lines ++ b.more) b.begins in
    (b.whole.args, (lines ++ rest, ap (λ l. l ∷ (lines ++ rest)) (sym p.0)))

known_all : (lines : List (List ℕ)) → BeginRecord lines → lines ≢ [] → Known lines
known_all lines b some = subst Known (append-nil lines) (known_begun lines [] b some)

-- ---- the line at fault

begin_front : (a b : List (List ℕ)) → BeginRecord (a ++ b) → BeginRecord a
begin_front a b h = record { whole = h.whole; more = b ++ h.more; holds = h.holds; begins = h.begins ∙ append_assoc a b h.more }

-- the fronts are one, or one goes beyond the line after the other
abbrev Meet : List (List ℕ) → List ℕ → List (List ℕ) → List ℕ → Type 0
Meet b x c y = ((b ≡ c) × (x ≡ y)) ⊎ (((z : List (List ℕ)) × (c ≡ (b ++ x ∷ []) ++ z)) ⊎ ((z : List (List ℕ)) × (b ≡ (c ++ y ∷ []) ++ z)))

onward : (u v : List ℕ) (b : List (List ℕ)) (x : List ℕ) (c : List (List ℕ)) (y : List ℕ) → u ≡ v → Meet b x c y → Meet (u ∷ b) x (v ∷ c) y
onward u v b x c y e (inl p) = inl (ap (λ t. t ∷ b) e ∙ ap (λ t. v ∷ t) p.0, p.1)
onward u v b x c y e (inr (inl q)) = inr (inl (q.0, ap (λ t. v ∷ t) q.1 ∙ ap (λ t. t ∷ ((b ++ x ∷ []) ++ q.0)) (sym e)))
onward u v b x c y e (inr (inr q)) = inr (inr (q.0, ap (λ t. u ∷ t) q.1 ∙ ap (λ t. t ∷ ((c ++ y ∷ []) ++ q.0)) e))

meets : (b : List (List ℕ)) (x : List ℕ) (a : List (List ℕ)) (c : List (List ℕ)) (y : List ℕ) (d : List (List ℕ)) → b ++ x ∷ a ≡ c ++ y ∷ d → Meet b x c y
meets [] x a [] y d e = inl (refl, (cons_is x y a d e).0)
meets [] x a (v ∷ c) y d e = inr (inl (c, ap (λ t. t ∷ c) (sym (cons_is x v a (c ++ y ∷ d) e).0)))
meets (u ∷ b) x a [] y d e = inr (inr (b, ap (λ t. t ∷ b) (cons_is u y (b ++ x ∷ a) d e).0))
meets (u ∷ b) x a (v ∷ c) y d e = let p = cons_is u v (b ++ x ∷ a) (c ++ y ∷ d) e in onward u v b x c y p.0 (meets b x a c y d p.1)

one_line : (lines : List (List ℕ)) (n m : ℕ) (b : List (List ℕ)) (x : List ℕ) (c : List (List ℕ)) (y : List ℕ) → IsAtFault lines n b x → IsAtFault lines m c y → (n ≡ m) × (b ++ x ∷ [] ≡ c ++ y ∷ [])
one_line lines n m b x c y h k = at (meets b x h.after c y k.after (sym h.lines_are ∙ k.lines_are))
  where
    at : Meet b x c y → (n ≡ m) × (b ++ x ∷ [] ≡ c ++ y ∷ [])
    at (inl p) = (h.number ∙ ap (λ l. length l + 1) p.0 ∙ sym k.number, ap (λ l. l ++ x ∷ []) p.0 ∙ ap (λ l. c ++ l ∷ []) p.1)
    at (inr (inl q)) = absurd (h.wrong (begin_front (b ++ x ∷ []) q.0 (subst BeginRecord q.1 k.right)))
    at (inr (inr q)) = absurd (k.wrong (begin_front (c ++ y ∷ []) q.0 (subst BeginRecord q.1 h.right)))

never_begun : (lines : List (List ℕ)) (n : ℕ) (b : List (List ℕ)) (x : List ℕ) → IsAtFault lines n b x → BeginRecord lines → ⊥
never_begun lines n b x h r = h.wrong (begin_front (b ++ x ∷ []) h.after (subst BeginRecord (h.lines_are ∙ sym (append_assoc b (x ∷ []) h.after)) r))

-- ---- the kinds of faults

-- the line at fault, and how
abbrev AtLine : List ℕ → RecordFault → Type 0
AtLine text f = (n : ℕ) × ((b : List (List ℕ)) × ((x : List ℕ) × (IsAtFault (whole_lines text) n b x
    × (((f ≡ BadLine n) × (BeginButForNames (b ++ x ∷ []) → ⊥)) ⊎ ((f ≡ DuplicateName n) × BeginButForNames (b ++ x ∷ []))))))

-- a fault after the first line
abbrev After : List ℕ → RecordFault → Type 0
After text f = AtLine text f ⊎ (((n : ℕ) × (HasMore text n × (f ≡ BadLine n))) ⊎ (EndsEarly text × (f ≡ Truncated)))

abbrev Kind : List ℕ → RecordFault → Type 0
Kind text f = (HasBadMagic text × (f ≡ BadMagic)) ⊎ ((HasUnknownVersion text × (f ≡ UnknownVersion)) ⊎ After text f)

kind : (text : List ℕ) (f : RecordFault) → IsRecordFault text f → Kind text f
kind text f (forms.bad_magic h) = inl (h, refl)
kind text f (forms.unknown_version h) = inr (inl (h, refl))
kind text f (forms.bad_line n h) = inr (inr (inl (n, (h.before, (h.at, (h.at_fault, inl (refl, h.no_form)))))))
kind text f (forms.duplicate_name n h) = inr (inr (inl (n, (h.before, (h.at, (h.at_fault, inr (refl, h.but_for_names)))))))
kind text f (forms.has_more n h) = inr (inr (inr (inl (n, (h, refl)))))
kind text f (forms.ends_early h) = inr (inr (inr (inr (h, refl))))

more_begins : (text : List ℕ) (n : ℕ) → HasMore text n → BeginRecord (whole_lines text)
more_begins text n h = record { whole = h.whole; more = []; holds = h.holds; begins = sym h.lines_are ∙ sym (append-nil (whole_lines text)) }

early_begins : (text : List ℕ) → EndsEarly text → BeginRecord (whole_lines text)
early_begins text h = let t = h.truncated in record { whole = t.whole; more = t.next ∷ t.more; holds = t.holds; begins = t.begins }

known_after : (text : List ℕ) (f : RecordFault) → After text f → Known (whole_lines text)
known_after text f (inl p) = let h = p.1.1.1.0 in subst Known (sym h.lines_are) (known_begun p.1.0 (p.1.1.0 ∷ h.after) h.right h.has_first)
known_after text f (inr (inl p)) = (p.1.0.whole.args, (_, p.1.0.lines_are))
known_after text f (inr (inr p)) = known_all (whole_lines text) (early_begins text p.0) p.0.has_first

same_at : (text : List ℕ) (f g : RecordFault) (n m : ℕ) (before also : List (List ℕ)) → n ≡ m → before ≡ also
    → ((f ≡ BadLine n) × (BeginButForNames before → ⊥)) ⊎ ((f ≡ DuplicateName n) × BeginButForNames before)
    → ((g ≡ BadLine m) × (BeginButForNames also → ⊥)) ⊎ ((g ≡ DuplicateName m) × BeginButForNames also) → f ≡ g
same_at text f g n m before also e same (inl p) (inl q) = p.0 ∙ ap BadLine e ∙ sym q.0
same_at text f g n m before also e same (inr p) (inr q) = p.0 ∙ ap DuplicateName e ∙ sym q.0
same_at text f g n m before also e same (inl p) (inr q) = absurd (p.1 (subst BeginButForNames (sym same) q.1))
same_at text f g n m before also e same (inr p) (inl q) = absurd (q.1 (subst BeginButForNames same p.1))

one_after : (text : List ℕ) (f g : RecordFault) → After text f → After text g → f ≡ g
one_after text f g (inl p) (inl q) =
    let s = one_line (whole_lines text) p.0 q.0 p.1.0 p.1.1.0 q.1.0 q.1.1.0 p.1.1.1.0 q.1.1.1.0 in
    same_at text f g p.0 q.0 _ _ s.0 s.1 p.1.1.1.1 q.1.1.1.1
one_after text f g (inl p) (inr (inl q)) = absurd (never_begun (whole_lines text) p.0 p.1.0 p.1.1.0 p.1.1.1.0 (more_begins text q.0 q.1.0))
one_after text f g (inl p) (inr (inr q)) = absurd (never_begun (whole_lines text) p.0 p.1.0 p.1.1.0 p.1.1.1.0 (early_begins text q.0))
one_after text f g (inr (inl p)) (inl q) = absurd (never_begun (whole_lines text) q.0 q.1.0 q.1.1.0 q.1.1.1.0 (more_begins text p.0 p.1.0))
one_after text f g (inr (inl p)) (inr (inl q)) = p.1.1 ∙ ap BadLine (p.1.0.number ∙ sym q.1.0.number) ∙ sym q.1.1
one_after text f g (inr (inl p)) (inr (inr q)) = absurd (not_truncated (whole_lines text) p.1.0.whole p.1.0.lines_are q.0.truncated)
one_after text f g (inr (inr p)) (inl q) = absurd (never_begun (whole_lines text) q.0 q.1.0 q.1.1.0 q.1.1.1.0 (early_begins text p.0))
one_after text f g (inr (inr p)) (inr (inl q)) = absurd (not_truncated (whole_lines text) q.1.0.whole q.1.0.lines_are p.0.truncated)
one_after text f g (inr (inr p)) (inr (inr q)) = p.1 ∙ sym q.1

later_magic : (text : List ℕ) → HasBadMagic text → HasUnknownVersion text → ⊥
later_magic text h k = h.no_version k.first k.number k.more k.lines_are k.version

one_kind : (text : List ℕ) (f g : RecordFault) → Kind text f → Kind text g → f ≡ g
one_kind text f g (inl p) (inl q) = p.1 ∙ sym q.1
one_kind text f g (inl p) (inr (inl q)) = absurd (later_magic text p.0 q.0)
one_kind text f g (inl p) (inr (inr q)) = absurd (known_magic text (known_after text g q) p.0)
one_kind text f g (inr (inl p)) (inl q) = absurd (later_magic text q.0 p.0)
one_kind text f g (inr (inl p)) (inr (inl q)) = p.1 ∙ sym q.1
one_kind text f g (inr (inl p)) (inr (inr q)) = absurd (known_later text (known_after text g q) p.0)
one_kind text f g (inr (inr p)) (inl q) = absurd (known_magic text (known_after text f p) q.0)
one_kind text f g (inr (inr p)) (inr (inl q)) = absurd (known_later text (known_after text f p) q.0)
one_kind text f g (inr (inr p)) (inr (inr q)) = one_after text f g p q

-- A text has at most one first fault.
pub one_fault : (text : List ℕ) (f g : RecordFault) → IsRecordFault text f → IsRecordFault text g → f ≡ g
one_fault text f g h k = one_kind text f g (kind text f h) (kind text g k)

-- ---- a record has no fault

record_kind : (text : List ℕ) (f : RecordFault) (r : Record) → rest_of text ≡ [] → whole_lines text ≡ record_lines r → IsRecord r → Kind text f → ⊥
record_kind text f r none are is (inl p) = known_magic text (r.args, (_, are)) p.0
record_kind text f r none are is (inr (inl p)) = known_later text (r.args, (_, are)) p.0
record_kind text f r none are is (inr (inr (inl p))) =
    never_begun (whole_lines text) p.0 p.1.0 p.1.1.0 p.1.1.1.0 (record { whole = r; more = []; holds = is; begins = sym are ∙ sym (append-nil (whole_lines text)) })
record_kind text f r none are is (inr (inr (inr (inl p)))) = p.1.0.more none
record_kind text f r none are is (inr (inr (inr (inr p)))) = not_truncated (whole_lines text) r are p.0.truncated

read_no_fault : (text : List ℕ) (f : RecordFault) (r : Record) → record_in text ≡ Ok r → IsRecordFault text f → ⊥
unfolding record_in
read_no_fault text f r e h = let o = lines_only (rest_of text) (whole_lines text) r e in record_kind text f r o.0 o.1 o.2 (kind text f h)

-- The text of a record has no fault.
pub no_fault : (text : List ℕ) (r : Record) (f : RecordFault) → IsRecordText text r → IsRecordFault text f → ⊥
no_fault text r f is h = read_no_fault text f r (record_in-complete text r is) h

-- The first fault of a text is read as it.
pub fault_in-complete : (text : List ℕ) (f : RecordFault) → IsRecordFault text f → record_in text ≡ Err f
fault_in-complete text f h =
    elim (record_in text) as (λ q. record_in text ≡ q → q ≡ Err f) [
      | Ok r ↦ λ e. absurd (read_no_fault text f r e h)
      | Err g ↦ λ e. ap failed (one_fault text g f (fault_in-sound text g e) h)
    ] refl

pub ruleset faults_found = (fault_in-sound, fault_in-complete)

-- ---- what the calls answer

fault_sound : (text : List ℕ) (f : RecordFault) → Fails f (record_in text) → f ≢ OutOfMemory → IsRecordFault text f
fault_sound text OutOfMemory h other = absurd (other refl)
fault_sound text f h other = fault_in-sound text f h

pub answer_error_sound : (text : List ℕ) (answer : Result Record RecordFault) → Gives (λ r. r) answer (record_in text) → IfErr answer (λ f. f ≢ OutOfMemory → IsRecordFault text f)
answer_error_sound text (Ok r) h = tt
answer_error_sound text (Err f) h = fault_sound text f h

pub answer_error_complete : (text : List ℕ) (answer : Result Record RecordFault) → Gives (λ r. r) answer (record_in text) → (f : RecordFault) → IsRecordFault text f
    → Gives (λ r. r) answer (Err f)
answer_error_complete text answer h f is = subst (Gives (λ r. r) answer) (fault_in-complete text f is) h
