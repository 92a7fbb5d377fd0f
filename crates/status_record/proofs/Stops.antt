-- Where reading stops: what comes after the line at fault makes no difference.
use Rattle.std.proofs.Common.{◌≡◌, ◌≢◌, ℕ, ◌+◌, Bool, true, false, cond, List, [], ◌∷◌, ◌++◌, length, Option, Some, None, Result, Ok, Err, refl, ap, ◌∙◌, sym, subst, ◌⊎◌, inl, inr, ⊎_elim, append_assoc, arith, suc}
use Rattle.std.specs.Prelude.{⊤}
use Rattle.std.specs.List.{AllByRecursion}
use Rattle.std.proofs.lemmas.List.{append-nil, map-append, length-append, length-map}
use Rattle.std.proofs.lemmas.Bool.{cond-true}
use Rattle.status_record.specs.declared.fault.RecordFault.{RecordFault}
use Rattle.status_record.specs.declared.fault.RecordFault.TheVariants.{BadLine, Truncated, DuplicateName}
use Rattle.status_record.specs.Line.{after_prefix}
use Rattle.status_record.specs.RecordText.{lines_of}
use Rattle.status_record.specs.Reading.{several, with_item, either, or_bad, Read}
use Rattle.fallible.specs.Reading.{◌>>=◌}
use Rattle.status_record.proofs.Lines.{after_prefix-append, after_prefix-some}
use Rattle.status_record.proofs.Sections.{Apart, May, one_back, one_only, several_back, several_only}
use Rattle.fallible.proofs.Binds.{bind_ok, ok_is}
use Rattle.status_record.proofs.Fronts.{failed, err_is, bind_err}

-- a reading of lines, with the rest of the text before them
abbrev pub Reader : Type 0 → Type 0
Reader X = List ℕ → List (List ℕ) → Result X RecordFault

-- the fault is that of this line
abbrev pub IsAt : RecordFault → ℕ → Type 0
IsAt (BadLine m) n = m ≡ n
IsAt (DuplicateName m) n = m ≡ n
IsAt f n = ⊥

abbrev pub IsDouble : RecordFault → Type 0
IsDouble (DuplicateName m) = ⊤
IsDouble f = ⊥

-- The reading stops at a line, after n lines and those before it. `T` is what the lines may be if names are given again.
pub record Stops {X : Type 0} (P : Reader X) (T : List (List ℕ) → Type 0) (n : ℕ) (lines : List (List ℕ)) (f : RecordFault) : Type 0 where
  pub before : List (List ℕ)
  pub at : List ℕ
  pub after : List (List ℕ)
  pub lines_are : lines ≡ before ++ at ∷ after
  pub number : IsAt f (n + length before + 1)
  pub right : ((rest : List ℕ) → P rest before ≡ Err Truncated) ⊎ ((x : X) × (P [] before ≡ Ok x))
  pub stays : (rest : List ℕ) (more : List (List ℕ)) → P rest (before ++ at ∷ more) ≡ Err f
  pub loose : IsDouble f → T (before ++ at ∷ [])

-- The lines are read, and more follows them.
pub record Beyond {X : Type 0} (P : Reader X) (n : ℕ) (rest : List ℕ) (lines : List (List ℕ)) (f : RecordFault) : Type 0 where
  pub fault_is : f ≡ BadLine (n + length lines + 1)
  pub has_more : rest ≢ []
  pub whole : X
  pub reads : P [] lines ≡ Ok whole

abbrev pub Faults : {X : Type 0} → Reader X → (List (List ℕ) → Type 0) → ℕ → List ℕ → List (List ℕ) → RecordFault → Type 0
Faults P T n rest lines f = (f ≡ Truncated) ⊎ (Stops P T n lines f ⊎ Beyond P n rest lines f)

-- lines of one kind, and then those of the rest
abbrev pub PartOf : {A : Type 0} → List ℕ → (A → List ℕ) → (A → Type 0) → (List (List ℕ) → Type 0) → List (List ℕ) → Type 0
PartOf {A} keyword fields Is T lines = (new : List A) × AllByRecursion Is new × ((tail : List (List ℕ)) × (lines ≡ lines_of keyword fields new ++ tail) × T tail)

abbrev pub HasNoBadLine : {X : Type 0} → Result X RecordFault → Type 0
HasNoBadLine r = (m : ℕ) → r ≡ Err (BadLine m) → ⊥

apart_front : (keyword : List ℕ) (before : List (List ℕ)) (at : List ℕ) (after : List (List ℕ)) → Apart keyword (before ++ at ∷ after) → Apart keyword before
apart_front keyword [] at after h = tt
apart_front keyword (b ∷ before) at after h = h

apart_more : (keyword : List ℕ) (before : List (List ℕ)) (at : List ℕ) (after more : List (List ℕ)) → Apart keyword (before ++ at ∷ after) → Apart keyword (before ++ at ∷ more)
apart_more keyword [] at after more h = h
apart_more keyword (b ∷ before) at after more h = h

pub at_number : (f : RecordFault) (m n : ℕ) → m ≡ n → IsAt f m → IsAt f n
at_number f m n e h = subst (IsAt f) e h

all_push : {A : Type 0} (Is : A → Type 0) (xs : List A) (x : A) → AllByRecursion Is xs → Is x → AllByRecursion Is (xs ++ x ∷ [])
all_push Is [] x all is = (is, tt)
all_push Is (y ∷ xs) x all is = (all.0, all_push Is xs x all.1 is)

module _ {A : Type 0} (keyword : List ℕ) (fields : A → List ℕ) (read : List ℕ → Option A) (given : List A → A → Bool) (Is : A → Type 0) (reads : (x : A) → Is x → read (fields x) ≡ Some x) (only : (f : List ℕ) (x : A) → read f ≡ Some x → Is x × (f ≡ fields x)) where
  abbrev Fits : List A → List A → Type 0
  Fits = May keyword fields read given Is

  all_fit : (before new : List A) → Fits before new → AllByRecursion Is new
  all_fit before [] may = tt
  all_fit before (x ∷ new) may = (may.0, all_fit (before ++ x ∷ []) new may.2)

  -- the lines of new items are read, and then the others
  along : (before new : List A) (n : ℕ) (tail : List (List ℕ)) → Fits before new
      → several keyword read given before n (lines_of keyword fields new ++ tail) ≡ several keyword read given (before ++ new) (n + length new) tail
  along before [] n tail may =
      let none : n ≡ n + 0 = omega arith in
      ap (λ b. several keyword read given b n tail) (sym (append-nil before)) ∙ ap (λ m. several keyword read given (before ++ []) m tail) none
  along before (x ∷ new) n tail may =
      let sum : n + 1 + length new ≡ n + suc (length new) = omega arith in
      one_back keyword fields read given Is reads before n x _ _ may.0 may.1
      (along (before ++ x ∷ []) new (n + 1) tail may.2 ∙ ap (λ b. several keyword read given b (n + 1 + length new) tail) (append_assoc before (x ∷ []) new)
      ∙ ap (λ m. several keyword read given (before ++ x ∷ new) m tail) sum)

  -- no line of this kind is left
  all_read : (before : List A) (n : ℕ) (lines : List (List ℕ)) (r : Read (List A)) → several keyword read given before n lines ≡ Ok r → Apart keyword r.1.1
  unfolding several
  all_read before n [] r e = subst (λ q. Apart keyword q.1.1) (ok_is (before, (n, [])) r e) tt
  all_read before n (line ∷ more) r e =
      elim (after_prefix keyword line) as (λ o. after_prefix keyword line ≡ o
      → either o (λ t. with_item read given before (n + 1) t >>= λ now. several keyword read given now (n + 1) more) (Ok (before, (n, line ∷ more))) ≡ Ok r → Apart keyword r.1.1) [
        | None ↦ λ is h. subst (λ q. Apart keyword q.1.1) (ok_is (before, (n, line ∷ more)) r h) is
        | Some t ↦ λ _ h.
            let p = bind_ok (with_item read given before (n + 1) t) (λ now. several keyword read given now (n + 1) more) r h in
            all_read p.0 (n + 1) more r p.2
      ] refl e

  -- a line of this kind at fault
  at_fault : (items : List A) (n : ℕ) (line : List ℕ) (more : List (List ℕ)) (text : List ℕ) (f : RecordFault) → after_prefix keyword line ≡ Some text
      → with_item read given items (n + 1) text ≡ Err f → several keyword read given items n (line ∷ more) ≡ Err f
  unfolding several
  at_fault items n line more text f is bad =
      ap (λ o. either o (λ t. with_item read given items (n + 1) t >>= λ now. several keyword read given now (n + 1) more) (Ok (items, (n, line ∷ more)))) is
      ∙ ap (λ q. q >>= λ now. several keyword read given now (n + 1) more) bad

  -- new items, a line, and those after it: that line is at fault
  pub record Halts (before : List A) (n : ℕ) (lines : List (List ℕ)) (f : RecordFault) : Type 0 where
    pub new : List A
    pub line : List ℕ
    pub after : List (List ℕ)
    pub text : List ℕ
    pub lines_are : lines ≡ lines_of keyword fields new ++ line ∷ after
    pub may : Fits before new
    pub prefix : after_prefix keyword line ≡ Some text
    pub bad : with_item read given (before ++ new) (n + length new + 1) text ≡ Err f

  halts_here : (before : List A) (n : ℕ) (line : List ℕ) (more : List (List ℕ)) (text : List ℕ) (f : RecordFault) → after_prefix keyword line ≡ Some text
      → with_item read given before (n + 1) text ≡ Err f → Halts before n (line ∷ more) f
  halts_here before n line more text f is bad =
      let none : n + 0 + 1 ≡ n + 1 = omega arith in
      let same : with_item read given (before ++ []) (n + 0 + 1) text ≡ Err f =
      ap (λ b. with_item read given b (n + 0 + 1) text) (append-nil before) ∙ ap (λ m. with_item read given before m text) none ∙ bad in
      record { new = []; line = line; after = more; text = text; lines_are = refl; may = tt; prefix = is; bad = same }

  halts_later : (before now : List A) (n : ℕ) (line : List ℕ) (more : List (List ℕ)) (text : List ℕ) (f : RecordFault) → after_prefix keyword line ≡ Some text
      → with_item read given before (n + 1) text ≡ Ok now → Halts now (n + 1) more f → Halts before n (line ∷ more) f
  halts_later before now n line more text f is one h =
      let p = one_only keyword fields read given Is only before now (n + 1) text one in
      let k : Halts (before ++ p.0 ∷ []) (n + 1) more f = subst (λ b. Halts b (n + 1) more f) p.1 h in
      let line_is : line ≡ keyword ++ fields p.0 = after_prefix-some keyword line text is ∙ ap (λ t. keyword ++ t) p.4 in
      let sum : n + suc (length k.new) + 1 ≡ n + 1 + length k.new + 1 = omega arith in
      record {
        new = p.0 ∷ k.new;
        line = k.line;
        after = k.after;
        text = k.text;
        lines_are = ap (λ l. l ∷ more) line_is ∙ ap (λ m. (keyword ++ fields p.0) ∷ m) k.lines_are;
        may = (p.3, p.2, k.may);
        prefix = k.prefix;
        bad = ap (λ b. with_item read given b (n + suc (length k.new) + 1) k.text) (sym (append_assoc before (p.0 ∷ []) k.new))
            ∙ ap (λ m. with_item read given ((before ++ p.0 ∷ []) ++ k.new) m k.text) sum ∙ k.bad;
      }

  halts : (before : List A) (n : ℕ) (lines : List (List ℕ)) (f : RecordFault) → several keyword read given before n lines ≡ Err f → Halts before n lines f
  unfolding several
  halts before n [] f e = absurd cc
  halts before n (line ∷ more) f e =
      elim (after_prefix keyword line) as (λ o. after_prefix keyword line ≡ o
      → either o (λ t. with_item read given before (n + 1) t >>= λ now. several keyword read given now (n + 1) more) (Ok (before, (n, line ∷ more))) ≡ Err f → Halts before n (line ∷ more) f) [
        | None ↦ λ _ h. absurd cc
        | Some t ↦ λ is h.
            ⊎_elim (λ g. halts_here before n line more t f is g) (λ p. halts_later before p.0 n line more t f is p.1 (halts p.0 (n + 1) more f p.2))
            (bind_err (with_item read given before (n + 1) t) (λ now. several keyword read given now (n + 1) more) f h)
      ] refl e

  -- what is wrong with a line: its fields, or its name
  abbrev Wrong : ℕ → List ℕ → RecordFault → Type 0
  Wrong m text f = (f ≡ BadLine m) ⊎ ((x : A) × (read text ≡ Some x) × (f ≡ DuplicateName m))

  wrong_name : (items : List A) (m : ℕ) (x : A) (f : RecordFault) (b : Bool) → cond b (failed (DuplicateName m)) (Ok (items ++ x ∷ [])) ≡ Err f → f ≡ DuplicateName m
  wrong_name items m x f true e = sym (err_is (DuplicateName m) f e)
  wrong_name items m x f false e = absurd cc

  wrong : (items : List A) (m : ℕ) (text : List ℕ) (f : RecordFault) → with_item read given items m text ≡ Err f → Wrong m text f
  wrong items m text f e =
      elim (read text) as (λ o. read text ≡ o → (or_bad m o >>= λ x. cond (given items x) (failed (DuplicateName m)) (Ok (items ++ x ∷ []))) ≡ Err f → Wrong m text f) [
        | None ↦ λ _ h. inl (sym (err_is (BadLine m) f h))
        | Some x ↦ λ is h. inr (x, is, wrong_name items m x f (given items x) h)
      ] refl e

  wrong_at : (m n : ℕ) (text : List ℕ) (f : RecordFault) → m ≡ n → Wrong m text f → IsAt f n
  wrong_at m n text f same (inl e) = subst (λ g. IsAt g n) (sym e) same
  wrong_at m n text f same (inr p) = subst (λ g. IsAt g n) (sym p.2) same

  module _ {X : Type 0} (K : List A → ℕ → Reader X) (T : List (List ℕ) → Type 0) where
    -- the lines of this kind, and then the others
    abbrev pub section : ℕ → Reader X
    section n rest lines = several keyword read given [] n lines >>= λ r. K r.0 r.1.0 rest r.1.1

    abbrev Part : List (List ℕ) → Type 0
    Part = PartOf keyword fields Is T

    module _ (wants : (xs : List A) (n : ℕ) (rest : List ℕ) → K xs n rest [] ≡ Err Truncated) (nothing : T []) where
      passes : (n : ℕ) (new : List A) (tail : List (List ℕ)) (rest : List ℕ) → Fits [] new → Apart keyword tail
          → section n rest (lines_of keyword fields new ++ tail) ≡ K new (n + length new) rest tail
      passes n new tail rest may apart = ap (λ q. q >>= λ r. K r.0 r.1.0 rest r.1.1) (several_back keyword fields read given Is reads [] new n tail may apart)

      wrong_part : (new : List A) (line text : List ℕ) (m : ℕ) (f : RecordFault) → AllByRecursion Is new → after_prefix keyword line ≡ Some text → Wrong m text f → IsDouble f
          → Part (lines_of keyword fields new ++ line ∷ [])
      wrong_part new line text m f all is (inl e) d = absurd (subst IsDouble e d)
      wrong_part new line text m f all is (inr p) d =
          let o = only text p.0 p.1 in
          let line_is : line ≡ keyword ++ fields p.0 = after_prefix-some keyword line text is ∙ ap (λ t. keyword ++ t) o.1 in
          let lines_are : lines_of keyword fields new ++ line ∷ [] ≡ lines_of keyword fields (new ++ p.0 ∷ []) ++ [] =
          ap (λ l. lines_of keyword fields new ++ l ∷ []) line_is ∙ sym (map-append (λ x. keyword ++ fields x) new (p.0 ∷ [])) ∙ sym (append-nil (lines_of keyword fields (new ++ p.0 ∷ []))) in
          (new ++ p.0 ∷ [], all_push Is new p.0 all o.0, ([], lines_are, nothing))

      stops_here : (n : ℕ) (lines : List (List ℕ)) (f : RecordFault) → Halts [] n lines f → Stops (section n) Part n lines f
      stops_here n lines f h =
          let new = h.new in
          let front = lines_of keyword fields new in
          let long = length-map new (λ (x : A). keyword ++ fields x) in
          let sum : n + length new + 1 ≡ n + length front + 1 = omega (arith, long) in
          let w = wrong new (n + length new + 1) h.text f h.bad in
          record {
            before = front;
            at = h.line;
            after = h.after;
            lines_are = h.lines_are;
            number = wrong_at (n + length new + 1) (n + length front + 1) h.text f sum w;
            right = inl (λ rest. ap (section n rest) (sym (append-nil front)) ∙ passes n new [] rest h.may tt ∙ wants new (n + length new) rest);
            stays = λ rest more. ap (λ q. q >>= λ r. K r.0 r.1.0 rest r.1.1) (along [] new n (h.line ∷ more) h.may ∙ at_fault new (n + length new) h.line more h.text f h.prefix h.bad);
            loose = wrong_part new h.line h.text (n + length new + 1) f (all_fit [] new h.may) h.prefix w;
          }

      stops_later : (n : ℕ) (new : List A) (tail : List (List ℕ)) (f : RecordFault) → Fits [] new → Apart keyword tail → Stops (K new (n + length new)) T (n + length new) tail f
          → Stops (section n) Part n (lines_of keyword fields new ++ tail) f
      stops_later n new tail f may apart s =
          let front = lines_of keyword fields new in
          let apart_all : Apart keyword (s.before ++ s.at ∷ s.after) = subst (Apart keyword) s.lines_are apart in
          let long = length-map new (λ (x : A). keyword ++ fields x) in
          let both = length-append front s.before in
          let sum : n + length new + length s.before + 1 ≡ n + length (front ++ s.before) + 1 = omega (arith, long, both) in
          let apart_before = apart_front keyword s.before s.at s.after apart_all in
          record {
            before = front ++ s.before;
            at = s.at;
            after = s.after;
            lines_are = ap (λ t. front ++ t) s.lines_are ∙ sym (append_assoc front s.before (s.at ∷ s.after));
            number = at_number f _ _ sum s.number;
            right = ⊎_elim (λ h. inl (λ rest. passes n new s.before rest may apart_before ∙ h rest)) (λ p. inr (p.0, passes n new s.before [] may apart_before ∙ p.1)) s.right;
            stays = λ rest more.
                ap (section n rest) (append_assoc front s.before (s.at ∷ more)) ∙ passes n new (s.before ++ s.at ∷ more) rest may (apart_more keyword s.before s.at s.after more apart_all)
                ∙ s.stays rest more;
            loose = λ d. (new, all_fit [] new may, (s.before ++ s.at ∷ [], append_assoc front s.before (s.at ∷ []), s.loose d));
          }

      beyond_later : (n : ℕ) (new : List A) (tail : List (List ℕ)) (rest : List ℕ) (f : RecordFault) → Fits [] new → Apart keyword tail → Beyond (K new (n + length new)) (n + length new) rest tail f
          → Beyond (section n) n rest (lines_of keyword fields new ++ tail) f
      beyond_later n new tail rest f may apart b =
          let front = lines_of keyword fields new in
          let long = length-map new (λ (x : A). keyword ++ fields x) in
          let both = length-append front tail in
          let sum : n + length new + length tail + 1 ≡ n + length (front ++ tail) + 1 = omega (arith, long, both) in
          record { fault_is = b.fault_is ∙ ap BadLine sum; has_more = b.has_more; whole = b.whole; reads = passes n new tail [] may apart ∙ b.reads }

      faults_later : (n : ℕ) (new : List A) (tail : List (List ℕ)) (rest : List ℕ) (f : RecordFault) → Fits [] new → Apart keyword tail → Faults (K new (n + length new)) T (n + length new) rest tail f
          → Faults (section n) Part n rest (lines_of keyword fields new ++ tail) f
      faults_later n new tail rest f may apart (inl e) = inl e
      faults_later n new tail rest f may apart (inr (inl s)) = inr (inl (stops_later n new tail f may apart s))
      faults_later n new tail rest f may apart (inr (inr b)) = inr (inr (beyond_later n new tail rest f may apart b))

      -- If each fault of what follows is one of these, so is each fault of both.
      pub section_faults : (later : (xs : List A) (m : ℕ) (rest : List ℕ) (lines : List (List ℕ)) (f : RecordFault) → K xs m rest lines ≡ Err f → Faults (K xs m) T m rest lines f)
          (n : ℕ) (rest : List ℕ) (lines : List (List ℕ)) (f : RecordFault) → section n rest lines ≡ Err f → Faults (section n) Part n rest lines f
      section_faults later n rest lines f e =
          ⊎_elim (λ h. inr (inl (stops_here n lines f (halts [] n lines f h)))) (λ p. after p.0 p.1 p.2)
          (bind_err (several keyword read given [] n lines) (λ r. K r.0 r.1.0 rest r.1.1) f e)
        where
          after : (r : Read (List A)) → several keyword read given [] n lines ≡ Ok r → K r.0 r.1.0 rest r.1.1 ≡ Err f → Faults (section n) Part n rest lines f
          after r is h =
              let got = several_only keyword fields read given Is only [] n lines r is in
              let apart = all_read [] n lines r is in
              let same : (got.0, (n + length got.0, r.1.1)) ≡ r = ok_is _ _ (sym (several_back keyword fields read given Is reads [] got.0 n r.1.1 got.3 apart) ∙ ap (several keyword read given [] n) (sym got.2) ∙ is) in
              let found : Faults (K got.0 (n + length got.0)) T (n + length got.0) rest r.1.1 f =
              later got.0 (n + length got.0) rest r.1.1 f (ap (λ q. K q.0 q.1.0 rest r.1.1) same ∙ h) in
              subst (λ l. Faults (section n) Part n rest l f) (sym got.2) (faults_later n got.0 r.1.1 rest f got.3 apart found)

    -- ---- names that are given again

    -- items of the right form are read, up to a name that is given again
    abbrev Either : List A → List A → ℕ → List (List ℕ) → Type 0
    Either before items n tail =
        (several keyword read given before n (lines_of keyword fields items ++ tail) ≡ Ok (before ++ items, (n + length items, tail)))
        ⊎ ((m : ℕ) × (several keyword read given before n (lines_of keyword fields items ++ tail) ≡ Err (DuplicateName m)))

    either_way : (before items : List A) (n : ℕ) (tail : List (List ℕ)) → AllByRecursion Is items → Apart keyword tail → Either before items n tail
    either_way before [] n tail all apart = inl (several_back keyword fields read given Is reads before [] n tail tt apart)
    either_way before (x ∷ items) n tail all apart =
        let sum : n + 1 + length items ≡ n + suc (length items) = omega arith in
        elim (given before x) as (λ b. given before x ≡ b → Either before (x ∷ items) n tail) [
          | false ↦ λ new. ⊎_elim
              (λ h. inl (one_back keyword fields read given Is reads before n x _ _ all.0 new (h ∙ ap (λ b. Ok (b, (n + 1 + length items, tail))) (append_assoc before (x ∷ []) items) ∙ ap (λ m. Ok (before ++ x ∷ items, (m, tail))) sum)))
              (λ p. inr (p.0, one_back keyword fields read given Is reads before n x _ _ all.0 new p.1)) (either_way (before ++ x ∷ []) items (n + 1) tail all.1 apart)
          | true ↦ λ old. inr (
            n + 1,
            at_fault before n (keyword ++ fields x) _ (fields x) (DuplicateName (n + 1)) (after_prefix-append keyword (fields x))
                (ap (λ o. or_bad (n + 1) o >>= λ y. cond (given before y) (failed (DuplicateName (n + 1))) (Ok (before ++ y ∷ []))) (reads x all.0) ∙ cond-true _ _ _ old),
          )
        ] refl

    pub section_loose : (n : ℕ) (items : List A) (tail : List (List ℕ)) (rest : List ℕ) → AllByRecursion Is items → Apart keyword tail → HasNoBadLine (K items (n + length items) rest tail)
        → HasNoBadLine (section n rest (lines_of keyword fields items ++ tail))
    section_loose n items tail rest all apart later m e =
        ⊎_elim (λ h. later m (sym (ap (λ q. q >>= λ r. K r.0 r.1.0 rest r.1.1) h) ∙ e)) (λ p. other p.0 (sym (ap (λ q. q >>= λ r. K r.0 r.1.0 rest r.1.1) p.1) ∙ e))
        (either_way [] items n tail all apart)
      where
        other : (k : ℕ) → failed {A = X} (DuplicateName k) ≡ Err (BadLine m) → ⊥
        other k h = cc
