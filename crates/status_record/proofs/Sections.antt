-- Lines of one kind: what is written is read, and what is read was written.
use Rattle.std.proofs.Common.{◌≡◌, ℕ, ◌+◌, Bool, true, false, ◌||◌, List, [], ◌∷◌, ◌++◌, length, map, Option, Some, None, Result, Ok, Err, refl, ap, ◌∙◌, sym, subst, append_assoc, cond, arith, suc}
use Rattle.std.specs.Prelude.{bytes_eq, ⊤}
use Rattle.std.specs.List.{AllByRecursion, IsDistinct}
use Rattle.std.proofs.lemmas.List.{append-nil, map-append}
use Rattle.std.proofs.lemmas.Bool.{cond-false}
use Rattle.std.specs.Cmp.Lexicographic.{nat_list_eq_equiv}
use Rattle.deftable.specs.NameList.{has_name, AreDistinct}
use Rattle.status_record.proofs.Names.{AreDistinct-push}
use Rattle.status_record.specs.declared.fault.RecordFault.{RecordFault}
use Rattle.status_record.specs.declared.fault.RecordFault.TheVariants.{DuplicateName}
use Rattle.status_record.specs.Line.{after_prefix}
use Rattle.status_record.specs.RecordText.{lines_of}
use Rattle.status_record.specs.Reading.{several, with_item, either, or_bad, Read}
use Rattle.fallible.specs.Reading.{◌>>=◌}
use Rattle.fallible.proofs.Binds.{done, ok_is, bind_ok, then_ok}
use Rattle.status_record.proofs.Lines.{after_prefix-append, after_prefix-some}

pub or_bad_ok : {A : Type 0} (n : ℕ) (o : Option A) (x : A) → or_bad n o ≡ Ok x → o ≡ Some x
or_bad_ok n None x e = absurd cc
or_bad_ok n (Some y) x e = ap Some (ok_is y x e)

-- no line of this kind comes next
abbrev pub Apart : List ℕ → List (List ℕ) → Type 0
Apart keyword [] = ⊤
Apart keyword (line ∷ more) = after_prefix keyword line ≡ None

module _ {A : Type 0} (keyword : List ℕ) (fields : A → List ℕ) (read : List ℕ → Option A) (given : List A → A → Bool) (Is : A → Type 0) where
  -- the items may come after those before
  abbrev pub May : List A → List A → Type 0
  May before [] = ⊤
  May before (x ∷ xs) = Is x × (given before x ≡ false) × May (before ++ x ∷ []) xs

  pub stops : (items : List A) (n : ℕ) (rest : List (List ℕ)) → Apart keyword rest → several keyword read given items n rest ≡ Ok (items, (n, rest))
  unfolding several
  stops items n [] h = refl
  stops items n (l ∷ ls) h =
      ap (λ o. either o (λ f. with_item read given items (n + 1) f >>= λ now. several keyword read given now (n + 1) ls) (Ok (items, (n, l ∷ ls)))) h

  module _ (reads : (x : A) → Is x → read (fields x) ≡ Some x) where
    with_back : (before : List A) (n : ℕ) (x : A) → Is x → given before x ≡ false → with_item read given before n (fields x) ≡ Ok (before ++ x ∷ [])
    with_back before n x is new =
        ap (λ o. or_bad n o >>= λ y. cond (given before y) (Err (DuplicateName n)) (Ok (before ++ y ∷ []))) (reads x is) ∙ cond-false _ _ _ new

    pub one_back : (before : List A) (n : ℕ) (x : A) (more : List (List ℕ)) (y : Result (Read (List A)) RecordFault) → Is x → given before x ≡ false
        → several keyword read given (before ++ x ∷ []) (n + 1) more ≡ y → several keyword read given before n ((keyword ++ fields x) ∷ more) ≡ y
    unfolding several
    one_back before n x more y is new later =
        ap (λ o. either o (λ f. with_item read given before (n + 1) f >>= λ now. several keyword read given now (n + 1) more) (Ok (before, (n, (keyword ++ fields x) ∷ more)))) (after_prefix-append keyword (fields x))
        ∙ then_ok _ (λ now. several keyword read given now (n + 1) more) _ y (with_back before (n + 1) x is new) later

    pub several_back : (before items : List A) (n : ℕ) (rest : List (List ℕ)) → May before items → Apart keyword rest
        → several keyword read given before n (lines_of keyword fields items ++ rest) ≡ Ok (before ++ items, (n + length items, rest))
    several_back before [] n rest may apart =
        let none : n ≡ n + 0 = omega arith in
        stops before n rest apart ∙ ap (λ b. Ok (b, (n, rest))) (sym (append-nil before)) ∙ ap (λ m. Ok (before ++ [], (m, rest))) none
    several_back before (x ∷ items) n rest may apart =
        let sum : n + 1 + length items ≡ n + suc (length items) = omega arith in
        one_back before n x _ _ may.0 may.1
        (several_back (before ++ x ∷ []) items (n + 1) rest may.2 apart ∙ ap (λ b. Ok (b, (n + 1 + length items, rest))) (append_assoc before (x ∷ []) items)
        ∙ ap (λ m. Ok (before ++ x ∷ items, (m, rest))) sum)

  module _ (only : (f : List ℕ) (x : A) → read f ≡ Some x → Is x × (f ≡ fields x)) where
    -- the lines are those of new items, up to the rest
    abbrev pub Got : List A → List (List ℕ) → List A → List (List ℕ) → Type 0
    Got before lines items rest = (new : List A) × (items ≡ before ++ new) × (lines ≡ lines_of keyword fields new ++ rest) × May before new

    chosen : (before now : List A) (n : ℕ) (x : A) (b : Bool) → cond b (Err (DuplicateName n)) (done (before ++ x ∷ [])) ≡ Ok now → (b ≡ false) × (before ++ x ∷ [] ≡ now)
    chosen before now n x true e = absurd cc
    chosen before now n x false e = (refl, ok_is _ _ e)

    pub one_only : (before now : List A) (n : ℕ) (f : List ℕ) → with_item read given before n f ≡ Ok now
        → (x : A) × (now ≡ before ++ x ∷ []) × (given before x ≡ false) × Is x × (f ≡ fields x)
    one_only before now n f e =
        let p = bind_ok (or_bad n (read f)) (λ x. cond (given before x) (Err (DuplicateName n)) (Ok (before ++ x ∷ []))) now e in
        let q = chosen before now n p.0 (given before p.0) p.2 in
        let o = only f p.0 (or_bad_ok n (read f) p.0 p.1) in
        (p.0, sym q.1, q.0, o.0, o.1)

    got_one : (before now : List A) (n : ℕ) (f line : List ℕ) (more : List (List ℕ)) (items : List A) (rest : List (List ℕ)) → after_prefix keyword line ≡ Some f
        → with_item read given before n f ≡ Ok now → Got now more items rest → Got before (line ∷ more) items rest
    got_one before now n f line more items rest is one got =
        let p = one_only before now n f one in
        let later : Got (before ++ p.0 ∷ []) more items rest = subst (λ b. Got b more items rest) p.1 got in
        let text : line ≡ keyword ++ fields p.0 = after_prefix-some keyword line f is ∙ ap (λ t. keyword ++ t) p.4 in
        (p.0 ∷ later.0, later.1 ∙ append_assoc before (p.0 ∷ []) later.0, ap (λ l. l ∷ more) text ∙ ap (λ m. (keyword ++ fields p.0) ∷ m) later.2, (p.3, p.2, later.3))

    got_none : (before : List A) (n : ℕ) (lines : List (List ℕ)) (r : Read (List A)) → done {F = RecordFault} (before, (n, lines)) ≡ Ok r → Got before lines r.0 r.1.1
    got_none before n lines r e =
        let same = ok_is _ _ e in
        ([], sym (ap (λ q. q.0) same) ∙ sym (append-nil before), ap (λ q. q.1.1) same, tt)

    pub several_only : (before : List A) (n : ℕ) (lines : List (List ℕ)) (r : Read (List A)) → several keyword read given before n lines ≡ Ok r → Got before lines r.0 r.1.1
    unfolding several
    several_only before n [] r e = got_none before n [] r e
    several_only before n (line ∷ more) r e =
        elim (after_prefix keyword line) as (λ o. after_prefix keyword line ≡ o
        → either o (λ f. with_item read given before (n + 1) f >>= λ now. several keyword read given now (n + 1) more) (Ok (before, (n, line ∷ more))) ≡ Ok r → Got before (line ∷ more) r.0 r.1.1) [
          | None ↦ λ _ h. got_none before n (line ∷ more) r h
          | Some f ↦ λ is h.
              let p = bind_ok (with_item read given before (n + 1) f) (λ now. several keyword read given now (n + 1) more) r h in
              got_one before p.0 (n + 1) f line more r.0 r.1.1 is p.1 (several_only p.0 (n + 1) more r p.2)
        ] refl e

-- ---- names, each once

pub distinct-middle : (ms : List (List ℕ)) (k : List ℕ) (ns : List (List ℕ)) → AreDistinct (ms ++ k ∷ ns) → has_name ms k ≡ false
unfolding IsDistinct has_name
distinct-middle [] k ns h = refl
distinct-middle (m ∷ ms) k ns h =
    neither (bytes_eq k m) (has_name ms k) (nat_list_eq_equiv.symm k m ∙ at_middle ms h.0) (distinct-middle ms k ns h.1)
  where
    neither : (a b : Bool) → a ≡ false → b ≡ false → a || b ≡ false
    neither true b e f = cc
    neither false b e f = f

    at_middle : (ms : List (List ℕ)) → AllByRecursion (λ y. bytes_eq m y ≡ false) (ms ++ k ∷ ns) → bytes_eq m k ≡ false
    at_middle [] all = all.0
    at_middle (x ∷ ms) all = at_middle ms all.1

module _ {A : Type 0} (keyword : List ℕ) (fields : A → List ℕ) (read : List ℕ → Option A) (name : A → List ℕ) (before : List (List ℕ)) (Is : A → Type 0) where
  abbrev pub taken : List A → A → Bool
  taken xs x = has_name (before ++ map name xs) (name x)

  pub May-all : (os xs : List A) → May keyword fields read taken Is os xs → AllByRecursion Is xs
  May-all os [] may = tt
  May-all os (x ∷ xs) may = (may.0, May-all (os ++ x ∷ []) xs may.2)

  names-push : (os : List A) (x : A) → before ++ map name (os ++ x ∷ []) ≡ (before ++ map name os) ++ name x ∷ []
  names-push os x = ap (λ t. before ++ t) (map-append name os (x ∷ [])) ∙ sym (append_assoc before (map name os) (name x ∷ []))

  pub May-distinct : (os xs : List A) → AreDistinct (before ++ map name os) → May keyword fields read taken Is os xs → AreDistinct (before ++ map name (os ++ xs))
  May-distinct os [] h may = subst (λ t. AreDistinct (before ++ map name t)) (sym (append-nil os)) h
  May-distinct os (x ∷ xs) h may =
      let pushed : AreDistinct (before ++ map name (os ++ x ∷ [])) = subst AreDistinct (sym (names-push os x)) (AreDistinct-push (before ++ map name os) (name x) may.1 h) in
      subst (λ t. AreDistinct (before ++ map name t)) (append_assoc os (x ∷ []) xs) (May-distinct (os ++ x ∷ []) xs pushed may.2)

  pub May-from : (os xs : List A) → AllByRecursion Is xs → AreDistinct (before ++ map name (os ++ xs)) → May keyword fields read taken Is os xs
  May-from os [] all h = tt
  May-from os (x ∷ xs) all h =
      let cut : before ++ map name (os ++ x ∷ xs) ≡ (before ++ map name os) ++ (name x ∷ map name xs) =
      ap (λ t. before ++ t) (map-append name os (x ∷ xs)) ∙ sym (append_assoc before (map name os) (name x ∷ map name xs)) in (
        all.0,
        distinct-middle (before ++ map name os) (name x) (map name xs) (subst AreDistinct cut h),
        May-from (os ++ x ∷ []) xs all.1 (subst (λ t. AreDistinct (before ++ map name t)) (sym (append_assoc os (x ∷ []) xs)) h),
      )
