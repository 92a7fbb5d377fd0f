-- What the comparison of precious variables finds, in the words of the rules.
use Rattle.std.proofs.Common.{◌≡◌, ℕ, ◌+◌, Bool, true, false, cond, not, List, [], ◌∷◌, ◌++◌, map, filter, length, Option, Some, None, Result, Ok, Err, fold, refl, sym, ap, subst, ◌∙◌, if◌then◌else◌, ◌||◌, arith}
use Rattle.std.specs.Prelude.{option_to_list, ◌&&◌}
use Rattle.std.specs.List.{AllByRecursion}
use Rattle.std.specs.Str.{bytes_eq}
use Rattle.std.proofs.lemmas.Slice.Eq.{bytes_eq-Decides, slice_eq-Decides}
use Rattle.deftable.proofs.Tables.{value_of-with_entry}
use Rattle.deftable.specs.NameList.{has_name}
use Rattle.deftable.specs.Table.{value_of, with_entry, names_of}
use Rattle.cachefile.specs.Name.{is_mark}
use Rattle.text_cut.specs.Cuts.{fields}
use Rattle.options.specs.Opening.{with_variable, set_name, value_name, marks_one}
use Rattle.options.specs.Reading.{◌>>=◌}
use Rattle.options.specs.Precious.{old_value, value_before, gets_back, change_of, IsUnchanged, unset, set, HasFault, was_set, was_unset, changed, has_other_bytes, blanks_note, have_same_fields, restored, restored_variable, restored_from}
use Rattle.options.specs.declared.fault.PreciousFault.{PreciousFault}
use Rattle.options.specs.declared.fault.PreciousFault.TheVariants.{WasSet, WasUnset, Changed}

abbrev Entries : Type 0
Entries = List (List ℕ × List ℕ)

same_fields : (a b : List ℕ) → have_same_fields a b ≡ true → fields a ≡ fields b
same_fields a b h = (slice_eq-Decides bytes_eq-Decides (fields a) (fields b) (have_same_fields a b) refl).0 h

fields_same : (a b : List ℕ) → fields a ≡ fields b → have_same_fields a b ≡ true
fields_same a b h = (slice_eq-Decides bytes_eq-Decides (fields a) (fields b) (have_same_fields a b) refl).1 h

true_is_false : true ≡ false → ⊥
true_is_false e = absurd (cc)

and_false : (b : Bool) → (b && false) ≡ false
and_false true = refl
and_false false = refl

either_way : {A : Type 0} (b : Bool) (x : A) → cond b x x ≡ x
either_way true x = refl
either_way false x = refl

-- ---- names of marks

either_none : (b : Bool) → (b || false) ≡ b
either_none true = refl
either_none false = refl

mark_name : (b : Bool) (q name : List ℕ) → is_mark name ≡ true → bytes_eq q name ≡ b → is_mark q ≡ false → b ≡ false
mark_name true q name m e h = absurd (true_is_false (sym m ∙ ap is_mark (sym ((bytes_eq-Decides q name).0 e)) ∙ h))
mark_name false q name m e h = refl

is_mark-set_name : (name : List ℕ) → is_mark (set_name name) ≡ true
unfolding is_mark
is_mark-set_name name = refl

is_mark-value_name : (name : List ℕ) → is_mark (value_name name) ≡ true
unfolding is_mark
is_mark-value_name name = refl

-- A name that does not begin as a mark is the mark of no variable.
pub no_mark : (names : List (List ℕ)) (q : List ℕ) → is_mark q ≡ false → marks_one names q ≡ false
unfolding marks_one
no_mark [] q h = refl
no_mark (name ∷ more) q h =
    ap (λ b. b || bytes_eq q (value_name name) || marks_one more q) (mark_name (bytes_eq q (set_name name)) q (set_name name) (is_mark-set_name name) refl h)
    ∙ ap (λ b. b || marks_one more q) (mark_name (bytes_eq q (value_name name)) q (value_name name) (is_mark-value_name name) refl h) ∙ no_mark more q h

module _ (precious : List (List ℕ)) (vars marked : Entries) where
  abbrev back_at : List ℕ → Bool
  back_at name = gets_back precious vars marked name

  -- The variables that get values back: the others are as they were, or marks.
  pub data Found : List (List ℕ) → Entries → Type 0 where
    no_more : Found [] []
    as_was : {name : List ℕ} {more : List (List ℕ)} {changes : Entries} → IsUnchanged (old_value marked name) (value_before vars name) → back_at name ≡ false → Found more changes
        → Found (name ∷ more) changes
    back : {name : List ℕ} {more : List (List ℕ)} {changes : Entries} (old now : List ℕ) → old_value marked name ≡ Some old → value_before vars name ≡ Some now → fields old ≡ fields now
        → back_at name ≡ true → Found more changes → Found (name ∷ more) ((name, old) ∷ changes)

  -- ---- no fault

  same_bytes : (o : Option (List ℕ)) → has_other_bytes o o ≡ false
  same_bytes None = refl
  same_bytes (Some value) = ap not ((bytes_eq-Decides value value).1 refl)

  alike : (o : Option (List ℕ)) → IsUnchanged o o
  alike None = unset
  alike (Some value) = set refl

  unchanged_by : (name : List ℕ) {old now : Option (List ℕ)} → old_value marked name ≡ old → value_before vars name ≡ now → IsUnchanged old now → IsUnchanged (old_value marked name) (value_before vars name)
  unchanged_by name olds nows h = rw (olds, nows) h

  same_stays : (name : List ℕ) (more : List (List ℕ)) (changes : Entries) → old_value marked name ≡ value_before vars name → Found more changes → Found (name ∷ more) changes
  unfolding gets_back
  same_stays name more changes e rest =
      as_was (subst (IsUnchanged (old_value marked name)) e (alike (old_value marked name)))
      (ap (λ b. b && not (marks_one precious name)) (ap (has_other_bytes (old_value marked name)) (sym e) ∙ same_bytes (old_value marked name))) rest

  changed_by : (name : List ℕ) (more : List (List ℕ)) (changes : Entries) (old now : List ℕ) → old_value marked name ≡ Some old → value_before vars name ≡ Some now → bytes_eq old now ≡ false
      → fields old ≡ fields now → (m : Bool) → marks_one precious name ≡ m → Found more changes → Found (name ∷ more) (option_to_list (if m then None else Some (name, old)) ++ changes)
  unfolding gets_back
  changed_by name more changes old now olds nows eq fs true m rest =
      as_was (unchanged_by name olds nows (set fs)) (ap (λ b. has_other_bytes (old_value marked name) (value_before vars name) && not b) m ∙ and_false (has_other_bytes (old_value marked name) (value_before vars name))) rest
  changed_by name more changes old now olds nows eq fs false m rest =
      back old now olds nows fs
      (ap (λ b. b && not (marks_one precious name)) (ap (λ o. has_other_bytes o (value_before vars name)) olds ∙ ap (has_other_bytes (Some old)) nows ∙ ap not eq) ∙ ap not m) rest

  both_set : (place : ℕ) (name : List ℕ) (more : List (List ℕ)) (changes : Entries) (old now : List ℕ) → old_value marked name ≡ Some old → value_before vars name ≡ Some now
      → (b : Bool) → bytes_eq old now ≡ b → (s : Bool) → have_same_fields old now ≡ s → (r : Result Entries PreciousFault) → ((found : Entries) → r ≡ Ok found → Found more found)
      → ((cond b (Ok None) (cond s (Ok (Some old)) (Err (Changed place))) >>= λ o. Ok (change_of precious name o)) >>= λ one. r >>= λ rest. Ok (option_to_list one ++ rest)) ≡ Ok changes
      → Found (name ∷ more) changes
  both_set place name more changes old now olds nows true eq s fs (Ok rest) rec e =
      subst (Found (name ∷ more)) (let is : rest ≡ changes = cc in is) (same_stays name more rest (olds ∙ ap Some ((bytes_eq-Decides old now).0 eq) ∙ sym nows) (rec rest refl))
  both_set place name more changes old now olds nows true eq s fs (Err f) rec e = absurd (cc)
  both_set place name more changes old now olds nows false eq true fs (Ok rest) rec e =
      subst (Found (name ∷ more)) (let is : option_to_list (if marks_one precious name then None else Some (name, old)) ++ rest ≡ changes = cc in is)
      (changed_by name more rest old now olds nows eq (same_fields old now fs) (marks_one precious name) refl (rec rest refl))
  both_set place name more changes old now olds nows false eq true fs (Err f) rec e = absurd (cc)
  both_set place name more changes old now olds nows false eq false fs r rec e = absurd (cc)

  one_found : (place : ℕ) (name : List ℕ) (more : List (List ℕ)) (changes : Entries) (old now : Option (List ℕ)) → old_value marked name ≡ old → value_before vars name ≡ now
      → (r : Result Entries PreciousFault) → ((found : Entries) → r ≡ Ok found → Found more found)
      → ((restored place old now >>= λ o. Ok (change_of precious name o)) >>= λ one. r >>= λ rest. Ok (option_to_list one ++ rest)) ≡ Ok changes
      → Found (name ∷ more) changes
  unfolding restored
  one_found place name more changes None None olds nows (Ok rest) rec e = subst (Found (name ∷ more)) (let is : rest ≡ changes = cc in is) (same_stays name more rest (olds ∙ sym nows) (rec rest refl))
  one_found place name more changes None None olds nows (Err f) rec e = absurd (cc)
  one_found place name more changes None (Some now) olds nows r rec e = absurd (cc)
  one_found place name more changes (Some old) None olds nows r rec e = absurd (cc)
  one_found place name more changes (Some old) (Some now) olds nows r rec e =
      both_set place name more changes old now olds nows (bytes_eq old now) refl (have_same_fields old now) refl r rec e

  pub found : (place : ℕ) (names : List (List ℕ)) (changes : Entries) → restored_from precious place vars marked names ≡ Ok changes → Found names changes
  unfolding restored_from restored_variable
  found place [] changes e = subst (Found []) (let is : [] ≡ changes = cc in is) no_more
  found place (name ∷ more) changes e =
      one_found place name more changes (old_value marked name) (value_before vars name) refl refl (restored_from precious (place + 1) vars marked more) (found (place + 1) more) e

  pub all_unchanged : {names : List (List ℕ)} {changes : Entries} → Found names changes → AllByRecursion (λ name. IsUnchanged (old_value marked name) (value_before vars name)) names
  all_unchanged no_more = tt
  all_unchanged (as_was h is rest) = (h, all_unchanged rest)
  all_unchanged (back {name = name} old now olds nows fs is rest) = (unchanged_by name olds nows (set fs), all_unchanged rest)

  pub notes_found : {names : List (List ℕ)} {changes : Entries} → Found names changes
      → map (λ change. blanks_note change.0) changes ≡ map blanks_note (filter (gets_back precious vars marked) names)
  notes_found no_more = refl
  notes_found (as_was {name = name} {more = more} h is rest) =
      notes_found rest ∙ sym (ap (λ t. map blanks_note (cond t (name ∷ filter (gets_back precious vars marked) more) (filter (gets_back precious vars marked) more))) is)
  notes_found (back {name = name} {more = more} old now olds nows fs is rest) =
      ap (λ t. blanks_note name ∷ t) (notes_found rest)
      ∙ sym (ap (λ t. map blanks_note (cond t (name ∷ filter (gets_back precious vars marked) more) (filter (gets_back precious vars marked) more))) is)

  -- ---- names and values after the changes

  with_known : (es : Entries) (k v : List ℕ) → has_name (names_of es) k ≡ true → names_of (with_entry es k v) ≡ names_of es
  unfolding with_entry has_name
  with_known [] k v h = absurd (cc)
  with_known (e ∷ es) k v h = at (bytes_eq k e.0) h (with_known es k v) where
    at : (b : Bool) → (b || has_name (names_of es) k) ≡ true → (has_name (names_of es) k ≡ true → names_of (with_entry es k v) ≡ names_of es)
        → names_of (cond b ((e.0, v) ∷ es) (e ∷ with_entry es k v)) ≡ e.0 ∷ names_of es
    at true h rec = refl
    at false h rec = ap (λ t. e.0 ∷ t) (rec h)

  is_known : (es : Entries) (k v : List ℕ) → value_of es k ≡ Some v → has_name (names_of es) k ≡ true
  unfolding value_of has_name
  is_known [] k v h = absurd (cc)
  is_known (e ∷ es) k v h = at (bytes_eq k e.0) h (is_known es k v) where
    at : (b : Bool) → cond b (Some e.1) (value_of es k) ≡ Some v → (value_of es k ≡ Some v → has_name (names_of es) k ≡ true) → (b || has_name (names_of es) k) ≡ true
    at true h rec = refl
    at false h rec = rec h

  -- A variable that has a value before any mark has one now.
  has_value : (name now : List ℕ) → value_before vars name ≡ Some now → has_name (names_of vars) name ≡ true
  unfolding value_before
  has_value name now e = at (value_of vars name) refl e where
    at : (o : Option (List ℕ)) → value_of vars name ≡ o
        → (elim o as (λ o. Option (List ℕ)) [ None ↦ None | Some value ↦ if is_mark name then old_value vars name else Some value ]) ≡ Some now → has_name (names_of vars) name ≡ true
    at None is e = absurd (cc)
    at (Some value) is e = is_known vars name value is

  pub names_stay : {names : List (List ℕ)} {changes : Entries} → Found names changes → (base : Entries) → names_of base ≡ names_of vars
      → names_of (fold with_variable base changes) ≡ names_of vars
  names_stay no_more base h = h
  names_stay (as_was same is rest) base h = names_stay rest base h
  names_stay (back {name = name} old now olds nows fs is rest) base h =
      names_stay rest (with_entry base name old) (with_known base name old (ap (λ ns. has_name ns name) h ∙ has_value name now nows) ∙ h)

  -- The variable has the value that it began with, or the one that it had.
  pub values_after : {names : List (List ℕ)} {changes : Entries} → Found names changes → (base : Entries) (q : List ℕ)
      → value_of (fold with_variable base changes) q ≡ cond (has_name names q && back_at q) (old_value marked q) (value_of base q)
  unfolding has_name
  values_after no_more base q = refl
  values_after (as_was {name = name} {more = more} {changes = changes} h is rest) base q = at (bytes_eq q name) refl (values_after rest base q) where
    at : (b : Bool) → bytes_eq q name ≡ b → value_of (fold with_variable base changes) q ≡ cond (has_name more q && back_at q) (old_value marked q) (value_of base q)
        → value_of (fold with_variable base changes) q ≡ cond ((b || has_name more q) && back_at q) (old_value marked q) (value_of base q)
    at false e rec = rec
    at true e rec =
        let here : back_at q ≡ false = ap back_at ((bytes_eq-Decides q name).0 e) ∙ is in
        rec ∙ ap (λ b. cond (has_name more q && b) (old_value marked q) (value_of base q)) here
        ∙ ap (λ b. cond b (old_value marked q) (value_of base q)) (and_false (has_name more q))
        ∙ sym (ap (λ b. cond b (old_value marked q) (value_of base q)) here)
  values_after (back {name = name} {more = more} {changes = changes} old now olds nows fs is rest) base q =
      at (bytes_eq q name) refl (value_of-with_entry base name old q) (values_after rest (with_entry base name old) q) where
        at : (b : Bool) → bytes_eq q name ≡ b → value_of (with_entry base name old) q ≡ cond (bytes_eq q name) (Some old) (value_of base q)
            → value_of (fold with_variable (with_entry base name old) changes) q ≡ cond (has_name more q && back_at q) (old_value marked q) (value_of (with_entry base name old) q)
            → value_of (fold with_variable (with_entry base name old) changes) q ≡ cond ((b || has_name more q) && back_at q) (old_value marked q) (value_of base q)
        at true e put rec =
            let here : q ≡ name = (bytes_eq-Decides q name).0 e in
            let value : value_of (with_entry base name old) q ≡ old_value marked q = put ∙ ap (λ t. cond t (Some old) (value_of base q)) e ∙ sym olds ∙ ap (old_value marked) (sym here) in
            rec ∙ ap (cond (has_name more q && back_at q) (old_value marked q)) value ∙ either_way (has_name more q && back_at q) (old_value marked q)
            ∙ sym (ap (λ b. cond b (old_value marked q) (value_of base q)) (ap back_at here ∙ is))
        at false e put rec = rec ∙ ap (cond (has_name more q && back_at q) (old_value marked q)) (put ∙ ap (λ t. cond t (Some old) (value_of base q)) e)

  -- A variable that gets nothing back has the same bytes as it had.
  same_value : (old now : Option (List ℕ)) → IsUnchanged old now → has_other_bytes old now ≡ false → now ≡ old
  same_value None None unset h = refl
  same_value None (Some now) same h = elim same [ ]
  same_value (Some old) None same h = elim same [ ]
  same_value (Some old) (Some now) (set fs) h = at (bytes_eq old now) refl h where
    at : (b : Bool) → bytes_eq old now ≡ b → not b ≡ false → Some now ≡ Some old
    at true e h = ap Some (sym ((bytes_eq-Decides old now).0 e))
    at false e h = absurd (cc)

  same_at : {names : List (List ℕ)} {changes : Entries} → Found names changes → (q : List ℕ) → has_name names q ≡ true → IsUnchanged (old_value marked q) (value_before vars q)
  unfolding has_name
  same_at no_more q h = absurd (cc)
  same_at (as_was {name = name} {more = more} same is rest) q h = at (bytes_eq q name) refl h (same_at rest q) where
    at : (b : Bool) → bytes_eq q name ≡ b → (b || has_name more q) ≡ true → (has_name more q ≡ true → IsUnchanged (old_value marked q) (value_before vars q))
        → IsUnchanged (old_value marked q) (value_before vars q)
    at true e h rec = subst (λ n. IsUnchanged (old_value marked n) (value_before vars n)) (sym ((bytes_eq-Decides q name).0 e)) same
    at false e h rec = rec h
  same_at (back {name = name} {more = more} old now olds nows fs is rest) q h = at (bytes_eq q name) refl h (same_at rest q) where
    at : (b : Bool) → bytes_eq q name ≡ b → (b || has_name more q) ≡ true → (has_name more q ≡ true → IsUnchanged (old_value marked q) (value_before vars q))
        → IsUnchanged (old_value marked q) (value_before vars q)
    at true e h rec = subst (λ n. IsUnchanged (old_value marked n) (value_before vars n)) (sym ((bytes_eq-Decides q name).0 e)) (unchanged_by name olds nows (set fs))
    at false e h rec = rec h

  plain_before : (q : List ℕ) → is_mark q ≡ false → value_before vars q ≡ value_of vars q
  unfolding value_before
  plain_before q m = at (value_of vars q) where
    at : (o : Option (List ℕ)) → (elim o as (λ o. Option (List ℕ)) [ None ↦ None | Some value ↦ if is_mark q then old_value vars q else Some value ]) ≡ o
    at None = refl
    at (Some value) = ap (λ b. if b then old_value vars q else Some value) m

  pub had_before : {changes : Entries} → Found precious changes → (q : List ℕ) → has_name precious q ≡ true → is_mark q ≡ false
      → value_of (fold with_variable vars changes) q ≡ old_value marked q
  unfolding gets_back
  had_before {changes = changes} way q p m =
      values_after way vars q ∙ ap (λ b. cond (b && back_at q) (old_value marked q) (value_of vars q)) p
      ∙ ap (λ b. cond (has_other_bytes (old_value marked q) (value_before vars q) && not b) (old_value marked q) (value_of vars q)) (no_mark precious q m)
      ∙ by (has_other_bytes (old_value marked q) (value_before vars q)) refl where
        by : (b : Bool) → has_other_bytes (old_value marked q) (value_before vars q) ≡ b → cond (b && true) (old_value marked q) (value_of vars q) ≡ old_value marked q
        by true e = refl
        by false e = sym (plain_before q m) ∙ same_value (old_value marked q) (value_before vars q) (same_at way q p) e

  pub marks_stay : {changes : Entries} → Found precious changes → (q : List ℕ) → marks_one precious q ≡ true → value_of (fold with_variable vars changes) q ≡ value_of vars q
  unfolding gets_back
  marks_stay way q m =
      let other = has_other_bytes (old_value marked q) (value_before vars q) in
      values_after way vars q ∙ ap (λ b. cond (has_name precious q && (other && not b)) (old_value marked q) (value_of vars q)) m
      ∙ ap (λ b. cond (has_name precious q && b) (old_value marked q) (value_of vars q)) (and_false other)
      ∙ ap (λ b. cond b (old_value marked q) (value_of vars q)) (and_false (has_name precious q))

  -- ---- unchanged variables

  both_given : (place : ℕ) (old now : List ℕ) → fields old ≡ fields now → (o : Option (List ℕ)) × (restored place (Some old) (Some now) ≡ Ok o)
  unfolding restored
  both_given place old now fs = at (bytes_eq old now) where
    at : (b : Bool) → (o : Option (List ℕ)) × (cond b (Ok None) (cond (have_same_fields old now) (Ok (Some old)) (Err (Changed place))) ≡ Ok o)
    at true = (None, refl)
    at false = (Some old, ap (λ t. cond t (Ok (Some old)) (Err (Changed place))) (fields_same old now fs))

  given : (place : ℕ) {old now : Option (List ℕ)} → IsUnchanged old now → (o : Option (List ℕ)) × (restored place old now ≡ Ok o)
  unfolding restored
  given place unset = (None, refl)
  given place (set {old = old} {now = now} fs) = both_given place old now fs

  along_all : (place : ℕ) (name : List ℕ) (more : List (List ℕ)) → (o : Option (List ℕ)) × (restored place (old_value marked name) (value_before vars name) ≡ Ok o)
      → (changes : Entries) × (restored_from precious (place + 1) vars marked more ≡ Ok changes) → (changes : Entries) × (restored_from precious place vars marked (name ∷ more) ≡ Ok changes)
  unfolding restored_from restored_variable
  along_all place name more (o, one) (rest, others) = (
    option_to_list (change_of precious name o) ++ rest,
    ap (λ r. (r >>= λ o. Ok (change_of precious name o)) >>= λ one. restored_from precious (place + 1) vars marked more >>= λ rest. Ok (option_to_list one ++ rest)) one
        ∙ ap (λ r. r >>= λ rest. Ok (option_to_list (change_of precious name o) ++ rest)) others,
  )

  pub all_given : (place : ℕ) (names : List (List ℕ)) → AllByRecursion (λ name. IsUnchanged (old_value marked name) (value_before vars name)) names
      → (changes : Entries) × (restored_from precious place vars marked names ≡ Ok changes)
  unfolding restored_from
  all_given place [] h = ([], refl)
  all_given place (name ∷ more) h = along_all place name more (given place h.0) (all_given (place + 1) more h.1)

  -- ---- faults

  -- ---- faults

  both_fault : (place : ℕ) (old now : List ℕ) (fault : PreciousFault) (b s : Bool) → bytes_eq old now ≡ b → have_same_fields old now ≡ s
      → ◌≡◌ {A = Result (Option (List ℕ)) PreciousFault} (cond b (Ok None) (cond s (Ok (Some old)) (Err (Changed place)))) (Err fault) → HasFault place (Some old) (Some now) fault
  both_fault place old now fault true s eq fs e = absurd (cc)
  both_fault place old now fault false true eq fs e = absurd (cc)
  both_fault place old now fault false false eq fs e =
      subst (HasFault place (Some old) (Some now)) (let is : Changed place ≡ fault = cc in is) (changed (λ h. true_is_false (sym (fields_same old now h) ∙ fs)))

  fault_at : (place : ℕ) (old now : Option (List ℕ)) (fault : PreciousFault) → restored place old now ≡ Err fault → HasFault place old now fault
  unfolding restored
  fault_at place None None fault e = absurd (cc)
  fault_at place None (Some now) fault e = subst (HasFault place None (Some now)) (let is : WasUnset place ≡ fault = cc in is) was_unset
  fault_at place (Some old) None fault e = subst (HasFault place (Some old) None) (let is : WasSet place ≡ fault = cc in is) was_set
  fault_at place (Some old) (Some now) fault e = both_fault place old now fault (bytes_eq old now) (have_same_fields old now) refl refl e

  both_unchanged : (place : ℕ) (old now : List ℕ) (o : Option (List ℕ)) (b s : Bool) → bytes_eq old now ≡ b → have_same_fields old now ≡ s
      → ◌≡◌ {A = Result (Option (List ℕ)) PreciousFault} (cond b (Ok None) (cond s (Ok (Some old)) (Err (Changed place)))) (Ok o) → IsUnchanged (Some old) (Some now)
  both_unchanged place old now o true s eq fs e = set (ap fields ((bytes_eq-Decides old now).0 eq))
  both_unchanged place old now o false true eq fs e = set (same_fields old now fs)
  both_unchanged place old now o false false eq fs e = absurd (cc)

  unchanged_at : (place : ℕ) (old now : Option (List ℕ)) (o : Option (List ℕ)) → restored place old now ≡ Ok o → IsUnchanged old now
  unfolding restored
  unchanged_at place None None o e = unset
  unchanged_at place None (Some now) o e = absurd (cc)
  unchanged_at place (Some old) None o e = absurd (cc)
  unchanged_at place (Some old) (Some now) o e = both_unchanged place old now o (bytes_eq old now) (have_same_fields old now) refl refl e

  -- The first fault, where the first variable has this place.
  pub record FirstFault (place : ℕ) (names : List (List ℕ)) (fault : PreciousFault) : Type 0 where
    pub before : List (List ℕ)
    pub name : List ℕ
    pub more : List (List ℕ)
    pub are : names ≡ before ++ name ∷ more
    pub unchanged : AllByRecursion (λ name. IsUnchanged (old_value marked name) (value_before vars name)) before
    pub has : HasFault (place + length before) (old_value marked name) (value_before vars name) fault

  later_fault : (place : ℕ) (name : List ℕ) (more : List (List ℕ)) (fault : PreciousFault) → IsUnchanged (old_value marked name) (value_before vars name) → FirstFault (place + 1) more fault
      → FirstFault place (name ∷ more) fault
  later_fault place name more fault here f = record {
    before = name ∷ f.before;
    name = f.name;
    more = f.more;
    are = ap (λ t. name ∷ t) f.are;
    unchanged = (here, f.unchanged);
    has = (let n : (place + 1) + length f.before ≡ place + length (name ∷ f.before) = omega arith in subst (λ k. HasFault k (old_value marked f.name) (value_before vars f.name) fault) n f.has);
  }

  this_fault : (place : ℕ) (name : List ℕ) (more : List (List ℕ)) (fault : PreciousFault) → HasFault place (old_value marked name) (value_before vars name) fault → FirstFault place (name ∷ more) fault
  this_fault place name more fault h = record {
    before = [];
    name = name;
    more = more;
    are = refl;
    unchanged = tt;
    has = (let n : place ≡ place + 0 = omega arith in subst (λ k. HasFault k (old_value marked name) (value_before vars name) fault) n h);
  }

  one_fault : (place : ℕ) (name : List ℕ) (more : List (List ℕ)) (fault : PreciousFault) (one : Result (Option (List ℕ)) PreciousFault) → restored place (old_value marked name) (value_before vars name) ≡ one
      → (r : Result Entries PreciousFault) → restored_from precious (place + 1) vars marked more ≡ r → (restored_from precious (place + 1) vars marked more ≡ Err fault → FirstFault (place + 1) more fault)
      → ◌≡◌ {A = Result Entries PreciousFault} ((one >>= λ o. Ok (change_of precious name o)) >>= λ one. r >>= λ rest. Ok (option_to_list one ++ rest)) (Err fault)
      → FirstFault place (name ∷ more) fault
  one_fault place name more fault (Err f) at r is rec e =
      this_fault place name more fault (fault_at place (old_value marked name) (value_before vars name) fault (at ∙ (let same : ◌≡◌ {A = Result (Option (List ℕ)) PreciousFault} (Err f) (Err fault) = cc in same)))
  one_fault place name more fault (Ok o) at (Ok rest) is rec e = absurd (cc)
  one_fault place name more fault (Ok o) at (Err f) is rec e =
      later_fault place name more fault (unchanged_at place (old_value marked name) (value_before vars name) o at)
      (rec (is ∙ (let same : ◌≡◌ {A = Result Entries PreciousFault} (Err f) (Err fault) = cc in same)))

  pub first_fault : (place : ℕ) (names : List (List ℕ)) (fault : PreciousFault) → restored_from precious place vars marked names ≡ Err fault → FirstFault place names fault
  unfolding restored_from restored_variable
  first_fault place [] fault e = absurd (cc)
  first_fault place (name ∷ more) fault e =
      one_fault place name more fault (restored place (old_value marked name) (value_before vars name)) refl (restored_from precious (place + 1) vars marked more) refl (first_fault (place + 1) more fault) e

  changed_given : (place : ℕ) (old now : List ℕ) → (fields old ≡ fields now → ⊥) → restored place (Some old) (Some now) ≡ Err (Changed place)
  unfolding restored
  changed_given place old now apart = at (bytes_eq old now) (have_same_fields old now) refl refl where
    at : (b s : Bool) → bytes_eq old now ≡ b → have_same_fields old now ≡ s
        → ◌≡◌ {A = Result (Option (List ℕ)) PreciousFault} (cond b (Ok None) (cond s (Ok (Some old)) (Err (Changed place)))) (Err (Changed place))
    at true s eq fs = absurd (apart (ap fields ((bytes_eq-Decides old now).0 eq)))
    at false true eq fs = absurd (apart (same_fields old now fs))
    at false false eq fs = refl

  fault_given : (place : ℕ) {old now : Option (List ℕ)} {fault : PreciousFault} → HasFault place old now fault → restored place old now ≡ Err fault
  unfolding restored
  fault_given place was_set = refl
  fault_given place was_unset = refl
  fault_given place (changed {old = old} {now = now} apart) = changed_given place old now apart

  pub fault_found : (place : ℕ) (before : List (List ℕ)) (name : List ℕ) (more : List (List ℕ)) (fault : PreciousFault)
      → AllByRecursion (λ name. IsUnchanged (old_value marked name) (value_before vars name)) before → HasFault (place + length before) (old_value marked name) (value_before vars name) fault
      → restored_from precious place vars marked (before ++ name ∷ more) ≡ Err fault
  unfolding restored_from restored_variable
  fault_found place [] name more fault h f =
      let n : place + 0 ≡ place = omega arith in
      let here : HasFault place (old_value marked name) (value_before vars name) fault = subst (λ k. HasFault k (old_value marked name) (value_before vars name) fault) n f in
      ap (λ r. (r >>= λ o. Ok (change_of precious name o)) >>= λ one. restored_from precious (place + 1) vars marked more >>= λ rest. Ok (option_to_list one ++ rest)) (fault_given place here)
  fault_found place (x ∷ before) name more fault h f =
      let n : place + length (x ∷ before) ≡ (place + 1) + length before = omega arith in
      let later = fault_found (place + 1) before name more fault h.1 (subst (λ k. HasFault k (old_value marked name) (value_before vars name) fault) n f) in
      let one = given place h.0 in
      ap (λ r. (r >>= λ o. Ok (change_of precious x o)) >>= λ one. restored_from precious (place + 1) vars marked (before ++ name ∷ more) >>= λ rest. Ok (option_to_list one ++ rest)) one.1
      ∙ ap (λ r. r >>= λ rest. Ok (option_to_list (change_of precious x one.0) ++ rest)) later
