-- The variables that were compared, one variable further.
use Rattle.std.proofs.Common.{◌≡◌, ℕ, ◌+◌, ◌<◌, ◌≤◌, Bool, List, ◌++◌, Option, Result, Ok, Err, Bor, length, drop, map, get_or, refl, sym, ap, ◌∙◌, append_assoc, fold}
use Rattle.std.specs.Prelude.{option_to_list}
use Rattle.std.specs.Str.{bytes_eq}
use Rattle.std.specs.Cmp.Lexicographic.{pointwise}
use Rattle.std.specs.Cmp.Derive.Mapped.{pointwise-map}
use Rattle.std.proofs.lemmas.List.{append-nil}
use Rattle.std.proofs.Math.ListN.{drop_of_length-le}
use Rattle.options_line.proofs.Turns.{next_of}
use Rattle.options.specs.declared.fault.PreciousFault.{PreciousFault}
use Rattle.options.specs.declared.fault.PreciousFault.TheVariants.{OutOfMemory}
use Rattle.options.specs.Reading.{◌>>=◌, Fails}
use Rattle.cachefile.specs.Cache.{vars_after}
use Rattle.cachefile.specs.Line.{Setting}
use Rattle.deftable.specs.declared.note.Note.{Note}
use Rattle.options.specs.Opening.{with_variable}
use Rattle.options.specs.Precious.{restored_variable, restored_from, blanks_note, checked}

-- Slices of bytes are compared as their texts are.
pub same_texts : (xs ys : List (Bor (List ℕ))) (first_texts second_texts : List (List ℕ)) (r : Bool) → map (λ x. x.now) xs ≡ first_texts → map (λ y. y.now) ys ≡ second_texts
    → r ≡ pointwise (λ x y. bytes_eq x.now y.now) xs ys → r ≡ pointwise bytes_eq first_texts second_texts
same_texts xs ys first_texts second_texts r first second e =
    e ∙ sym (pointwise-map (λ x. x.now) bytes_eq xs ys) ∙ ap (λ t. pointwise bytes_eq t (map (λ y. y.now) ys)) first ∙ ap (λ t. pointwise bytes_eq first_texts t) second

pub fails_bind : {A B : Type 0} (e : PreciousFault) (r : Result A PreciousFault) (f : A → Result B PreciousFault) → Fails e r → Fails e (r >>= f)
fails_bind OutOfMemory r f h = tt
fails_bind e r f h = ap (λ x. x >>= f) h

fails_along : {A : Type 0} (e : PreciousFault) (r s : Result A PreciousFault) → r ≡ s → Fails e r → Fails e s
fails_along OutOfMemory r s eq h = tt
fails_along e r s eq h = sym eq ∙ h

abbrev Entries : Type 0
Entries = List (List ℕ × List ℕ)

-- What was found, with what is still to be compared.
abbrev pub left : List (List ℕ) → Entries → Entries → Entries → ℕ → List (List ℕ) → Result Entries PreciousFault
left all vars marked now i precious = restored_from all (i + 1) vars marked (drop i precious) >>= λ rest. Ok (now ++ rest)

rebound : (now add : Entries) (r : Result Entries PreciousFault) → (r >>= λ rest. Ok (add ++ rest)) >>= (λ rest. Ok (now ++ rest)) ≡ (r >>= λ rest. Ok ((now ++ add) ++ rest))
rebound now add (Ok rest) = ap (λ t. Ok t) (sym (append_assoc now add rest))
rebound now add (Err e) = refl

module _ (all : List (List ℕ)) (vars marked : Entries) (precious : List (List ℕ)) (total : Result Entries PreciousFault) (now : Entries) (i : ℕ) where
  -- What is left begins with the variable at i.
  at_name : (x : List ℕ) → i < length precious → x ≡ get_or precious i x
      → left all vars marked now i precious
      ≡ ((restored_variable all (i + 1) vars marked x >>= λ one. restored_from all (i + 1 + 1) vars marked (drop (i + 1) precious) >>= λ rest. Ok (option_to_list one ++ rest)) >>= λ rest. Ok (now ++ rest))
  unfolding restored_from
  at_name x lt is = ap (λ t. restored_from all (i + 1) vars marked t >>= λ rest. Ok (now ++ rest)) (next_of precious i x lt is)

  pub restored_more : (next : Entries) (one : Option (List ℕ × List ℕ)) (x : List ℕ) → i < length precious → x ≡ get_or precious i x
      → restored_variable all (i + 1) vars marked x ≡ Ok one → next ≡ now ++ option_to_list one → left all vars marked now i precious ≡ total → left all vars marked next (i + 1) precious ≡ total
  restored_more next one x lt is gives put h =
      let rest = restored_from all (i + 1 + 1) vars marked (drop (i + 1) precious) in
      ap (λ t. left all vars marked t (i + 1) precious) put
      ∙ sym (rebound now (option_to_list one) rest)
      ∙ ap (λ r. (r >>= λ one. rest >>= λ more. Ok (option_to_list one ++ more)) >>= λ more. Ok (now ++ more)) (sym gives)
      ∙ sym (at_name x lt is) ∙ h

  pub restored_fails : (e : PreciousFault) (x : List ℕ) → i < length precious → x ≡ get_or precious i x
      → Fails e (restored_variable all (i + 1) vars marked x) → left all vars marked now i precious ≡ total → Fails e total
  restored_fails e x lt is bad h =
      fails_along e _ _ (sym (at_name x lt is) ∙ h) (fails_bind e _ _ (fails_bind e _ _ bad))

  pub restored_end : length precious ≤ i → left all vars marked now i precious ≡ total → total ≡ Ok now
  unfolding restored_from
  restored_end le h =
      sym h ∙ ap (λ t. restored_from all (i + 1) vars marked t >>= λ rest. Ok (now ++ rest)) (drop_of_length-le precious le) ∙ ap (λ t. Ok t) (append-nil now)

-- ---- the whole check

pub checked_is : (precious : List (List ℕ)) (vars : Entries) (cache : List Setting) (changes after : Entries) (notes : List Note) → restored_from precious 1 vars (vars_after cache vars) precious ≡ Ok changes
    → after ≡ fold with_variable vars changes → notes ≡ map (λ change. blanks_note change.0) changes → checked precious vars cache ≡ Ok (after, notes)
unfolding checked
checked_is precious vars cache changes after notes found vars_are notes_are =
    ap (λ r. r >>= λ changes. Ok (fold with_variable vars changes, map (λ change. blanks_note change.0) changes)) found
    ∙ ap (λ t. Ok (t, map (λ change. blanks_note change.0) changes)) (sym vars_are)
    ∙ ap (λ t. Ok (after, t)) (sym notes_are)

pub check_fails : (e : PreciousFault) (precious : List (List ℕ)) (vars : Entries) (cache : List Setting) → Fails e (restored_from precious 1 vars (vars_after cache vars) precious) → Fails e (checked precious vars cache)
unfolding checked
check_fails e precious vars cache h = fails_bind e _ _ h
