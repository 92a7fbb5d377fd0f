-- Which errors a text that isn't a list of statements has, and at which offsets.
use Rattle.std.proofs.Common.{◌≡◌, ℕ, zero, suc, ◌+◌, ◌-◌, ◌≤◌, ◌||◌, ◌==◌, inl, inr, List, [], ◌∷◌, ◌++◌, length, take, drop, Some, option_to_list, Result, Ok, Err, refl, sym, ap, subst, ◌∙◌, arith}
use Rattle.std.specs.List.{prefix_len}
use Rattle.std.proofs.lemmas.List.{length-drop}
use Rattle.deftable.specs.ShellName.{is_shell_name_of, continues_name}
use Rattle.shellword.specs.declared.fault.ShellFault.{ShellFault}
use Rattle.shellword.specs.declared.fault.ShellFault.TheVariants.{BadWord}
use Rattle.shellword.specs.declared.part.Part.{Part}
use Rattle.shellword.specs.Text.{newline, semicolon, is_space, is_parted, begins_with}
use Rattle.shellword.specs.Scan.{word_front_of}
use Rattle.shellword.proofs.Laws.{front_faults}
use Rattle.shell_bare.specs.declared.fault.BareFault.{BareFault}
use Rattle.shell_bare.specs.declared.fault.BareFault.TheVariants.{UnknownStatement, Shell, OutOfMemory}
use Rattle.shell_bare.specs.declared.item.ReadStage.{ReadStage}
use Rattle.shell_bare.specs.declared.item.ReadStage.TheVariants.{Opening, Assigned, Closed}
use Rattle.shell_bare.specs.Joining.{joined}
use Rattle.shell_bare.specs.Text.{hash, colon, equals}
use Rattle.shell_bare.specs.Faults.{IsReadingFault}
use Rattle.shell_bare.specs.Statements.{assigns, item}
use Rattle.shell_bare.specs.Reading.{word_fault, placed, value_at, assignment_at, shell_word_at, item_of, statements_from, statements_of}
use Rattle.fallible.specs.Reading.{◌>>=◌}
use Rattle.fallible.proofs.Binds.{chosen, passed, err_is, bind_err}
use Rattle.shell_bare.proofs.Fronts.{begins, read-item, item-len}
use Rattle.shell_bare.proofs.Joining.{joined-len}

-- an error at an offset of at most m is one of at most n
later : (m n : ℕ) (f : BareFault) → m ≤ n → IsReadingFault m f → IsReadingFault n f
later m n (UnknownStatement at) le h = omega arith
later m n (Shell (BadWord at)) le h = omega arith
later m n (Shell f) le h = absurd h
later m n OutOfMemory le h = absurd h

abbrev not_known : {A : Type 0} → ℕ → Result A BareFault
not_known at = Err (UnknownStatement at)

unknown-fault : {A : Type 0} (at n : ℕ) (f : BareFault) → not_known {A = A} at ≡ Err f → at ≤ n → IsReadingFault n f
unknown-fault {A} at n f e le = subst (IsReadingFault n) (err_is {A = A} (UnknownStatement at) f e) le

pub placed_err : (start : ℕ) (r : Result (List Part × ℕ) ShellFault) (f : BareFault) → placed start r ≡ Err f → (g : ShellFault) × (r ≡ Err g) × (word_fault start g ≡ f)
placed_err start (Ok x) f e = absurd (passed e)
placed_err start (Err g) f e = (g, refl, err_is {A = List Part × ℕ} (word_fault start g) f e)

value-fault : (start : ℕ) (rest : List ℕ) (f : BareFault) → value_at start rest ≡ Err f → IsReadingFault (start + length rest) f
value-fault start rest f e =
    let p = placed_err start (word_front_of rest) f e in
    let q = front_faults rest p.0 p.1 in
    subst (IsReadingFault (start + length rest)) (ap (word_fault start) (sym q.1) ∙ p.2) (let le : start + q.0 ≤ start + length rest = omega (arith, q.2) in le)

after_len : (n : ℕ) (text rest : List ℕ) → drop n text ≡ equals ∷ rest → n + 1 ≤ length text
after_len n text rest e = let k : length (drop n text) ≡ suc (length rest) = ap length e in omega (arith, length-drop n text, k)

assignment-fault : (at : ℕ) (text : List ℕ) (f : BareFault) → assignment_at at text ≡ Err f → IsReadingFault (at + length text) f
assignment-fault at text f e =
    let n = prefix_len continues_name text in
    elim (chosen (begins_with equals (drop n text)) _ _ _ e) [
      | inr h ↦ unknown-fault at (at + length text) f h.1 (omega arith)
      | inl h ↦
          (elim (chosen (is_shell_name_of (take n text)) _ _ _ h.1) [
            | inr k ↦ unknown-fault at (at + length text) f k.1 (omega arith)
            | inl k ↦
                (elim (bind_err (value_at (at + (n + 1)) (drop (n + 1) text)) (λ w. Ok (item (Some (assigns (take n text) w.0)) (n + 1 + w.1) Assigned)) f k.1) [
                  | inr w ↦ absurd (passed w.2)
                  | inl w ↦
                      let rest = begins equals (drop n text) h.0 in
                      let some = after_len n text rest.0 rest.1 in
                      later (at + (n + 1) + length (drop (n + 1) text)) (at + length text) f (omega (arith, some, length-drop (n + 1) text)) (value-fault (at + (n + 1)) (drop (n + 1) text) f w)
                ])
          ])
    ]

shell_word-fault : (stage : ReadStage) (at b : ℕ) (bs : List ℕ) (f : BareFault) → shell_word_at stage at (b ∷ bs) ≡ Err f → IsReadingFault (at + length (b ∷ bs)) f
shell_word-fault Closed at b bs f e = unknown-fault at (at + length (b ∷ bs)) f e (omega arith)
shell_word-fault Assigned at b bs f e = assignment-fault at (b ∷ bs) f e
shell_word-fault Opening at b bs f e =
    elim (chosen (b == colon) _ _ _ e) [
      | inr h ↦ assignment-fault at (b ∷ bs) f h.1
      | inl h ↦ (elim (chosen (is_parted bs) _ _ _ h.1) [ inr k ↦ assignment-fault at (b ∷ bs) f k.1 | inl k ↦ absurd (passed k.1) ])
    ]

-- a space, an end of a statement and a comment have no error, so the error is of the shell word
pub item-failed : (stage : ReadStage) (at b : ℕ) (bs : List ℕ) (f : BareFault) → item_of stage at (b ∷ bs) ≡ Err f → shell_word_at stage at (b ∷ bs) ≡ Err f
unfolding item_of
item-failed stage at b bs f e =
    elim (chosen (is_space b) _ _ _ e) [
      | inl h ↦ absurd (passed h.1)
      | inr no_space ↦
          (elim (chosen (b == newline || b == semicolon) _ _ _ no_space.1) [
            | inl h ↦ absurd (passed h.1)
            | inr no_end ↦ (elim (chosen (b == hash) _ _ _ no_end.1) [ inl h ↦ absurd (passed h.1) | inr h ↦ h.1 ])
          ])
    ]

item-fault : (stage : ReadStage) (at b : ℕ) (bs : List ℕ) (f : BareFault) → item_of stage at (b ∷ bs) ≡ Err f → IsReadingFault (at + length (b ∷ bs)) f
item-fault stage at b bs f e = shell_word-fault stage at b bs f (item-failed stage at b bs f e)

statements-fault : (k : ℕ) (stage : ReadStage) (at : ℕ) (text : List ℕ) (f : BareFault) → k ≤ length text → statements_from k stage at text ≡ Err f → IsReadingFault (at + length text) f
unfolding statements_from
statements-fault zero stage at [] f h e = absurd (passed e)
statements-fault (suc k) stage at [] f h e = absurd (omega arith)
statements-fault (suc k) stage at (b ∷ bs) f h e = later (at + 1 + length bs) (at + length (b ∷ bs)) f (omega arith) (statements-fault k stage (at + 1) bs f (omega arith) e)
statements-fault zero stage at (b ∷ bs) f h e =
    elim (bind_err (item_of stage at (b ∷ bs)) (λ i. statements_from (i.len - 1) i.stage (at + 1) bs >>= λ list. Ok (option_to_list i.assignment ++ list)) f e) [
      | inl x ↦ item-fault stage at b bs f x
      | inr x ↦
          let i = x.0 in
          let len = item-len (read-item stage at b bs i x.1) in
          (elim (bind_err (statements_from (i.len - 1) i.stage (at + 1) bs) (λ list. Ok (option_to_list i.assignment ++ list)) f x.2) [
            | inr y ↦ absurd (passed y.2)
            | inl y ↦
                later (at + 1 + length bs) (at + length (b ∷ bs)) f (omega arith)
                (statements-fault (i.len - 1) i.stage (at + 1) bs f (omega (arith, len.0, len.1)) y)
          ])
    ]

pub text-fault : (text : List ℕ) (f : BareFault) → statements_of text ≡ Err f → IsReadingFault (length text) f
unfolding statements_of
text-fault text f e =
    later (0 + length (joined text)) (length text) f (omega (arith, joined-len text)) (statements-fault 0 Opening 0 (joined text) f (omega arith) e)
