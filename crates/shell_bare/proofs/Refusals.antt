-- The first error of a text is that of the reading function.
use Rattle.std.proofs.Common.{◌≡◌, ℕ, zero, suc, ◌+◌, ◌-◌, ◌<◌, ◌≤◌, ◌==◌, ◌⊎◌, ◌↔◌, true, false, inl, inr, List, [], ◌∷◌, ◌++◌, length, take, drop, Some, option_to_list, Result, Ok, Err, refl, sym, ap, subst, ◌∙◌, arith}
use Rattle.std.specs.Prelude.{IfErr}
use Rattle.std.specs.List.{prefix_len}
use Rattle.std.proofs.lemmas.List.{take-append-drop, length-take-le, drop-drop}
use Rattle.std.proofs.lemmas.List.Sums.{prefix_len-le-length}
use Rattle.deftable.specs.ShellName.{is_shell_name_of, continues_name}
use Rattle.shellword.specs.declared.fault.ShellFault.{ShellFault}
use Rattle.shellword.specs.declared.fault.ShellFault.TheVariants.{BadWord}
use Rattle.shellword.specs.declared.fault.ShellFault.TheVariants as words
use Rattle.shellword.specs.Text.{is_parted, begins_with}
use Rattle.shellword.specs.Scan.{word_front_of}
use Rattle.shellword.proofs.Laws.{front_faults, front_refusal}
use Rattle.shell_bare.specs.declared.assignments.Assignment.{Assignment}
use Rattle.shell_bare.specs.declared.fault.BareFault.{BareFault}
use Rattle.shell_bare.specs.declared.fault.BareFault.TheVariants.{UnknownStatement, Shell, OutOfMemory}
use Rattle.shell_bare.specs.declared.item.Item.{Item}
use Rattle.shell_bare.specs.declared.item.ReadStage.{ReadStage}
use Rattle.shell_bare.specs.declared.item.ReadStage.TheVariants.{Opening, Assigned, Closed}
use Rattle.shell_bare.specs.Joining.{joined}
use Rattle.shell_bare.specs.Text.{colon, equals}
use Rattle.shell_bare.specs.Gives.{Gives, Fails}
use Rattle.shell_bare.specs.Refused.{IsNamed, IsFirstFault, unknown, refused_word, following, IsFaultOfText, IsRefused}
use Rattle.shell_bare.specs.Statements.{takes_assignments, assigns, item, IsItem}
use Rattle.shell_bare.specs.Reading.{word_fault, placed, value_at, assignment_at, shell_word_at, item_of, statements_from, statements_of}
use Rattle.fallible.specs.Reading.{◌>>=◌}
use Rattle.fallible.proofs.Binds.{chosen, failed, passed, err_is, bind_err}
use Rattle.shell_bare.proofs.Fronts.{begins, item-read, read-item, item-len, named-read, assignment-named}
use Rattle.shell_bare.proofs.FaultPlaces.{item-failed, placed_err}
use Rattle.shell_bare.proofs.Joining.{joined_reading}
use Rattle.fallible.proofs.Pieces.{with_list}
use Rattle.shell_bare.proofs.Scans.{item_first, item_failed}

-- `NAME=` with a word that is rejected
record RefusedWord (stage : ReadStage) (at : ℕ) (text : List ℕ) (f : BareFault) : Type 0 where
  name : List ℕ
  value : List ℕ
  k : ℕ
  named : IsNamed stage text name value
  refused : word_front_of value ≡ Err (BadWord k)
  is : Shell (BadWord (at + (length name + 1) + k)) ≡ f

abbrev Split : ReadStage → ℕ → List ℕ → BareFault → Type 0
Split stage at text f = (UnknownStatement at ≡ f) ⊎ RefusedWord stage at text f

refused-value : (start : ℕ) (rest value : List ℕ) (f : BareFault) → rest ≡ value → value_at start rest ≡ Err f → (k : ℕ) × (word_front_of value ≡ Err (BadWord k)) × (Shell (BadWord (start + k)) ≡ f)
refused-value start rest value f same e =
    let p = placed_err start (word_front_of rest) f e in
    let q = front_faults rest p.0 p.1 in
    (q.0, subst (λ (t : List ℕ). word_front_of t ≡ Err (BadWord q.0)) same (subst (λ (g : ShellFault). word_front_of rest ≡ Err g) q.1 p.1), ap (word_fault start) (sym q.1) ∙ p.2)

assignment-split : (stage : ReadStage) (at : ℕ) (text : List ℕ) (f : BareFault) → takes_assignments stage ≡ true → assignment_at at text ≡ Err f → Split stage at text f
assignment-split stage at text f takes e =
    let n = prefix_len continues_name text in
    elim (chosen (begins_with equals (drop n text)) _ _ _ e) [
      | inr h ↦ inl (err_is {A = Item} (UnknownStatement at) f h.1)
      | inl h ↦
          (elim (chosen (is_shell_name_of (take n text)) _ _ _ h.1) [
            | inr k ↦ inl (err_is {A = Item} (UnknownStatement at) f k.1)
            | inl k ↦
                (elim (bind_err (value_at (at + (n + 1)) (drop (n + 1) text)) (λ w. Ok (item (Some (assigns (take n text) w.0)) (n + 1 + w.1) Assigned)) f k.1) [
                  | inr w ↦ absurd (passed w.2)
                  | inl w ↦
                      let rest = begins equals (drop n text) h.0 in
                      let same : drop (n + 1) text ≡ rest.0 = sym (drop-drop 1 n text) ∙ ap (λ (t : List ℕ). drop 1 t) rest.1 in
                      let len : length (take n text) ≡ n = length-take-le n text (prefix_len-le-length continues_name text) in
                      let r = refused-value (at + (n + 1)) (drop (n + 1) text) rest.0 f same w in
                      inr record {
                        name = take n text;
                        value = rest.0;
                        k = r.0;
                        named = record { takes = takes; form = k.0; begins = ap (λ (t : List ℕ). take n text ++ t) (sym rest.1) ∙ take-append-drop n text };
                        refused = r.1;
                        is = ap (λ (m : ℕ). Shell (BadWord (at + (m + 1) + r.0))) len ∙ r.2;
                      }
                ])
          ])
    ]

shell_word-split : (stage : ReadStage) (at b : ℕ) (bs : List ℕ) (f : BareFault) → shell_word_at stage at (b ∷ bs) ≡ Err f → Split stage at (b ∷ bs) f
shell_word-split Closed at b bs f e = inl (err_is {A = Item} (UnknownStatement at) f e)
shell_word-split Assigned at b bs f e = assignment-split Assigned at (b ∷ bs) f refl e
shell_word-split Opening at b bs f e =
    elim (chosen (b == colon) _ _ _ e) [
      | inr h ↦ assignment-split Opening at (b ∷ bs) f refl h.1
      | inl h ↦ (elim (chosen (is_parted bs) _ _ _ h.1) [ inr k ↦ assignment-split Opening at (b ∷ bs) f refl k.1 | inl k ↦ absurd (passed k.1) ])
    ]

item-split : (stage : ReadStage) (at b : ℕ) (bs : List ℕ) (f : BareFault) → item_of stage at (b ∷ bs) ≡ Err f → Split stage at (b ∷ bs) f
item-split stage at b bs f e = shell_word-split stage at b bs f (item-failed stage at b bs f e)

-- ---- the result of the reader at `NAME=`

item-named : (stage : ReadStage) (at : ℕ) (text name value : List ℕ) → IsNamed stage text name value
    → item_of stage at text ≡ (value_at (at + (length name + 1)) value >>= λ w. Ok (item (Some (assigns name w.0)) (length name + 1 + w.1) Assigned))
item-named stage at text name value h =
    ap (item_of stage at) (sym h.begins) ∙ named-read stage at name value h.takes h.form ∙ assignment-named at name value h.form

never_unknown : (start at : ℕ) (g : ShellFault) → word_fault start g ≡ UnknownStatement at → ⊥
never_unknown start at (BadWord k) e = cc
never_unknown start at words.OutOfMemory e = cc
never_unknown start at g e = cc

not-named : (stage : ReadStage) (at : ℕ) (text name value : List ℕ) → item_of stage at text ≡ Err (UnknownStatement at) → IsNamed stage text name value → ⊥
not-named stage at text name value e h =
    elim (bind_err (value_at (at + (length name + 1)) value) (λ w. Ok (item (Some (assigns name w.0)) (length name + 1 + w.1) Assigned)) (UnknownStatement at) (sym (item-named stage at text name value h) ∙ e)) [
      | inr w ↦ passed w.2
      | inl w ↦ let p = placed_err (at + (length name + 1)) (word_front_of value) (UnknownStatement at) w in never_unknown (at + (length name + 1)) at p.0 p.2
    ]

-- ---- the error of the reading function is the first

item-refused : (stage : ReadStage) (at b : ℕ) (bs : List ℕ) (f : BareFault) → item_of stage at (b ∷ bs) ≡ Err f → IsFirstFault stage at (b ∷ bs) f
item-refused stage at b bs f e =
    elim (item-split stage at b bs f e) [
      | inl is ↦
          let u : item_of stage at (b ∷ bs) ≡ Err (UnknownStatement at) = e ∙ ap (λ (g : BareFault). Err g) (sym is) in
          subst (IsFirstFault stage at (b ∷ bs)) is (unknown (omega arith) (λ i h. failed (sym u ∙ item-read h at)) (λ name value h. not-named stage at (b ∷ bs) name value u h))
      | inr r ↦ subst (IsFirstFault stage at (b ∷ bs)) r.is (refused_word r.named ((front_refusal r.value r.k).0 r.refused))
    ]

statements-refused : (k : ℕ) (stage : ReadStage) (at : ℕ) (text : List ℕ) (f : BareFault) → k ≤ length text → statements_from k stage at text ≡ Err f
    → IsFirstFault stage (at + k) (drop k text) f
unfolding statements_from
statements-refused zero stage at [] f h e = absurd (passed e)
statements-refused (suc k) stage at [] f h e = absurd (omega arith)
statements-refused (suc k) stage at (b ∷ bs) f h e =
    let place : at + 1 + k ≡ at + suc k = omega arith in
    subst (λ (m : ℕ). IsFirstFault stage m (drop k bs) f) place (statements-refused k stage (at + 1) bs f (omega arith) e)
statements-refused zero stage at (b ∷ bs) f h e =
    let place : at ≡ at + 0 = omega arith in
    subst (λ (m : ℕ). IsFirstFault stage m (b ∷ bs) f) place
    (elim (bind_err (item_of stage at (b ∷ bs)) (λ i. statements_from (i.len - 1) i.stage (at + 1) bs >>= λ list. Ok (option_to_list i.assignment ++ list)) f e) [
      | inl x ↦ item-refused stage at b bs f x
      | inr x ↦
          let i = x.0 in
          let there = read-item stage at b bs i x.1 in
          let len = item-len there in
          (elim (bind_err (statements_from (i.len - 1) i.stage (at + 1) bs) (λ list. Ok (option_to_list i.assignment ++ list)) f x.2) [
            | inr y ↦ absurd (passed y.2)
            | inl y ↦
                let one : suc (i.len - 1) ≡ i.len = omega (arith, len.0) in
                let next : at + 1 + (i.len - 1) ≡ at + i.len = omega (arith, len.0) in
                let here : drop (i.len - 1) bs ≡ drop i.len (b ∷ bs) = ap (λ (m : ℕ). drop m (b ∷ bs)) one in
                following there
                (subst (λ (m : ℕ). IsFirstFault i.stage m (drop i.len (b ∷ bs)) f) next
                (subst (λ (t : List ℕ). IsFirstFault i.stage (at + 1 + (i.len - 1)) t f) here (statements-refused (i.len - 1) i.stage (at + 1) bs f (omega (arith, len.0, len.1)) y)))
          ])
    ])

-- ---- the first error is that of the reading function

abbrev no_item : BareFault → Result Item BareFault
no_item f = Err f

refused-unknown : (stage : ReadStage) (at b : ℕ) (bs : List ℕ) (r : Result Item BareFault) → item_of stage at (b ∷ bs) ≡ r → ((i : Item) → IsItem stage (b ∷ bs) i → ⊥) → ((name value : List ℕ) → IsNamed stage (b ∷ bs) name value → ⊥)
    → item_of stage at (b ∷ bs) ≡ no_item (UnknownStatement at)
refused-unknown stage at b bs (Ok i) e no_item no_name = absurd (no_item i (read-item stage at b bs i e))
refused-unknown stage at b bs (Err f) e no_item no_name =
    elim (item-split stage at b bs f e) [
      | inl is ↦ e ∙ ap (λ (g : BareFault). Err g) (sym is)
      | inr r ↦ absurd (no_name r.name r.value r.named)
    ]

named_some : (stage : ReadStage) (text name value : List ℕ) → IsNamed stage text name value → 0 < length text
named_some stage text [] value h = absurd (let e : false ≡ true = h.form in cc)
named_some stage text (b ∷ bs) value h = subst (λ (t : List ℕ). 0 < length t) h.begins (omega arith)

first-refused : {stage : ReadStage} {at : ℕ} {text : List ℕ} {f : BareFault} → IsFirstFault stage at text f → statements_from 0 stage at text ≡ Err f
first-refused (unknown {stage} {at} {text} some no_item no_name) = by_text text some no_item no_name where
  by_text : (text : List ℕ) → 0 < length text → ((i : Item) → IsItem stage text i → ⊥) → ((name value : List ℕ) → IsNamed stage text name value → ⊥) → statements_from 0 stage at text ≡ Err (UnknownStatement at)
  by_text [] some no_item no_name = absurd (omega arith)
  by_text (b ∷ bs) some no_item no_name = item_failed stage at (b ∷ bs) (UnknownStatement at) some (refused-unknown stage at b bs (item_of stage at (b ∷ bs)) refl no_item no_name)
first-refused (refused_word {stage} {at} {k} {text} {name} {value} h refused) =
    item_failed stage at text (Shell (BadWord (at + (length name + 1) + k))) (named_some stage text name value h)
    (item-named stage at text name value h ∙ ap (λ r. placed (at + (length name + 1)) r >>= λ w. Ok (item (Some (assigns name w.0)) (length name + 1 + w.1) Assigned)) ((front_refusal value k).1 refused))
first-refused (following {stage} {at} {text} {i} {f} h rest) =
    let len = item-len h in
    item_first stage at text i (omega (arith, len.0, len.1)) (item-read h at) len.0 len.1 ∙ ap (with_list (option_to_list i.assignment)) (first-refused rest)

-- ---- whole texts

pub fault_reading : (text : List ℕ) (f : BareFault) → (statements_of text ≡ Err f) ↔ IsFaultOfText text f
unfolding statements_of
fault_reading text f = (
  λ e. record { lines = joined text; joined = (joined_reading text (joined text)).0 refl; first = statements-refused 0 Opening 0 (joined text) f (omega arith) e },
  λ h. ap (statements_from 0 Opening 0) ((joined_reading text h.lines).1 h.joined) ∙ first-refused h.first,
)

-- the error of an answer
pub refused_by : {X : Type 0} (text : List ℕ) (view : X → List Assignment) (r : Result X BareFault) → Gives view r (statements_of text) → IfErr r (IsRefused text)
refused_by text view (Ok x) given = tt
refused_by text view (Err f) given = by_fault f given where
  by_fault : (f : BareFault) → Fails f (statements_of text) → IsRefused text f
  by_fault OutOfMemory given = tt
  by_fault f given = (fault_reading text f).0 given
