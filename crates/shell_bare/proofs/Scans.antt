-- The statements of a text without line continuations, item after item: the relation, the function, and the loop.
use Rattle.std.proofs.Common.{◌≡◌, ℕ, zero, suc, ◌+◌, ◌-◌, ◌<◌, ◌≤◌, List, [], ◌∷◌, ◌++◌, length, take, drop, option_to_list, Result, Ok, Err, refl, sym, ap, subst, ◌∙◌, arith}
use Rattle.std.proofs.lemmas.List.{take_rest, drop-drop, drop_all, append-nil, length-drop}
use Rattle.shell_bare.specs.declared.assignments.Assignment.{Assignment}
use Rattle.shell_bare.specs.declared.fault.BareFault.{BareFault}
use Rattle.shell_bare.specs.declared.item.Item.{Item}
use Rattle.shell_bare.specs.declared.item.ReadStage.{ReadStage}
use Rattle.shell_bare.specs.Statements.{AreStatements, no_more, more}
use Rattle.shell_bare.specs.Reading.{item_of, statements_from}
use Rattle.fallible.specs.Reading.{◌>>=◌}
use Rattle.fallible.proofs.Binds.{ok_is, bind_ok}
use Rattle.fallible.proofs.Pieces.{with_list, with_list-append, after_piece}
use Rattle.shell_bare.proofs.Fronts.{item-read, read-item, item-len}

-- from one item to the next
pub item_first : (stage : ReadStage) (at : ℕ) (text : List ℕ) (i : Item) → 0 < length text → item_of stage at text ≡ Ok i → 0 < i.len → i.len ≤ length text
    → statements_from 0 stage at text ≡ with_list (option_to_list i.assignment) (statements_from 0 i.stage (at + i.len) (drop i.len text))
unfolding statements_from
item_first stage at [] i lt found some within = absurd (omega arith)
item_first stage at (b ∷ bs) i lt found some within =
    rw (found, after_piece (λ k at text. statements_from k i.stage at text) (λ k at b bs. refl) i.len at b bs some within) refl

pub item_failed : (stage : ReadStage) (at : ℕ) (text : List ℕ) (f : BareFault) → 0 < length text → item_of stage at text ≡ Err f → statements_from 0 stage at text ≡ Err f
unfolding statements_from
item_failed stage at [] f lt found = absurd (omega arith)
item_failed stage at (b ∷ bs) f lt found = rw found refl

-- ---- what is in the text is read

pub statements-read : {stage : ReadStage} {text : List ℕ} {list : List Assignment} → AreStatements stage text list → (at : ℕ) → statements_from 0 stage at text ≡ Ok list
unfolding statements_from
statements-read no_more at = refl
statements-read (more {stage} {text} {i} {list} h rest) at =
    let len = item-len h in
    item_first stage at text i (omega (arith, len.0, len.1)) (item-read h at) len.0 len.1
    ∙ ap (with_list (option_to_list i.assignment)) (statements-read rest (at + i.len))

-- ---- what is read is in the text

pub read-statements : (k : ℕ) (stage : ReadStage) (at : ℕ) (text : List ℕ) (list : List Assignment) → k ≤ length text → statements_from k stage at text ≡ Ok list
    → AreStatements stage (drop k text) list
unfolding statements_from
read-statements zero stage at [] list h e = subst (AreStatements stage []) (ok_is [] list e) no_more
read-statements (suc k) stage at [] list h e = absurd (omega arith)
read-statements (suc k) stage at (b ∷ bs) list h e = read-statements k stage (at + 1) bs list (omega arith) e
read-statements zero stage at (b ∷ bs) list h e =
    let item = bind_ok (item_of stage at (b ∷ bs)) (λ i. statements_from (i.len - 1) i.stage (at + 1) bs >>= λ list. Ok (option_to_list i.assignment ++ list)) list e in
    let i = item.0 in
    let there = read-item stage at b bs i item.1 in
    let len = item-len there in
    let rest = bind_ok (statements_from (i.len - 1) i.stage (at + 1) bs) (λ list. Ok (option_to_list i.assignment ++ list)) list item.2 in
    let found = read-statements (i.len - 1) i.stage (at + 1) bs rest.0 (omega (arith, len.0, len.1)) rest.1 in
    let one : suc (i.len - 1) ≡ i.len = omega (arith, len.0) in
    let here : drop (i.len - 1) bs ≡ drop i.len (b ∷ bs) = ap (λ (m : ℕ). drop m (b ∷ bs)) one in
    subst (AreStatements stage (b ∷ bs)) (ok_is (option_to_list i.assignment ++ rest.0) list rest.2)
    (more there (subst (λ (t : List ℕ). AreStatements i.stage t rest.0) here found))

-- ---- the loop

module _ (list : List Assignment) (stage : ReadStage) (at : ℕ) (text : List ℕ) (total : Result (List Assignment) BareFault) (so_far : with_list list (statements_from 0 stage at (drop at text)) ≡ total) where
  module _ (lt : at < length text) where
    abbrev here : List ℕ
    here = take (length text - at) (drop at text)

    here_len : length here ≡ length text - at
    here_len = ap length (take_rest text at) ∙ length-drop at text

    pub loop_failed : (f : BareFault) → item_of stage at here ≡ Err f → total ≡ Err f
    loop_failed f found =
        let e : 0 < length here = omega (arith, here_len) in
        sym so_far ∙ ap (λ (t : List ℕ). with_list list (statements_from 0 stage at t)) (sym (take_rest text at)) ∙ ap (with_list list) (item_failed stage at here f e found)

    pub loop_item : (i : Item) (pushed : List Assignment) → item_of stage at here ≡ Ok i → 0 < i.len → i.len ≤ length here → pushed ≡ list ++ option_to_list i.assignment
        → with_list pushed (statements_from 0 i.stage (at + i.len) (drop (at + i.len) text)) ≡ total
    loop_item i pushed found some within e =
        let lt : 0 < length here = omega (arith, here_len) in
        let one = item_first stage at here i lt found some within in
        ap (λ (t : List Assignment). with_list t (statements_from 0 i.stage (at + i.len) (drop (at + i.len) text))) e
        ∙ with_list-append list (option_to_list i.assignment) (statements_from 0 i.stage (at + i.len) (drop (at + i.len) text))
        ∙ ap (λ (t : List ℕ). with_list list (with_list (option_to_list i.assignment) (statements_from 0 i.stage (at + i.len) t))) (sym (drop-drop i.len at text))
        ∙ ap (λ (t : List ℕ). with_list list (with_list (option_to_list i.assignment) (statements_from 0 i.stage (at + i.len) (drop i.len t)))) (sym (take_rest text at))
        ∙ ap (with_list list) (sym one)
        ∙ ap (λ (t : List ℕ). with_list list (statements_from 0 stage at t)) (take_rest text at)
        ∙ so_far

  pub loop_ended : length text ≤ at → total ≡ Ok list
  unfolding statements_from
  loop_ended past =
      sym so_far ∙ ap (λ (t : List ℕ). with_list list (statements_from 0 stage at t)) (drop_all at text past) ∙ ap (λ (t : List Assignment). Ok t) (append-nil list)
