-- What begins statements is what the reader finds there.
use Rattle.std.proofs.Common.{◌≡◌, ℕ, ◌+◌, ◌<◌, ◌≤◌, true, false, ◌||◌, ◌==◌, not, inl, inr, List, [], ◌∷◌, ◌++◌, length, take, drop, Some, Result, Ok, Err, refl, sym, ap, subst, ◌∙◌, arith}
use Rattle.std.specs.List.{prefix_len, list_all}
use Rattle.std.proofs.Math.Seq.{take-append_seam, drop-append_seam, drop-append-add}
use Rattle.std.proofs.lemmas.Bool.{eqb-true, and_parts, or_cases, cases_Bool}
use Rattle.std.proofs.lemmas.List.{take-append-drop, length-append, length-take-le, drop-drop}
use Rattle.std.proofs.lemmas.List.Sums.{prefix_len-le-length}
use Rattle.deftable.specs.ShellName.{is_shell_name_of, IsShellName, starts_name, continues_name}
use Rattle.shellword.specs.declared.part.Part.{Part}
use Rattle.shellword.specs.declared.fault.ShellFault.{ShellFault}
use Rattle.shellword.specs.Text.{newline, semicolon, is_space, is_parted, begins_with}
use Rattle.shellword.specs.Scan.{word_front_of}
use Rattle.shellword.specs.Word.{IsWordFront}
use Rattle.shellword.proofs.Laws.{front_reading}
use Rattle.shell_bare.specs.declared.item.Item.{Item}
use Rattle.shell_bare.specs.declared.item.ReadStage.{ReadStage}
use Rattle.shell_bare.specs.declared.item.ReadStage.TheVariants.{Opening, Assigned, Closed}
use Rattle.shell_bare.specs.Text.{hash, colon, equals}
use Rattle.shell_bare.specs.Statements.{takes_assignments, assigns, item, nothing, IsItem, space, line_end, parted, comment, lone_colon, assignment}
use Rattle.shell_bare.specs.Reading.{placed, value_at, assignment_at, shell_word_at, item_of}
use Rattle.deftable.proofs.Names.{start_continues}
use Rattle.fallible.specs.Reading.{◌>>=◌}
use Rattle.fallible.proofs.Binds.{chosen, failed, ok_is, bind_ok}

-- ---- names

pub name_all : (name : List ℕ) → IsShellName name → list_all continues_name name ≡ true
name_all [] h = refl
name_all (b ∷ bs) h =
    let both = and_parts (starts_name b) (list_all continues_name bs) h in
    rw (start_continues b both.0, both.1) refl

prefix-name : (name rest : List ℕ) → list_all continues_name name ≡ true → prefix_len continues_name (name ++ equals ∷ rest) ≡ length name
prefix-name [] rest h = refl
prefix-name (b ∷ bs) rest h =
    let both = and_parts (continues_name b) (list_all continues_name bs) h in
    rw (both.0, prefix-name bs rest both.1) (omega arith)

-- a byte that begins no name isn't the first of one
not_first : (b c : ℕ) → starts_name b ≡ true → starts_name c ≡ false → (b == c) ≡ false
not_first b c start none =
    elim (cases_Bool (b == c)) [
      | inl same ↦ let e : true ≡ false = sym start ∙ ap starts_name (eqb-true b c same) ∙ none in absurd cc
      | inr other ↦ other
    ]

-- ---- what is at the front is found

value-read : (start : ℕ) (rest : List ℕ) (parts : List Part) (n : ℕ) → IsWordFront rest parts n → value_at start rest ≡ Ok (parts, n)
value-read start rest parts n h = ap (placed start) ((front_reading rest parts n).1 h)

-- after `NAME=` the word is read
pub assignment-named : (at : ℕ) (name rest : List ℕ) → IsShellName name
    → assignment_at at (name ++ equals ∷ rest) ≡ (value_at (at + (length name + 1)) rest >>= λ w. Ok (item (Some (assigns name w.0)) (length name + 1 + w.1) Assigned))
assignment-named at name rest form =
    let len = prefix-name name rest (name_all name form) in
    let front = take-append_seam name (equals ∷ rest) in
    let following : drop (length name + 1) (name ++ equals ∷ rest) ≡ rest = drop-append-add name (equals ∷ rest) 1 in
    rw (len, drop-append_seam name (equals ∷ rest), front, form, following) refl

assignment-read : (at : ℕ) (name rest : List ℕ) (parts : List Part) (n : ℕ) → IsShellName name → IsWordFront rest parts n
    → assignment_at at (name ++ equals ∷ rest) ≡ Ok (item (Some (assigns name parts)) (length name + 1 + n) Assigned)
assignment-read at name rest parts n form h =
    assignment-named at name rest form ∙ ap (λ r. r >>= λ w. Ok (item (Some (assigns name w.0)) (length name + 1 + w.1) Assigned)) (value-read (at + (length name + 1)) rest parts n h)

-- if a name begins, nothing else does
item_word : (stage : ReadStage) (at b : ℕ) (bs : List ℕ) → starts_name b ≡ true → item_of stage at (b ∷ bs) ≡ shell_word_at stage at (b ∷ bs)
unfolding item_of
item_word stage at b bs h =
    rw (not_first b 32 h refl, not_first b 9 h refl, not_first b newline h refl, not_first b semicolon h refl, not_first b hash h refl) refl

word_assigns : (stage : ReadStage) (at b : ℕ) (bs : List ℕ) → takes_assignments stage ≡ true → starts_name b ≡ true → shell_word_at stage at (b ∷ bs) ≡ assignment_at at (b ∷ bs)
word_assigns Opening at b bs takes h = rw (not_first b colon h refl) refl
word_assigns Assigned at b bs takes h = refl
word_assigns Closed at b bs takes h = absurd cc

pub named-read : (stage : ReadStage) (at : ℕ) (name rest : List ℕ) → takes_assignments stage ≡ true → IsShellName name → item_of stage at (name ++ equals ∷ rest) ≡ assignment_at at (name ++ equals ∷ rest)
named-read stage at [] rest takes form = absurd cc
named-read stage at (b ∷ bs) rest takes form =
    let start = (and_parts (starts_name b) (list_all continues_name bs) form).0 in
    item_word stage at b (bs ++ equals ∷ rest) start ∙ word_assigns stage at b (bs ++ equals ∷ rest) takes start

pub item-read : {stage : ReadStage} {text : List ℕ} {i : Item} → IsItem stage text i → (at : ℕ) → item_of stage at text ≡ Ok i
unfolding item_of
item-read (space h) at = rw h refl
item-read line_end at = refl
item-read parted at = refl
item-read comment at = refl
item-read (lone_colon h) at = rw h refl
item-read (assignment {stage} {name} {rest} {parts} {n} takes form h) at = named-read stage at name rest takes form ∙ assignment-read at name rest parts n form h

-- ---- what is found is at the front

abbrev ok : {A : Type 0} → A → Result A ShellFault
ok x = Ok x

placed_ok : {A : Type 0} (start : ℕ) (r : Result A ShellFault) (x : A) → placed start r ≡ Ok x → r ≡ Ok x
placed_ok start (Ok y) x e = ap ok (ok_is y x e)
placed_ok start (Err f) x e = absurd (failed e)

pub begins : (b : ℕ) (text : List ℕ) → begins_with b text ≡ true → (rest : List ℕ) × (text ≡ b ∷ rest)
begins b [] h = absurd cc
begins b (c ∷ cs) h = (cs, ap (λ (x : ℕ). x ∷ cs) (eqb-true c b h))

named_item : (stage : ReadStage) (n : ℕ) (text rest : List ℕ) (parts : List Part) (k : ℕ) → n ≤ length text → drop n text ≡ equals ∷ rest → takes_assignments stage ≡ true
    → IsShellName (take n text) → IsWordFront rest parts k → IsItem stage text (item (Some (assigns (take n text) parts)) (n + 1 + k) Assigned)
named_item stage n text rest parts k within following takes form h =
    let whole : take n text ++ equals ∷ rest ≡ text = ap (λ (t : List ℕ). take n text ++ t) (sym following) ∙ take-append-drop n text in
    let len : length (take n text) ≡ n = length-take-le n text within in
    subst (λ (t : List ℕ). IsItem stage t (item (Some (assigns (take n text) parts)) (n + 1 + k) Assigned)) whole
    (subst (λ (m : ℕ). IsItem stage (take n text ++ equals ∷ rest) (item (Some (assigns (take n text) parts)) (m + 1 + k) Assigned)) len (assignment takes form h))

read-assignment : (stage : ReadStage) (at : ℕ) (text : List ℕ) (i : Item) → takes_assignments stage ≡ true → assignment_at at text ≡ Ok i → IsItem stage text i
read-assignment stage at text i takes e =
    let n = prefix_len continues_name text in
    elim (chosen (begins_with equals (drop n text)) _ _ _ e) [
      | inr h ↦ absurd (failed h.1)
      | inl h ↦
          (elim (chosen (is_shell_name_of (take n text)) _ _ _ h.1) [
            | inr k ↦ absurd (failed k.1)
            | inl k ↦
                let w = bind_ok (value_at (at + (n + 1)) (drop (n + 1) text)) (λ w. Ok (item (Some (assigns (take n text) w.0)) (n + 1 + w.1) Assigned)) i k.1 in
                let rest = begins equals (drop n text) h.0 in
                let following : drop (n + 1) text ≡ rest.0 = sym (drop-drop 1 n text) ∙ ap (λ (t : List ℕ). drop 1 t) rest.1 in
                let word = (front_reading (drop (n + 1) text) w.0.0 w.0.1).0 (placed_ok (at + (n + 1)) (word_front_of (drop (n + 1) text)) (w.0.0, w.0.1) w.1) in
                subst (IsItem stage text) (ok_is _ _ w.2)
                (named_item stage n text rest.0 w.0.0 w.0.1 (prefix_len-le-length continues_name text) rest.1 takes k.0 (subst (λ (t : List ℕ). IsWordFront t w.0.0 w.0.1) following word))
          ])
    ]

read-shell_word : (stage : ReadStage) (at b : ℕ) (bs : List ℕ) (i : Item) → shell_word_at stage at (b ∷ bs) ≡ Ok i → IsItem stage (b ∷ bs) i
read-shell_word Closed at b bs i e = absurd (failed e)
read-shell_word Assigned at b bs i e = read-assignment Assigned at (b ∷ bs) i refl e
read-shell_word Opening at b bs i e =
    elim (chosen (b == colon) _ _ _ e) [
      | inr h ↦ read-assignment Opening at (b ∷ bs) i refl h.1
      | inl h ↦
          (elim (chosen (is_parted bs) _ _ _ h.1) [
            | inr k ↦ read-assignment Opening at (b ∷ bs) i refl k.1
            | inl k ↦ subst (λ (x : ℕ). IsItem Opening (x ∷ bs) i) (sym (eqb-true b colon h.0)) (subst (IsItem Opening (colon ∷ bs)) (ok_is _ _ k.1) (lone_colon k.0))
          ])
    ]

end-item : (stage : ReadStage) (b : ℕ) (bs : List ℕ) → (b == newline || b == semicolon) ≡ true → IsItem stage (b ∷ bs) (nothing 1 Opening)
end-item stage b bs h =
    elim (or_cases (b == newline) (b == semicolon) h) [
      | inl e ↦ subst (λ (x : ℕ). IsItem stage (x ∷ bs) (nothing 1 Opening)) (sym (eqb-true b newline e)) line_end
      | inr e ↦ subst (λ (x : ℕ). IsItem stage (x ∷ bs) (nothing 1 Opening)) (sym (eqb-true b semicolon e)) parted
    ]

pub read-item : (stage : ReadStage) (at b : ℕ) (bs : List ℕ) (i : Item) → item_of stage at (b ∷ bs) ≡ Ok i → IsItem stage (b ∷ bs) i
unfolding item_of
read-item stage at b bs i e =
    elim (chosen (is_space b) _ _ _ e) [
      | inl h ↦ subst (IsItem stage (b ∷ bs)) (ok_is _ _ h.1) (space h.0)
      | inr no_space ↦
          (elim (chosen (b == newline || b == semicolon) _ _ _ no_space.1) [
            | inl h ↦ subst (IsItem stage (b ∷ bs)) (ok_is _ _ h.1) (end-item stage b bs h.0)
            | inr no_end ↦
                (elim (chosen (b == hash) _ _ _ no_end.1) [
                  | inl h ↦ subst (λ (x : ℕ). IsItem stage (x ∷ bs) i) (sym (eqb-true b hash h.0)) (subst (IsItem stage (hash ∷ bs)) (ok_is _ _ h.1) comment)
                  | inr h ↦ read-shell_word stage at b bs i h.1
                ])
          ])
    ]

-- ---- an item is as long as it may be

pub item-len : {stage : ReadStage} {text : List ℕ} {i : Item} → IsItem stage text i → (0 < i.len) × (i.len ≤ length text)
item-len (space h) = (omega arith, omega arith)
item-len line_end = (omega arith, omega arith)
item-len parted = (omega arith, omega arith)
item-len (comment {stage} {rest}) = (omega arith, omega (arith, prefix_len-le-length (λ b. not (b == newline)) rest))
item-len (lone_colon h) = (omega arith, omega arith)
item-len (assignment {stage} {name} {rest} {parts} {n} takes form h) = (omega arith, omega (arith, length-append name (equals ∷ rest), h.place))
