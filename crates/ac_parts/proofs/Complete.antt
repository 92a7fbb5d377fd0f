-- A walk over a tree goes to the end.
use Rattle.std.proofs.Common.{◌≡◌, ℕ, ◌+◌, ◌-◌, ◌<◌, ◌≤◌, ◌==◌, true, false, cond, leb, ltb, eq-eqb, lt-ltb, le-leb, List, [], ◌∷◌, ◌++◌, length, Some, None, refl, sym, ap, ◌∙◌, arith}
use Rattle.std.proofs.lemmas.List.{append_assoc, append-nil, length-append}
use Rattle.std.proofs.lemmas.Bool.{and_from, ne_eqb, lt-leb}
use Rattle.std.specs.Prelude.{◌&&◌, slice_range}
use Rattle.ac_parts.specs.declared.kind.Kind.{Kind}
use Rattle.ac_parts.specs.declared.kind.Kind.TheVariants as kinds
use Rattle.ac_parts.specs.declared.kind.Part.{Part}
use Rattle.ac_parts.specs.declared.walk.Frame.{Frame}
use Rattle.ac_parts.specs.Leaves.{is_leaf_text}
use Rattle.ac_parts.specs.Shapes.{is_leaf, next_state, may_end}
use Rattle.ac_parts.specs.Trees.{AreWithin, none, leaf, tree, IsTree}
use Rattle.ac_parts.specs.Walks.{Place, opened, followed_to, followed, ends_at, is_leaf_of, closed, within, passed, turned, is_last, goes_on, goes, first}

frame : Kind → ℕ → ℕ → ℕ → Frame
frame kind state end left = record { kind = kind; state = state; end = end; left = left }

place : Frame → List Frame → ℕ → Place
place top below at = record { top = top; below = below; at = at }

not_zero : (n : ℕ) → 0 < n → (n == 0) ≡ false
not_zero n more = ne_eqb n 0 (λ e. omega (arith, e, more))

-- ---- one part

open_closed : (top : Frame) (below : List Frame) (at : ℕ) → (top.left == 0) ≡ false → closed top below at ≡ Some (place top below at)
unfolding place
open_closed top [] at e = refl
open_closed top (next ∷ below) at e = ap (λ b. cond b (cond (ends_at top at) (closed next below at) None) (Some (record { top = top; below = next ∷ below; at = at }))) e

ended_closed : (top next : Frame) (below : List Frame) (at : ℕ) → (top.left == 0) ≡ true → ends_at top at ≡ true → closed top (next ∷ below) at ≡ closed next below at
ended_closed top next below at none_left ends =
    ap (λ b. cond b (cond (ends_at top at) (closed next below at) None) (Some (record { top = top; below = next ∷ below; at = at }))) none_left
    ∙ ap (λ b. cond b (closed next below at) None) ends

goes_closed : (text : List ℕ) (parts : List Part) (one other : Place) → closed one.top one.below one.at ≡ closed other.top other.below other.at → goes text parts one ≡ goes text parts other
goes_closed text [] one other e = ap is_last e
goes_closed text (part ∷ parts) one other e = ap (λ o. goes_on (goes text parts) (passed text part o)) e

followed_is : (f : Frame) (part : Part) (state : ℕ) → part.within < f.left → next_state f.kind f.state part.kind ≡ Some state
    → followed f part ≡ Some (record { kind = f.kind; state = state; end = f.end; left = f.left - part.within - 1 })
unfolding followed
followed_is f part state less e = ap (λ b. cond b None (followed_to f part (next_state f.kind f.state part.kind))) (lt-leb f.left part.within less) ∙ ap (followed_to f part) e

turns : (text : List ℕ) (part : Part) (f next : Frame) (below : List Frame) → (f.left == 0) ≡ false → followed f part ≡ Some next → turned text part (place f below part.start) ≡ within text part below (Some next)
unfolding place
turns text part f next below open_left fo =
    ap (passed text part) (unfold place in open_closed f below part.start open_left)
    ∙ ap (λ b. cond b (within text part below (followed f part)) None) (eq-eqb part.start part.start refl)
    ∙ ap (within text part below) fo

leaf_is : (text : List ℕ) (part : Part) → part.within ≡ 0 → part.start < part.end → part.end ≤ length text → is_leaf_text part.kind (slice_range text part.start part.end) ≡ true → is_leaf_of text part ≡ true
unfolding is_leaf_of
leaf_is text part none_within order inside good =
    and_from (part.within == 0 && ltb part.start part.end && leb part.end (length text)) (is_leaf_text part.kind (slice_range text part.start part.end))
    (and_from (part.within == 0 && ltb part.start part.end) (leb part.end (length text)) (and_from (part.within == 0) (ltb part.start part.end) (eq-eqb part.within 0 none_within) (lt-ltb part.start part.end order)) (le-leb part.end (length text) inside)) good

within_leaf : (text : List ℕ) (part : Part) (next : Frame) (below : List Frame) → is_leaf part.kind ≡ true → is_leaf_of text part ≡ true → within text part below (Some next) ≡ Some (place next below part.end)
unfolding place
within_leaf text part next below is good =
    ap (λ b. cond b (cond (is_leaf_of text part) (Some (record { top = next; below = below; at = part.end })) None) (Some (record { top = opened part; below = next ∷ below; at = part.start }))) is
    ∙ ap (λ b. cond b (Some (record { top = next; below = below; at = part.end })) None) good

within_tree : (text : List ℕ) (part : Part) (next : Frame) (below : List Frame) → is_leaf part.kind ≡ false → within text part below (Some next) ≡ Some (place (opened part) (next ∷ below) part.start)
unfolding place
within_tree text part next below is =
    ap (λ b. cond b (cond (is_leaf_of text part) (Some (record { top = next; below = below; at = part.end })) None) (Some (record { top = opened part; below = next ∷ below; at = part.start }))) is

ends_here : (f : Frame) (at : ℕ) → f.end ≡ at → may_end f.kind f.state ≡ true → ends_at f at ≡ true
unfolding ends_at
ends_here f at here may = and_from (f.end == at) (may_end f.kind f.state) (eq-eqb f.end at here) may

-- ---- all parts within one

-- A walk over the parts within one leads to its end.
record Reaches (text : List ℕ) (kind : Kind) (state at : ℕ) (parts : List Part) (end : ℕ) : Type 0 where
  final : ℕ
  ends : may_end kind final ≡ true
  leads : (left : ℕ) (below : List Frame) (more : List Part) → goes text (parts ++ more) (place (frame kind state end (left + length parts)) below at) ≡ goes text more (place (frame kind final end left) below end)

reaches_leaf : (text : List ℕ) (kind : Kind) (state next end : ℕ) (part : Part) (rest : List Part) → is_leaf part.kind ≡ true → is_leaf_of text part ≡ true → part.within ≡ 0 → next_state kind state part.kind ≡ Some next
    → Reaches text kind next part.end rest end → Reaches text kind state part.start (part ∷ rest) end
unfolding frame
reaches_leaf text kind state next end part rest is good count e r = record {
  final = r.final;
  ends = r.ends;
  leads = λ left below more.
      let f : Frame = record { kind = kind; state = state; end = end; left = left + length (part ∷ rest) } in
      let n : left + length (part ∷ rest) - part.within - 1 ≡ left + length rest = omega (arith, count) in
      let to = followed_is f part next (omega (arith, count)) e ∙ ap (λ k. Some (frame kind next end k)) n in
      let open_left : (left + length (part ∷ rest) == 0) ≡ false = not_zero (left + length (part ∷ rest)) (omega arith) in
      ap (goes_on (goes text (rest ++ more))) (turns text part f (frame kind next end (left + length rest)) below open_left to ∙ within_leaf text part (frame kind next end (left + length rest)) below is good)
      ∙ r.leads left below more;
}

reaches_tree : (text : List ℕ) (kind : Kind) (state next end : ℕ) (part : Part) (inner rest : List Part) → is_leaf part.kind ≡ false → part.within ≡ length inner → Reaches text part.kind 0 part.start inner part.end
    → next_state kind state part.kind ≡ Some next → Reaches text kind next part.end rest end → Reaches text kind state part.start (part ∷ (inner ++ rest)) end
unfolding frame place
reaches_tree text kind state next end part inner rest is count i e r = record {
  final = r.final;
  ends = r.ends;
  leads = λ left below more.
      let f : Frame = record { kind = kind; state = state; end = end; left = left + length (part ∷ (inner ++ rest)) } in
      let g : Frame = record { kind = kind; state = next; end = end; left = left + length rest } in
      let h : Frame = record { kind = part.kind; state = i.final; end = part.end; left = 0 } in
      let n : left + length (part ∷ (inner ++ rest)) - part.within - 1 ≡ left + length rest = omega (arith, count, length-append inner rest) in
      let to = followed_is f part next (omega (arith, count, length-append inner rest)) e ∙ ap (λ k. Some (frame kind next end k)) n in
      let open_left : (left + length (part ∷ (inner ++ rest)) == 0) ≡ false = not_zero (left + length (part ∷ (inner ++ rest))) (omega arith) in
      let all : part.within ≡ 0 + length inner = omega (arith, count) in
      ap (goes_on (goes text ((inner ++ rest) ++ more))) (turns text part f g below open_left to ∙ within_tree text part g below is)
      ∙ ap (λ ps. goes text ps (place (opened part) (g ∷ below) part.start)) (append_assoc inner rest more)
      ∙ ap (λ k. goes text (inner ++ (rest ++ more)) (place (frame part.kind 0 part.end k) (g ∷ below) part.start)) all
      ∙ i.leads 0 (g ∷ below) (rest ++ more)
      ∙ goes_closed text (rest ++ more) (place h (g ∷ below) part.end) (place g below part.end) (ended_closed h g below part.end refl (ends_here h part.end refl i.ends))
      ∙ r.leads left below more;
}

reaches_none : (text : List ℕ) (kind : Kind) (state at : ℕ) → may_end kind state ≡ true → Reaches text kind state at [] at
reaches_none text kind state at e = record {
  final = state;
  ends = e;
  leads = λ left below more. let n : left + 0 ≡ left = omega arith in ap (λ k. goes text more (place (frame kind state at k) below at)) n;
}

reaches : {text : List ℕ} {kind : Kind} {state at end : ℕ} {parts : List Part} → AreWithin text kind state at parts end → Reaches text kind state at parts end
reaches {text} (none {kind} {state} {at} e) = reaches_none text kind state at e
reaches {text} (leaf {kind} {state} {next} {end} {part} {rest} is count order inside good e w) =
    reaches_leaf text kind state next end part rest is (leaf_is text part count order inside good) count e (reaches w)
reaches {text} (tree {kind} {state} {next} {end} {part} {inner} {rest} is count v e w) = reaches_tree text kind state next end part inner rest is count (reaches v) e (reaches w)

reached : (text : List ℕ) (parts : List Part) (final : ℕ) (top : Frame) → may_end top.kind top.state ≡ true → top.end ≡ length text → top.left ≡ 0 → is_last (Some (place top [] (length text))) ≡ true
unfolding place
reached text parts final top may end left = and_from (true && top.left == 0) (ends_at top (length text)) (eq-eqb top.left 0 left) (ends_here top (length text) end may)

pub walk_complete : (text : List ℕ) (parts : List Part) → IsTree text parts → goes text parts (first text parts) ≡ true
unfolding frame place
walk_complete text parts is =
    let r = reaches is in
    let n : length parts ≡ 0 + length parts = omega arith in
    ap (λ ps. goes text ps (first text parts)) (sym (append-nil parts))
    ∙ ap (λ k. goes text (parts ++ []) (place (frame kinds.Source 0 (length text) k) [] 0)) n
    ∙ r.leads 0 [] []
    ∙ reached text parts r.final (frame kinds.Source r.final (length text) 0) r.ends refl refl
