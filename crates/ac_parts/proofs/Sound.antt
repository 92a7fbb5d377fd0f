-- What is open at a place of a walk that goes to the end is filled by the parts that are left.
use Rattle.std.proofs.Common.{◌≡◌, ℕ, ◌+◌, ◌-◌, ◌<◌, ◌≤◌, ◌==◌, Bool, true, false, cond, leb, ltb, List, [], ◌∷◌, ◌++◌, length, Option, Some, None, refl, sym, ap, subst, ◌∙◌, arith}
use Rattle.std.proofs.lemmas.Bool.{and_parts, eqb-true, ltb-true, leb-true, leb-false}
use Rattle.std.proofs.lemmas.List.{append_assoc}
use Rattle.std.proofs.lemmas.List.{length-append}
use Rattle.std.specs.Prelude.{◌&&◌, slice_range}
use Rattle.ac_parts.specs.declared.kind.Part.{Part}
use Rattle.ac_parts.specs.declared.walk.Frame.{Frame}
use Rattle.ac_parts.specs.Leaves.{is_leaf_text}
use Rattle.ac_parts.specs.Shapes.{is_leaf, next_state, may_end}
use Rattle.ac_parts.specs.Trees.{AreWithin, none, leaf, tree, IsTree}
use Rattle.ac_parts.specs.Walks.{Place, opened, followed_to, followed, ends_at, is_leaf_of, closed, within, passed, turned, is_outermost, is_last, goes_on, goes, first}

-- The parts fill those that are open, from the inside out.
data Fills (text : List ℕ) : Frame → List Frame → ℕ → List Part → Type 0 where
  last : {f : Frame} {at : ℕ} {parts : List Part} → AreWithin text f.kind f.state at parts f.end → f.left ≡ length parts → Fills text f [] at parts
  more : {f g : Frame} {gs : List Frame} {at : ℕ} {inner rest : List Part}
      → AreWithin text f.kind f.state at inner f.end → f.left ≡ length inner → Fills text g gs f.end rest → Fills text f (g ∷ gs) at (inner ++ rest)

some_is : {A : Type 0} {a b : A} → Some a ≡ Some b → a ≡ b
some_is {a} {b} e = cc

-- ---- parts that end

ended : (f : Frame) (at : ℕ) → ends_at f at ≡ true → (f.end ≡ at) × (may_end f.kind f.state ≡ true)
unfolding ends_at
ended f at e = let parts = and_parts (f.end == at) (may_end f.kind f.state) e in (eqb-true f.end at parts.0, parts.1)

fills_ended : (text : List ℕ) (top next : Frame) (below : List Frame) (at : ℕ) (parts : List Part) → top.left ≡ 0 → ends_at top at ≡ true → Fills text next below at parts → Fills text top (next ∷ below) at parts
fills_ended text top next below at parts left ends fills =
    let e = ended top at ends in
    more {inner = []} (subst (λ end. AreWithin text top.kind top.state at [] end) (sym e.0) (none e.1)) left (subst (λ end. Fills text next below end parts) (sym e.0) fills)

closed_by : (text : List ℕ) (top next : Frame) (below : List Frame) (at : ℕ) (place : Place) (parts : List Part) (b c : Bool) → (top.left == 0) ≡ b → ends_at top at ≡ c
    → (closed next below at ≡ Some place → Fills text next below at parts)
    → cond b (cond c (closed next below at) None) (Some (record { top = top; below = next ∷ below; at = at })) ≡ Some place
    → Fills text place.top place.below place.at parts → Fills text top (next ∷ below) at parts
closed_by text top next below at place parts true true none_left ends inner e fills = fills_ended text top next below at parts (eqb-true top.left 0 none_left) ends (inner e)
closed_by text top next below at place parts true false none_left ends inner e fills = absurd (cc)
closed_by text top next below at place parts false c none_left ends inner e fills =
    let is : record { top = top; below = next ∷ below; at = at } ≡ place = some_is e in
    subst (λ p. Fills text p.top p.below p.at parts) (sym is) fills

closed_fills : (text : List ℕ) (top : Frame) (below : List Frame) (at : ℕ) (place : Place) (parts : List Part) → closed top below at ≡ Some place → Fills text place.top place.below place.at parts
    → Fills text top below at parts
closed_fills text top [] at place parts e fills =
    let is : record { top = top; below = []; at = at } ≡ place = some_is e in
    subst (λ p. Fills text p.top p.below p.at parts) (sym is) fills
closed_fills text top (next ∷ below) at place parts e fills =
    closed_by text top next below at place parts (top.left == 0) (ends_at top at) refl refl (λ inner. closed_fills text next below at place parts inner fills) e fills

-- ---- a part that follows

-- The part that is open is the same one after a part within it.
record Follows (f : Frame) (part : Part) (next : Frame) : Type 0 where
  kind : next.kind ≡ f.kind
  end : next.end ≡ f.end
  state : next_state f.kind f.state part.kind ≡ Some next.state
  left : f.left ≡ next.left + part.within + 1

follows_to : (f : Frame) (part : Part) (o : Option ℕ) (next : Frame) → next_state f.kind f.state part.kind ≡ o → part.within < f.left → followed_to f part o ≡ Some next → Follows f part next
follows_to f part None next is less e = absurd (cc)
follows_to f part (Some state) next is less e =
    let same : record { kind = f.kind; state = state; end = f.end; left = f.left - part.within - 1 } ≡ next = some_is e in
    subst (Follows f part) same (record { kind = refl; end = refl; state = is; left = omega (arith, less) })

follows_by : (f : Frame) (part : Part) (next : Frame) (b : Bool) → leb f.left part.within ≡ b → cond b None (followed_to f part (next_state f.kind f.state part.kind)) ≡ Some next → Follows f part next
follows_by f part next true is e = absurd (cc)
follows_by f part next false is e = follows_to f part (next_state f.kind f.state part.kind) next refl (leb-false f.left part.within is) e

follows : (f : Frame) (part : Part) (next : Frame) → followed f part ≡ Some next → Follows f part next
unfolding followed
follows f part next e = follows_by f part next (leb f.left part.within) refl e

-- What fills the part that is open after a part, fills it before that part with it.
record AlsoFills (text : List ℕ) (f next : Frame) (below : List Frame) (at : ℕ) (before : List Part) : Type 0 where
  fills : (parts : List Part) → Fills text next below at parts → Fills text f below at (before ++ parts)

within_f : (text : List ℕ) (f next : Frame) (part : Part) (state at : ℕ) (parts : List Part) → Follows f part next → AreWithin text next.kind state at parts next.end → AreWithin text f.kind state at parts f.end
within_f text f next part state at parts fo w = subst (λ k. AreWithin text k state at parts f.end) fo.kind (subst (λ e. AreWithin text next.kind state at parts e) fo.end w)

fills_leaf : (text : List ℕ) (f next : Frame) (below : List Frame) (part : Part) (at : ℕ) (parts : List Part) → Follows f part next → is_leaf part.kind ≡ true → part.within ≡ 0 → part.start < part.end
    → part.end ≤ length text → is_leaf_text part.kind (slice_range text part.start part.end) ≡ true → at ≡ part.end → Fills text next below at parts → Fills text f below part.start (part ∷ parts)
fills_leaf text f next [] part at parts fo is w0 order inside good here (last {parts = ps} w l) =
    last (leaf is w0 order inside good fo.state (within_f text f next part next.state part.end ps fo (subst (λ a. AreWithin text next.kind next.state a ps next.end) here w))) (omega (arith, fo.left, l, w0))
fills_leaf text f next (g ∷ gs) part at parts fo is w0 order inside good here (more {inner} {rest} w l fills) =
    more {inner = part ∷ inner} {rest = rest} (leaf is w0 order inside good fo.state (within_f text f next part next.state part.end inner fo (subst (λ a. AreWithin text next.kind next.state a inner next.end) here w)))
    (omega (arith, fo.left, l, w0)) (subst (λ e. Fills text g gs e rest) fo.end fills)

fills_tree : (text : List ℕ) (f next : Frame) (below : List Frame) (part : Part) (inner rest : List Part) → Follows f part next → is_leaf part.kind ≡ false → part.within ≡ length inner
    → AreWithin text part.kind 0 part.start inner part.end → Fills text next below part.end rest → Fills text f below part.start (part ∷ (inner ++ rest))
fills_tree text f next [] part inner rest fo is count w (last {parts = ps} v l) =
    last (tree is count w fo.state (within_f text f next part next.state part.end ps fo v)) (omega (arith, fo.left, l, count, length-append inner ps))
fills_tree text f next (g ∷ gs) part inner rest fo is count w (more {inner = between} {rest = after} v l fills) =
    subst (λ ps. Fills text f (g ∷ gs) part.start (part ∷ ps)) (append_assoc inner between after)
    (more {inner = part ∷ (inner ++ between)} {rest = after} (tree is count w fo.state (within_f text f next part next.state part.end between fo v))
    (omega (arith, fo.left, l, count, length-append inner between)) (subst (λ e. Fills text g gs e after) fo.end fills))

fills_opened : (text : List ℕ) (f next top : Frame) (below : List Frame) (part : Part) (parts : List Part) → Follows f part next → is_leaf part.kind ≡ false → top ≡ opened part
    → Fills text top (next ∷ below) part.start parts → Fills text f below part.start (part ∷ parts)
fills_opened text f next top below part parts fo is same (more {inner} {rest} w l fills) =
    fills_tree text f next below part inner rest fo is (sym (ap (λ t. t.left) same) ∙ l)
    (subst (λ t. AreWithin text t.kind t.state part.start inner t.end) same w) (subst (λ t. Fills text next below t.end rest) same fills)

-- ---- a turn

leaf_parts : (text : List ℕ) (part : Part) → is_leaf_of text part ≡ true
    → (part.within ≡ 0) × (part.start < part.end) × (part.end ≤ length text) × (is_leaf_text part.kind (slice_range text part.start part.end) ≡ true)
unfolding is_leaf_of
leaf_parts text part e =
    let one = and_parts (part.within == 0 && ltb part.start part.end && leb part.end (length text)) (is_leaf_text part.kind (slice_range text part.start part.end)) e in
    let two = and_parts (part.within == 0 && ltb part.start part.end) (leb part.end (length text)) one.0 in
    let three = and_parts (part.within == 0) (ltb part.start part.end) two.0 in
    (eqb-true part.within 0 three.0, ltb-true part.start part.end three.1, leb-true part.end (length text) two.1, one.1)

within_fills : (text : List ℕ) (f next : Frame) (below : List Frame) (part : Part) (place : Place) (parts : List Part) (b c : Bool) → Follows f part next → is_leaf part.kind ≡ b → is_leaf_of text part ≡ c
    → cond b (cond c (Some (record { top = next; below = below; at = part.end })) None) (Some (record { top = opened part; below = next ∷ below; at = part.start })) ≡ Some place
    → Fills text place.top place.below place.at parts → Fills text f below part.start (part ∷ parts)
within_fills text f next below part place parts true true fo is good e fills =
    let same : record { top = next; below = below; at = part.end } ≡ place = some_is e in
    let l = leaf_parts text part good in
    fills_leaf text f next below part part.end parts fo is l.0 l.1 l.2 l.3 refl (subst (λ p. Fills text p.top p.below p.at parts) (sym same) fills)
within_fills text f next below part place parts true false fo is good e fills = absurd (cc)
within_fills text f next below part place parts false c fo is good e fills =
    let same : record { top = opened part; below = next ∷ below; at = part.start } ≡ place = some_is e in
    fills_opened text f next (opened part) below part parts fo is refl (subst (λ p. Fills text p.top p.below p.at parts) (sym same) fills)

followed_fills : (text : List ℕ) (f : Frame) (below : List Frame) (part : Part) (place : Place) (parts : List Part) (o : Option Frame) → followed f part ≡ o → within text part below o ≡ Some place
    → Fills text place.top place.below place.at parts → Fills text f below part.start (part ∷ parts)
followed_fills text f below part place parts None is e fills = absurd (cc)
followed_fills text f below part place parts (Some next) is e fills = within_fills text f next below part place parts (is_leaf part.kind) (is_leaf_of text part) (follows f part next is) refl refl e fills

passed_by : (text : List ℕ) (part : Part) (mid place : Place) (parts : List Part) (b : Bool) → (part.start == mid.at) ≡ b → cond b (within text part mid.below (followed mid.top part)) None ≡ Some place
    → Fills text place.top place.below place.at parts → Fills text mid.top mid.below mid.at (part ∷ parts)
passed_by text part mid place parts true is e fills =
    let here = eqb-true part.start mid.at is in
    subst (λ a. Fills text mid.top mid.below a (part ∷ parts)) here (followed_fills text mid.top mid.below part place parts (followed mid.top part) refl e fills)
passed_by text part mid place parts false is e fills = absurd (cc)

passed_fills : (text : List ℕ) (part : Part) (place next : Place) (parts : List Part) (o : Option Place) → closed place.top place.below place.at ≡ o → passed text part o ≡ Some next
    → Fills text next.top next.below next.at parts → Fills text place.top place.below place.at (part ∷ parts)
passed_fills text part place next parts None is e fills = absurd (cc)
passed_fills text part place next parts (Some mid) is e fills =
    closed_fills text place.top place.below place.at mid (part ∷ parts) is (passed_by text part mid next parts (part.start == mid.at) refl e fills)

-- ---- the whole walk

last_fills : (text : List ℕ) (place : Place) (below : List Frame) → place.below ≡ below → (is_outermost below && place.top.left == 0 && ends_at place.top place.at) ≡ true → Fills text place.top below place.at []
last_fills text place [] is e =
    let one = and_parts (place.top.left == 0) (ends_at place.top place.at) e in
    let end = ended place.top place.at one.1 in
    last (subst (λ a. AreWithin text place.top.kind place.top.state place.at [] a) (sym end.0) (none end.1)) (eqb-true place.top.left 0 one.0)
last_fills text place (g ∷ gs) is e = absurd (cc)

ends_filled : (text : List ℕ) (place : Place) (o : Option Place) → closed place.top place.below place.at ≡ o → is_last o ≡ true → Fills text place.top place.below place.at []
ends_filled text place None is e = absurd (cc)
ends_filled text place (Some mid) is e = closed_fills text place.top place.below place.at mid [] is (last_fills text mid mid.below refl e)

goes_next : (text : List ℕ) (part : Part) (parts : List Part) (place : Place) (o : Option Place) → turned text part place ≡ o → goes_on (goes text parts) o ≡ true
    → ((next : Place) → goes text parts next ≡ true → Fills text next.top next.below next.at parts) → Fills text place.top place.below place.at (part ∷ parts)
goes_next text part parts place None is e inner = absurd (cc)
goes_next text part parts place (Some next) is e inner = passed_fills text part place next parts (closed place.top place.below place.at) refl is (inner next e)

goes_filled : (text : List ℕ) (parts : List Part) (place : Place) → goes text parts place ≡ true → Fills text place.top place.below place.at parts
goes_filled text [] place e = ends_filled text place (closed place.top place.below place.at) refl e
goes_filled text (part ∷ parts) place e = goes_next text part parts place (turned text part place) refl e (goes_filled text parts)

outermost : (text : List ℕ) (top : Frame) (parts : List Part) → Fills text top [] 0 parts → AreWithin text top.kind top.state 0 parts top.end
outermost text top parts (last w l) = w

pub walk_sound : (text : List ℕ) (parts : List Part) → goes text parts (first text parts) ≡ true → IsTree text parts
walk_sound text parts e = outermost text (first text parts).top parts (goes_filled text parts (first text parts) e)
