-- What the matcher finds is a match.
use Rattle.std.proofs.Common.{◌≡◌, ℕ, ◌+◌, ◌-◌, ◌≤◌, ◌==◌, Bool, true, false, cond, leb, List, [], ◌∷◌, ◌++◌, length, take, drop, Option, Some, None, refl, sym, ap, subst, ◌∙◌, arith}
use Rattle.std.specs.Prelude.{◌&&◌}
use Rattle.std.specs.List.{list_all}
use Rattle.std.proofs.lemmas.Bool.{and_parts, eqb-true, leb-true}
use Rattle.std.proofs.lemmas.List.{append_assoc, append-nil, length-append, length-take-le, take-append-drop, take_at}
use Rattle.ac_parts.specs.declared.kind.Kind.{Kind}
use Rattle.ac_parts.specs.declared.kind.Part.{Part}
use Rattle.ac_parts.specs.Shapes.{is_kind}
use Rattle.port_match.specs.declared.pattern.Pat.{Pat}
use Rattle.port_match.specs.declared.pattern.Pat.TheVariants.{Open, Close, One, Named, Many, Gaps}
use Rattle.port_match.specs.declared.pattern.Piece.{Piece}
use Rattle.port_match.specs.declared.pattern.Bound.{Bound}
use Rattle.port_match.specs.Matches.{is_gap, is_named, ArePieces, no_piece, piece, AreRounds, no_round, round, IsMatch, nothing, one, within, named, many, gaps, word_of, pieces_of}
use Rattle.port_match.specs.Matcher.{At, is_whole, one_step, open_step, close_step, named_step, after_gaps, are_next, pieces_to, rounds, stepped, then_to, matched}

-- A pattern leads from some parts to others, and out of the parts that are open, at the end of each.
data Reaches (text : List ℕ) : List Pat → List Part → List ℕ → List Bound → List Part → Type 0 where
  flat : {pats : List Pat} {parts front rest : List Part} {bounds : List Bound} → parts ≡ front ++ rest → IsMatch text pats front bounds → Reaches text pats parts [] bounds rest
  up : {pats before after : List Pat} {parts inner more rest : List Part} {end : ℕ} {ends : List ℕ} {bounds first second : List Bound}
      → pats ≡ before ++ (Close ∷ after) → parts ≡ inner ++ more → bounds ≡ first ++ second → length more ≡ end → IsMatch text before inner first → Reaches text after more ends second rest
      → Reaches text pats parts (end ∷ ends) bounds rest

some_is : {A : Type 0} {a b : A} → Some a ≡ Some b → a ≡ b
some_is {a} {b} e = cc

whole : (kind : Kind) (part : Part) (rest : List Part) → is_whole kind part rest ≡ true → (is_kind part.kind kind ≡ true) × (part.within ≤ length rest)
unfolding is_whole
whole kind part rest e = let both = and_parts (is_kind part.kind kind) (leb part.within (length rest)) e in (both.0, leb-true part.within (length rest) both.1)

-- ---- an element before a match

one_reaches : (text : List ℕ) (kind : Kind) (slot : ℕ) (pats : List Pat) (part : Part) (rest : List Part) (ends : List ℕ) (bounds : List Bound) (to : List Part)
    → is_whole kind part rest ≡ true → Reaches text pats (drop part.within rest) ends bounds to → Reaches text (One kind slot ∷ pats) (part ∷ rest) ends (record { slot = slot; part = part } ∷ bounds) to
one_reaches text kind slot pats part rest [] bounds to is (flat {front} e m) =
    let w = whole kind part rest is in
    let n : part.within ≡ length (take part.within rest) = sym (length-take-le part.within rest w.1) in
    flat (ap (λ l. part ∷ l) (sym (take-append-drop part.within rest) ∙ ap (λ l. take part.within rest ++ l) e ∙ sym (append_assoc (take part.within rest) front to))) (one (take part.within rest) w.0 n m)
one_reaches text kind slot pats part rest (end ∷ ends) bounds to is (up {before} {after} {inner} {more} {first} {second} p e b n m r) =
    let w = whole kind part rest is in
    let k : part.within ≡ length (take part.within rest) = sym (length-take-le part.within rest w.1) in
    up (ap (λ l. One kind slot ∷ l) p) (ap (λ l. part ∷ l) (sym (take-append-drop part.within rest) ∙ ap (λ l. take part.within rest ++ l) e ∙ sym (append_assoc (take part.within rest) inner more)))
    (ap (λ l. record { slot = slot; part = part } ∷ l) b) n (one (take part.within rest) w.0 k m) r

named_reaches : (text : List ℕ) (pat : Pat) (word : List ℕ) (pats : List Pat) (part : Part) (rest : List Part) (ends : List ℕ) (bounds : List Bound) (to : List Part)
    → word_of pat ≡ Some word → is_named text word part ≡ true → Reaches text pats rest ends bounds to → Reaches text (pat ∷ pats) (part ∷ rest) ends bounds to
named_reaches text pat word pats part rest [] bounds to w is (flat e m) = flat (ap (λ l. part ∷ l) e) (named w is m)
named_reaches text pat word pats part rest (end ∷ ends) bounds to w is (up p e b n m r) = up (ap (λ l. pat ∷ l) p) (ap (λ l. part ∷ l) e) b n (named w is m) r

-- The gaps that parts begin with.
record Split (parts : List Part) : Type 0 where
  front : List Part
  all : list_all is_gap front ≡ true
  same : parts ≡ front ++ after_gaps parts

split_by : (part : Part) (rest : List Part) (b : Bool) → is_gap part ≡ b → Split rest → Split (part ∷ rest)
split_by part rest true is s = record {
  front = part ∷ s.front;
  all = ap (λ b. b && list_all is_gap s.front) is ∙ s.all;
  same = ap (λ l. part ∷ l) s.same ∙ ap (λ b. part ∷ (s.front ++ cond b (after_gaps rest) (part ∷ rest))) (sym is);
}
split_by part rest false is s = record { front = []; all = refl; same = ap (λ b. cond b (after_gaps rest) (part ∷ rest)) (sym is) }

split : (parts : List Part) → Split parts
split [] = record { front = []; all = refl; same = refl }
split (part ∷ rest) = split_by part rest (is_gap part) refl (split rest)

gaps_reach : (text : List ℕ) (pats : List Pat) (parts front left : List Part) (ends : List ℕ) (bounds : List Bound) (to : List Part)
    → list_all is_gap front ≡ true → parts ≡ front ++ left → Reaches text pats left ends bounds to → Reaches text (Gaps ∷ pats) parts ends bounds to
gaps_reach text pats parts front left [] bounds to all same (flat {front = more} e m) = flat (same ∙ ap (λ l. front ++ l) e ∙ sym (append_assoc front more to)) (gaps front all m)
gaps_reach text pats parts front left (end ∷ ends) bounds to all same (up {inner} {more} p e b n m r) =
    up (ap (λ l. Gaps ∷ l) p) (same ∙ ap (λ l. front ++ l) e ∙ sym (append_assoc front inner more)) b n (gaps front all m) r

-- From a place the matcher comes to another one over parts, with what the slots have of them.
record Over (From : List Part → List Bound → Type 0) (from to : At) : Type 0 where
  front : List Part
  has : List Bound
  same : from.left ≡ front ++ to.left
  added : to.bounds ≡ from.bounds ++ has
  ends : to.ends ≡ from.ends
  are : From front has

over_none : (From : List Part → List Bound → Type 0) (from to : At) → From [] [] → from ≡ to → Over From from to
over_none From from to are e = record {
  front = [];
  has = [];
  same = ap (λ p. p.left) e;
  added = sym (ap (λ p. p.bounds) e) ∙ sym (append-nil from.bounds);
  ends = sym (ap (λ p. p.ends) e);
  are = are;
}

piece_by : (it : Piece) (pieces : List Piece) (from to : At) (part : Part) (rest : List Part) (t : Bool) → is_whole it.0 part rest ≡ t → from.left ≡ part ∷ rest
    → ((at : At) → pieces_to pieces at ≡ Some to → Over (ArePieces pieces) at to)
    → then_to (pieces_to pieces) (cond t (Some (record { left = drop part.within rest; ends = from.ends; bounds = from.bounds ++ record { slot = it.1; part = part } ∷ [] })) None) ≡ Some to
    → Over (ArePieces (it ∷ pieces)) from to
piece_by it pieces from to part rest false is left inner e = absurd (cc)
piece_by it pieces from to part rest true is left inner e =
    let b : Bound = record { slot = it.1; part = part } in
    let r = inner (record { left = drop part.within rest; ends = from.ends; bounds = from.bounds ++ b ∷ [] }) e in
    let w = whole it.0 part rest is in
    let n : part.within ≡ length (take part.within rest) = sym (length-take-le part.within rest w.1) in
    record {
      front = part ∷ (take part.within rest ++ r.front);
      has = b ∷ r.has;
      same = left ∙ ap (λ l. part ∷ l) (sym (take-append-drop part.within rest) ∙ ap (λ l. take part.within rest ++ l) r.same ∙ sym (append_assoc (take part.within rest) r.front to.left));
      added = r.added ∙ append_assoc from.bounds (b ∷ []) r.has;
      ends = r.ends;
      are = piece (take part.within rest) w.0 n r.are;
    }

piece_over : (it : Piece) (pieces : List Piece) (from to : At) (parts : List Part) → from.left ≡ parts → ((at : At) → pieces_to pieces at ≡ Some to → Over (ArePieces pieces) at to)
    → then_to (pieces_to pieces) (one_step it.0 it.1 parts from) ≡ Some to → Over (ArePieces (it ∷ pieces)) from to
piece_over it pieces from to [] left inner e = absurd (cc)
piece_over it pieces from to (part ∷ rest) left inner e = piece_by it pieces from to part rest (is_whole it.0 part rest) refl left inner e

pieces_over : (pieces : List Piece) (to from : At) → pieces_to pieces from ≡ Some to → Over (ArePieces pieces) from to
pieces_over [] to from e = over_none (ArePieces []) from to no_piece (some_is e)
pieces_over (it ∷ pieces) to from e = piece_over it pieces from to from.left refl (pieces_over pieces to) e

round_over : (pieces : List Piece) (turns : List Part) (from to : At) (o : Option At) → pieces_to pieces from ≡ o → ((at : At) → rounds turns pieces at ≡ Some to → Over (AreRounds pieces) at to)
    → then_to (rounds turns pieces) o ≡ Some to → Over (AreRounds pieces) from to
round_over pieces turns from to None is inner e = absurd (cc)
round_over pieces turns from to (Some mid) is inner e =
    let p = pieces_over pieces mid from is in
    let r = inner mid e in
    record {
      front = p.front ++ r.front;
      has = p.has ++ r.has;
      same = p.same ∙ ap (λ l. p.front ++ l) r.same ∙ sym (append_assoc p.front r.front to.left);
      added = r.added ∙ ap (λ l. l ++ r.has) p.added ∙ append_assoc from.bounds p.has r.has;
      ends = r.ends ∙ p.ends;
      are = round p.are r.are;
    }

rounds_by : (pieces : List Piece) (turns : List Part) (from to : At) (t : Bool) → ((at : At) → rounds turns pieces at ≡ Some to → Over (AreRounds pieces) at to)
    → cond t (then_to (rounds turns pieces) (pieces_to pieces from)) (Some from) ≡ Some to → Over (AreRounds pieces) from to
rounds_by pieces turns from to true inner e = round_over pieces turns from to (pieces_to pieces from) refl inner e
rounds_by pieces turns from to false inner e = over_none (AreRounds pieces) from to no_round (some_is e)

rounds_over : (turns : List Part) (pieces : List Piece) (to from : At) → rounds turns pieces from ≡ Some to → Over (AreRounds pieces) from to
rounds_over [] pieces to from e = over_none (AreRounds pieces) from to no_round (some_is e)
rounds_over (turn ∷ turns) pieces to from e = rounds_by pieces turns from to (are_next pieces from.left) (rounds_over turns pieces to) e

many_reaches : (text : List ℕ) (pat : Pat) (pieces : List Piece) (pats : List Pat) (parts front left : List Part) (ends : List ℕ) (has bounds : List Bound) (to : List Part)
    → pieces_of pat ≡ Some pieces → AreRounds pieces front has → parts ≡ front ++ left → Reaches text pats left ends bounds to → Reaches text (pat ∷ pats) parts ends (has ++ bounds) to
many_reaches text pat pieces pats parts front left [] has bounds to w are same (flat {front = more} e m) = flat (same ∙ ap (λ l. front ++ l) e ∙ sym (append_assoc front more to)) (many w are m)
many_reaches text pat pieces pats parts front left (end ∷ ends) has bounds to w are same (up {inner} {more} {first} {second} p e b n m r) =
    up (ap (λ l. pat ∷ l) p) (same ∙ ap (λ l. front ++ l) e ∙ sym (append_assoc front inner more)) (ap (λ l. has ++ l) b ∙ sym (append_assoc has first second)) n (many w are m) r

open_reaches : (text : List ℕ) (kind : Kind) (pats : List Pat) (part : Part) (rest : List Part) (end : ℕ) (ends : List ℕ) (bounds : List Bound) (to : List Part)
    → is_whole kind part rest ≡ true → length rest - part.within ≡ end → Reaches text pats rest (end ∷ ends) bounds to → Reaches text (Open kind ∷ pats) (part ∷ rest) ends bounds to
open_reaches text kind pats part rest end [] bounds to is size (up {before} {after} {inner} {more} {first} p e b n m (flat {front} {bounds = second} f m2)) =
    let w = whole kind part rest is in
    let k : part.within ≡ length inner = omega (arith, w.1, size, n, ap length e, length-append inner more) in
    let parts = e ∙ ap (λ l. inner ++ l) f ∙ sym (append_assoc inner front to) in
    subst (λ ps. Reaches text (Open kind ∷ ps) (part ∷ rest) [] bounds to) (sym p)
    (subst (λ bs. Reaches text (Open kind ∷ (before ++ (Close ∷ after))) (part ∷ rest) [] bs to) (sym b) (flat (ap (λ l. part ∷ l) parts) (within w.0 k m m2)))
open_reaches text kind pats part rest end (out ∷ ends) bounds to is size (up {before} {after} {inner} {more} {first} {second} p e b n m (up {before = before2} {after = after2} {inner = inner2} {more = more2} {first = first2} {second = second2} p2 e2 b2 n2 m2 r)) =
    let w = whole kind part rest is in
    let k : part.within ≡ length inner = omega (arith, w.1, size, n, ap length e, length-append inner more) in
    let ps = ap (λ l. Open kind ∷ l) (p ∙ ap (λ l. before ++ (Close ∷ l)) p2 ∙ sym (append_assoc before (Close ∷ before2) (Close ∷ after2))) in
    let parts = ap (λ l. part ∷ l) (e ∙ ap (λ l. inner ++ l) e2 ∙ sym (append_assoc inner inner2 more2)) in
    let bs = b ∙ ap (λ l. first ++ l) b2 ∙ sym (append_assoc first first2 second2) in
    up ps parts bs n2 (within w.0 k m m2) r

-- ---- a pattern

-- From a place the matcher comes to another one, where nothing is open.
record Comes (text : List ℕ) (pats : List Pat) (from to : At) : Type 0 where
  bounds : List Bound
  added : to.bounds ≡ from.bounds ++ bounds
  reaches : Reaches text pats from.left from.ends bounds to.left

abbrev Sound : List ℕ → List Pat → At → Type 0
Sound text pats to = (from : At) → matched text pats from ≡ Some to → Comes text pats from to

sound_one_by : (text : List ℕ) (kind : Kind) (slot : ℕ) (pats : List Pat) (from to : At) (part : Part) (rest : List Part) (t : Bool) → is_whole kind part rest ≡ t → from.left ≡ part ∷ rest → Sound text pats to
    → then_to (matched text pats) (cond t (Some (record { left = drop part.within rest; ends = from.ends; bounds = from.bounds ++ record { slot = slot; part = part } ∷ [] })) None) ≡ Some to
    → Comes text (One kind slot ∷ pats) from to
sound_one_by text kind slot pats from to part rest false is left sound e = absurd (cc)
sound_one_by text kind slot pats from to part rest true is left sound e =
    let r = sound (record { left = drop part.within rest; ends = from.ends; bounds = from.bounds ++ record { slot = slot; part = part } ∷ [] }) e in
    record {
      bounds = record { slot = slot; part = part } ∷ r.bounds;
      added = r.added ∙ append_assoc from.bounds (record { slot = slot; part = part } ∷ []) r.bounds;
      reaches = subst (λ l. Reaches text (One kind slot ∷ pats) l from.ends (record { slot = slot; part = part } ∷ r.bounds) to.left) (sym left)
          (one_reaches text kind slot pats part rest from.ends r.bounds to.left is r.reaches);
    }

sound_one : (text : List ℕ) (kind : Kind) (slot : ℕ) (pats : List Pat) (from to : At) (parts : List Part) → from.left ≡ parts → Sound text pats to → then_to (matched text pats) (one_step kind slot parts from) ≡ Some to
    → Comes text (One kind slot ∷ pats) from to
sound_one text kind slot pats from to [] left sound e = absurd (cc)
sound_one text kind slot pats from to (part ∷ rest) left sound e = sound_one_by text kind slot pats from to part rest (is_whole kind part rest) refl left sound e

sound_named_by : (text : List ℕ) (pat : Pat) (word : List ℕ) (pats : List Pat) (from to : At) (part : Part) (rest : List Part) (t : Bool) → word_of pat ≡ Some word → is_named text word part ≡ t → from.left ≡ part ∷ rest
    → Sound text pats to → then_to (matched text pats) (cond t (Some (record { left = rest; ends = from.ends; bounds = from.bounds })) None) ≡ Some to → Comes text (pat ∷ pats) from to
sound_named_by text pat word pats from to part rest false w is left sound e = absurd (cc)
sound_named_by text pat word pats from to part rest true w is left sound e =
    let r = sound (record { left = rest; ends = from.ends; bounds = from.bounds }) e in
    record {
      bounds = r.bounds;
      added = r.added;
      reaches = subst (λ l. Reaches text (pat ∷ pats) l from.ends r.bounds to.left) (sym left) (named_reaches text pat word pats part rest from.ends r.bounds to.left w is r.reaches);
    }

sound_named : (text : List ℕ) (pat : Pat) (word : List ℕ) (pats : List Pat) (from to : At) (parts : List Part) → word_of pat ≡ Some word → from.left ≡ parts → Sound text pats to
    → then_to (matched text pats) (named_step text word parts from) ≡ Some to → Comes text (pat ∷ pats) from to
sound_named text pat word pats from to [] w left sound e = absurd (cc)
sound_named text pat word pats from to (part ∷ rest) w left sound e = sound_named_by text pat word pats from to part rest (is_named text word part) w refl left sound e

sound_open_by : (text : List ℕ) (kind : Kind) (pats : List Pat) (from to : At) (part : Part) (rest : List Part) (t : Bool) → is_whole kind part rest ≡ t → from.left ≡ part ∷ rest → Sound text pats to
    → then_to (matched text pats) (cond t (Some (record { left = rest; ends = (length rest - part.within) ∷ from.ends; bounds = from.bounds })) None) ≡ Some to → Comes text (Open kind ∷ pats) from to
sound_open_by text kind pats from to part rest false is left sound e = absurd (cc)
sound_open_by text kind pats from to part rest true is left sound e =
    let r = sound (record { left = rest; ends = (length rest - part.within) ∷ from.ends; bounds = from.bounds }) e in
    record {
      bounds = r.bounds;
      added = r.added;
      reaches = subst (λ l. Reaches text (Open kind ∷ pats) l from.ends r.bounds to.left) (sym left) (open_reaches text kind pats part rest (length rest - part.within) from.ends r.bounds to.left is refl r.reaches);
    }

sound_open : (text : List ℕ) (kind : Kind) (pats : List Pat) (from to : At) (parts : List Part) → from.left ≡ parts → Sound text pats to → then_to (matched text pats) (open_step kind parts from) ≡ Some to
    → Comes text (Open kind ∷ pats) from to
sound_open text kind pats from to [] left sound e = absurd (cc)
sound_open text kind pats from to (part ∷ rest) left sound e = sound_open_by text kind pats from to part rest (is_whole kind part rest) refl left sound e

sound_close_by : (text : List ℕ) (pats : List Pat) (from to : At) (end : ℕ) (ends : List ℕ) (t : Bool) → (length from.left == end) ≡ t → from.ends ≡ end ∷ ends → Sound text pats to
    → then_to (matched text pats) (cond t (Some (record { left = from.left; ends = ends; bounds = from.bounds })) None) ≡ Some to → Comes text (Close ∷ pats) from to
sound_close_by text pats from to end ends false is open_ends sound e = absurd (cc)
sound_close_by text pats from to end ends true is open_ends sound e =
    let r = sound (record { left = from.left; ends = ends; bounds = from.bounds }) e in
    record {
      bounds = r.bounds;
      added = r.added;
      reaches = subst (λ es. Reaches text (Close ∷ pats) from.left es r.bounds to.left) (sym open_ends)
          (up {before = []} {after = pats} {inner = []} {more = from.left} {first = []} {second = r.bounds} refl refl refl (eqb-true (length from.left) end is) nothing r.reaches);
    }

sound_close : (text : List ℕ) (pats : List Pat) (from to : At) (ends : List ℕ) → from.ends ≡ ends → Sound text pats to → then_to (matched text pats) (close_step ends from) ≡ Some to → Comes text (Close ∷ pats) from to
sound_close text pats from to [] open_ends sound e = absurd (cc)
sound_close text pats from to (end ∷ ends) open_ends sound e = sound_close_by text pats from to end ends (length from.left == end) refl open_ends sound e

sound_gaps : (text : List ℕ) (pats : List Pat) (from to : At) → Sound text pats to → matched text pats (record { left = after_gaps from.left; ends = from.ends; bounds = from.bounds }) ≡ Some to → Comes text (Gaps ∷ pats) from to
sound_gaps text pats from to sound e =
    let r = sound (record { left = after_gaps from.left; ends = from.ends; bounds = from.bounds }) e in
    let s = split from.left in
    record { bounds = r.bounds; added = r.added; reaches = gaps_reach text pats from.left s.front (after_gaps from.left) from.ends r.bounds to.left s.all s.same r.reaches }

sound_many_by : (text : List ℕ) (pat : Pat) (pieces : List Piece) (pats : List Pat) (from to : At) (o : Option At) → rounds from.left pieces from ≡ o → pieces_of pat ≡ Some pieces → Sound text pats to
    → then_to (matched text pats) o ≡ Some to → Comes text (pat ∷ pats) from to
sound_many_by text pat pieces pats from to None is w sound e = absurd (cc)
sound_many_by text pat pieces pats from to (Some at) is w sound e =
    let r = sound at e in
    let k = rounds_over from.left pieces at from is in
    record {
      bounds = k.has ++ r.bounds;
      added = r.added ∙ ap (λ l. l ++ r.bounds) k.added ∙ append_assoc from.bounds k.has r.bounds;
      reaches = many_reaches text pat pieces pats from.left k.front at.left from.ends k.has r.bounds to.left w k.are k.same (subst (λ es. Reaches text pats at.left es r.bounds to.left) k.ends r.reaches);
    }

sound_many : (text : List ℕ) (pat : Pat) (pieces : List Piece) (pats : List Pat) (from to : At) → pieces_of pat ≡ Some pieces → Sound text pats to
    → then_to (matched text pats) (rounds from.left pieces from) ≡ Some to → Comes text (pat ∷ pats) from to
sound_many text pat pieces pats from to w sound e = sound_many_by text pat pieces pats from to (rounds from.left pieces from) refl w sound e

comes_none : (text : List ℕ) (from to : At) → to.ends ≡ [] → Some from ≡ Some to → Comes text [] from to
comes_none text from to ends e =
    let same : from ≡ to = some_is e in
    record {
      bounds = [];
      added = sym (append-nil to.bounds) ∙ ap (λ p. p.bounds ++ []) (sym same);
      reaches = subst (λ es. Reaches text [] from.left es [] to.left) (sym ends ∙ ap (λ p. p.ends) (sym same)) (flat {front = []} (ap (λ p. p.left) same) nothing);
    }

comes : (text : List ℕ) (pats : List Pat) (to : At) → to.ends ≡ [] → Sound text pats to
comes text [] to ends from e = comes_none text from to ends e
comes text (One kind slot ∷ pats) to ends from e = sound_one text kind slot pats from to from.left refl (comes text pats to ends) e
comes text (Open kind ∷ pats) to ends from e = sound_open text kind pats from to from.left refl (comes text pats to ends) e
comes text (Close ∷ pats) to ends from e = sound_close text pats from to from.ends refl (comes text pats to ends) e
comes text (Named word ∷ pats) to ends from e = sound_named text (Named word) word.now pats from to from.left refl refl (comes text pats to ends) e
comes text (Many pieces ∷ pats) to ends from e = sound_many text (Many pieces) pieces.now pats from to refl (comes text pats to ends) e
comes text (Gaps ∷ pats) to ends from e = sound_gaps text pats from to (comes text pats to ends) e

outside : (text : List ℕ) (pats : List Pat) (parts rest : List Part) (bounds : List Bound) → Reaches text pats parts [] bounds rest → (length rest ≤ length parts) × IsMatch text pats (take (length parts - length rest) parts) bounds
outside text pats parts rest bounds (flat {front} e m) =
    let n : length parts ≡ length front + length rest = ap length e ∙ length-append front rest in
    let k : length front ≡ length parts - length rest = omega (arith, n) in
    (omega (arith, n), subst (λ ps. IsMatch text pats ps bounds) (sym (take_at front rest (length parts - length rest) k) ∙ ap (λ l. take (length parts - length rest) l) (sym e)) m)

pub match_sound : (text : List ℕ) (pats : List Pat) (parts rest : List Part) (bounds : List Bound)
    → matched text pats (record { left = parts; ends = []; bounds = [] }) ≡ Some (record { left = rest; ends = []; bounds = bounds })
    → (length rest ≤ length parts) × IsMatch text pats (take (length parts - length rest) parts) bounds
match_sound text pats parts rest bounds e =
    let c = comes text pats (record { left = rest; ends = []; bounds = bounds }) refl (record { left = parts; ends = []; bounds = [] }) e in
    outside text pats parts rest bounds (subst (λ bs. Reaches text pats parts [] bs rest) (sym c.added) c.reaches)
