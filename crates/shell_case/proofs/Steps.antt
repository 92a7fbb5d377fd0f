-- The state of the matcher, and its steps.
use Rattle.std.proofs.Common.{◌≡◌, ℕ, ◌+◌, ◌-◌, ◌<◌, ◌≤◌, Bool, true, false, List, ◌∷◌, ◌++◌, length, take, drop, Option, Some, None, sym, ap, subst, ◌∙◌, arith}
use Rattle.std.specs.Prelude.{◌≢◌}
use Rattle.std.proofs.lemmas.List.{drop-drop, length-drop, length-take-le, take_all, take_rest}
use Rattle.shellword.specs.declared.pattern.Piece.{Piece}
use Rattle.shellword.specs.declared.pattern.Piece.TheVariants.{AnyBytes}
use Rattle.shellword.specs.Matcher.{some_rest, matching}
use Rattle.shell_case.specs.Parts.{group_len, fits, fits_whole, fits_end, IsFirstPlace}
use Rattle.shell_case.proofs.Groups.{IsGroup, fits_len, only_group, last_group, not_begun, begun, missing_group, found_group}
use Rattle.shell_case.proofs.Counting.{group_within, front_is_group, star_after}

-- After a star: some rest of the text from `at` on is to match the pieces from `piece` on.
pub record Going (pieces : List Piece) (text : List ℕ) (piece at : ℕ) : Type 0 where
  pub in_pieces : piece ≤ length pieces
  pub in_text : at ≤ length text
  pub goes_on : some_rest (matching (drop piece pieces)) (drop at text) ≡ matching pieces text

module _ (pieces : List Piece) (text : List ℕ) where
  -- the group from `piece` on
  abbrev pub group : ℕ → List Piece
  group piece = take (group_len (drop piece pieces)) (drop piece pieces)

  pub group_size : (piece : ℕ) → length (group piece) ≡ group_len (drop piece pieces)
  group_size piece = length-take-le (group_len (drop piece pieces)) (drop piece pieces) (group_within (drop piece pieces))

  -- the pieces from `piece` on, if a star is after the group
  then_star : (piece : ℕ) → piece + group_len (drop piece pieces) < length pieces
      → drop piece pieces ≡ group piece ++ AnyBytes ∷ drop (piece + group_len (drop piece pieces) + 1) pieces
  then_star piece lt =
      let n = group_len (drop piece pieces) in
      let e : piece + (n + 1) ≡ piece + n + 1 = omega arith in
      star_after (drop piece pieces) (omega (arith, lt, length-drop piece pieces))
      ∙ ap (λ (ps : List Piece). group piece ++ AnyBytes ∷ ps) (drop-drop (n + 1) piece pieces ∙ ap (λ (k : ℕ). drop k pieces) e)

  -- the same, if none is
  then_end : (piece : ℕ) → piece ≤ length pieces → piece + group_len (drop piece pieces) ≡ length pieces → group piece ≡ drop piece pieces
  then_end piece le e = take_all (group_len (drop piece pieces)) (drop piece pieces) (omega (arith, e, length-drop piece pieces))

  pub whole_group : group_len pieces ≡ length pieces → fits_whole pieces text ≡ matching pieces text
  whole_group e = only_group pieces text (subst IsGroup (take_all (group_len pieces) pieces (omega (arith, e))) (front_is_group pieces))

  pub not_at_front : group_len pieces < length pieces → fits (group 0) text ≡ false → false ≡ matching pieces text
  not_at_front lt h = sym (ap (λ (ps : List Piece). matching ps text) (then_star 0 (omega (arith, lt))) ∙ not_begun (group 0) _ text (front_is_group pieces) h)

  pub at_front : group_len pieces < length pieces → fits (group 0) text ≡ true → Going pieces text (group_len pieces + 1) (group_len pieces)
  at_front lt h =
      let n = group_len pieces in
      let e : 0 + n + 1 ≡ n + 1 = omega arith in
      record {
        in_pieces = omega (arith, lt);
        in_text = omega (arith, group_size 0, fits_len (group 0) text h);
        goes_on = sym (ap (λ (ps : List Piece). matching ps text) (then_star 0 (omega (arith, lt))) ∙ begun (group 0) _ text (front_is_group pieces) h
            ∙ ap (λ (k : ℕ). some_rest (matching (drop k pieces)) (drop (length (group 0)) text)) e ∙ ap (λ (k : ℕ). some_rest (matching (drop (n + 1) pieces)) (drop k text)) (group_size 0));
      }

  module _ (piece at : ℕ) (s : Going pieces text piece at) where
    pub at_end : piece + group_len (drop piece pieces) ≡ length pieces → fits_end (group piece) (drop at text) ≡ matching pieces text
    at_end e =
        last_group (group piece) (drop at text) (front_is_group (drop piece pieces))
        ∙ ap (λ (ps : List Piece). some_rest (matching ps) (drop at text)) (then_end piece s.in_pieces e) ∙ s.goes_on

    pub at_none : piece + group_len (drop piece pieces) < length pieces → IsFirstPlace (group piece) (drop at text) None → false ≡ matching pieces text
    at_none lt none =
        sym (ap (λ (ps : List Piece). some_rest (matching ps) (drop at text)) (then_star piece lt)
        ∙ missing_group (group piece) _ (drop at text) (front_is_group (drop piece pieces)) none) ∙ s.goes_on

    pub at_some : piece + group_len (drop piece pieces) < length pieces → (k : ℕ) → IsFirstPlace (group piece) (drop at text) (Some k)
        → Going pieces text (piece + group_len (drop piece pieces) + 1) (at + (k + group_len (drop piece pieces)))
    at_some lt k found =
        let n = group_len (drop piece pieces) in
        record {
          in_pieces = omega (arith, lt);
          in_text = omega (arith, s.in_text, found.0, fits_len (group piece) (drop k (drop at text)) found.1, group_size piece, length-drop at text, length-drop k (drop at text));
          goes_on = sym (ap (λ (m : ℕ). some_rest (matching (drop (piece + n + 1) pieces)) (drop (k + m) (drop at text))) (group_size piece)
              ∙ ap (some_rest (matching (drop (piece + n + 1) pieces))) (drop-drop (k + n) at text))
              ∙ sym (found_group (group piece) _ (drop at text) k (front_is_group (drop piece pieces)) found)
              ∙ sym (ap (λ (ps : List Piece). some_rest (matching ps) (drop at text)) (then_star piece lt)) ∙ s.goes_on;
        }

-- ---- what slices are

pub front_group : (pieces : List Piece) (text : List ℕ) (n : ℕ) (p : Bool) → n ≡ group_len pieces → p ≡ fits (take n pieces) text → p ≡ fits (group pieces text 0) text
front_group pieces text n p is e = e ∙ ap (λ (k : ℕ). fits (take k pieces) text) is

place_as : (ps qs : List Piece) (t u : List ℕ) (r : Option ℕ) {q : Option ℕ} → ps ≡ qs → t ≡ u → r ≡ q → IsFirstPlace ps t r → IsFirstPlace qs u q
place_as ps qs t u r e f g h = subst (IsFirstPlace qs u) g (subst (λ (x : List ℕ). IsFirstPlace qs x r) f (subst (λ (x : List Piece). IsFirstPlace x t r) e h))

module _ (pieces : List Piece) (text : List ℕ) (piece at n : ℕ) (is : n ≡ group_len (take (length pieces - piece) (drop piece pieces))) where
  count_here : n ≡ group_len (drop piece pieces)
  count_here = is ∙ ap group_len (take_rest pieces piece)

  slice_group : take (piece + n - piece) (drop piece pieces) ≡ group pieces text piece
  slice_group =
      let e : piece + n - piece ≡ n = omega arith in
      ap (λ (k : ℕ). take k (drop piece pieces)) e ∙ ap (λ (k : ℕ). take k (drop piece pieces)) count_here

  pub slice_is_group : IsGroup (take (piece + n - piece) (drop piece pieces))
  slice_is_group = subst IsGroup (sym slice_group) (front_is_group (drop piece pieces))

  pub at_last : (p : Bool) → Going pieces text piece at → piece + n ≡ length pieces → p ≡ fits_end (take (piece + n - piece) (drop piece pieces)) (take (length text - at) (drop at text)) → p ≡ matching pieces text
  at_last p s e h =
      h ∙ ap (λ (ps : List Piece). fits_end ps (take (length text - at) (drop at text))) slice_group ∙ ap (fits_end (group pieces text piece)) (take_rest text at)
      ∙ at_end pieces text piece at s (omega (arith, count_here, e))

  -- a group that is not the last
  module _ (s : Going pieces text piece at) (more : piece + n ≢ length pieces) where
    star_is_after : piece + group_len (drop piece pieces) < length pieces
    star_is_after = omega (arith, count_here, more, group_within (drop piece pieces), length-drop piece pieces, s.in_pieces)

    -- the place in the slices is that of the group
    abbrev Found : Option ℕ → Type 0
    Found r = IsFirstPlace (take (piece + n - piece) (drop piece pieces)) (take (length text - at) (drop at text)) r

    pub group_missing : (r : Option ℕ) → r ≡ None → Found r → false ≡ matching pieces text
    group_missing r e found = at_none pieces text piece at s star_is_after (place_as _ _ _ _ r slice_group (take_rest text at) e found)

    pub group_passed : (r : Option ℕ) (k : ℕ) → r ≡ Some k → Found r → Going pieces text (piece + n + 1) (at + (k + n))
    group_passed r k e found =
        subst (λ (m : ℕ). Going pieces text (piece + m + 1) (at + (k + m))) (sym count_here)
        (at_some pieces text piece at s star_is_after k (place_as _ _ _ _ r slice_group (take_rest text at) e found))
