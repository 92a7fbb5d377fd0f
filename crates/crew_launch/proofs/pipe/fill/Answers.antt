use Rattle.std.proofs.Common.{◌≡◌, ℕ, ◌+◌, ◌-◌, ◌≤◌, List, ◌++◌, length, take, sym, ap, ◌∙◌, subst, rules}
use Rattle.std.proofs.Math.Seq.{take-append-add}
use Rattle.std.proofs.lemmas.List.{length-take-le, take-append-le}
use Rattle.std.proofs.KnownBytes.{Consumes-trans}
use Rattle.std.specs.Io.KnownBytes.{Consumes}
use borrow.Rule.Slice.PartMut.{post_of, put_mid}
use Rattle.crew_launch.proofs.pipe.fill.Goals as goal

-- the piece after a read into its rest
filled_more : (at room n : ℕ) (old part : List ℕ) → at ≤ length old → n ≤ length part → take at old ++ take n part ≡ take (at + n) (put_mid at room old part)
filled_more at room n old part within fits =
    let front : length (take at old) ≡ at = length-take-le at old within in
    let rest = post_of at room old in
    sym (ap (λ k. take (k + n) (take at old ++ (part ++ rest))) (sym front) ∙ take-append-add (take at old) (part ++ rest) n ∙ ap (λ t. take at old ++ t) (take-append-le n part rest fits))

pub fill-preserved : goal.fill-preserved
fill-preserved g c =
    let n = c.in_ok-n.n in
    let part = c.read_some.new.piece in
    let more = filled_more c.fill.filled (length c.fill.piece - c.fill.filled) n c.fill.piece part c.fill.invariant.within c.in_ok-n.ensures.within in
    record {
      size = search rules;
      within = search rules;
      read = subst (Consumes _ _) more (Consumes-trans _ _ _ _ _ c.fill.invariant.read c.in_ok-n.ensures.bytes);
    }
