-- The lines around a call that has a path, from its parts.
use Rattle.std.proofs.Common.{◌≡◌, ℕ, List, length, Some, slice_range, true, subst}
use Rattle.std.specs.Prelude.{slice_get}
use Rattle.std.specs.List.{list_all}
use Rattle.ac_calls.specs.declared.call.Extent.{Extent}
use Rattle.ac_calls.specs.Calls.{MacroCall}
use Rattle.port_idioms.specs.Filled.{text_of}
use Rattle.port_spots.specs.Put.{arg_text, is_space_or_return}
use Rattle.port_passes.specs.Pathed.{IsPathed, is_path, pathed_lines, takes_path}

pub pathed : (text : List ℕ) (c : MacroCall) (name path put indent : List ℕ) (third fourth : Extent) → name ≡ slice_range text c.start c.name_end → takes_path name ≡ true
    → length c.args ≡ 4 → slice_get c.args 2 ≡ Some third → slice_get c.args 3 ≡ Some fourth
    → (path ≡ text_of (Some (arg_text text fourth))) × (is_path path ≡ true) → list_all is_space_or_return indent ≡ true
    → put ≡ pathed_lines indent name path (slice_range text c.start third.end) → IsPathed text c put
pathed text c name path put indent third fourth name_is takes four third_is fourth_is (path_is, plain) blank is = record {
  macro = subst (λ n. takes_path n ≡ true) name_is takes;
  four = four;
  third = third;
  fourth = fourth;
  third_is = third_is;
  fourth_is = fourth_is;
  path = subst (λ p. is_path p ≡ true) path_is plain;
  indent = indent;
  blank = blank;
  is = subst (λ n. put ≡ pathed_lines indent n (text_of (Some (arg_text text fourth))) (slice_range text c.start third.end)) name_is
      (subst (λ p. put ≡ pathed_lines indent name p (slice_range text c.start third.end)) path_is is);
}
