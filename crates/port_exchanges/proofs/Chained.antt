-- The lines in the place of AC_PATH_PROGS, from its parts.
use Rattle.std.proofs.Common.{◌≡◌, ℕ, ◌≤◌, List, length, Some, None, Option, Result, Ok, Err, subst, sym, true}
use Rattle.std.specs.Prelude.{IfOk, IfSome, slice_range, slice_get, codes}
use Rattle.std.specs.List.{list_all}
use Rattle.text_cut.specs.Cuts.{fields}
use Rattle.ac_calls.specs.Calls.{MacroCall}
use Rattle.ac_calls.specs.declared.call.Extent.{Extent}
use Rattle.port_idioms.specs.Filled.{text_of}
use Rattle.port_spots.specs.Put.{arg_text, is_c_name, is_space_or_return}
use Rattle.port_passes.specs.Chains.{IsChain, IsChainOf, is_value_byte, value_of}

one : (text : List ℕ) (c : MacroCall) (variable programs : Extent) (indent name list value put : List ℕ) → slice_range text c.start c.name_end ≡ codes "AC_PATH_PROGS" → length c.args ≤ 3
    → slice_get c.args 0 ≡ Some variable → slice_get c.args 1 ≡ Some programs → text_of (Some (arg_text text variable)) ≡ name → text_of (Some (arg_text text programs)) ≡ list
    → value_of text c ≡ value → is_c_name name ≡ true → list_all is_value_byte value ≡ true → list_all is_space_or_return indent ≡ true → IsChainOf indent name (fields list) value put → IsChain text c put
one text c variable programs indent name list value put macro three first second name_is list_is value_is is_name plain blank is =
    record {
      macro = macro;
      three = three;
      variable = variable;
      programs = programs;
      first = first;
      second = second;
      indent = indent;
      name = subst (λ n. is_c_name n ≡ true) (sym name_is) is_name;
      value = subst (λ v. list_all is_value_byte v ≡ true) (sym value_is) plain;
      blank = blank;
      is =
          subst (λ v. IsChainOf indent (text_of (Some (arg_text text variable))) (fields (text_of (Some (arg_text text programs)))) v put) (sym value_is)
          (subst (λ l. IsChainOf indent (text_of (Some (arg_text text variable))) (fields l) value put) (sym list_is)
          (subst (λ n. IsChainOf indent n (fields list) value put) (sym name_is) is));
    }

-- What is written for a call, if its arguments are these texts.
pub chains : {V E : Type 0} (items : V → List ℕ) (r : Result (Option V) E) (text : List ℕ) (c : MacroCall) (variable programs : Extent) (indent name list value : List ℕ)
    → slice_range text c.start c.name_end ≡ codes "AC_PATH_PROGS" → length c.args ≤ 3
    → slice_get c.args 0 ≡ Some variable → slice_get c.args 1 ≡ Some programs → text_of (Some (arg_text text variable)) ≡ name → text_of (Some (arg_text text programs)) ≡ list
    → value_of text c ≡ value → is_c_name name ≡ true → list_all is_value_byte value ≡ true → list_all is_space_or_return indent ≡ true
    → IfOk r (λ o. IfSome o (λ v. IsChainOf indent name (fields list) value (items v))) → IfOk r (λ o. IfSome o (λ v. IsChain text c (items v)))
chains items (Ok (Some v)) text c variable programs indent name list value macro three first second name_is list_is value_is is_name plain blank is =
    one text c variable programs indent name list value (items v) macro three first second name_is list_is value_is is_name plain blank is
chains items (Ok None) text c variable programs indent name list value macro three first second name_is list_is value_is is_name plain blank is = tt
chains items (Err e) text c variable programs indent name list value macro three first second name_is list_is value_is is_name plain blank is = tt
