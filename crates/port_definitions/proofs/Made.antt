-- What a definition is made of.
use Rattle.std.proofs.Common.{◌≡◌, ◌∙◌, ℕ, List, length, Some}
use Rattle.std.specs.Prelude.{◌&&◌, nat_lt, true, slice_range, slice_get, codes}
use Rattle.std.specs.List.{list_all}
use Rattle.ac_calls.specs.Calls.{MacroCall}
use Rattle.ac_calls.specs.declared.call.Extent.{Extent}
use Rattle.port_idioms.specs.Filled.{text_of}
use Rattle.port_definitions.specs.Defined.{Defines, DefinesWord, HasParameter, arg_text, definition_of, is_of_name, is_plain_byte}

-- A call that defines a macro.
pub defines : (text : List ℕ) (d : MacroCall) (title what : Extent) (name body : List ℕ) → slice_range text d.start d.name_end ≡ codes "AC_DEFUN" → slice_get d.args 0 ≡ Some title
    → slice_get d.args 1 ≡ Some what → length d.args ≡ 2 → name ≡ text_of (Some (arg_text text title)) → body ≡ text_of (Some (arg_text text what)) → (HasParameter body → ⊥) → Defines text d name body
defines text d title what name body macro first second two name_is body_is plain =
    record { macro = macro; title = title; first = first; what = what; second = second; two = two; name_is = name_is; body_is = body_is; plain = plain }

-- A text that is spelled so defines a word.
pub defines_word : (text : List ℕ) (start end : ℕ) (name word spelled : List ℕ) → spelled ≡ definition_of name word → (nat_lt 0 (length name) && list_all is_of_name name) ≡ true
    → list_all is_plain_byte word ≡ true → slice_range text start end ≡ spelled → DefinesWord text start end name word
defines_word text start end name word spelled is_spelled named plain is = record { is = is ∙ is_spelled; named = named; plain = plain }
