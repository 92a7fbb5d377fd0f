-- What is put in the place of a call, from its parts.
use Rattle.std.proofs.Common.{◌≡◌, ℕ, List, ◌∷◌, ◌++◌, length, Some, map, slice_range, true, ◌∙◌}
use Rattle.std.specs.Prelude.{Contains, codes, slice_get}
use Rattle.std.specs.List.{list_all}
use Rattle.ac_calls.specs.declared.call.Extent.{Extent}
use Rattle.ac_calls.specs.Calls.{MacroCall, calls_in}
use Rattle.lint_macros.specs.Entries.{entry_of}
use Rattle.lint_macros.specs.declared.text.TheConstants.{TABLE}
use Rattle.port_idioms.specs.Filled.{text_of}
use Rattle.port_idioms.specs.Rows.{put_by, Differs}
use Rattle.port_spots.specs.Put.{arg_text, below, count_of, difference, is_blank_or_return, is_space_or_return}
use Rattle.port_passes.specs.Making.{IsMade, IsSearch, IsTest, LacksVersion, NamesPackage, is_name, is_title, tested, titled_row, with_error, word_of}
use Rattle.port_passes.specs.Making as specs

pub names_package : (text : List ℕ) (c : MacroCall) (name version : Extent) → slice_range text c.start c.name_end ≡ codes "AM_INIT_AUTOMAKE"
    → (slice_get c.args 0 ≡ Some name) × (slice_get c.args 1 ≡ Some version)
    → (is_title (text_of (Some (arg_text text name))) ≡ true) × (is_title (text_of (Some (arg_text text version))) ≡ true) → NamesPackage text c name version
names_package text c name version macro (first, second) (name_is, version_is) = record { macro = macro; first = first; second = second; name_is = name_is; version_is = version_is }

pub titled : (text : List ℕ) (c other : MacroCall) (name version : Extent) (put it said indent : List ℕ) → LacksVersion text c → Contains (calls_in text) other
    → NamesPackage text other name version → put_by (entry_of (titled_row (count_of text c.args)) TABLE.now) ≡ Some it → Differs (titled_row (count_of text c.args)) 0 said
    → list_all is_space_or_return indent ≡ true
    → put ≡ difference (codes "AC_INIT") said ++ below indent it (arg_text text name ∷ arg_text text version ∷ map (arg_text text) c.args) → IsMade text c put
titled text c other name version put it said indent lacks there names has differs blank is =
    specs.IsMade.titled lacks (record { other = other; is_there = there; name = name; version = version; names = names; it = it; said = said; indent = indent; has = has; differs = differs; blank = blank; is = is })

pub tests : (program symbol word rest asked made : List ℕ) → (is_name symbol ≡ true) × (is_name word ≡ true) → list_all is_blank_or_return rest ≡ true
    → asked ≡ tested symbol word rest → program ≡ asked → made ≡ with_error symbol rest → IsTest program word made
tests program symbol word rest asked made (named, plain) blank asked_is is made_is =
    record { symbol = symbol; rest = rest; named = named; plain = plain; blank = blank; is = is ∙ asked_is; made_is = made_is }

pub searches : (text : List ℕ) (c : MacroCall) (word program : Extent) (made : List ℕ) → slice_get c.args 0 ≡ Some word → slice_get c.args 1 ≡ Some program
    → IsTest (text_of (Some (arg_text text program))) (word_of (text_of (Some (arg_text text word)))) made → IsSearch text c made
searches text c word program made first second test = record { word = word; program = program; first = first; second = second; test = test }

pub sought : (text : List ℕ) (c : MacroCall) (program put it said indent : List ℕ) → slice_range text c.start c.name_end ≡ codes "AC_EGREP_CPP" → IsSearch text c program
    → put_by (entry_of (codes "AC_EGREP_CPP(symbol)") TABLE.now) ≡ Some it → Differs (codes "AC_EGREP_CPP(symbol)") (count_of text c.args) said → list_all is_space_or_return indent ≡ true
    → put ≡ difference (codes "AC_EGREP_CPP") said ++ below indent it (program ∷ map (arg_text text) (slice_range c.args 2 (length c.args))) → IsMade text c put
sought text c program put it said indent egrep search has differs blank is =
    specs.IsMade.sought egrep (record { program = program; search = search; it = it; said = said; indent = indent; has = has; differs = differs; blank = blank; is = is })
