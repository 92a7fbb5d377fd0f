-- The cache text that is written for variables.
use Rattle.std.specs.Prelude.{◌≡◌, ℕ, ◌==◌, ◌||◌, ◌&&◌, Bool, not, List, [], ◌∷◌, ◌++◌, Option, Some, None, flat_map, filter, codes, Ok, if◌then◌else◌}
use Rattle.std.specs.List.{list_all, list_any}
use Rattle.std.specs.List.Sorted.{IsStrictlySortedBy}
use Rattle.std.specs.BTreeMap.{insert_entry}
use Rattle.std.specs.Ordering.{nat_cmp}
use Rattle.std.specs.Cmp.Lexicographic.{slice_cmp}
use Rattle.deftable.specs.Table.{value_of, names_of}
use Rattle.cachefile.specs.Cache.{cache_of, vars_after}
use Rattle.cachefile.specs.Line.{Setting}
use Rattle.cachefile.specs.Name.{is_mark}
use Rattle.deftable.specs.CacheName.{is_cache_name}
use Rattle.cachefile.specs.Word.{word_of}

-- ---- lines

-- Whether the value has `{` or `}`. (own)
abbrev pub has_brace : List ℕ → Bool
has_brace value = list_any (λ b. b == 123 || b == 125) value

-- `V=W`. (own)
abbrev pub plain_line : List ℕ → List ℕ → List ℕ
plain_line name w = name ++ (codes "=" ++ w)

-- `test ${V+y} || V=W`. (own)
abbrev pub guarded_line : List ℕ → List ℕ → List ℕ
guarded_line name w = codes "test ${" ++ (name ++ (codes "+y} || " ++ plain_line name w))

-- `V=${V=W}`. (own)
abbrev pub braced_line : List ℕ → List ℕ → List ℕ
braced_line name w = name ++ (codes "=${" ++ (name ++ (codes "=" ++ (w ++ codes "}"))))

-- The line of a variable, without its newline. A name that begins with `ac_cv_env_` is set to its value. Each other name
-- gets its value as a default, outside braces if the value has a brace. (own)
unfoldable pub line_for : List ℕ × List ℕ → List ℕ
line_for e =
    if is_mark e.0 then plain_line e.0 (word_of e.1)
    else (if has_brace e.1 then guarded_line e.0 (word_of e.1) else braced_line e.0 (word_of e.1))

-- The lines of variables, each with its newline. (own)
abbrev pub lines_for : List (List ℕ × List ℕ) → List ℕ
lines_for es = flat_map (λ e. line_for e ++ 10 ∷ []) es

-- ---- what is saved, and in which order

-- Whether the text has no newline. (own)
abbrev pub is_one_line : List ℕ → Bool
is_one_line text = list_all (λ b. not (b == 10)) text

-- Whether the variable is saved: it has a cache name, and a value without a newline. (own)
abbrev pub is_saved : List ℕ × List ℕ → Bool
is_saved e = is_cache_name e.0 && is_one_line e.1

-- The value of a name that is saved, and otherwise none. (own)
abbrev pub saved_value : List ℕ → Option (List ℕ) → Option (List ℕ)
saved_value name None = None
saved_value name (Some value) = if is_saved (name, value) then Some value else None

-- Each name is before the next one, byte by byte. (own)
abbrev pub AreInOrder : List (List ℕ × List ℕ) → Type 0
AreInOrder es = IsStrictlySortedBy (slice_cmp nat_cmp) (names_of es)

-- The text is a comment, and a line for each variable that is saved, in the byte order of their names. (own)
pub record IsCacheText (vars : List (List ℕ × List ℕ)) (text : List ℕ) : Type 0 where
  pub entries : List (List ℕ × List ℕ)
  pub in_order : AreInOrder entries
  pub values : (name : List ℕ) → value_of entries name ≡ saved_value name (value_of vars name)
  pub lines : text ≡ codes "# config.cache of configure\n" ++ lines_for entries

-- The text is read. Its settings, made where nothing is set, give each variable that is saved its value, and set nothing
-- else. (own)
pub record ReadsBack (vars : List (List ℕ × List ℕ)) (text : List ℕ) : Type 0 where
  pub settings : List Setting
  pub read : cache_of text ≡ Ok settings
  pub values : (name : List ℕ) → value_of (vars_after settings []) name ≡ saved_value name (value_of vars name)

-- ---- as a function

-- The entries with this one in its place. (own)
abbrev pub with_placed : List (List ℕ × List ℕ) → List ℕ × List ℕ → List (List ℕ × List ℕ)
with_placed sorted e = insert_entry (slice_cmp nat_cmp) sorted e.0 e.1

-- The entries with this one in its place, if it is saved. (own)
abbrev pub with_saved : List (List ℕ × List ℕ) → List ℕ × List ℕ → List (List ℕ × List ℕ)
with_saved sorted e = if is_saved e then with_placed sorted e else sorted

-- The entries in the byte order of their names. (own)
abbrev pub in_order : List (List ℕ × List ℕ) → List (List ℕ × List ℕ)
in_order [] = []
in_order (e ∷ es) = with_placed (in_order es) e

-- The variables that are saved, in the byte order of their names. (own)
abbrev pub saved_entries : List (List ℕ × List ℕ) → List (List ℕ × List ℕ)
saved_entries vars = in_order (filter is_saved vars)

-- The cache text of variables. (own)
abbrev pub cache_text_of : List (List ℕ × List ℕ) → List ℕ
cache_text_of vars = codes "# config.cache of configure\n" ++ lines_for (saved_entries vars)
