-- The meaning of a cache text: the settings of its lines, in order, or its first error; and the variables after them.
use Rattle.std.specs.Prelude.{◌≡◌, ℕ, ◌+◌, ◌<◌, ◌≤◌, nat_lt, true, false, List, [], ◌∷◌, ◌++◌, Option, Some, None, option_to_list, is_some, bytes_eq, Result, Ok, Err, length, fold, if◌then◌else◌}
use Rattle.std.specs.List.{AllByRecursion}
use Rattle.text_cut.specs.Cuts.{parts}
use Rattle.deftable.specs.Table.{with_entry}
use Rattle.deftable.specs.Table as table
use Rattle.cachefile.specs.declared.fault.CacheFault.{CacheFault}
use Rattle.cachefile.specs.declared.fault.CacheFault.TheVariants.{BadLine, BadName, TooLarge}
use Rattle.deftable.specs.CacheName.{is_cache_name}
use Rattle.cachefile.specs.Line.{Setting, Sets, Defaults, name_of, line_of}
use Rattle.cachefile.specs.Form.{IsLine}
use Rattle.cachefile.specs.Name.{is_mark}
use Rattle.cachefile.specs.Reading.{◌>>=◌}

-- ---- by the forms of lines

-- The lines have these settings, in order, or this is the first error: a line that has none of the forms, or one that sets
-- what is no cache name. The first line has the number n. (own)
pub data AreLines : ℕ → List (List ℕ) → Result (List Setting) CacheFault → Type 0 where
  no_more : {n : ℕ} → AreLines n [] (Ok [])
  bad_line : {n : ℕ} {line : List ℕ} {lines : List (List ℕ)} → ((setting : Option Setting) → IsLine line setting → ⊥) → AreLines n (line ∷ lines) (Err (BadLine n))
  bad_name : {n : ℕ} {line : List ℕ} {lines : List (List ℕ)} {setting : Setting} → IsLine line (Some setting) → is_cache_name (name_of setting) ≡ false
      → AreLines n (line ∷ lines) (Err (BadName n))
  no_setting : {n : ℕ} {line : List ℕ} {lines : List (List ℕ)} {rest : Result (List Setting) CacheFault} → IsLine line None → AreLines (n + 1) lines rest
      → AreLines n (line ∷ lines) rest
  one_setting : {n : ℕ} {line : List ℕ} {lines : List (List ℕ)} {setting : Setting} {rest : Result (List Setting) CacheFault} → IsLine line (Some setting)
      → is_cache_name (name_of setting) ≡ true → AreLines (n + 1) lines rest → AreLines n (line ∷ lines) (rest >>= λ more. Ok (setting ∷ more))

-- The number of bytes of the largest cache text. (own)
abbrev pub limit : ℕ
limit = 4194304

-- The text has these settings, or this is its first error. A newline ends each line except the last, which may be empty.
-- (own)
pub data IsCache (text : List ℕ) : Result (List Setting) CacheFault → Type 0 where
  too_large : limit < length text → IsCache text (Err TooLarge)
  within : {read : Result (List Setting) CacheFault} → length text ≤ limit → AreLines 1 (parts 10 text) read → IsCache text read

-- Each setting is of a cache name. (own)
abbrev pub HaveCacheNames : List Setting → Type 0
HaveCacheNames list = AllByRecursion (λ setting. is_cache_name (name_of setting) ≡ true) list

-- ---- as a function

-- The setting of a line, from what `line_of` gives, or the error of the line with this number. (own)
abbrev pub entry_from : ℕ → Option (Option Setting) → Result (Option Setting) CacheFault
entry_from n None = Err (BadLine n)
entry_from n (Some None) = Ok None
entry_from n (Some (Some setting)) = if is_cache_name (name_of setting) then Ok (Some setting) else Err (BadName n)

-- The setting of the line with this number, or its error. (own)
unfoldable pub entry_of : ℕ → List ℕ → Result (Option Setting) CacheFault
entry_of n line = entry_from n (line_of line)

-- The settings of lines, or the first error; the first line has this number. (own)
unfoldable pub lines_from : ℕ → List (List ℕ) → Result (List Setting) CacheFault
lines_from n [] = Ok []
lines_from n (line ∷ lines) = entry_of n line >>= λ setting. lines_from (n + 1) lines >>= λ more. Ok (option_to_list setting ++ more)

-- The settings of a text, or its first error. (own)
unfoldable pub cache_of : List ℕ → Result (List Setting) CacheFault
cache_of text = if nat_lt limit (length text) then Err TooLarge else lines_from 1 (parts 10 text)

-- ---- the variables

-- The variables after a setting. (POSIX shell, 2.9.1 and 2.6.2)
abbrev pub with_setting : List (List ℕ × List ℕ) → Setting → List (List ℕ × List ℕ)
with_setting vars (Sets name value) = with_entry vars name value
with_setting vars (Defaults name value) = if is_some (table.value_of vars name) then vars else with_entry vars name value

-- The variables after settings, in order. (own)
abbrev pub vars_after : List Setting → List (List ℕ × List ℕ) → List (List ℕ × List ℕ)
vars_after settings vars = fold with_setting vars settings

-- The variables after a setting, which counts only if its name is that of a mark. (own)
abbrev pub with_mark : List (List ℕ × List ℕ) → Setting → List (List ℕ × List ℕ)
with_mark vars setting = if is_mark (name_of setting) then with_setting vars setting else vars

-- The variables after the settings of marks alone, in order. (own)
abbrev pub marks_after : List Setting → List (List ℕ × List ℕ) → List (List ℕ × List ℕ)
marks_after settings vars = fold with_mark vars settings

-- Each mark has the same value in both. (own)
unfoldable pub HaveSameMarks : List (List ℕ × List ℕ) → List (List ℕ × List ℕ) → Type 0
HaveSameMarks a b = (name : List ℕ) → is_mark name ≡ true → table.value_of a name ≡ table.value_of b name

-- The value of a name after a setting, from its value before. (POSIX shell, 2.9.1 and 2.6.2)
abbrev pub value_after : List ℕ → Option (List ℕ) → Setting → Option (List ℕ)
value_after q old (Sets name value) = if bytes_eq q name then Some value else old
value_after q old (Defaults name value) = if bytes_eq q name then (if is_some old then old else Some value) else old
