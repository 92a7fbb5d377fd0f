-- The lines of a cache file, by their forms.
use Rattle.std.specs.Prelude.{◌≡◌, ℕ, true, false, List, ◌∷◌, ◌++◌, Option, Some, None, codes}
use Rattle.std.specs.List.{list_all}
use Rattle.cachefile.specs.Name.{is_word}
use Rattle.cachefile.specs.Word.{IsWord}
use Rattle.cachefile.specs.Line.{Setting, Sets, Defaults, is_space}

-- The line has one of the forms, and this is its setting; the line is without its newline. V is a word, the same
-- throughout the line, and W is a shell word that stands for the value. (own; Autoconf writes lines of these forms)
pub data IsLine : List ℕ → Option Setting → Type 0 where
  -- Spaces and tabs: no setting.
  blanks : {line : List ℕ} → list_all is_space line ≡ true → IsLine line None
  -- Spaces and tabs, and then `#` and any text: no setting.
  comment : (front rest : List ℕ) → list_all is_space front ≡ true → IsLine (front ++ 35 ∷ rest) None
  -- `V=${V=W}`, in which W has no bare `}`: a default. (POSIX shell, 2.6.2)
  braced : (name w : List ℕ) {value : List ℕ} → is_word name ≡ true → IsWord true w value
      → IsLine (name ++ (codes "=${" ++ (name ++ (codes "=" ++ (w ++ codes "}"))))) (Some (Defaults name value))
  -- `test ${V+y} || V=W`: a default. (POSIX shell, 2.6.2 and 2.9.3)
  guarded : (name w : List ℕ) {value : List ℕ} → is_word name ≡ true → IsWord false w value
      → IsLine (codes "test ${" ++ (name ++ (codes "+y} || " ++ (name ++ (codes "=" ++ w))))) (Some (Defaults name value))
  -- `test "${V+set}" = set || V=W`: a default. (POSIX shell, 2.6.2 and 2.9.3)
  old_guarded : (name w : List ℕ) {value : List ℕ} → is_word name ≡ true → IsWord false w value
      → IsLine (codes "test \"${" ++ (name ++ (codes "+set}\" = set || " ++ (name ++ (codes "=" ++ w))))) (Some (Defaults name value))
  -- `V=W`: a value. (POSIX shell, 2.9.1)
  set : (name w : List ℕ) {value : List ℕ} → is_word name ≡ true → IsWord false w value
      → IsLine (name ++ (codes "=" ++ w)) (Some (Sets name value))
