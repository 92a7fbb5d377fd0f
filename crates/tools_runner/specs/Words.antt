-- The words of a call by a program of some version.
use Rattle.std.specs.Prelude.{ℕ, nat_eq, List, [], ◌∷◌, ◌++◌, Option, Some, None, bytes_eq, codes, if◌then◌else◌}
use Rattle.std.specs.List.{starts_with}

-- What the word begins with that names the version of the program that started this one. (own)
abbrev pub mark : List ℕ
mark = codes "--acrun="

-- The words after that one, if it names this version. If it names another version, there are none. Without it, all words are those of
-- the call. (own)
abbrev pub words_for : List ℕ → List (List ℕ) → Option (List (List ℕ))
words_for version [] = Some []
words_for version (word ∷ words) =
    if starts_with nat_eq word mark then (if bytes_eq word (mark ++ version) then Some words else None)
    else Some (word ∷ words)
