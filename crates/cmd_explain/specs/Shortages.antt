-- What programs say that found no room, that may not open a file, or that a signal ended. All of this is own.
use Rattle.std.specs.Prelude.{ℕ, Bool, List, [], ◌∷◌, codes, is_some}
use Rattle.std.specs.List.{list_any}
use Rattle.memchr.specs.Find.{first_of, matches}

-- The words are a part of the text.
unfoldable pub is_part : List ℕ → List ℕ → Bool
is_part words text = is_some (first_of (matches text words 0))

-- One of these words is a part of the text.
abbrev pub has_one : List (List ℕ) → List ℕ → Bool
has_one list text = list_any (λ words. is_part words text) list

-- What a program says that has no room for a process, for its arguments, for a file, for what it opens or for its memory.
unfoldable pub shortages : List (List ℕ)
shortages = codes "Resource temporarily unavailable" ∷ codes "Argument list too long" ∷ codes "No space left on device" ∷ codes "Disk quota exceeded"
    ∷ codes "File too large" ∷ codes "Too many open files" ∷ codes "Cannot allocate memory" ∷ codes "out of memory" ∷ codes "memory exhausted" ∷ codes "failed to map segment" ∷ []

-- What a program says that may not open a file.
unfoldable pub refusal : List ℕ
refusal = codes "Permission denied"

-- What a compiler says if a signal ends a program that it started.
unfoldable pub signals : List (List ℕ)
signals = codes "signal terminated program" ∷ codes "terminated with signal" ∷ codes "unable to execute command: " ∷ []
