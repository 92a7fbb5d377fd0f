-- The checks that are nearest to a word that is about none.
use Rattle.std.specs.Prelude.{ℕ, suc, ◌+◌, ◌==◌, ◌&&◌, ◌||◌, nat_eq, nat_le, nat_lt, bytes_eq, Bool, true, false, max, List, [], ◌∷◌, ◌++◌, length, take, drop, map, flat_map, fold, Option, Some, None, codes, if◌then◌else◌}
use Rattle.strsim.specs.Edits.{levenshtein_row}
use Rattle.cmd_why.specs.Lines.{after_front}
use Rattle.cmd_why.specs.Subjects.{core_of}

-- The prefixes of names, longest first where one begins another. (Autoconf's manual, "Cache Variable Names")
abbrev pub prefixes : List (List ℕ)
prefixes =
    codes "HAVE_DECL_"
    ∷ codes "HAVE_LIB"
    ∷ codes "HAVE_"
    ∷ codes "ac_cv_header_"
    ∷ codes "ac_cv_func_"
    ∷ codes "ac_cv_type_"
    ∷ codes "ac_cv_have_decl_"
    ∷ codes "ac_cv_lib_"
    ∷ codes "ac_cv_search_"
    ∷ []

-- A text, or else another one. (own)
abbrev pub or_else : Option (List ℕ) → List ℕ → List ℕ
or_else (Some text) otherwise = text
or_else None otherwise = otherwise

-- The word without the first of these prefixes that it has. (own)
abbrev pub without_prefix_of : List (List ℕ) → List ℕ → List ℕ
without_prefix_of [] word = word
without_prefix_of (prefix ∷ more) word = or_else (after_front prefix word) (without_prefix_of more word)

-- A byte as it is compared: letters in lower case, and what no name has as `_`. (own)
unfoldable pub compared : ℕ → ℕ
compared b =
    if nat_le 65 b && nat_le b 90 then b + 32
    else (if (nat_le 97 b && nat_le b 122) || (nat_le 48 b && nat_le b 57) then b else 95)

-- A check that is near: its message, and how far it is. (own)
pub record Near : Type 0 where
  pub message : List ℕ
  pub distance : ℕ

-- How many edits lead from one word, as it is compared, to another. (Levenshtein)
abbrev pub edits : List ℕ → List ℕ → ℕ
edits word name = levenshtein_row nat_eq word name (length name)

-- The distance, if it is less than the longer of the two is long. (own)
abbrev pub if_near : List ℕ → List ℕ → Option ℕ
if_near word name = if nat_le (max (length word) (length name)) (edits word name) then None else Some (edits word name)

-- How far a word, as it is compared, is from a check, or none if they have nothing in common or are longer than 128 bytes. (own)
unfoldable pub distance_to : List ℕ → List ℕ → Option ℕ
distance_to word message =
    if nat_lt 128 (length (core_of message)) || nat_lt 128 (length word) then None else if_near word (map compared (core_of message))

-- How many of these are first, and no further than this. (own)
abbrev pub rank_of : ℕ → List Near → ℕ
rank_of distance [] = 0
rank_of distance (near ∷ more) = if nat_lt distance near.distance then 0 else suc (rank_of distance more)

-- A check with this message is among these. (own)
abbrev pub has_message : List ℕ → List Near → Bool
has_message message [] = false
has_message message (near ∷ more) = if bytes_eq near.message message then true else has_message message more

-- One more in a list that is in order of distance. (own)
abbrev pub placed : List Near → Near → List Near
placed nearest near =
    take (rank_of near.distance nearest) nearest ++ near ∷ drop (rank_of near.distance nearest) nearest

-- The nearest five of these and one more, unless its message is there. (own)
unfoldable pub with_near : List Near → Near → List Near
with_near nearest near =
    if has_message near.message nearest then nearest else take 5 (placed nearest near)

-- The nearest of these and the check with this message, if it has a distance. (own)
abbrev pub offered : List Near → List ℕ → Option ℕ → List Near
offered nearest message None = nearest
offered nearest message (Some distance) = with_near nearest (record { message = message; distance = distance })

-- The checks with these messages that are nearest to a word, as it is compared: at most five, the nearest first and each once. (own)
abbrev pub nearest_among : List ℕ → List (List ℕ) → List Near
nearest_among word messages = fold (λ nearest message. offered nearest message (distance_to word message)) [] messages

-- The same of a word. (own)
unfoldable pub nearest_to : List ℕ → List (List ℕ) → List Near
nearest_to word messages = nearest_among (map compared (without_prefix_of prefixes word)) messages

-- The line of a check that is near. (own)
unfoldable pub near_line : Near → List ℕ
near_line near = codes "  checking " ++ (near.message ++ codes "\n")

-- The heading of the checks that are near. (own)
unfoldable pub nearest_heading : List ℕ
nearest_heading = codes "The nearest are:\n"

-- The same, and their lines. (own)
abbrev pub headed_lines : List Near → List ℕ
headed_lines nearest = nearest_heading ++ flat_map near_line nearest

-- The heading and the lines if there are some, and otherwise nothing. (own)
unfoldable pub near_lines : List Near → List ℕ
near_lines nearest = if length nearest == 0 then [] else headed_lines nearest

-- The front of the line that no check in the log is about a word. (own)
unfoldable pub none_front : List ℕ
none_front = codes "No check in the log is about "

-- That line. (own)
abbrev pub none_line : List ℕ → List ℕ
none_line word = none_front ++ (word ++ codes ".\n")

-- What is printed if no check with these messages is meant by the word. (own)
unfoldable pub none_text : List ℕ → List (List ℕ) → List ℕ
none_text word messages = none_line word ++ near_lines (nearest_to word messages)
