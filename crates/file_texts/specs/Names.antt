-- Names of files.
use Rattle.std.specs.Prelude.{◌≡◌, ℕ, ◌==◌, ◌+◌, nat_eq, Bool, false, List, [], ◌∷◌, ◌++◌, length, take, drop, Option, Some, None, codes, decimal}
use Rattle.std.specs.List.{list_any, starts_with}
use Rattle.std.specs.Path.{rfind_below}
use Rattle.std.specs.Str.{IsUtf8}

-- A byte of the name is NUL. (own)
abbrev pub has_nul : List ℕ → Bool
has_nul name = list_any (λ b. b == 0) name

-- The name can be the name of a file: it is UTF-8, and no byte of it is NUL. (own)
pub record IsFileName (name : List ℕ) : Type 0 where
  pub text : IsUtf8 name
  pub whole : has_nul name ≡ false

-- Where the last slash of a name is, if it has one. (own)
abbrev pub last_slash : List ℕ → Option ℕ
last_slash name = rfind_below 47 name (length name)

-- A name up to this index. (own)
abbrev pub before_index : List ℕ → Option ℕ → Option (List ℕ)
before_index name None = None
before_index name (Some i) = Some (take i name)

-- The directory of a file: what is before the last slash of its name, if that has one. (own)
abbrev pub directory_of : List ℕ → Option (List ℕ)
directory_of name = before_index name (last_slash name)

-- A name through this index. (own)
abbrev pub through_index : List ℕ → Option ℕ → List ℕ
through_index name None = []
through_index name (Some i) = take (i + 1) name

-- The front of a name up to its last slash, with it, or no text if it has no slash. (own)
abbrev pub front_of : List ℕ → List ℕ
front_of name = through_index name (last_slash name)

-- The directory in which a name is looked up: its front, or `.` if it has no slash. (own)
abbrev pub home_at : List ℕ → Option ℕ → List ℕ
home_at name None = codes "."
home_at name (Some i) = take (i + 1) name

abbrev pub home_of : List ℕ → List ℕ
home_of name = home_at name (last_slash name)

-- A name after this index, or the whole of it. (own)
abbrev pub after_index : List ℕ → Option ℕ → List ℕ
after_index name None = name
after_index name (Some i) = drop (i + 1) name

-- What is after the last slash of a name, or the whole of it. (own)
abbrev pub last_of : List ℕ → List ℕ
last_of name = after_index name (last_slash name)

-- The name begins with a slash. (own)
abbrev pub is_absolute : List ℕ → Bool
is_absolute name = starts_with nat_eq name (47 ∷ [])

-- The name of this number for a new file that is in the directory of another: acrun-N.tmp. (own)
abbrev pub temporary : List ℕ → ℕ → List ℕ
temporary name n = front_of name ++ (codes "acrun-" ++ (decimal n ++ codes ".tmp"))
