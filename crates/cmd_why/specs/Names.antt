-- The names that a check's message gives: of its cached value, and of what it defines.
use Rattle.std.specs.Prelude.{ℕ, ◌||◌, nat_eq, bytes_eq, Bool, List, [], ◌∷◌, ◌++◌, is_some, codes, if◌then◌else◌}
use Rattle.std.specs.List.{list_any, ends_with}
use Rattle.memchr.specs.Find.{first_of, matches}
use Rattle.ac_tree.specs.Definitions.{sought_definition, library_definition}
use Rattle.ac_tree.specs.TestNames.{sought_name, library_name, libraries_name}
use Rattle.ac_tree.specs.declared.listed.Listed.TheVariants.{Header, Function, Declaration as DeclarationOf}
use Rattle.ac_tree.specs.declared.listed.Sought.{Sought}
use Rattle.ac_tree.specs.declared.listed.Sought.TheVariants.{ListEntry, «Type»}
use Rattle.cmd_why.specs.Subjects.{Subject, Entry, Declaration, Library, Libraries, Other, subject_of}

-- The word is one of these. (own)
abbrev pub is_among : List ℕ → List (List ℕ) → Bool
is_among word names = list_any (λ name. bytes_eq word name) names

-- The names of the test of an entry or a type: of its cached value, and of what it defines. (Autoconf's manual, "Cache Variable
-- Names" and "Generic Tests")
abbrev pub names_sought : Sought → List ℕ → List (List ℕ)
names_sought kind name = sought_name kind name ∷ sought_definition kind name ∷ []

-- The names of the test of a subject. A message with a name alone doesn't say whether that is a header, a function or a type. (own)
abbrev pub names_of : Subject → List (List ℕ)
names_of (Entry name) = names_sought (ListEntry Header) name ++ (names_sought (ListEntry Function) name ++ names_sought «Type» name)
names_of (Declaration name) = names_sought (ListEntry DeclarationOf) name
names_of (Library function library) = library_name library function ∷ library_definition library ∷ []
names_of (Libraries function) = libraries_name function ∷ []
names_of Other = []

-- The word is a part of the text. (own)
unfoldable pub is_part : List ℕ → List ℕ → Bool
is_part word text = is_some (first_of (matches text word 0))

-- The word is about the check with this message: it is a part of the message, or a name of the check. (own)
unfoldable pub is_about : List ℕ → List ℕ → Bool
is_about word message = is_part word message || is_among word (names_of (subject_of message))

-- The names of the cached value of a subject, as far as the message gives them. (own)
abbrev pub cache_names : Subject → List (List ℕ)
cache_names (Entry name) = sought_name (ListEntry Header) name ∷ sought_name (ListEntry Function) name ∷ sought_name «Type» name ∷ []
cache_names (Declaration name) = sought_name (ListEntry DeclarationOf) name ∷ []
cache_names (Library function library) = library_name library function ∷ []
cache_names (Libraries function) = libraries_name function ∷ []
cache_names Other = []

-- The names that the cached value of a function, a type or a program may have. (own)
abbrev pub other_names : List ℕ → List ℕ
other_names name =
    sought_name (ListEntry Function) name
    ++ (codes " or " ++ (sought_name «Type» name ++ codes " (of a program, ac_cv_prog_VARIABLE or ac_cv_path_VARIABLE)"))

-- The names that the cached value of an entry may have. (own)
abbrev pub entry_names : List ℕ → List ℕ
entry_names name = if ends_with nat_eq name (codes ".h") then sought_name (ListEntry Header) name else other_names name

-- The name of the cached value of a subject, as far as the message gives it. (own)
abbrev pub cache_name : Subject → List ℕ
cache_name (Entry name) = entry_names name
cache_name (Declaration name) = sought_name (ListEntry DeclarationOf) name
cache_name (Library function library) = library_name library function
cache_name (Libraries function) = libraries_name function
cache_name Other = codes "the name that AC_CACHE_CHECK gives it"
