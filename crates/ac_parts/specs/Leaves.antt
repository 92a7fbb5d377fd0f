-- What text a leaf of each kind may have. A leaf is not empty.
use Rattle.std.specs.Prelude.{ℕ, ◌==◌, ◌&&◌, not, Bool, false, List, [], ◌∷◌, length, take, drop, leb, bytes_eq, codes, if◌then◌else◌}
use Rattle.std.specs.List.{list_any, list_all}
use Rattle.ac_parts.specs.declared.kind.Kind.{Kind}
use Rattle.ac_parts.specs.declared.kind.Kind.TheVariants as kinds
use Rattle.ac_parts.specs.declared.leaves.TheConstants.{BLANKS, GAPS, REDIRECTING, NEWLINE, NO_PLAIN, NO_DOLLAR, NO_NAME, NO_CONSTANT, NOTHING}
use Rattle.ac_parts.specs.Shapes.{code_of}

-- What a leaf of the kind begins with. Up to `Right` it is all of it.
abbrev pub begins_of : Kind → List ℕ
begins_of kinds.Newline = 10 ∷ []
begins_of kinds.Semicolon = codes ";"
begins_of kinds.Background = codes "&"
begins_of kinds.And = codes "&&"
begins_of kinds.Or = codes "||"
begins_of kinds.Pipe = codes "|"
begins_of kinds.IfWord = codes "if"
begins_of kinds.Then = codes "then"
begins_of kinds.Elif = codes "elif"
begins_of kinds.Else = codes "else"
begins_of kinds.Fi = codes "fi"
begins_of kinds.Equals = codes "="
begins_of kinds.DefaultStart = codes "${"
begins_of kinds.DefaultSign = codes ":-"
begins_of kinds.DefaultEnd = codes "}"
begins_of kinds.Parenthesis = codes "("
begins_of kinds.Comma = codes ","
begins_of kinds.CallEnd = codes ")"
begins_of kinds.Left = codes "["
begins_of kinds.Right = codes "]"
begins_of kinds.Comment = codes "#"
begins_of kinds.Dropped = codes "dnl"
begins_of kinds.Single = codes "'"
begins_of kinds.Double = 34 ∷ []
begins_of kinds.Dollar = codes "$"
begins_of kinds.Escape = 92 ∷ []
begins_of kinds.Substitution = codes "`"
begins_of _ = []

-- Of what bytes the rest of a leaf is, or of what bytes it has none.
abbrev pub bytes_of : Kind → List ℕ
bytes_of kinds.Blank = BLANKS.now
bytes_of kinds.Gap = GAPS.now
bytes_of kinds.Redirect = REDIRECTING.now
bytes_of kinds.Comment = NEWLINE.now
bytes_of kinds.Variable = NO_NAME.now
bytes_of kinds.Plain = NO_PLAIN.now
bytes_of kinds.Dollar = NO_DOLLAR.now
bytes_of kinds.Constant = NO_CONSTANT.now
bytes_of kinds.Name = NO_NAME.now
bytes_of kinds.Entry = NO_CONSTANT.now
bytes_of _ = NOTHING.now

-- The rest of a leaf has only these bytes. That of the others has none of them.
abbrev pub has_only_these : Kind → Bool
has_only_these kind = leb (code_of kind) 35

-- The byte is one of these.
abbrev pub is_among : List ℕ → ℕ → Bool
is_among bytes byte = list_any (λ it. it == byte) bytes

-- Each byte is one of these.
unfoldable pub has_only : List ℕ → List ℕ → Bool
has_only bytes text = list_all (λ byte. is_among bytes byte) text

-- No byte is one of these.
unfoldable pub has_none : List ℕ → List ℕ → Bool
has_none bytes text = list_all (λ byte. not (is_among bytes byte)) text

-- The text has only these bytes, or none of them.
abbrev pub has : Bool → List ℕ → List ℕ → Bool
has only bytes text = if only then has_only bytes text else has_none bytes text

-- The text begins with another one.
unfoldable pub has_first : List ℕ → List ℕ → Bool
has_first text first = leb (length first) (length text) && bytes_eq (take (length first) text) first

-- A leaf of a kind may have the text.
unfoldable pub is_leaf_text : Kind → List ℕ → Bool
is_leaf_text kind text = if has_first text (begins_of kind) then has (has_only_these kind) (bytes_of kind) (drop (length (begins_of kind)) text) else false
