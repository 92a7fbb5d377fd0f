-- The text of a header template. All of this is own, where no other source is given.
use Rattle.std.specs.Prelude.{◌≡◌, ℕ, ◌+◌, ◌-◌, nat_lt, List, [], ◌∷◌, ◌++◌, length, codes, if◌then◌else◌}
use Rattle.std.specs.List.{flat_map}
use Rattle.text_cut.specs.Cuts.{fields}
use Rattle.ac_calls.specs.Calls.{MacroCall}
use Rattle.ac_tree.specs.Script.{Script}
use Rattle.header_template.specs.Mentions.{mentions_in}
use Rattle.header_template.specs.Notes.{notes_in}
use Rattle.header_template.specs.Table.{IsTable, is_none}

-- What separates a word from what is before it, if the line has room for this many bytes more: a blank, or a new line if the word and a
-- blank after it don't fit. (m4_text_wrap, as autoheader calls it)
abbrev pub gap : ℕ → List ℕ → List ℕ
gap room word = if nat_lt (length word) room then codes " " else codes "\n   "

-- The room after the word.
abbrev pub room_after : ℕ → List ℕ → ℕ
room_after room word = if nat_lt (length word) room then room - (length word + 1) else 75 - length word

-- Words, each after what separates it.
abbrev pub wrapped : ℕ → List (List ℕ) → List ℕ
wrapped room [] = []
wrapped room (word ∷ more) = gap room word ++ (word ++ wrapped (room_after room word) more)

-- The words of a description and the end of its comment.
abbrev pub words_of : List ℕ → List (List ℕ)
words_of description = fields description ++ codes "*/" ∷ []

-- A comment with a description: its words in lines of at most 78 bytes, unless a word is longer. (autoheader)
abbrev pub comment : List ℕ → List ℕ
comment description = codes "/*" ++ wrapped 76 (words_of description)

-- The comment and the end of its line, if there is a description.
abbrev pub comment_line : List ℕ → List ℕ
comment_line description = if is_none description then [] else comment description ++ codes "\n"

-- An empty line, the description and the name. (autoheader)
abbrev pub lines_of : List ℕ × List ℕ → List ℕ
lines_of entry = codes "\n" ++ (comment_line entry.1 ++ (codes "#undef " ++ (entry.0 ++ codes "\n")))

-- What a line about a name without a description begins with.
unfoldable pub undescribed : List ℕ
undescribed = codes "acrun: undescribed "

-- What is said of a name without a description.
abbrev pub said_of : List ℕ × List ℕ → List ℕ
said_of entry = if is_none entry.1 then undescribed ++ (entry.0 ++ codes "\n") else []

-- The first line.
unfoldable pub head : List ℕ
head = codes "/* Generated from configure.ac by acrun header.  */\n"

-- The page of the header template of a source with this text, these statements and these calls, and what is said of its names without a
-- description. The page has each name that the statements may define once, and no other, in the byte order of the names.
pub record IsTemplate (text : List ℕ) (script : Script) (calls : List MacroCall) (page said : List ℕ) : Type 0 where
  pub notes : List (List ℕ × List ℕ)
  pub are_notes : IsTable (notes_in text calls) notes
  pub entries : List (List ℕ × List ℕ)
  pub are_entries : IsTable (mentions_in notes script) entries
  pub page_is : page ≡ head ++ flat_map lines_of entries
  pub said_is : said ≡ flat_map said_of entries
