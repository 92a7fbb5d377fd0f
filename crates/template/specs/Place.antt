-- The directory of an output file, and the directories of the build and of the sources relative to it. (Autoconf's
-- manual, "Preset Output Variables")
use Rattle.std.specs.Prelude.{ℕ, zero, suc, ◌==◌, nat_eq, Bool, ◌||◌, List, ◌++◌, bytes_eq, codes, count_by, if◌then◌else◌}
use Rattle.std.specs.List.{starts_with, before_last, after_last}
use Rattle.template.specs.declared.paths.FileDirectories.{FileDirectories}

-- The byte that separates the directories in a file's name. (own)
abbrev pub is_slash : ℕ → Bool
is_slash b = b == 47

-- The number of directories in a file's name: a slash follows each. (own)
abbrev pub directory_count : List ℕ → ℕ
directory_count file = count_by is_slash file

-- The directory of a file, without the slash after it, or the empty text if it has none. (own)
abbrev pub directory_of : List ℕ → List ℕ
directory_of file = before_last is_slash file

-- A file's name without its directories. (own)
abbrev pub base_name : List ℕ → List ℕ
base_name file = after_last is_slash file

-- The relative name of the directory that is n levels up: `.`, `..`, `../..` and so on. (own)
unfoldable pub up : ℕ → List ℕ
up zero = codes "."
up (suc zero) = codes ".."
up (suc (suc n)) = up (suc n) ++ codes "/.."

-- The directory is written as `.`. (own)
abbrev pub is_here : List ℕ → Bool
is_here directory = bytes_eq directory (codes ".")

-- The name is absolute. (own)
abbrev pub is_absolute : List ℕ → Bool
is_absolute directory = starts_with nat_eq directory (codes "/")

-- A directory's name relative to the file's directory, given relative to the top. (own)
unfoldable pub seen_from : List ℕ → List ℕ → List ℕ
seen_from file directory =
    if is_here directory then up (directory_count file)
    else if is_absolute directory || directory_count file == 0 then directory
    else up (directory_count file) ++ codes "/" ++ directory

-- The source directory that corresponds to the file's directory: the directory with the same name in the sources.
-- (Autoconf's manual, "Preset Output Variables")
unfoldable pub sources_beside : List ℕ → List ℕ → List ℕ
sources_beside file srcdir =
    if is_here srcdir then codes "."
    else if directory_count file == 0 then seen_from file srcdir
    else seen_from file srcdir ++ codes "/" ++ directory_of file

-- The four directory variables of a file, if `srcdir` is the top directory of the sources relative to that of the
-- build. (Autoconf's manual, "Preset Output Variables")
unfoldable pub directories_of : List ℕ → List ℕ → FileDirectories
directories_of file srcdir = record {
  srcdir = sources_beside file srcdir;
  top_srcdir = seen_from file srcdir;
  builddir = codes ".";
  top_builddir = up (directory_count file);
}

-- The line that says what a file was made from. (Autoconf's manual, "Preset Output Variables")
unfoldable pub configure_input_of : List ℕ → List ℕ → List ℕ
configure_input_of file template =
    file ++ codes ".  Generated from " ++ base_name template ++ codes " by configure."

-- The first line of a header, a comment that says what it was made from. (Autoconf's manual, "Configuration Header
-- Files")
unfoldable pub header_note_of : List ℕ → List ℕ → List ℕ
header_note_of file template = codes "/* " ++ (configure_input_of file template ++ codes "  */\n")
