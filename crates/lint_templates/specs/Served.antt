-- The output variables that Autoconf sets itself, and the lines that set them in a source. All of this is own.
use Rattle.std.specs.Prelude.{ℕ, Bool, true, false, List, [], ◌∷◌, ◌++◌, bytes_eq, codes, if◌then◌else◌}
use Rattle.std.specs.List.{flat_map}

-- The names, each with words that say in what its line differs from what Autoconf does, or none if it differs in nothing, and with the
-- line. The directories have a line for templates without `datarootdir`, and CFLAGS has one that comes after AC_PROG_CC.
unfoldable pub served : List (List ℕ × List ℕ × List ℕ)
served =
    (codes "SHELL", codes "Autoconf takes a shell that it finds, such as /bin/bash", codes "AC_SUBST([SHELL], [/bin/sh])")
    ∷ (codes "PATH_SEPARATOR", codes "the environment is not read", codes "AC_SUBST([PATH_SEPARATOR], [:])")
    ∷ (codes "ECHO_C", codes "it is that of a shell whose echo takes -n", codes "AC_SUBST([ECHO_C], [''])")
    ∷ (codes "ECHO_N", codes "it is that of a shell whose echo takes -n", codes "AC_SUBST([ECHO_N], [-n])")
    ∷ (codes "ECHO_T", codes "it is that of a shell whose echo takes -n", codes "AC_SUBST([ECHO_T], [''])")
    ∷ (codes "build_alias", codes "acrun has no --build", codes "AC_SUBST([build_alias], [''])")
    ∷ (codes "host_alias", codes "acrun has no --host", codes "AC_SUBST([host_alias], [''])")
    ∷ (codes "target_alias", codes "acrun has no --target", codes "AC_SUBST([target_alias], [''])")
    ∷ (codes "program_transform_name", codes "acrun renames no programs", codes "AC_SUBST([program_transform_name], [s,x,x,])")
    ∷ (codes "OBJEXT", codes "no compiler is asked", codes "AC_SUBST([OBJEXT], [o])")
    ∷ (codes "EXEEXT", codes "no compiler is asked", codes "AC_SUBST([EXEEXT], [''])")
    ∷ (codes "LIBOBJS", [], codes "AC_SUBST([LIBOBJS], [''])")
    ∷ (codes "LTLIBOBJS", [], codes "AC_SUBST([LTLIBOBJS], [''])")
    ∷ (codes "mandir", codes "no template sets datarootdir, so its value is written out", codes "AS_IF([test \"x$mandir\" = 'x${datarootdir}/man'], [mandir=$datarootdir/man])")
    ∷ (codes "datadir", codes "no template sets datarootdir, so its value is written out", codes "AS_IF([test \"x$datadir\" = 'x${datarootdir}'], [datadir=$datarootdir])")
    ∷ (codes "infodir", codes "no template sets datarootdir, so its value is written out", codes "AS_IF([test \"x$infodir\" = 'x${datarootdir}/info'], [infodir=$datarootdir/info])")
    ∷ (codes "docdir", codes "no template sets datarootdir, so its value is written out", codes "AS_IF([test \"x$docdir\" = 'x${datarootdir}/doc/${PACKAGE_TARNAME}'], [docdir=$datarootdir/doc/'${PACKAGE_TARNAME}'])")
    ∷ (codes "localedir", codes "no template sets datarootdir, so its value is written out", codes "AS_IF([test \"x$localedir\" = 'x${datarootdir}/locale'], [localedir=$datarootdir/locale])")
    ∷ (codes "CFLAGS", codes "an empty value of the user is replaced too, and the compiler is not asked whether it takes -g", codes "AS_IF([test \"x$CFLAGS\" = x], [CFLAGS='-g -O2'])")
    ∷ []

-- The words of the first of these rows with this name, or none.
abbrev pub words_among : List ℕ → List (List ℕ × List ℕ × List ℕ) → List ℕ
words_among name [] = []
words_among name (row ∷ rows) = if bytes_eq row.0 name then row.1 else words_among name rows

-- The line of the first of these rows with this name, or none.
abbrev pub line_among : List ℕ → List (List ℕ × List ℕ × List ℕ) → List ℕ
line_among name [] = []
line_among name (row ∷ rows) = if bytes_eq row.0 name then row.2 else line_among name rows

-- A line with its newline.
abbrev pub line_of : List ℕ → List ℕ
line_of line = line ++ 10 ∷ []

-- What the line begins with that says in what the line of a name differs.
unfoldable pub front : List ℕ
front = codes "dnl acrun: in place of @"

-- What is after the name in it.
unfoldable pub rest_of : List ℕ → List ℕ
rest_of words = codes "@: " ++ line_of words

-- The line that says in what the line of a name differs.
abbrev pub words_of : List ℕ → List ℕ → List ℕ
words_of name words = front ++ (name ++ rest_of words)

-- A line, below the line that says in what it differs, if there are words for that. Then it is there only if all lines are wanted.
abbrev pub lines_by : Bool → List ℕ → List ℕ → List ℕ → List ℕ
lines_by all name [] line = line_of line
lines_by true name (word ∷ words) line = words_of name (word ∷ words) ++ line_of line
lines_by false name (word ∷ words) line = []

-- The same, if there is a line.
abbrev pub lines_if : Bool → List ℕ → List ℕ → List ℕ → List ℕ
lines_if all name words [] = []
lines_if all name words (byte ∷ line) = lines_by all name words (byte ∷ line)

-- The lines that set a name, or none.
unfoldable pub lines_for : Bool → List ℕ → List ℕ
lines_for all name = lines_if all name (words_among name served) (line_among name served)

-- The lines that set names, one after the other.
abbrev pub lines_for_all : Bool → List (List ℕ) → List ℕ
lines_for_all all names = flat_map (lines_for all) names
