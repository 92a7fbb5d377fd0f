-- What AC_PROG_CC and the macros after it do with Autoconf, in lines of their own below the call. (manual, "C Compiler" and "Default Includes";
-- that it is written is own)
use Rattle.std.specs.Prelude.{◌≡◌, ℕ, true, List, ◌∷◌, ◌++◌, codes}
use Rattle.std.specs.List.{list_all}
use Rattle.port_spots.specs.Put.{difference, is_space_or_return}

-- ---- the flags

unfoldable pub flags_said : List ℕ
flags_said = codes " AC_PROG_CC does not set it here, so an empty value becomes what Autoconf sets for a compiler of GNU"

unfoldable pub flags_text : List ℕ
flags_text = (codes "AS_IF([test -z " ++ (34 ∷ codes "$CFLAGS")) ++ ((34 ∷ codes "], [CFLAGS=") ++ ((34 ∷ codes "-g -O2") ++ (34 ∷ codes "])")))

-- ---- the default headers

unfoldable pub headers_said : List ℕ
headers_said = codes " no macro looks for the default headers here, so they are looked for after AC_PROG_CC"

unfoldable pub headers_text : List ℕ
headers_text = codes "AC_CHECK_HEADERS([stdio.h stdlib.h string.h inttypes.h stdint.h strings.h sys/stat.h sys/types.h unistd.h])"

unfoldable pub standard_said : List ℕ
standard_said = codes " it is defined without a check"

unfoldable pub standard_text : List ℕ
standard_text = codes "AC_DEFINE([STDC_HEADERS], [1])"

-- ---- where they are

-- A comment and a text, each on a line of its own.
abbrev pub lines_below : List ℕ → List ℕ → List ℕ → List ℕ → List ℕ
lines_below indent name said text = ((10 ∷ indent) ++ difference name said) ++ ((10 ∷ indent) ++ text)

-- One of these.
pub data IsBelowCompiler (put : List ℕ) : Type 0 where
  flags : (indent : List ℕ) → list_all is_space_or_return indent ≡ true → put ≡ lines_below indent (codes "CFLAGS") flags_said flags_text → IsBelowCompiler put
  headers : (indent : List ℕ) → list_all is_space_or_return indent ≡ true → put ≡ lines_below indent (codes "AC_INCLUDES_DEFAULT") headers_said headers_text → IsBelowCompiler put
  standard : (indent : List ℕ) → list_all is_space_or_return indent ≡ true → put ≡ lines_below indent (codes "STDC_HEADERS") standard_said standard_text → IsBelowCompiler put
