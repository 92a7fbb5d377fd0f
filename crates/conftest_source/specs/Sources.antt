-- The programs that checks compile. Their texts are own. Autoconf's manual describes what each checks, in "Default
-- Includes", "Generating Sources", "Generic Headers" and "Generic Functions".
use Rattle.std.specs.Prelude.{ℕ, List, ◌++◌, nat_eq, codes, if◌then◌else◌}
use Rattle.std.specs.List.{ends_with}

-- The text, with a newline added if it doesn't end in one. (own)
unfoldable pub ended : List ℕ → List ℕ
ended text = if ends_with nat_eq text (codes "\n") then text else text ++ codes "\n"

-- The includes of a program for which no others are given. (Autoconf's manual, "Default Includes"; which headers these
-- are is own)
unfoldable pub default_includes : List ℕ
default_includes =
    codes "#include <stddef.h>\n#include <stdio.h>\n#include <stdlib.h>\n#include <string.h>\n#include <sys/types.h>\n"

-- A whole program: the prologue, and `main` with the body, each followed by a newline. (Autoconf's manual, "Generating
-- Sources")
unfoldable pub program_source : List ℕ → List ℕ → List ℕ
program_source prologue body =
    prologue ++ codes "\nint\nmain (void)\n{\n" ++ body ++ codes "\n  ;\n  return 0;\n}\n"

-- The program that checks whether a header can be included after these lines. (Autoconf's manual, "Generic Headers")
unfoldable pub header_source : List ℕ → List ℕ → List ℕ
header_source includes header = ended includes ++ codes "#include <" ++ header ++ codes ">"

-- The program that checks whether a function can be linked. (Autoconf's manual, "Generic Functions")
unfoldable pub function_source : List ℕ → List ℕ
function_source name =
    program_source (codes "#undef " ++ name ++ codes "\nchar " ++ name ++ codes " (void);")
    (codes "return " ++ name ++ codes " ();")
