-- The name of a package's archive, if AC_INIT names none. (Autoconf's manual, "Initializing configure")
use Rattle.std.specs.Prelude.{ℕ, ◌||◌, ◌==◌, List, map, drop, nat_eq, codes, if◌then◌else◌}
use Rattle.std.specs.Char.{is_ascii_alphanumeric, to_ascii_lowercase}
use Rattle.std.specs.List.{starts_with}

-- The name without `GNU ` at its front. (Autoconf's manual, "Initializing configure")
abbrev pub without_gnu : List ℕ → List ℕ
without_gnu title = if starts_with nat_eq title (codes "GNU ") then drop 4 title else title

-- A letter in lower case, a digit or `_`; any other byte becomes `-`. (Autoconf's manual, "Initializing configure")
abbrev pub tar_byte : ℕ → ℕ
tar_byte b = if is_ascii_alphanumeric b || b == 95 then to_ascii_lowercase b else 45

-- The archive's name, derived from the package's name. (Autoconf's manual, "Initializing configure")
unfoldable pub tar_name : List ℕ → List ℕ
tar_name title = map tar_byte (without_gnu title)
