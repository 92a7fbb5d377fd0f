-- Lists of names. All of this is own.
use Rattle.std.specs.Prelude.{ℕ, List, if◌then◌else◌}
use Rattle.std.specs.List.{fold}
use Rattle.deftable.specs.NameList.{with_name}
use Rattle.deftable.specs.ShellName.{is_shell_name_of}

-- The names with this one added, if it has the form of one and is none of them.
abbrev pub with_formed : List (List ℕ) → List ℕ → List (List ℕ)
with_formed names name = if is_shell_name_of name then with_name names name else names

-- The names with all of these added, in order.
abbrev pub with_all : List (List ℕ) → List (List ℕ) → List (List ℕ)
with_all names more = fold with_formed names more
