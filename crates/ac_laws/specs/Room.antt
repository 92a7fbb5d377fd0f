-- When AC_PROG_CC has room for the variables of the compiler.
use Rattle.std.specs.Prelude.{◌≡◌, length, nat_le}
use Rattle.ac_tree.specs.declared.declarations.Declarations as declarations
use Rattle.ac_tree.specs.Lists.{with_tools}
use Rattle.ac_macros.specs.Searches.{has_tool_room}

-- There is room for them exactly if the source then has at most 1,024 output variables. (own)
abbrev pub ToolsAreCounted : Type 0
ToolsAreCounted = (c : declarations.Declarations)
    → has_tool_room c.substituted ≡ nat_le (length (with_tools c).substituted) 1024
