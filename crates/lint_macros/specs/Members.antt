-- The entries of the table for checks of members of a type and of flags, for AM_INIT_AUTOMAKE and for PKG_CHECK_MODULES. A check without
-- actions, one with actions and one with includes are written otherwise, so each has an entry of its own.
use Rattle.std.specs.Prelude.{ℕ, List, ◌||◌, ◌&&◌, Bool, bytes_eq, nat_lt, codes, if◌then◌else◌}

-- The name of the entry for a check of a flag of the compiler or of the linker with so many arguments, and for all other calls the name
-- itself. The first argument is the flag, the next two are the actions, and the fourth is what is given with the flag. (the archive of
-- macros for Autoconf; the names of entries are own)
abbrev pub flag_entry : List ℕ → ℕ → List ℕ
flag_entry name count =
    if bytes_eq name (codes "AX_CHECK_COMPILE_FLAG") && nat_lt 3 count then codes "AX_CHECK_COMPILE_FLAG(flags)"
    else if bytes_eq name (codes "AX_CHECK_COMPILE_FLAG") && nat_lt 1 count then codes "AX_CHECK_COMPILE_FLAG(actions)"
    else if bytes_eq name (codes "AX_CHECK_LINK_FLAG") && nat_lt 3 count then codes "AX_CHECK_LINK_FLAG(flags)"
    else if bytes_eq name (codes "AX_CHECK_LINK_FLAG") && nat_lt 1 count then codes "AX_CHECK_LINK_FLAG(actions)"
    else name

-- The name of the entry for a call of a macro of this name with so many arguments. Of a check of members the first argument is what is
-- looked for, the next two are the actions, and the fourth is the includes. (manual, "Generic Structures") AM_INIT_AUTOMAKE with two
-- arguments or more has the name and the version of the package. (manual of Automake) PKG_CHECK_MODULES with two arguments or more has the name
-- of the variables and the modules, the third is what is done if they are found, and the fourth what is done if they are not. (manual of pkg-config; the names of entries are own)
abbrev pub entry_name : List ℕ → ℕ → List ℕ
entry_name name count =
    if bytes_eq name (codes "AC_CHECK_MEMBERS") && nat_lt 3 count then codes "AC_CHECK_MEMBERS(includes)"
    else if bytes_eq name (codes "AC_CHECK_MEMBERS") && nat_lt 1 count then codes "AC_CHECK_MEMBERS(actions)"
    else if bytes_eq name (codes "AC_CHECK_MEMBER") && nat_lt 3 count then codes "AC_CHECK_MEMBER(includes)"
    else if bytes_eq name (codes "AM_INIT_AUTOMAKE") && nat_lt 1 count then codes "AM_INIT_AUTOMAKE(name)"
    else if bytes_eq name (codes "PKG_CHECK_MODULES") && nat_lt 3 count then codes "PKG_CHECK_MODULES(actions)"
    else if bytes_eq name (codes "PKG_CHECK_MODULES") && nat_lt 2 count then codes "PKG_CHECK_MODULES(found)"
    else if bytes_eq name (codes "PKG_CHECK_MODULES") && nat_lt 1 count then codes "PKG_CHECK_MODULES(flags)"
    else flag_entry name count

-- The macro of an entry takes a list of names with commas between them as its first argument, and its idiom is written once for each.
-- (own)
abbrev pub takes_list : List ℕ → Bool
takes_list name =
    bytes_eq name (codes "AC_CHECK_MEMBERS") || bytes_eq name (codes "AC_CHECK_MEMBERS(actions)") || bytes_eq name (codes "AC_CHECK_MEMBERS(includes)")
