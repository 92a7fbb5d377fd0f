-- The directories of an installation (Autoconf's manual, "Installation Directory Variables"), after prefix and
-- exec_prefix: their variables, their options, and their defaults. That a prefix is `NONE` until the end of a run is
-- own.
use Rattle.std.specs.Prelude.{ℕ, List, [], ◌∷◌, map, Option, codes}
use Rattle.std.specs.List.{find}
use Rattle.std.specs.Str.{bytes_eq}
use Rattle.options_line.specs.declared.directory.Directory.{Directory}
use Rattle.options_line.specs.declared.directory.Directory.TheVariants.{Prefix, ExecPrefix, Bindir, Sbindir, Libexecdir, Libdir, Datarootdir, Datadir, Sysconfdir, Sharedstatedir, Localstatedir, Runstatedir, Includedir, Oldincludedir, Docdir, Infodir, Htmldir, Dvidir, Pdfdir, Psdir, Localedir, Mandir}

-- All directories, in order. (Autoconf's manual, "Installation Directory Variables")
unfoldable pub directories : List Directory
directories =
    Prefix ∷ ExecPrefix ∷ Bindir ∷ Sbindir ∷ Libexecdir ∷ Libdir ∷ Datarootdir ∷ Datadir ∷ Sysconfdir ∷ Sharedstatedir
    ∷ Localstatedir ∷ Runstatedir ∷ Includedir ∷ Oldincludedir ∷ Docdir ∷ Infodir ∷ Htmldir ∷ Dvidir ∷ Pdfdir ∷ Psdir
    ∷ Localedir ∷ Mandir ∷ []

-- The variable of a directory. (Autoconf's manual, "Installation Directory Variables")
unfoldable pub variable_of : Directory → List ℕ
variable_of Prefix = codes "prefix"
variable_of ExecPrefix = codes "exec_prefix"
variable_of Bindir = codes "bindir"
variable_of Sbindir = codes "sbindir"
variable_of Libexecdir = codes "libexecdir"
variable_of Libdir = codes "libdir"
variable_of Datarootdir = codes "datarootdir"
variable_of Datadir = codes "datadir"
variable_of Sysconfdir = codes "sysconfdir"
variable_of Sharedstatedir = codes "sharedstatedir"
variable_of Localstatedir = codes "localstatedir"
variable_of Runstatedir = codes "runstatedir"
variable_of Includedir = codes "includedir"
variable_of Oldincludedir = codes "oldincludedir"
variable_of Docdir = codes "docdir"
variable_of Infodir = codes "infodir"
variable_of Htmldir = codes "htmldir"
variable_of Dvidir = codes "dvidir"
variable_of Pdfdir = codes "pdfdir"
variable_of Psdir = codes "psdir"
variable_of Localedir = codes "localedir"
variable_of Mandir = codes "mandir"

-- The default of a directory. (Autoconf's manual, "Installation Directory Variables")
unfoldable pub default_of : Directory → List ℕ
default_of Prefix = codes "NONE"
default_of ExecPrefix = codes "NONE"
default_of Bindir = codes "${exec_prefix}/bin"
default_of Sbindir = codes "${exec_prefix}/sbin"
default_of Libexecdir = codes "${exec_prefix}/libexec"
default_of Libdir = codes "${exec_prefix}/lib"
default_of Datarootdir = codes "${prefix}/share"
default_of Datadir = codes "${datarootdir}"
default_of Sysconfdir = codes "${prefix}/etc"
default_of Sharedstatedir = codes "${prefix}/com"
default_of Localstatedir = codes "${prefix}/var"
default_of Runstatedir = codes "${localstatedir}/run"
default_of Includedir = codes "${prefix}/include"
default_of Oldincludedir = codes "/usr/include"
default_of Docdir = codes "${datarootdir}/doc/${PACKAGE_TARNAME}"
default_of Infodir = codes "${datarootdir}/info"
default_of Htmldir = codes "${docdir}"
default_of Dvidir = codes "${docdir}"
default_of Pdfdir = codes "${docdir}"
default_of Psdir = codes "${docdir}"
default_of Localedir = codes "${datarootdir}/locale"
default_of Mandir = codes "${datarootdir}/man"

-- The option of a directory, without the dashes in front: the variable's name, except for `exec-prefix`. (Autoconf's
-- manual, "Installation Directory Variables")
unfoldable pub option_of : Directory → List ℕ
option_of ExecPrefix = codes "exec-prefix"
option_of directory = variable_of directory

-- The names of the variables, in the order of the directories. (own)
unfoldable pub directory_names : List (List ℕ)
directory_names = map variable_of directories

-- The directory with this option. (own)
unfoldable pub directory_named : List ℕ → Option Directory
directory_named option = find (λ directory. bytes_eq (option_of directory) option) directories
