-- The directory of the source, as a command line names it, whether or not its arguments are right. (own)
use Rattle.std.specs.Prelude.{◌≡◌, ℕ, List, [], ◌∷◌, ◌++◌, Option, Some, None, codes}
use Rattle.options_line.specs.Arguments.{Argument, OptionValue, awaited_after, read_argument}
use Rattle.options_line.specs.Parts.{ArgumentPart, Word, Valued, AreParts}
use Rattle.options_line.specs.Slashes.{without_slashes}
use Rattle.options_line.specs.declared.argument.Target.{Target}
use Rattle.options_line.specs.declared.argument.Target.TheVariants.{InstallDirectory, Srcdir, CacheFile}

-- ---- as a rule

-- The part names this directory as that of the source. (Autoconf's manual, "configure Invocation")
pub data NamesSource : ArgumentPart → List ℕ → Type 0 where
  in_one : (directory : List ℕ) → NamesSource (Word (codes "--srcdir=" ++ directory)) directory
  in_two : (option directory : List ℕ) → NamesSource (Valued option Srcdir directory) directory

-- The last directory that a part names or, if none names one, the directory before. (own)
pub data IsLastSource : List ℕ → List ArgumentPart → List ℕ → Type 0 where
  no_more : {before : List ℕ} → IsLastSource before [] before
  named : {before directory last : List ℕ} {part : ArgumentPart} {parts : List ArgumentPart} → NamesSource part directory
      → IsLastSource directory parts last → IsLastSource before (part ∷ parts) last
  passed : {before last : List ℕ} {part : ArgumentPart} {parts : List ArgumentPart} → ((directory : List ℕ) → ¬ (NamesSource part directory))
      → IsLastSource before parts last → IsLastSource before (part ∷ parts) last

-- The arguments, right or not, name this directory: that of the last part that names one, or the current one, without final
-- slashes. (Autoconf's manual, "configure Invocation")
pub record NamesDirectory (arguments : List (List ℕ)) (directory : List ℕ) : Type 0 where
  pub parts : List ArgumentPart
  pub are_parts : AreParts arguments parts
  pub source : List ℕ
  pub is_last : IsLastSource (codes ".") parts source
  pub is : directory ≡ without_slashes source

-- ---- as a function

-- The directory after an option with this value. (own)
abbrev pub srcdir_of_value : Target → List ℕ → List ℕ → List ℕ
srcdir_of_value Srcdir value srcdir = value
srcdir_of_value CacheFile value srcdir = srcdir
srcdir_of_value (InstallDirectory directory) value srcdir = srcdir

-- The directory after an argument with this reading. (own)
abbrev pub srcdir_said : Argument → List ℕ → List ℕ
srcdir_said (OptionValue target value) srcdir = srcdir_of_value target value srcdir
srcdir_said other srcdir = srcdir

-- The directory after an argument that may be the value of the option before it. (own)
abbrev pub srcdir_after : Option Target → List ℕ → List ℕ → List ℕ
srcdir_after (Some target) argument srcdir = srcdir_of_value target argument srcdir
srcdir_after None argument srcdir = srcdir_said (read_argument argument) srcdir

-- The directory after all of these arguments; those with errors are passed over. (own)
unfoldable pub srcdir_from : Option Target → List ℕ → List (List ℕ) → List ℕ
srcdir_from awaited srcdir [] = srcdir
srcdir_from awaited srcdir (argument ∷ more) =
    srcdir_from (awaited_after awaited argument) (srcdir_after awaited argument srcdir) more

-- The directory that a command line names, without final slashes, or the current one if it names none. (Autoconf's
-- manual, "configure Invocation")
unfoldable pub srcdir_of : List (List ℕ) → List ℕ
srcdir_of arguments = without_slashes (srcdir_from None (codes ".") arguments)
