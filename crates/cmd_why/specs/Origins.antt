-- What config.status and a cache show of where an answer is from that was there before its check.
use Rattle.std.specs.Prelude.{ℕ, ◌==◌, ◌||◌, nat_eq, bytes_eq, Bool, true, false, List, [], ◌∷◌, ◌++◌, length, filter, flat_map, Option, Some, None, codes, if◌then◌else◌}
use Rattle.std.specs.List.{starts_with}
use Rattle.options_line.specs.Arguments.{Argument, Flag, OptionValue, VariableValue, awaited_after, read_argument}
use Rattle.options_line.specs.declared.argument.Switch.TheVariants.{ConfigCache}
use Rattle.options_line.specs.declared.argument.Target.{Target}
use Rattle.options_line.specs.declared.argument.Target.TheVariants.{InstallDirectory, Srcdir, CacheFile}
use Rattle.options.specs.Opening.{cache_named}
use Rattle.text_cut.specs.Cuts.{parts}
use Rattle.cmd_why.specs.Lines.{after_front}
use Rattle.cmd_why.specs.Names.{cache_name, cache_names}
use Rattle.cmd_why.specs.Quoting.{shell_word}
use Rattle.cmd_why.specs.Subjects.{subject_of}
use Rattle.cmd_why.specs.declared.seen.Seen.{Seen}
use Rattle.cmd_why.specs.declared.seen.Seen.TheVariants.{Unlooked, Unrecorded, Recorded}

-- ---- arguments

-- The cache after an option with this value. (Autoconf's manual, "Cache Files")
abbrev pub cache_of_value : Target → List ℕ → Option (List ℕ) → Option (List ℕ)
cache_of_value CacheFile value cache = cache_named value
cache_of_value Srcdir value cache = cache
cache_of_value (InstallDirectory directory) value cache = cache

-- The cache after an argument with this reading. (Autoconf's manual, "Cache Files")
abbrev pub cache_said : Argument → Option (List ℕ) → Option (List ℕ)
cache_said (Flag ConfigCache) cache = Some (codes "config.cache")
cache_said (OptionValue target value) cache = cache_of_value target value cache
cache_said other cache = cache

-- The cache after an argument, which may be the value of the option before it. (own)
unfoldable pub cache_after : Option Target → List ℕ → Option (List ℕ) → Option (List ℕ)
cache_after (Some target) argument cache = cache_of_value target argument cache
cache_after None argument cache = cache_said (read_argument argument) cache

-- The cache after all of these arguments; those with errors are passed over. (own)
abbrev pub cache_from : Option Target → Option (List ℕ) → List (List ℕ) → Option (List ℕ)
cache_from awaited cache [] = cache
cache_from awaited cache (argument ∷ more) = cache_from (awaited_after awaited argument) (cache_after awaited argument cache) more

-- The cache that arguments name: that of the last one that names one, or none. (Autoconf's manual, "Cache Files")
abbrev pub cache_of : List (List ℕ) → Option (List ℕ)
cache_of arguments = cache_from None None arguments

-- The name is one of these. (own)
abbrev pub is_one_of : List ℕ → List (List ℕ) → Bool
is_one_of name [] = false
is_one_of name (known ∷ more) = if bytes_eq known name then true else is_one_of name more

-- An argument with this reading sets one of these names. (Autoconf's manual, "configure Invocation")
abbrev pub sets_said : List (List ℕ) → Argument → Bool
sets_said names (VariableValue name value) = is_one_of name names
sets_said names other = false

-- The argument sets one of these names, unless it is the value of the option before it. (own)
unfoldable pub sets_after : List (List ℕ) → Option Target → List ℕ → Bool
sets_after names (Some target) argument = false
sets_after names None argument = sets_said names (read_argument argument)

-- The argument, if it sets one of these names, or else the one before. (own)
abbrev pub setter_after : List (List ℕ) → Option Target → List ℕ → Option (List ℕ) → Option (List ℕ)
setter_after names awaited argument setter = if sets_after names awaited argument then Some argument else setter

-- The last argument that sets one of these names, or else the one before. (own)
abbrev pub setter_from : List (List ℕ) → Option Target → Option (List ℕ) → List (List ℕ) → Option (List ℕ)
setter_from names awaited setter [] = setter
setter_from names awaited setter (argument ∷ more) =
    setter_from names (awaited_after awaited argument) (setter_after names awaited argument setter) more

-- The last argument that sets one of these names, if one does. (Autoconf's manual, "configure Invocation")
abbrev pub setter_of : List (List ℕ) → List (List ℕ) → Option (List ℕ)
setter_of names arguments = setter_from names None None arguments

-- ---- a cache

-- The text after a front, if there is one, begins with this. (own)
abbrev pub goes_on : List ℕ → Option (List ℕ) → Bool
goes_on next None = false
goes_on next (Some rest) = starts_with nat_eq rest next

-- The text begins with a name and this text. (own)
abbrev pub follows : List ℕ → List ℕ → List ℕ → Bool
follows name next text = goes_on next (after_front name text)

-- The text after a front, if there is one, begins with a name and `+`. (own)
abbrev pub tests_in : List ℕ → Option (List ℕ) → Bool
tests_in name None = false
tests_in name (Some rest) = follows name (codes "+") rest

-- The line of a cache sets this name: it is the name and `=`, or begins with a test of it. (docs/formats.md)
unfoldable pub sets_name : List ℕ → List ℕ → Bool
sets_name line name =
    follows name (codes "=") line
    || (tests_in name (after_front (codes "test ${") line) || tests_in name (after_front (codes "test \"${") line))

-- The line sets one of these names. (own)
abbrev pub sets_one : List (List ℕ) → List ℕ → Bool
sets_one [] line = false
sets_one (name ∷ more) line = if sets_name line name then true else sets_one more line

-- The lines of a cache that set one of these names. (own)
abbrev pub lines_setting : List (List ℕ) → List (List ℕ) → List (List ℕ)
lines_setting names lines = filter (λ line. sets_one names line) lines

-- ---- what is said

-- What is said before an argument that sets the name. (own)
unfoldable pub setter_front : List ℕ
setter_front = codes "config.status keeps an argument that sets it: "

-- What is said after it. (own)
unfoldable pub setter_end : List ℕ
setter_end = codes "\nTo ask again, leave that argument out.\n"

-- What is said of the last argument that sets the name. (own)
abbrev pub setter_text : Option (List ℕ) → List ℕ
setter_text None = []
setter_text (Some argument) =
    setter_front ++ (shell_word argument ++ setter_end)

-- A line of a cache, as it is shown. (own)
unfoldable pub cache_line : List ℕ → List ℕ
cache_line line = codes "  " ++ (line ++ codes "\n")

-- What is said between the name of a cache and its lines. (own)
unfoldable pub lines_heading : List ℕ
lines_heading = codes " has it now. To ask again, remove there:\n"

-- The lines of the cache of this name, with what is said before them. (own)
abbrev pub headed_lines : List ℕ → List (List ℕ) → List ℕ
headed_lines name lines = codes "The cache " ++ (name ++ (lines_heading ++ flat_map cache_line lines))

-- What is said of the lines that set the name in the cache of this name. (own)
unfoldable pub lines_text : List ℕ → List (List ℕ) → List ℕ
lines_text name lines =
    if length lines == 0 then []
    else headed_lines name lines

-- What is said of a cache, if one can be read: its name and its text. (own)
unfoldable pub cache_text : List (List ℕ) → Option (List ℕ × List ℕ) → List ℕ
cache_text names None = []
cache_text names (Some cache) = lines_text cache.0 (lines_setting names (parts 10 cache.1))

-- The text, or what is said if there is nothing to say. (own)
unfoldable pub or_nothing : List ℕ → List ℕ
or_nothing text =
    if length text == 0
    then codes "No argument in config.status sets a name that the log gives, and no cache that they name has one. It may be from the environment, from the source, or from a cache that isn't there now, or its name is not in the log.\n"
    else text

-- Where the values of these names may be from, by what is seen. (own)
unfoldable pub source_text : List (List ℕ) → Seen → List ℕ
source_text names Unlooked =
    codes "It may be from an argument, a cache, the environment or the source: config.status is read only for config.log.\n"
source_text names Unrecorded =
    codes "It may be from an argument, a cache, the environment or the source: there is no config.status with arguments.\n"
source_text names (Recorded arguments cache defs) = or_nothing (setter_text (setter_of names arguments) ++ cache_text names cache)

-- The front of what is said of an answer that was there before its check. (own)
unfoldable pub cached_front : List ℕ
cached_front = codes "This answer was there before the check was made, as the value of "

-- What is said of an answer that was there before its check. (own)
unfoldable pub cached_text : Seen → List ℕ → List ℕ
cached_text seen message =
    cached_front
    ++ (cache_name (subject_of message) ++ (codes ".\n" ++ source_text (cache_names (subject_of message)) seen))
