-- What the program is asked to do. (own)
use Rattle.std.specs.Prelude.{ℕ, ◌≤◌, ◌==◌, nat_eq, ◌||◌, ◌&&◌, not, ◌≡◌, Bool, false, List, [], ◌∷◌, length, Option, Some, None, bytes_eq, codes, if◌then◌else◌}
use Rattle.std.specs.List.{list_any, starts_with}

-- What the program is asked to do: to filter its input; to answer in a compiler's place; to run a configure.ac with at most
-- `window` children at once; to make the outputs of a record again; to run the configure.ac again with the arguments of a record;
-- to say what is wrong with sources; to rewrite a source; to print a header template of a source; to say why a check has its answer;
-- to explain itself or one of its commands; to name its version; or it doesn't know. (own)
pub data ProgramCall : Type 0 where
  Filter : ProgramCall
  StandIn : (words : List (List ℕ)) → ProgramCall
  Configure : (window : ℕ) (arguments : List (List ℕ)) → ProgramCall
  Status : (tags : List (List ℕ)) → ProgramCall
  Recheck : ProgramCall
  Lint : (words : List (List ℕ)) → ProgramCall
  Port : (words : List (List ℕ)) → ProgramCall
  Header : (words : List (List ℕ)) → ProgramCall
  Why : (words : List (List ℕ)) → ProgramCall
  Help : (words : List (List ℕ)) → ProgramCall
  Version : ProgramCall
  Unknown : ProgramCall

-- The options for the number of children at once, each with that number. (own)
unfoldable pub windows : List (List ℕ × ℕ)
windows = (codes "-j1", 1) ∷ (codes "-j2", 2) ∷ (codes "-j3", 3) ∷ (codes "-j4", 4) ∷ (codes "-j5", 5) ∷ (codes "-j6", 6) ∷ (codes "-j7", 7) ∷ (codes "-j8", 8)
    ∷ (codes "-j9", 9) ∷ (codes "-j10", 10) ∷ (codes "-j11", 11) ∷ (codes "-j12", 12) ∷ (codes "-j13", 13) ∷ (codes "-j14", 14) ∷ (codes "-j15", 15) ∷ (codes "-j16", 16) ∷ []

-- The number in the first of these rows whose option is the word. (own)
abbrev pub window_among : List ℕ → List (List ℕ × ℕ) → Option ℕ
window_among word [] = None
window_among word (row ∷ rows) = if bytes_eq row.0 word then Some row.1 else window_among word rows

-- The number of children at once that the word asks for. (own)
abbrev pub window_of : List ℕ → Option ℕ
window_of word = window_among word windows

abbrev pub is_configure : List ℕ → Bool
is_configure word = bytes_eq word (codes "configure")

-- The call, if so many children are wanted at once and these words follow. (own)
abbrev pub windowed : Option ℕ → List (List ℕ) → ProgramCall
windowed None words = Unknown
windowed (Some window) [] = Unknown
windowed (Some window) (word ∷ arguments) = if is_configure word then Configure window arguments else Unknown

-- The words after `status` begin with `--recheck`. (Autoconf's manual, "config.status Invocation")
abbrev pub asks_recheck : List (List ℕ) → Bool
asks_recheck [] = false
asks_recheck (word ∷ words) = bytes_eq word (codes "--recheck")

-- The call with these words after `status`, the first of which is `--recheck`: it takes no further word. (own)
abbrev pub recheck_call : List (List ℕ) → ProgramCall
recheck_call words = if length words == 1 then Recheck else Unknown

-- The call with these words after `status`. (own)
abbrev pub status_call : List (List ℕ) → ProgramCall
status_call words = if asks_recheck words then recheck_call words else Status words

-- The call of an option that takes no further word. (own)
abbrev pub alone : ProgramCall → List (List ℕ) → ProgramCall
alone call [] = call
alone call (word ∷ words) = Unknown

-- The word asks for help. (own)
abbrev pub is_help : List ℕ → Bool
is_help word = bytes_eq word (codes "--help") || bytes_eq word (codes "-h")

-- The call with this first word, if it is an option of the program itself. (own)
abbrev pub option_call : List ℕ → List (List ℕ) → ProgramCall
option_call word words =
    if is_help word then alone (Help []) words
    else if bytes_eq word (codes "--version") || bytes_eq word (codes "-V") then alone Version words
    else windowed (window_of word) words

-- The call with this first word, which runs no source. (own)
abbrev pub asking_call : List ℕ → List (List ℕ) → ProgramCall
asking_call word words =
    if bytes_eq word (codes "lint") then Lint words
    else if bytes_eq word (codes "port") then Port words
    else if bytes_eq word (codes "header") then Header words
    else if bytes_eq word (codes "why") then Why words
    else if bytes_eq word (codes "help") then Help words
    else option_call word words

-- The call with this first word. (own)
abbrev pub named_call : List ℕ → List (List ℕ) → ProgramCall
named_call word words =
    if bytes_eq word (codes "standin") then StandIn words
    else if is_configure word then Configure 1 words
    else if bytes_eq word (codes "status") then status_call words
    else asking_call word words

-- The command explains itself if its only word asks for help. `configure`, `status` and `standin` take that word as theirs. (own)
abbrev pub explains_itself : List ℕ → Bool
explains_itself word = bytes_eq word (codes "lint") || bytes_eq word (codes "port") || bytes_eq word (codes "header") || bytes_eq word (codes "why") || bytes_eq word (codes "help")

-- These are a command and its only word, which asks for help with it. (own)
abbrev pub asks_own_help : List (List ℕ) → Bool
asks_own_help (command ∷ word ∷ []) = explains_itself command && is_help word
asks_own_help words = false

-- What the program is asked to do with these words after its name. (own)
abbrev pub call_of : List (List ℕ) → ProgramCall
call_of [] = Filter
call_of (word ∷ words) = if asks_own_help (word ∷ words) then Help (word ∷ []) else named_call word words

-- If the program is asked to filter its input, this holds. (own)
abbrev pub IfFilter : ProgramCall → Type 0 → Type 0
IfFilter Filter goes_on = goes_on
IfFilter call goes_on = Unit {0}

-- If it is asked to answer in a compiler's place, this holds of its words. (own)
abbrev pub IfStandIn : ProgramCall → (List (List ℕ) → Type 0) → Type 0
IfStandIn (StandIn words) goes_on = goes_on words
IfStandIn call goes_on = Unit {0}

-- If it is asked to run a configure.ac, this holds of its window and its arguments. (own)
abbrev pub IfConfigure : ProgramCall → (ℕ → List (List ℕ) → Type 0) → Type 0
IfConfigure (Configure window arguments) goes_on = goes_on window arguments
IfConfigure call goes_on = Unit {0}

-- If it is asked to make outputs again, this holds of their names. (own)
abbrev pub IfStatus : ProgramCall → (List (List ℕ) → Type 0) → Type 0
IfStatus (Status tags) goes_on = goes_on tags
IfStatus call goes_on = Unit {0}

-- If it is asked to run the configure.ac of a record again, this holds. (own)
abbrev pub IfRecheck : ProgramCall → Type 0 → Type 0
IfRecheck Recheck goes_on = goes_on
IfRecheck call goes_on = Unit {0}

-- The program is asked for no run. (own)
abbrev pub HasNoRun : ProgramCall → Type 0
HasNoRun (Configure window arguments) = ⊥
HasNoRun Recheck = ⊥
HasNoRun call = Unit {0}

-- If it is asked to say what is wrong with sources, this holds of the words after `lint`. (own)
abbrev pub IfLint : ProgramCall → (List (List ℕ) → Type 0) → Type 0
IfLint (Lint words) goes_on = goes_on words
IfLint call goes_on = Unit {0}

-- If it is asked to print a header template, this holds of the words after `header`. (own)
abbrev pub IfHeader : ProgramCall → (List (List ℕ) → Type 0) → Type 0
IfHeader (Header words) goes_on = goes_on words
IfHeader call goes_on = Unit {0}

-- If it is asked why a check has its answer, this holds of the words after `why`. (own)
abbrev pub IfWhy : ProgramCall → (List (List ℕ) → Type 0) → Type 0
IfWhy (Why words) goes_on = goes_on words
IfWhy call goes_on = Unit {0}

-- If it is asked to explain itself, this holds of the words after `help`. (own)
abbrev pub IfHelp : ProgramCall → (List (List ℕ) → Type 0) → Type 0
IfHelp (Help words) goes_on = goes_on words
IfHelp call goes_on = Unit {0}

-- A word that names standard input in place of a file. (own)
abbrev pub is_input : List ℕ → Bool
is_input word = bytes_eq word (codes "-")

-- A word that is an option, and no name of a file: it begins with a dash, and doesn't name standard input. (own)
abbrev pub is_option : List ℕ → Bool
is_option word = starts_with nat_eq word (codes "-") && not (is_input word)

-- The program is asked for nothing that reads standard input: only the filter does, and `lint`, `port` and `header` if `-` is
-- one of their words. (own)
abbrev pub HasNoInput : ProgramCall → Type 0
HasNoInput Filter = ⊥
HasNoInput (Lint words) = list_any is_input words ≡ false
HasNoInput (Port words) = list_any is_input words ≡ false
HasNoInput (Header words) = list_any is_input words ≡ false
HasNoInput call = Unit {0}

-- The program is asked for nothing that writes to standard output. (own)
abbrev pub HasNoOutput : ProgramCall → Type 0
HasNoOutput (StandIn words) = Unit {0}
HasNoOutput Unknown = Unit {0}
HasNoOutput call = ⊥

-- The window of a run is from 1 to 16. (own)
abbrev pub HasWindow : ProgramCall → Type 0
HasWindow (Configure window arguments) = (1 ≤ window) × (window ≤ 16)
HasWindow call = Unit {0}
