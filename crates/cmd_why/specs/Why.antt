-- What `acrun why` prints, and its exit status, by the files that it reads.
use Rattle.std.specs.Prelude.{◌≡◌, ℕ, true, List, [], ◌∷◌, Option, Some, None, codes}
use Rattle.file_disk.specs.Known.{Known}
use Rattle.cmd_call.specs.Supplies.{ReadsWhole}
use Rattle.cfglog.specs.Log.{is_log, lines_in}
use Rattle.status_record.specs.Reading.{record_in}
use Rattle.cmd_why.specs.Lines.{Line, counted, checks, is_run}
use Rattle.cmd_why.specs.Quoting.{arguments_in, run_line}
use Rattle.cmd_why.specs.Sources.{IsSeenFor}
use Rattle.cmd_why.specs.declared.seen.Seen.{Seen}
use Rattle.cmd_why.specs.Shown.{printed, status_of}

-- The lines of a log, each with the number of children. (own)
abbrev pub lines_of_log : List ℕ → List Line
lines_of_log text = counted 0 (lines_in text)

-- This is printed for a word, with this status, if these are the lines of the log of a run, and this is seen of where answers may be
-- from. (own)
pub record IsAnswer (seen : Seen) (word : List ℕ) (lines : List Line) (out : List ℕ) (status : ℕ) : Type 0 where
  pub of_run : is_run (checks lines) lines ≡ true
  pub out_is : out ≡ printed seen lines word (checks lines)
  pub status_is : status ≡ status_of word (checks lines)

-- The text is a log, and this is printed for a word of its lines, with this status. (own)
pub record IsInLog (seen : Seen) (text word out : List ℕ) (status : ℕ) : Type 0 where
  pub of_log : is_log text ≡ true
  pub answer : IsAnswer seen word (lines_of_log text) out status

-- This is printed for a word, with this status, of the log of this name. The file, if anything is known of it, has the text of the
-- log, and of where answers may be from, this is seen. (own)
pub record IsOfLog (files : Option Known) (name word out : List ℕ) (status : ℕ) : Type 0 where
  pub text : List ℕ
  pub read : ReadsWhole files name (Some text)
  pub seen : Seen
  pub is_seen : IsSeenFor files name seen
  pub in_log : IsInLog seen text word out status

-- The line is that of the run with the arguments of the record in a text. (own)
pub record IsLineIn (text line : List ℕ) : Type 0 where
  pub arguments : List (List ℕ)
  pub has : arguments_in (record_in text) ≡ Some arguments
  pub is : line ≡ run_line arguments

-- This is printed without a word: the call of the run that the record is of. The file, if anything is known of it, has the text of
-- the record. (own)
pub record IsOfRecord (files : Option Known) (out : List ℕ) (status : ℕ) : Type 0 where
  pub text : List ℕ
  pub read : ReadsWhole files (codes "config.status") (Some text)
  pub line : IsLineIn text out
  pub status_is : status ≡ 0

-- The name of the log, by the words after WORD: `config.log`, or the one word. Further words have no meaning. (own)
abbrev pub log_named : List (List ℕ) → Option (List ℕ)
log_named [] = Some (codes "config.log")
log_named (name ∷ []) = Some name
log_named (name ∷ other ∷ more) = None

-- This is printed for a word, with this status, if a log is named. (own)
abbrev pub IsOfWord : Option Known → List ℕ → Option (List ℕ) → List ℕ → ℕ → Type 0
IsOfWord files word None out status = ⊥
IsOfWord files word (Some name) out status = IsOfLog files name word out status

-- This is printed for these words after `why`, with this status. (own)
abbrev pub IsWhy : Option Known → List (List ℕ) → List ℕ → ℕ → Type 0
IsWhy files [] out status = IsOfRecord files out status
IsWhy files (word ∷ more) out status = IsOfWord files word (log_named more) out status
