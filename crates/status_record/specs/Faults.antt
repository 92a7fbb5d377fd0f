-- The first fault of a text that is no record. The lines of a text are those that a newline ends, and the rest is what
-- comes after the last newline.
use Rattle.std.specs.Prelude.{◌≡◌, ◌≢◌, ℕ, ◌+◌, true, List, [], ◌∷◌, ◌++◌, length, codes}
use Rattle.std.specs.List.{AllByRecursion, list_all}
use Rattle.std.specs.Char.{is_ascii_digit}
use Rattle.deftable.specs.Table.{HasShellNames}
use Rattle.output_list.specs.Output.{IsOutput}
use Rattle.text_cut.specs.Cuts.{parts}
use Rattle.status_record.specs.declared.fault.RecordFault.{RecordFault}
use Rattle.status_record.specs.declared.fault.RecordFault.TheVariants.{BadMagic, BadLine, Truncated, UnknownVersion, DuplicateName}
use Rattle.status_record.specs.declared.record.Record.{Record}
use Rattle.status_record.specs.RecordText.{record_lines, IsRecord}
use Rattle.status_record.specs.Reading.{last_of, front_of, IsTruncated}

-- The lines of the text, each of which a newline ends. (own)
abbrev pub whole_lines : List ℕ → List (List ℕ)
whole_lines text = front_of (parts 10 text)

-- The text after its last newline. (own)
abbrev pub rest_of : List ℕ → List ℕ
rest_of text = last_of (parts 10 text)

-- ---- the first line

-- A number has digits alone, and a zero at its front is all of it. (own)
pub record IsNumber (number : List ℕ) : Type 0 where
  pub has_digits : number ≢ []
  pub digits : list_all is_ascii_digit number ≡ true
  pub no_zeros : (more : List ℕ) → number ≡ 48 ∷ more → more ≡ []

-- The line is `acrun-record` and this number, with one space between them. (own)
pub record IsVersion (line number : List ℕ) : Type 0 where
  pub line_is : line ≡ codes "acrun-record " ++ number
  pub is_number : IsNumber number

-- The text has no newline, or its first line is not `acrun-record` and a number. (own)
pub record HasBadMagic (text : List ℕ) : Type 0 where
  pub no_version : (first number : List ℕ) (more : List (List ℕ)) → whole_lines text ≡ first ∷ more → ¬ (IsVersion first number)

-- The first line has a number that is neither 1 nor 2. (own)
pub record HasUnknownVersion (text : List ℕ) : Type 0 where
  pub first : List ℕ
  pub number : List ℕ
  pub more : List (List ℕ)
  pub lines_are : whole_lines text ≡ first ∷ more
  pub version : IsVersion first number
  pub not_first : number ≢ codes "1"
  pub not_second : number ≢ codes "2"

-- ---- the lines after it

-- The lines are the first of a record, or all its lines. (own)
pub record BeginRecord (lines : List (List ℕ)) : Type 0 where
  pub whole : Record
  pub more : List (List ℕ)
  pub holds : IsRecord whole
  pub begins : record_lines whole ≡ lines ++ more

-- Each name of the record has its form, and may be given more than once. (own)
pub record HasForms (r : Record) : Type 0 where
  pub vars : HasShellNames r.vars
  pub defs : HasShellNames r.defs
  pub files : AllByRecursion IsOutput r.files
  pub headers : AllByRecursion IsOutput r.headers

-- The lines are the first of a record, or all its lines, but for names that are given more than once. (own)
pub record BeginButForNames (lines : List (List ℕ)) : Type 0 where
  pub whole : Record
  pub more : List (List ℕ)
  pub holds : HasForms whole
  pub begins : record_lines whole ≡ lines ++ more

-- Line n, which is not the first line, is the first at fault: the lines before it begin a record, and with it they don't. (own)
pub record IsAtFault (lines : List (List ℕ)) (n : ℕ) (before : List (List ℕ)) (at : List ℕ) : Type 0 where
  pub after : List (List ℕ)
  pub lines_are : lines ≡ before ++ at ∷ after
  pub number : n ≡ length before + 1
  pub has_first : before ≢ []
  pub right : BeginRecord before
  pub wrong : ¬ (BeginRecord (before ++ at ∷ []))

-- Line n is the first at fault, and it is right but for a name that a line before it gives. (own)
pub record IsDuplicateName (lines : List (List ℕ)) (n : ℕ) : Type 0 where
  pub before : List (List ℕ)
  pub at : List ℕ
  pub at_fault : IsAtFault lines n before at
  pub but_for_names : BeginButForNames (before ++ at ∷ [])

-- Line n is the first at fault, and not for a name alone. (own)
pub record IsBadLine (lines : List (List ℕ)) (n : ℕ) : Type 0 where
  pub before : List (List ℕ)
  pub at : List ℕ
  pub at_fault : IsAtFault lines n before at
  pub no_form : ¬ (BeginButForNames (before ++ at ∷ []))

-- The lines are those of a whole record, and line n is what comes after them, without a newline. (own)
pub record HasMore (text : List ℕ) (n : ℕ) : Type 0 where
  pub whole : Record
  pub holds : IsRecord whole
  pub lines_are : whole_lines text ≡ record_lines whole
  pub number : n ≡ length (whole_lines text) + 1
  pub more : rest_of text ≢ []

-- The text ends too early: it has a line, and its lines begin a record that has more. (own)
pub record EndsEarly (text : List ℕ) : Type 0 where
  pub has_first : whole_lines text ≢ []
  pub truncated : IsTruncated (whole_lines text)

-- The text is no record, and this is its first fault. (own)
pub data IsRecordFault (text : List ℕ) : RecordFault → Type 0 where
  bad_magic : HasBadMagic text → IsRecordFault text BadMagic
  unknown_version : HasUnknownVersion text → IsRecordFault text UnknownVersion
  bad_line : (n : ℕ) → IsBadLine (whole_lines text) n → IsRecordFault text (BadLine n)
  has_more : (n : ℕ) → HasMore text n → IsRecordFault text (BadLine n)
  duplicate_name : (n : ℕ) → IsDuplicateName (whole_lines text) n → IsRecordFault text (DuplicateName n)
  ends_early : EndsEarly text → IsRecordFault text Truncated
