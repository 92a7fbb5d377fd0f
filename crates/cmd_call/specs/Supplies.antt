-- What a run is given besides its source: the texts of its cache and of its templates, as they are
-- in files.
use Rattle.std.specs.Prelude.{◌≡◌, ℕ, Bool, true, false, is_some, List, [], ◌∷◌, ◌++◌, Option, Some, None, Result, Ok, Err, IfSome, All, if◌then◌else◌}
use Rattle.std.specs.List.{Contains}
use Rattle.deftable.specs.Table.{value_of}
use Rattle.file_disk.specs.Known.{Known}
use Rattle.file_texts.specs.Places.{is_own}
use Rattle.file_texts.specs.Reading.{IsReadLimited, IsReadWhole}
use Rattle.output_list.specs.declared.output.Output.{Output}
use Rattle.status_record.specs.Reading.{record_in}
use Rattle.status_record.specs.declared.fault.RecordFault.{RecordFault}
use Rattle.status_record.specs.declared.record.Record.{Record}
use Rattle.ac_tree.specs.Lists.{lists_of}
use Rattle.ac_tree.specs.Script.{Script}

-- The name of a file in a directory: the directory, a slash, and its name there. (own)
abbrev pub path_of : List ℕ → List ℕ → List ℕ
path_of directory name = directory ++ 47 ∷ name

-- If something is known of the files, this was read under the name: the text, or its first 64 MiB
-- and one byte more. (own)
abbrev pub ReadsLimited : Option Known → List ℕ → Option (List ℕ) → Type 0
ReadsLimited files name read = IfSome files (λ k. IsReadLimited k name read)

-- If something is known of the files, this was read under the name: the text, unless it has more
-- than 64 MiB. (own)
abbrev pub ReadsWhole : Option Known → List ℕ → Option (List ℕ) → Type 0
ReadsWhole files name read = IfSome files (λ k. IsReadWhole k name read)

-- This was read of the template at this path: nothing, if a run has the path for itself, and the
-- text that is read whole otherwise. (own)
abbrev pub IsTemplateRead : Known → List ℕ → Bool → Option (List ℕ) → Type 0
IsTemplateRead k path true read = read ≡ None
IsTemplateRead k path false read = IsReadWhole k path read

-- If something is known of the files, this was read of the template of this name. One whose path a
-- run has for itself counts as not there, since a check would write over it. (own)
abbrev pub ReadsTemplate : Option Known → List ℕ → List ℕ → Option (List ℕ) → Type 0
ReadsTemplate files srcdir name read =
    IfSome files (λ k. IsTemplateRead k (path_of srcdir name) (is_own k (path_of srcdir name)) read)

-- The entry of a template: its name and its text, if it was read. (own)
abbrev pub entry_of : List ℕ → Option (List ℕ) → List (List ℕ × List ℕ)
entry_of name None = []
entry_of name (Some text) = (name, text) ∷ []

-- A template of this name was looked for. If it was read, it is among these, with its text. (own)
abbrev pub HasTemplate : Option Known → List ℕ → List (List ℕ × List ℕ) → List ℕ → Type 0
HasTemplate files srcdir templates name =
    (read : Option (List ℕ)) × ReadsTemplate files srcdir name read × IfSome read (λ text. Contains templates (name, text))

-- These are the templates of these outputs that can be read, each by its name and with its text:
-- each text is that of the file of its name below the directory, and each output whose template can
-- be read has it among them. (own)
pub record AreTemplates (files : Option Known) (srcdir : List ℕ) (outputs : List Output) (templates : List (List ℕ × List ℕ)) : Type 0 where
  pub sound : All (λ t. ReadsTemplate files srcdir t.0 (Some t.1)) templates
  pub complete : All (λ output. HasTemplate files srcdir templates output.template) outputs

-- The same while they are read: the template of each of these names, which have values here, was looked for. (own)
pub record AreLookedFor (files : Option Known) (srcdir : List ℕ) (outputs : List Output) (names templates : List (List ℕ × List ℕ)) : Type 0 where
  pub read : AreTemplates files srcdir outputs templates
  pub looked : (name : List ℕ) → is_some (value_of names name) ≡ true → HasTemplate files srcdir templates name

-- The outputs whose templates a run needs: its files and headers, or none. (own)
abbrev pub needed : Bool → Script → List Output
needed no_create script = if no_create then [] else (lists_of script).files ++ (lists_of script).headers

-- The cache that a run is given: what was read under its name, if one is named. (Autoconf's manual,
-- "Cache Files")
abbrev pub ReadsCache : Option Known → Option (List ℕ) → Option (List ℕ) → Type 0
ReadsCache files None cache = cache ≡ None
ReadsCache files (Some name) cache = ReadsLimited files name cache

-- A run of these statements is given this cache and these templates, as they are in files. (own)
pub record AreGiven (files : Option Known) (script : Script) (cache_name : Option (List ℕ)) (srcdir : List ℕ) (no_create : Bool) (cache : Option (List ℕ)) (templates : List (List ℕ × List ℕ)) : Type 0 where
  pub cached : ReadsCache files cache_name cache
  pub filled : AreTemplates files srcdir (needed no_create script) templates

-- What the outputs of a record are made of, as it is in files. If the text is no record, nothing is
-- said. (own)
abbrev pub GivenAgain : Option Known → Result Record RecordFault → List (List ℕ × List ℕ) → Type 0
GivenAgain files (Ok r) templates = AreTemplates files r.srcdir (r.files ++ r.headers) templates
GivenAgain files (Err f) templates = Unit {0}
