-- What is said on standard error of sources that are not linted. All of this is own.
use Rattle.std.specs.Prelude.{◌≡◌, ◌≢◌, ℕ, Bool, true, List, [], ◌∷◌, ◌++◌, Option, codes}
use Rattle.file_disk.specs.Known.{Known}
use Rattle.cmd_call.specs.Calls.{is_input}
use Rattle.cmd_call.specs.Lines.{error_line}
use Rattle.lint_sources.specs.Sources.{IsUnread}

-- What is said of the source of a name with this status: nothing, unless the status is 2; and otherwise that the source can't be read,
-- that memory ran out, or that standard output didn't take what was found. That is said only of a source that can't be read, or if
-- standard output has failed.
pub data IsSaidOf (files : Option Known) (is_full is_stream : Bool) (name : List ℕ) : ℕ → List (List ℕ) → Type 0 where
  nothing : {status : ℕ} → status ≢ 2 → IsSaidOf files is_full is_stream name status []
  unread : IsUnread files is_stream name → IsSaidOf files is_full is_stream name 2 (error_line (codes "file") name ∷ [])
  no_memory : IsSaidOf files is_full is_stream name 2 (error_line (codes "memory") [] ∷ [])
  unwritten : is_full ≡ true → IsSaidOf files is_full is_stream name 2 (error_line (codes "file") (codes "standard output") ∷ [])

-- What is said of the sources of these names, in order.
pub data AreSaidOf (files : Option Known) (is_full : Bool) : List (List ℕ) → List (List ℕ) → Type 0 where
  none : AreSaidOf files is_full [] []
  next : {before lines more : List (List ℕ)} {status : ℕ} (name : List ℕ) → AreSaidOf files is_full before lines → IsSaidOf files is_full (is_input name) name status more → AreSaidOf files is_full (before ++ name ∷ []) (lines ++ more)
