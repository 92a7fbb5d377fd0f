-- What config.status and the cache that its arguments name show of a run, by the files.
use Rattle.std.specs.Prelude.{◌≡◌, ℕ, bytes_eq, Bool, true, false, List, Option, Some, None, codes}
use Rattle.file_disk.specs.Known.{Known}
use Rattle.cmd_call.specs.Supplies.{ReadsWhole}
use Rattle.status_record.specs.Reading.{record_in}
use Rattle.cmd_why.specs.Origins.{cache_of}
use Rattle.cmd_why.specs.Quoting.{kept_in}
use Rattle.cmd_why.specs.declared.seen.Seen.{Seen}
use Rattle.cmd_why.specs.declared.seen.Seen.TheVariants.{Unlooked, Unrecorded, Recorded}

-- The cache of this name, if it can be read, is its name and its text. (own)
abbrev pub IsCacheAt : Option Known → List ℕ → Option (List ℕ × List ℕ) → Type 0
IsCacheAt files name None = ReadsWhole files name None
IsCacheAt files name (Some cache) = (cache.0 ≡ name) × ReadsWhole files name (Some cache.1)

-- The cache that is named, if one is. (own)
abbrev pub IsCacheNamed : Option Known → Option (List ℕ) → Option (List ℕ × List ℕ) → Type 0
IsCacheNamed files None cache = cache ≡ None
IsCacheNamed files (Some name) cache = IsCacheAt files name cache

-- What a record keeps that is looked at: its arguments and its definitions. (own)
abbrev pub Kept : Type 0
Kept = List (List ℕ) × List (List ℕ × List ℕ)

-- This is seen by these arguments and these definitions: they, and the cache that the arguments name. (own)
abbrev pub IsSeenOf : Option Known → Kept → Seen → Type 0
IsSeenOf files kept (Recorded arguments cache defs) = (arguments ≡ kept.0) × (defs ≡ kept.1) × IsCacheNamed files (cache_of kept.0) cache
IsSeenOf files kept Unrecorded = ⊥
IsSeenOf files kept Unlooked = ⊥

-- This is seen by a record with arguments, if there is one. (own)
abbrev pub IsSeenBy : Option Known → Option Kept → Seen → Type 0
IsSeenBy files None seen = seen ≡ Unrecorded
IsSeenBy files (Some kept) seen = IsSeenOf files kept seen

-- This is seen by the record in a text. (own)
abbrev pub IsSeenIn : Option Known → List ℕ → Seen → Type 0
IsSeenIn files text seen = IsSeenBy files (kept_in (record_in text)) seen

-- This is seen by what was read under the record's name. (own)
abbrev pub IsSeenRead : Option Known → Option (List ℕ) → Seen → Type 0
IsSeenRead files None seen = seen ≡ Unrecorded
IsSeenRead files (Some text) seen = IsSeenIn files text seen

-- This is seen by the record. (own)
abbrev pub IsSeen : Option Known → Seen → Type 0
IsSeen files seen = (read : Option (List ℕ)) × ReadsWhole files (codes "config.status") read × IsSeenRead files read seen

-- This is seen for a log that is config.log, or for another one. (own)
abbrev pub IsSeenIf : Bool → Option Known → Seen → Type 0
IsSeenIf true files seen = IsSeen files seen
IsSeenIf false files seen = seen ≡ Unlooked

-- This is seen of where an answer in the log of this name may be from: for config.log, what the record shows. (own)
abbrev pub IsSeenFor : Option Known → List ℕ → Seen → Type 0
IsSeenFor files name seen = IsSeenIf (bytes_eq name (codes "config.log")) files seen
