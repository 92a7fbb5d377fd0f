-- What a check is about, by its message.
use Rattle.std.specs.Prelude.{ℕ, ◌+◌, List, length, take, drop, Option, Some, None, option_map, codes}
use Rattle.memchr.specs.Find.{first_of, matches}
use Rattle.cmd_why.specs.declared.subject.Subject.{Subject as Lent}
use Rattle.cmd_why.specs.declared.subject.Subject.TheVariants as lent
use Rattle.cmd_why.specs.Lines.{after_front, between}

-- What a check is about. (own)
pub data Subject : Type 0 where
  -- A header, a function, a type or a program.
  Entry : (name : List ℕ) → Subject
  -- A declaration.
  Declaration : (name : List ℕ) → Subject
  -- A function in a library.
  Library : (function library : List ℕ) → Subject
  -- A function in some library.
  Libraries : (function : List ℕ) → Subject
  -- Anything else.
  Other : Subject

-- What the code's view says. (own)
abbrev pub subject : Lent → Subject
subject (lent.Entry name) = Entry name.now
subject (lent.Declaration name) = Declaration name.now
subject (lent.Library function library) = Library function.now library.now
subject (lent.Libraries function) = Libraries function.now
subject lent.Other = Other

-- The subject of a text that is cut at the first `in -l`, or a subject without a library. (own)
abbrev pub cut_at : Option ℕ → List ℕ → Subject
cut_at None text = Entry text
cut_at (Some at) text = Library (take at text) (drop (at + length (codes " in -l")) text)

-- What is looked for in libraries, or else what the text after `for` says. (own)
abbrev pub sought_in : Option (List ℕ) → List ℕ → Subject
sought_in (Some function) text = Libraries function
sought_in None text = cut_at (first_of (matches text (codes " in -l") 0)) text

-- What is after `for`, if a message has it. (own)
abbrev pub sought : Option (List ℕ) → Subject
sought None = Other
sought (Some text) = sought_in (after_front (codes "library containing ") text) text

-- A declaration, or what the message says after `for`. (own)
abbrev pub declared_or : Option (List ℕ) → List ℕ → Subject
declared_or (Some name) message = Declaration name
declared_or None message = sought (after_front (codes "for ") message)

-- What the check with this message is about. (own; the messages are those of Autoconf's macros)
unfoldable pub subject_of : List ℕ → Subject
subject_of message = declared_or (between (codes "whether ") (codes " is declared") message) message

-- The part of a message that differs from those of other checks of its kind. (own)
abbrev pub core_in : Subject → List ℕ → List ℕ
core_in (Entry name) message = name
core_in (Declaration name) message = name
core_in (Library function library) message = function
core_in (Libraries function) message = function
core_in Other message = message

-- The same of a message. (own)
unfoldable pub core_of : List ℕ → List ℕ
core_of message = core_in (subject_of message) message
