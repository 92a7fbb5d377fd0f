-- What a key says, before its places are filled. All of this is own.
use Rattle.std.specs.Prelude.{ℕ, List}
use Rattle.lint_table.specs.declared.key.Key.{Key}

-- The name.
abbrev pub name_of : Key → List ℕ
name_of key = key.0.now

-- What is wrong.
abbrev pub message_of : Key → List ℕ
message_of key = key.1.now

-- What to do.
abbrev pub help_of : Key → List ℕ
help_of key = key.2.now
