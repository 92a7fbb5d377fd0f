-- The command has its program, its words, and the words so far.
use Rattle.std.proofs.Common.{◌≡◌, ◌++◌, take}
use Rattle.std.specs.Process.{command_args, command_program}
use Rattle.tool_start.proofs.neighbour.put_words.Given as goal

abbrev pub invariant-loop-word : goal.invariant-loop-word
invariant-loop-word l = (command_program l.command ≡ command_program l.initial.command) × (command_args l.command ≡ command_args l.initial.command ++ take l.word-index l.words)
