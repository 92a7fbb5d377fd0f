-- The reading as a function, and what it reads.
use Rattle.std.proofs.Common.{◌≡◌, ℕ, List, Ok, ◌↔◌, refl, ap, ◌∙◌, arith}
use Rattle.shell_bare.specs.declared.assignments.Assignment.{Assignment}
use Rattle.shell_bare.specs.declared.item.ReadStage.TheVariants.{Opening}
use Rattle.shell_bare.specs.Joining.{joined}
use Rattle.shell_bare.specs.Statements.{IsBareText}
use Rattle.shell_bare.specs.Reading.{statements_from, statements_of}
use Rattle.shell_bare.proofs.Joining.{joined_reading}
use Rattle.shell_bare.proofs.Scans.{statements-read, read-statements}

pub text-read : (text : List ℕ) (list : List Assignment) → IsBareText text list → statements_of text ≡ Ok list
unfolding statements_of
text-read text list h = ap (statements_from 0 Opening 0) ((joined_reading text h.lines).1 h.joined) ∙ statements-read h.statements 0

pub read-text : (text : List ℕ) (list : List Assignment) → statements_of text ≡ Ok list → IsBareText text list
unfolding statements_of
read-text text list e = record {
  lines = joined text;
  joined = (joined_reading text (joined text)).0 refl;
  statements = read-statements 0 Opening 0 (joined text) list (omega arith) e;
}

pub text_reading : (text : List ℕ) (list : List Assignment) → (statements_of text ≡ Ok list) ↔ IsBareText text list
text_reading text list = (read-text text list, text-read text list)
