-- Worked examples, computed by the readers' functions, which the theorems tie to the grammar.
use Rattle.std.proofs.Common.{◌≡◌, [], ◌∷◌, ◌++◌, Ok, Err, refl, codes}
use Rattle.shellword.specs.declared.fault.ShellFault.TheVariants.{BadWord}
use Rattle.shellword.specs.declared.part.Part.TheVariants.{Plain, Quoted, Variable}
use Rattle.shellword.specs.Scan.{front_of, scan, word_front_of}
use Rattle.shell_bare.specs.declared.fault.BareFault.TheVariants.{UnknownStatement, Shell}
use Rattle.shell_bare.specs.Joining.{joined_from, joined}
use Rattle.shell_bare.specs.Statements.{assigns}
use Rattle.shell_bare.specs.Reading.{item_of, statements_from, statements_of}

-- ---- line continuations

within_name : joined (codes "a\\" ++ 10 ∷ codes "b=$x\\" ++ 10 ∷ codes "y") ≡ codes "ab=$xy"
unfolding joined joined_from
within_name = refl

in_single_quotes : joined (codes "a='\\" ++ 10 ∷ codes "'") ≡ codes "a='\\" ++ 10 ∷ codes "'"
unfolding joined joined_from
in_single_quotes = refl

in_double_quotes : joined (codes "a=\"'\\" ++ 10 ∷ codes "'\"") ≡ codes "a=\"''\""
unfolding joined joined_from
in_double_quotes = refl

in_comment : joined (codes "# a\\" ++ 10 ∷ codes "b") ≡ codes "# a\\" ++ 10 ∷ codes "b"
unfolding joined joined_from
in_comment = refl

-- ---- statements

two_assignments : statements_of (codes "a=x b=$a") ≡ Ok (assigns (codes "a") (Plain 120 ∷ []) ∷ assigns (codes "b") (Variable (codes "a") ∷ []) ∷ [])
unfolding statements_of joined joined_from statements_from item_of word_front_of scan front_of
two_assignments = refl

quoted_semicolon : statements_of (codes "c='1;2'; :") ≡ Ok (assigns (codes "c") (Quoted 49 ∷ Quoted 59 ∷ Quoted 50 ∷ []) ∷ [])
unfolding statements_of joined joined_from statements_from item_of word_front_of scan front_of
quoted_semicolon = refl

comment_after : statements_of (codes "a= # b=c") ≡ Ok (assigns (codes "a") [] ∷ [])
unfolding statements_of joined joined_from statements_from item_of word_front_of scan front_of
comment_after = refl

unknown_command : statements_of (codes "a=1; foo") ≡ Err (UnknownStatement 5)
unfolding statements_of joined joined_from statements_from item_of word_front_of scan front_of
unknown_command = refl

refused_word : statements_of (codes "a=`b`") ≡ Err (Shell (BadWord 2))
unfolding statements_of joined joined_from statements_from item_of word_front_of scan front_of
refused_word = refl

refused_operator : statements_of (codes "a=1 && b=2") ≡ Err (UnknownStatement 4)
unfolding statements_of joined joined_from statements_from item_of word_front_of scan front_of
refused_operator = refl
