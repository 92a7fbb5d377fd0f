-- Causes of children that aren't started.
use Rattle.std.proofs.Common.{◌≡◌, ℕ, List, ◌∷◌, IsUtf8, Option, Some, None, Result, Ok, Err, inl, inr, subst}
use Rattle.std.specs.Prelude.{IfErr, IfSome}
use Rattle.std.specs.List.{find}
use Rattle.crew_refusals.specs.Shown.{IsCauseOf}
use Rattle.crew_launch.specs.Reasons.{IsNoProgram, IsOfCommand, IsOfFile, IsOfName, IsOfSpawn, IsOfWords, SaysNoMemory, SaysNoText, SaysStopped, is_no_text}

-- of a file whose name isn't UTF-8
pub no_name : (name : List ℕ) (cause : Option (List ℕ)) → (¬ (IsUtf8 name)) → IfSome cause (SaysNoText name) → IfSome cause (IsOfName name)
unfolding IsOfName
no_name name None bad is = is
no_name name (Some line) bad is = inl (is, bad)

-- of a file that the launcher refused
pub no_file : (name : List ℕ) (cause : Option (List ℕ)) → IsUtf8 name → IfSome cause (IsCauseOf name) → IfSome cause (IsOfName name)
unfolding IsOfName
no_file name None good is = is
no_file name (Some line) good is = inr (is, good)

-- of memory
pub of_memory : (program : List ℕ) (arguments : List (List ℕ)) (file : Option (List ℕ × List ℕ)) (cause : Option (List ℕ)) → IfSome cause (SaysNoMemory program) → IfSome cause (IsOfCommand program arguments file)
unfolding IsOfCommand
of_memory program arguments file None is = is
of_memory program arguments file (Some line) is = inl is

stopped : (program : List ℕ) (arguments : List (List ℕ)) (file : Option (List ℕ × List ℕ)) (word : Option (List ℕ)) (line : List ℕ) → word ≡ find is_no_text arguments → SaysStopped program arguments file word line → IsOfCommand program arguments file line
unfolding IsOfCommand
stopped program arguments file word line is says = inr (subst (λ w. SaysStopped program arguments file w line) is says)

-- of the first argument that isn't UTF-8
pub of_argument : (program : List ℕ) (arguments : List (List ℕ)) (file : Option (List ℕ × List ℕ)) (word : List ℕ) (cause : Option (List ℕ)) → Some word ≡ find is_no_text arguments → IfSome cause (SaysNoText word) → IfSome cause (IsOfCommand program arguments file)
of_argument program arguments file word None first is = is
of_argument program arguments file word (Some line) first is = stopped program arguments file (Some word) line first is

-- of the conftest
pub of_file : (program : List ℕ) (arguments : List (List ℕ)) (file : Option (List ℕ × List ℕ)) (cause : Option (List ℕ)) → None ≡ find is_no_text arguments → IfSome cause (IsOfFile file) → IfSome cause (IsOfCommand program arguments file)
of_file program arguments file None all is = is
of_file program arguments file (Some line) all is = stopped program arguments file None line all (inl is)

-- of the command, of an answer that is an error
pub all_refused : {X : Type 0} (r : Result X (Option (List ℕ))) (program : List ℕ) (arguments : List (List ℕ)) (file : Option (List ℕ × List ℕ)) → None ≡ find is_no_text arguments
    → IfErr r (λ cause. IfSome cause (IsOfSpawn program arguments)) → IfErr r (λ cause. IfSome cause (IsOfCommand program arguments file))
all_refused (Ok x) program arguments file all is = is
all_refused (Err None) program arguments file all is = is
all_refused (Err (Some line)) program arguments file all is = stopped program arguments file None line all (inr is)

-- of words without a program
pub of_no_program : (words : List (List ℕ)) (file : Option (List ℕ × List ℕ)) (cause : Option (List ℕ)) → IfSome cause (IsNoProgram words) → IfSome cause (IsOfWords words file)
unfolding IsOfWords
of_no_program words file None is = is
of_no_program words file (Some line) is = inl is

unstarted : (program : List ℕ) (arguments : List (List ℕ)) (file : Option (List ℕ × List ℕ)) (line : List ℕ) → IsOfCommand program arguments file line → IsOfWords (program ∷ arguments) file line
unfolding IsOfWords
unstarted program arguments file line is = inr is

-- of words with one, of an answer that is an error
pub all_unstarted : {X : Type 0} (r : Result X (Option (List ℕ))) (program : List ℕ) (arguments words : List (List ℕ)) (file : Option (List ℕ × List ℕ)) → program ∷ arguments ≡ words
    → IfErr r (λ cause. IfSome cause (IsOfCommand program arguments file)) → IfErr r (λ cause. IfSome cause (IsOfWords words file))
all_unstarted (Ok x) program arguments words file same is = is
all_unstarted (Err None) program arguments words file same is = is
all_unstarted (Err (Some line)) program arguments words file same is = subst (λ ws. IsOfWords ws file line) same (unstarted program arguments file line is)
