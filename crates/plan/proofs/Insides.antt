-- Every jump of a plan stays inside, and how many jobs a plan asks for.
use Rattle.std.proofs.Common.{◌≡◌, ◌*◌, ◌+◌, ℕ, ◌≤◌, List, [], ◌∷◌, ◌++◌, length, map, Option, Some, None, Bool, true, false, refl, sym, arith, append_assoc, length-append, subst}
use Rattle.std.proofs.lemmas.List.{append-nil, length-map}
use Rattle.shellword.specs.declared.part.Part.{Part}
use Rattle.ac_tree.specs.declared.listed.Sought.{Sought}
use Rattle.ac_tree.specs.declared.listed.Sought.TheVariants.{ListEntry, «Type»}
use Rattle.ac_tree.specs.declared.statement.Question.TheVariants.{Tries, Checks, ChecksEach}
use Rattle.ac_tree.specs.declared.program.Try.TheVariants as kinds_are
use Rattle.ac_tree.specs.declared.statement.Effect.{Effect}
use Rattle.ac_tree.specs.declared.statement.Effect.TheVariants.{Searches}
use Rattle.ac_tree.specs.declared.tree.Subject as what
use Rattle.ac_tree.specs.declared.tree.Subject.TheVariants.{Asked}
use Rattle.ac_tree.specs.Script.{Script, Done, Then, Choice, Check, Cases, No_case, Case}
use Rattle.meaning.specs.Meaning.{rounds_of}
use Rattle.plan.specs.Walk.{Instruction, Begins, Skips, Closes}
use Rattle.plan.specs.Code.{case_code, check_code, code_after, code_each, code_of, code_of_cases, code_of_programs, default_code}
use Rattle.plan.specs.Inside.{StaysInside, AskFew, asks_by, asks_to_find, asks_about, asks_after}
use Rattle.plan.specs.Weight.{entries_of, entries_asked, times, weight, weight_of_cases, heaviest}
use Rattle.plan.proofs.Follows.{flat, flat_check}

programs_inside : (variable : List ℕ) (programs : List (List ℕ)) (always : Bool) (rest : List Instruction) → StaysInside rest → StaysInside (code_of_programs variable programs always ++ rest)
programs_inside variable [] always rest h = h
programs_inside variable (p ∷ programs) always rest h = (omega arith, programs_inside variable programs false rest h)

default_inside : (variable : List ℕ) (value : Option (List Part)) (rest : List Instruction) → StaysInside rest → StaysInside (default_code variable value ++ rest)
default_inside variable None rest h = h
default_inside variable (Some value) rest h = (omega arith, h)

after_inside : (s : Effect) (rest : List Instruction) → StaysInside rest → StaysInside (code_after s ++ rest)
after_inside (Searches variable programs otherwise) rest h =
    subst StaysInside (sym (append_assoc (code_of_programs variable programs true) (default_code variable otherwise) rest))
    (programs_inside variable programs true (default_code variable otherwise ++ rest) (default_inside variable otherwise rest h))
after_inside other rest h = h

each_inside : (rounds : List what.Subject) (cases rest : List Instruction) → ((more : List Instruction) → StaysInside more → StaysInside (cases ++ more)) → StaysInside rest → StaysInside (code_each rounds cases ++ rest)
each_inside [] cases rest does h = h
each_inside (round ∷ rounds) cases rest does h =
    (omega arith, subst StaysInside (sym (append_assoc cases (code_each rounds cases) rest)) (does (code_each rounds cases ++ rest) (each_inside rounds cases rest does h)))

mutual
  -- The jumps of code stay inside, whatever follows it.
  code_inside : (script : Script) (rest : List Instruction) → StaysInside rest → StaysInside (code_of script ++ rest)
  code_inside Done rest h = h
  code_inside (Then declares s script) rest h =
      (omega arith, subst StaysInside (sym (append_assoc (code_after s) (code_of script) rest)) (after_inside s (code_of script ++ rest) (code_inside script rest h)))
  code_inside (Choice declares subject cases script) rest h =
      let c = code_of_cases cases in let r = code_of script in
      subst StaysInside (sym (append_assoc (code_each (rounds_of subject) c) r rest))
      (each_inside (rounds_of subject) c (r ++ rest) (λ more inside. cases_inside cases more inside) (code_inside script rest h))
  code_inside (Check message name commands script) rest h =
      let b = code_of commands in let r = code_of script in
      let end = Closes name ∷ (r ++ rest) in
      let past_body : length b + 1 ≤ length (b ++ end) = omega (arith, length-append b end) in
      subst StaysInside (sym (flat_check message name b r rest)) (past_body, code_inside commands end (omega arith, code_inside script rest h))

  cases_inside : (cases : Cases) (rest : List Instruction) → StaysInside rest → StaysInside (code_of_cases cases ++ rest)
  cases_inside No_case rest h = h
  cases_inside (Case when body cases) rest h =
      let b = code_of body in let m = code_of_cases cases in
      let jump = Skips (length m) ∷ (m ++ rest) in
      let over : length m ≤ length (m ++ rest) = omega (arith, length-append m rest) in
      let past_body : length b + 1 ≤ length (b ++ jump) = omega (arith, length-append b jump) in
      subst StaysInside (sym (flat when b m rest (length m))) (past_body, code_inside body jump (over, cases_inside cases rest h))

pub code_stays : (script : Script) → StaysInside (code_of script)
code_stays script = subst StaysInside (append-nil (code_of script)) (code_inside script [] tt)

find_asks : (sought : Sought) → asks_to_find sought ≤ 2
find_asks (ListEntry listed) = omega arith
find_asks «Type» = omega arith

-- The beginning of a choice.
about_asks : (subject : what.Subject) → asks_about subject ≤ 2 + entries_asked subject
about_asks (Asked (Tries kinds_are.Run program)) = omega arith
about_asks (Asked (Checks sought entry includes)) = omega (arith, find_asks sought)
about_asks (Asked (ChecksEach sought entries includes)) = omega (arith, find_asks sought)
about_asks other = omega arith

pub asks_bound : (steps : List Instruction) → AskFew steps → asks_after steps 0 ≤ 65536 * length steps
asks_bound [] h = omega arith
asks_bound (i ∷ rest) h = omega (arith, asks_bound rest h.1)

asks_both : (a b : List Instruction) → asks_after (a ++ b) 0 ≡ asks_after a 0 + asks_after b 0
asks_both [] b = omega arith
asks_both (i ∷ a) b = omega (arith, asks_both a b)

programs_ask : (variable : List ℕ) (programs : List (List ℕ)) (always : Bool) → asks_after (code_of_programs variable programs always) 0 ≤ 65536 * length programs
programs_ask variable [] always = omega arith
programs_ask variable (p ∷ programs) always = omega (arith, programs_ask variable programs false)

default_asks : (variable : List ℕ) (value : Option (List Part)) → asks_after (default_code variable value) 0 ≡ 0
default_asks variable None = refl
default_asks variable (Some value) = refl

-- An effect, with the steps after its own.
effect_asks : (s : Effect) → asks_by s + asks_after (code_after s) 0 ≤ 65536 * (1 + entries_of s)
effect_asks (Searches variable programs otherwise) =
    omega (arith, asks_both (code_of_programs variable programs true) (default_code variable otherwise), programs_ask variable programs true, default_asks variable otherwise)
effect_asks other = omega arith

each_ask : (rounds : List what.Subject) (cases : List Instruction) (w : ℕ) → asks_after cases 0 ≤ 65536 * w
    → asks_after (code_each rounds cases) 0 ≤ asks_after (map Begins rounds) 0 + 65536 * times (length rounds) w
each_ask [] cases w h = omega arith
each_ask (round ∷ rounds) cases w h =
    omega (arith, asks_both cases (code_each rounds cases), h, each_ask rounds cases w h)

entries_ask : (sought : Sought) (entries : List (List ℕ)) (includes : Option (List Part))
    → asks_after (map Begins (rounds_of (Asked (ChecksEach sought entries includes)))) 0 ≤ 2 * length entries
entries_ask sought [] includes = omega arith
entries_ask sought (entry ∷ entries) includes = omega (arith, find_asks sought, entries_ask sought entries includes)

-- The beginnings of the rounds of a choice ask no more than its statement, and the entries of its list, weigh.
rounds_ask : (subject : what.Subject) → asks_after (map Begins (rounds_of subject)) 0 ≤ 65536 * (1 + entries_asked subject)
rounds_ask (Asked (Tries kind program)) = omega (arith, about_asks (Asked (Tries kind program)))
rounds_ask (Asked (Checks sought entry includes)) = omega (arith, find_asks sought)
rounds_ask (Asked (ChecksEach sought entries includes)) = omega (arith, entries_ask sought entries includes)
rounds_ask other = omega arith

-- A choice has no more rounds than its statement, and the entries of its list, weigh.
pub rounds_bound : (subject : what.Subject) → length (rounds_of subject) ≤ 1 + entries_asked subject
rounds_bound (Asked (ChecksEach sought entries includes)) =
    omega (arith, length-map entries (λ (entry : List ℕ). Asked (ChecksEach sought (entry ∷ []) includes)))
rounds_bound other = omega arith

mutual
  -- Code asks for 65,536 jobs at most for each unit of weight.
  pub code_asks : (script : Script) → asks_after (code_of script) 0 ≤ 65536 * weight script
  code_asks Done = omega arith
  code_asks (Then declares s script) = omega (arith, effect_asks s, asks_both (code_after s) (code_of script), code_asks script)
  code_asks (Choice declares subject cases script) =
      let rounds = rounds_of subject in let c = code_of_cases cases in
      omega (arith, asks_both (code_each rounds c) (code_of script), each_ask rounds c (weight_of_cases cases) (cases_ask cases), rounds_ask subject, code_asks script)
  code_asks (Check message name commands script) =
      let b = code_of commands in
      omega (arith, asks_both (check_code message name b) (code_of script), asks_both b (Closes name ∷ []), code_asks commands, code_asks script)

  cases_ask : (cases : Cases) → asks_after (code_of_cases cases) 0 ≤ 65536 * weight_of_cases cases
  cases_ask No_case = omega arith
  cases_ask (Case when body cases) =
      let b = code_of body in let m = code_of_cases cases in
      omega (arith, asks_both (case_code when b (length m)) m, asks_both b (Skips (length m) ∷ []), code_asks body, cases_ask cases)

few_both : (a b : List Instruction) → AskFew a → AskFew b → AskFew (a ++ b)
few_both [] b few more = more
few_both (i ∷ a) b few more = (few.0, few_both a b few.1 more)

programs_few : (variable : List ℕ) (programs : List (List ℕ)) (always : Bool) → AskFew (code_of_programs variable programs always)
programs_few variable [] always = tt
programs_few variable (p ∷ programs) always = (omega arith, programs_few variable programs false)

default_few : (variable : List ℕ) (value : Option (List Part)) → AskFew (default_code variable value)
default_few variable None = tt
default_few variable (Some value) = (omega arith, tt)

after_few : (s : Effect) → AskFew (code_after s)
after_few (Searches variable programs otherwise) =
    few_both (code_of_programs variable programs true) (default_code variable otherwise) (programs_few variable programs true) (default_few variable otherwise)
after_few other = tt

-- An effect asks for no more jobs than there are directories, or than it weighs.
does_few : (s : Effect) → 1 + entries_of s ≤ heaviest → asks_by s ≤ 65536
does_few (Searches variable programs otherwise) fits = omega arith
does_few other fits = omega arith

entries_few : (sought : Sought) (entries : List (List ℕ)) (includes : Option (List Part)) → AskFew (map Begins (rounds_of (Asked (ChecksEach sought entries includes))))
entries_few sought [] includes = tt
entries_few sought (entry ∷ entries) includes = (omega (arith, find_asks sought), entries_few sought entries includes)

-- The beginnings of the rounds of a choice that is not too heavy.
rounds_few : (subject : what.Subject) → 1 + entries_asked subject ≤ heaviest → AskFew (map Begins (rounds_of subject))
rounds_few (Asked (Tries kind program)) fits = (omega (arith, about_asks (Asked (Tries kind program))), tt)
rounds_few (Asked (Checks sought entry includes)) fits = (omega (arith, find_asks sought), tt)
rounds_few (Asked (ChecksEach sought entries includes)) fits = entries_few sought entries includes
rounds_few other fits = (omega arith, tt)

-- Rounds, with the cases of each; without a round the cases may be heavy.
each_few : (rounds : List what.Subject) (cases : List Instruction) (w : ℕ) → AskFew (map Begins rounds) → (w ≤ heaviest → AskFew cases)
    → times (length rounds) w ≤ heaviest → AskFew (code_each rounds cases)
each_few [] cases w begins each fits = tt
each_few (round ∷ rounds) cases w begins each fits =
    (begins.0, few_both cases (code_each rounds cases) (each (omega arith)) (each_few rounds cases w begins.1 each (omega arith)))

mutual
  -- Each step of code that is not too heavy asks for at most 65,536 jobs.
  pub code_few : (script : Script) → weight script ≤ heaviest → AskFew (code_of script)
  code_few Done fits = tt
  code_few (Then declares s script) fits =
      (does_few s (omega arith), few_both (code_after s) (code_of script) (after_few s) (code_few script (omega arith)))
  code_few (Choice declares subject cases script) fits =
      let rounds = rounds_of subject in let c = code_of_cases cases in
      few_both (code_each rounds c) (code_of script)
      (each_few rounds c (weight_of_cases cases) (rounds_few subject (omega arith)) (cases_few cases) (omega arith))
      (code_few script (omega arith))
  code_few (Check message name commands script) fits =
      let b = code_of commands in
      few_both (check_code message name b) (code_of script)
      (omega arith, few_both b (Closes name ∷ []) (code_few commands (omega arith)) (omega arith, tt))
      (code_few script (omega arith))

  cases_few : (cases : Cases) → weight_of_cases cases ≤ heaviest → AskFew (code_of_cases cases)
  cases_few No_case fits = tt
  cases_few (Case when body cases) fits =
      let b = code_of body in let m = code_of_cases cases in
      few_both (case_code when b (length m)) m
      (omega arith, few_both b (Skips (length m) ∷ []) (code_few body (omega arith)) (omega arith, tt))
      (cases_few cases (omega arith))
