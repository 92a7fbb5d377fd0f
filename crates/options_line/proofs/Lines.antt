-- What all arguments give, as a function and by its rule.
use Rattle.std.proofs.Common.{◌≡◌, ℕ, ◌+◌, List, [], ◌∷◌, Option, Some, None, Result, Ok, Err, refl, sym, ap, subst, ◌∙◌, arith}
use Rattle.options_line.proofs.Words.{Means, option_said, setting_said, misnamed_said, misassigned_said, said_means}
use Rattle.options_line.specs.Arguments.{Argument, Flag, OptionValue, OptionName, FeatureValue, BadFeatureName, VariableValue, BadVariableName, Unrecognized, read_argument, alone, awaited_by, and_then, settings_from}
use Rattle.options_line.specs.CommandLine as line
use Rattle.options_line.specs.CommandLine.{Setting, valued, IsOption, GivesAlone, IsOther, IsMisnamed, IsMisassigned, IsAtFault, GivesSettings, IsFirstFault}
use Rattle.options_line.specs.declared.argument.Target.{Target}
use Rattle.options_line.specs.declared.fault.OptionFault.{OptionFault}
use Rattle.options_line.specs.declared.fault.OptionFault.TheVariants.{Unknown, MissingValue}

-- ---- one argument

-- What gives a setting alone needs no value.
pub alone_awaits : (i : ℕ) (said : Argument) (setting : Setting) → alone i said ≡ Ok setting → awaited_by said ≡ None
alone_awaits i (OptionName target) setting h = absurd (cc)
alone_awaits i said setting h = refl

-- An argument with an error is none of these.
pub fault_said : {i : ℕ} {word : List ℕ} {fault : OptionFault} → IsAtFault i word fault → (alone i (read_argument word) ≡ Err fault) × (awaited_by (read_argument word) ≡ None)
fault_said {i = i} {word = word} (line.unknown other) = at (read_argument word) refl (said_means i word) where
  at : (said : Argument) → read_argument word ≡ said → Means i word said → (alone i said ≡ Err (Unknown i)) × (awaited_by said ≡ None)
  at (Flag switch) e means = absurd (other.no_setting _ means)
  at (OptionValue target value) e means = absurd (other.no_setting _ means)
  at (OptionName target) e means = absurd (other.no_option target means)
  at (FeatureValue kind name value option) e means = absurd (other.no_setting _ means)
  at BadFeatureName e means = absurd (other.no_feature means)
  at (VariableValue name value) e means = absurd (other.no_setting _ means)
  at BadVariableName e means = absurd (other.no_assignment means)
  at Unrecognized e means = (refl, refl)
fault_said {i = i} (line.bad_feature h) = let said = misnamed_said h in (ap (alone i) said, ap awaited_by said)
fault_said {i = i} (line.bad_variable h) = let said = misassigned_said h in (ap (alone i) said, ap awaited_by said)

-- An argument that is read as nothing known is none of these.
other_is : (i : ℕ) (word : List ℕ) → read_argument word ≡ Unrecognized → IsOther i word
other_is i word e = record {
  no_setting = λ setting h. let said = setting_said h in let none = ap (alone i) e in absurd (cc);
  no_option = λ target h. let said = option_said h in absurd (cc);
  no_feature = λ h. let said = misnamed_said h in absurd (cc);
  no_assignment = λ h. let said = misassigned_said h in absurd (cc);
}

-- What an argument gives alone, or its error.
pub data Word (i : ℕ) (word : List ℕ) : Type 0 where
  gives : (setting : Setting) → GivesAlone i word setting → alone i (read_argument word) ≡ Ok setting → awaited_by (read_argument word) ≡ None → Word i word
  awaits : (target : Target) → IsOption word target → awaited_by (read_argument word) ≡ Some target → Word i word
  fails : (fault : OptionFault) → IsAtFault i word fault → alone i (read_argument word) ≡ Err fault → awaited_by (read_argument word) ≡ None → Word i word

pub word_of : (i : ℕ) (word : List ℕ) → Word i word
word_of i word = at (read_argument word) refl (said_means i word) where
  at : (said : Argument) → read_argument word ≡ said → Means i word said → Word i word
  at (Flag switch) e means = gives _ means (ap (alone i) e) (ap awaited_by e)
  at (OptionValue target value) e means = gives _ means (ap (alone i) e) (ap awaited_by e)
  at (OptionName target) e means = awaits target means (ap awaited_by e)
  at (FeatureValue kind name value option) e means = gives _ means (ap (alone i) e) (ap awaited_by e)
  at BadFeatureName e means = fails _ (line.bad_feature means) (ap (alone i) e) (ap awaited_by e)
  at (VariableValue name value) e means = gives _ means (ap (alone i) e) (ap awaited_by e)
  at BadVariableName e means = fails _ (line.bad_variable means) (ap (alone i) e) (ap awaited_by e)
  at Unrecognized e means = fails _ (line.unknown (other_is i word e)) (ap (alone i) e) (ap awaited_by e)

-- ---- the function, at an argument

abbrev at_word : ℕ → List ℕ → List (List ℕ) → Option Target → Result (List Setting) OptionFault
at_word i word more awaited = elim awaited as (λ r. Result (List Setting) OptionFault) [
  | Some target ↦ settings_from (Some target) (i + 1) more
  | None ↦ and_then (alone (i + 1) (read_argument word)) (settings_from None (i + 1) more)
]

given_awaits : (i : ℕ) (word : List ℕ) (more : List (List ℕ)) (target : Target) → awaited_by (read_argument word) ≡ Some target
    → settings_from None i (word ∷ more) ≡ settings_from (Some target) (i + 1) more
unfolding settings_from
given_awaits i word more target e = ap (at_word i word more) e

given_alone : (i : ℕ) (word : List ℕ) (more : List (List ℕ)) → awaited_by (read_argument word) ≡ None
    → settings_from None i (word ∷ more) ≡ and_then (alone (i + 1) (read_argument word)) (settings_from None (i + 1) more)
unfolding settings_from
given_alone i word more e = ap (at_word i word more) e

given_value : (i : ℕ) (target : Target) (value : List ℕ) (more : List (List ℕ))
    → settings_from (Some target) (i + 1) (value ∷ more) ≡ and_then (Ok (valued target value)) (settings_from None (i + 2) more)
unfolding settings_from
given_value i target value more = let two : i + 1 + 1 ≡ i + 2 = omega arith in ap (λ n. and_then (Ok (valued target value)) (settings_from None n more)) two

given_none : (i : ℕ) → settings_from None i [] ≡ Ok []
unfolding settings_from
given_none i = refl

given_end : (i : ℕ) (target : Target) → settings_from (Some target) i [] ≡ Err (MissingValue i)
unfolding settings_from
given_end i target = refl

-- ---- from the rule to the function

pub settings_given : {i : ℕ} {arguments : List (List ℕ)} {settings : List Setting} → GivesSettings i arguments settings → settings_from None i arguments ≡ Ok settings
settings_given {i = i} line.no_more = given_none i
settings_given {i = i} (line.one_word {word = word} {setting = setting} {more = more} {settings = settings} h rest) =
    given_alone i word more (alone_awaits (i + 1) (read_argument word) setting (setting_said h))
    ∙ ap (λ first. and_then first (settings_from None (i + 1) more)) (setting_said h)
    ∙ ap (and_then (Ok setting)) (settings_given rest)
settings_given {i = i} (line.two_words {option = option} {target = target} {more = more} {settings = settings} h value rest) =
    given_awaits i option (value ∷ more) target (ap awaited_by (option_said h))
    ∙ given_value i target value more
    ∙ ap (and_then (Ok (valued target value))) (settings_given rest)

pub fault_given : {i : ℕ} {arguments : List (List ℕ)} {fault : OptionFault} → IsFirstFault i arguments fault → settings_from None i arguments ≡ Err fault
fault_given {i = i} (line.at_once {word = word} {more = more} h) =
    let bad = fault_said h in
    given_alone i word more bad.1 ∙ ap (λ first. and_then first (settings_from None (i + 1) more)) bad.0
fault_given {i = i} (line.no_value {option = option} {target = target} h) =
    given_awaits i option [] target (ap awaited_by (option_said h)) ∙ given_end (i + 1) target
fault_given {i = i} (line.after_word {word = word} {setting = setting} {more = more} h rest) =
    given_alone i word more (alone_awaits (i + 1) (read_argument word) setting (setting_said h))
    ∙ ap (λ first. and_then first (settings_from None (i + 1) more)) (setting_said h)
    ∙ ap (and_then (Ok setting)) (fault_given rest)
fault_given {i = i} (line.after_words {option = option} {value = value} {target = target} {more = more} h rest) =
    given_awaits i option (value ∷ more) target (ap awaited_by (option_said h))
    ∙ given_value i target value more
    ∙ ap (and_then (Ok (valued target value))) (fault_given rest)

-- ---- from the function to the rule

-- What arguments give by the rule, and as the function says.
abbrev pub Reads : ℕ → List (List ℕ) → Result (List Setting) OptionFault → Type 0
Reads i arguments (Ok settings) = GivesSettings i arguments settings
Reads i arguments (Err fault) = IsFirstFault i arguments fault

one_reads : (i : ℕ) (word : List ℕ) (more : List (List ℕ)) (setting : Setting) → GivesAlone (i + 1) word setting
    → (r : Result (List Setting) OptionFault) → Reads (i + 1) more r → Reads i (word ∷ more) (and_then (Ok setting) r)
one_reads i word more setting h (Ok settings) rest = line.one_word h rest
one_reads i word more setting h (Err fault) rest = line.after_word h rest

two_read : (i : ℕ) (option value : List ℕ) (more : List (List ℕ)) (target : Target) → IsOption option target
    → (r : Result (List Setting) OptionFault) → Reads (i + 2) more r → Reads i (option ∷ value ∷ more) (and_then (Ok (valued target value)) r)
two_read i option value more target h (Ok settings) rest = line.two_words h value rest
two_read i option value more target h (Err fault) rest = line.after_words h rest

-- An argument, with those after it.
reads_at : (i : ℕ) (word : List ℕ) (more : List (List ℕ)) → ((n : ℕ) → Reads n more (settings_from None n more))
    → ((n : ℕ) (next : List ℕ) (rest : List (List ℕ)) → more ≡ next ∷ rest → Reads n rest (settings_from None n rest)) → Reads i (word ∷ more) (settings_from None i (word ∷ more))
reads_at i word more after later = at (word_of (i + 1) word) where
  value_at : (target : Target) → IsOption word target → awaited_by (read_argument word) ≡ Some target → (rest : List (List ℕ)) → more ≡ rest → Reads i (word ∷ rest) (settings_from None i (word ∷ rest))
  value_at target is e [] same = subst (Reads i (word ∷ [])) (sym (given_awaits i word [] target e ∙ given_end (i + 1) target)) (line.no_value is)
  value_at target is e (value ∷ rest) same =
      subst (Reads i (word ∷ value ∷ rest)) (sym (given_awaits i word (value ∷ rest) target e ∙ given_value i target value rest))
      (two_read i word value rest target is (settings_from None (i + 2) rest) (later (i + 2) value rest same))

  at : Word (i + 1) word → Reads i (word ∷ more) (settings_from None i (word ∷ more))
  at (gives setting is said none) =
      subst (Reads i (word ∷ more)) (sym (given_alone i word more none ∙ ap (λ first. and_then first (settings_from None (i + 1) more)) said))
      (one_reads i word more setting is (settings_from None (i + 1) more) (after (i + 1)))
  at (awaits target is e) = value_at target is e more refl
  at (fails fault is said none) =
      subst (Reads i (word ∷ more)) (sym (given_alone i word more none ∙ ap (λ first. and_then first (settings_from None (i + 1) more)) said)) (line.at_once is)

-- The arguments, and those after the first.
both_read : (arguments : List (List ℕ))
    → ((i : ℕ) → Reads i arguments (settings_from None i arguments)) × ((n : ℕ) (next : List ℕ) (rest : List (List ℕ)) → arguments ≡ next ∷ rest → Reads n rest (settings_from None n rest))
both_read [] = (λ i. subst (Reads i []) (sym (given_none i)) line.no_more, λ n next rest e. absurd (cc))
both_read (word ∷ more) =
    let tail = both_read more in
    (λ i. reads_at i word more tail.0 tail.1, λ n next rest e. let same : more ≡ rest = cc in subst (λ r. Reads n r (settings_from None n r)) same (tail.0 n))

pub given_reads : (i : ℕ) (arguments : List (List ℕ)) → Reads i arguments (settings_from None i arguments)
given_reads i arguments = (both_read arguments).0 i
