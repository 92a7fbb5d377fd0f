-- The parts of a command line: the directory that they name and what is kept of them, as functions and by the rules.
use Rattle.std.proofs.Common.{◌≡◌, ℕ, ◌+◌, ◌<◌, ◌≤◌, List, [], ◌∷◌, ◌++◌, append_assoc, Bool, true, false, if◌then◌else◌, Option, None, Result, Ok, Err, length, drop, get_or, codes, refl, sym, ap, subst, ◌∙◌}
use Rattle.std.specs.Prelude.{IfOk}
use Rattle.std.proofs.lemmas.List.{append-nil}
use Rattle.std.proofs.Math.ListN.{drop_of_length-le}
use Rattle.options_line.proofs.Turns.{next_of}
use Rattle.options_line.proofs.Words.{Means, option_said, option_given, switch_said, said_means}
use Rattle.options_line.proofs.Lines.{Word as Reading, gives, awaits, fails, word_of}
use Rattle.options_line.specs.Arguments.{Argument, Flag, OptionValue, OptionName, FeatureValue, BadFeatureName, VariableValue, BadVariableName, Unrecognized, awaited_by, awaited_after, read_argument}
use Rattle.options_line.specs.CommandLine as line
use Rattle.options_line.specs.CommandLine.{Setting, Variable, Choice, Cache, SourceDirectory, Switched, valued, IsSwitch, IsOption, GivesAlone}
use Rattle.options_line.specs.Kept as kept
use Rattle.options_line.specs.Kept.{KeptParts, IsKept, is_no_create, is_left_out, kept_of, kept_from, kept_args}
use Rattle.options_line.specs.Parts as parts
use Rattle.options_line.specs.Parts.{ArgumentPart, Word, Valued, AreParts}
use Rattle.options_line.specs.Slashes.{without_slashes}
use Rattle.options_line.specs.Srcdir as source
use Rattle.options_line.specs.Srcdir.{NamesSource, IsLastSource, NamesDirectory, srcdir_of_value, srcdir_said, srcdir_after, srcdir_from, srcdir_of}
use Rattle.options_line.specs.declared.argument.Target.{Target}
use Rattle.options_line.specs.declared.argument.Target.TheVariants.{InstallDirectory, Srcdir, CacheFile}
use Rattle.options_line.specs.declared.argument.Switch.{Switch}
use Rattle.options_line.specs.declared.argument.Switch.TheVariants.{ConfigCache, Quiet, NoCreate, Help, Version, Ignored}

-- ---- one argument more

pub kept_more : (awaited next : Option Target) (before now : List (List ℕ)) (i : ℕ) (args : List (List ℕ)) (x : List ℕ) (total : List (List ℕ)) → i < length args
    → x ≡ get_or args i x → next ≡ awaited_after awaited x → now ≡ before ++ kept_of awaited x
    → before ++ kept_from awaited (drop i args) ≡ total → now ++ kept_from next (drop (i + 1) args) ≡ total
unfolding kept_from
kept_more awaited next before now i args x total lt is a k h =
    ap (λ t. now ++ kept_from t (drop (i + 1) args)) a
    ∙ ap (λ t. t ++ kept_from (awaited_after awaited x) (drop (i + 1) args)) k
    ∙ append_assoc before (kept_of awaited x) (kept_from (awaited_after awaited x) (drop (i + 1) args))
    ∙ sym (ap (λ xs. before ++ kept_from awaited xs) (next_of args i x lt is)) ∙ h

pub kept_end : (awaited : Option Target) (before : List (List ℕ)) (i : ℕ) (args : List (List ℕ)) → length args ≤ i → before ++ kept_from awaited (drop i args) ≡ before
unfolding kept_from
kept_end awaited before i args le = ap (λ xs. before ++ kept_from awaited xs) (drop_of_length-le args le) ∙ append-nil before

-- ---- each list of arguments has parts

some_parts : (word : List ℕ) (more : List (List ℕ)) → ((parts : List ArgumentPart) × AreParts more parts)
    → ((next : List ℕ) (rest : List (List ℕ)) → more ≡ next ∷ rest → (parts : List ArgumentPart) × AreParts rest parts)
    → (parts : List ArgumentPart) × AreParts (word ∷ more) parts
some_parts word more after later = at (word_of 0 word) where
  alone : awaited_by (read_argument word) ≡ None → (parts : List ArgumentPart) × AreParts (word ∷ more) parts
  alone none = (Word word ∷ after.0, parts.one_word (λ target is. let e = ap awaited_by (option_said is) in absurd (cc)) after.1)

  value_at : (target : Target) → IsOption word target → (rest : List (List ℕ)) → more ≡ rest → (parts : List ArgumentPart) × AreParts (word ∷ rest) parts
  value_at target is [] same = (Word word ∷ [], parts.no_value is)
  value_at target is (value ∷ rest) same = let p = later value rest same in (Valued word target value ∷ p.0, parts.two_words is value p.1)

  at : Reading 0 word → (parts : List ArgumentPart) × AreParts (word ∷ more) parts
  at (gives setting is said none) = alone none
  at (awaits target is e) = value_at target is more refl
  at (fails fault is said none) = alone none

both_cut : (args : List (List ℕ))
    → ((parts : List ArgumentPart) × AreParts args parts) × ((next : List ℕ) (rest : List (List ℕ)) → args ≡ next ∷ rest → (parts : List ArgumentPart) × AreParts rest parts)
both_cut [] = (([], parts.no_more), λ next rest e. absurd (cc))
both_cut (word ∷ more) =
    let tail = both_cut more in
    (some_parts word more tail.0 tail.1, λ next rest e. let same : more ≡ rest = cc in subst (λ r. (parts : List ArgumentPart) × AreParts r parts) same tail.0)

-- A word that takes no value.
no_option : (word : List ℕ) → ((target : Target) → ¬ (IsOption word target)) → awaited_by (read_argument word) ≡ None
no_option word never = at (word_of 0 word) where
  at : Reading 0 word → awaited_by (read_argument word) ≡ None
  at (gives setting is said none) = none
  at (awaits target is e) = absurd (never target is)
  at (fails fault is said none) = none

-- ---- the directory

-- What gives a directory of the source alone.
abbrev IsSource : List ℕ → Setting → Type 0
IsSource word (SourceDirectory directory) = word ≡ codes "--srcdir=" ++ directory
IsSource word other = Unit {0}

source_is : {i : ℕ} {word : List ℕ} {setting : Setting} → GivesAlone i word setting → IsSource word setting
source_is (line.option line.srcdir value) = refl
source_is (line.option line.cache_file value) = tt
source_is (line.option (line.directory d) value) = tt
source_is other = tt

given_source : (word directory : List ℕ) → read_argument word ≡ OptionValue Srcdir directory → word ≡ codes "--srcdir=" ++ directory
given_source word directory e = source_is {i = 0} (subst (Means 0 word) e (said_means 0 word))

source_given : (directory : List ℕ) → read_argument (codes "--srcdir=" ++ directory) ≡ OptionValue Srcdir directory
source_given directory = option_given line.srcdir directory

-- After a word that names none.
word_passed : (word before : List ℕ) → ((directory : List ℕ) → ¬ (NamesSource (Word word) directory)) → srcdir_said (read_argument word) before ≡ before
word_passed word before never = at (read_argument word) refl where
  at : (said : Argument) → read_argument word ≡ said → srcdir_said said before ≡ before
  at (OptionValue Srcdir value) e = absurd (never value (subst (λ w. NamesSource (Word w) value) (sym (given_source word value e)) (source.in_one value)))
  at (OptionValue CacheFile value) e = refl
  at (OptionValue (InstallDirectory d) value) e = refl
  at (Flag switch) e = refl
  at (OptionName target) e = refl
  at (FeatureValue kind name value option) e = refl
  at BadFeatureName e = refl
  at (VariableValue name value) e = refl
  at BadVariableName e = refl
  at Unrecognized e = refl

value_passed : (option value before : List ℕ) (target : Target) → ((directory : List ℕ) → ¬ (NamesSource (Valued option target value) directory)) → srcdir_of_value target value before ≡ before
value_passed option value before Srcdir never = absurd (never value (source.in_two option value))
value_passed option value before CacheFile never = refl
value_passed option value before (InstallDirectory d) never = refl

-- What a part makes of the directory before it.
abbrev after_part : ArgumentPart → List ℕ → List ℕ
after_part (Word word) before = srcdir_said (read_argument word) before
after_part (Valued option target value) before = srcdir_of_value target value before

named_after : {part : ArgumentPart} {directory : List ℕ} (before : List ℕ) → NamesSource part directory → after_part part before ≡ directory
named_after before (source.in_one directory) = ap (λ s. srcdir_said s before) (source_given directory)
named_after before (source.in_two option directory) = refl

passed_after : (part : ArgumentPart) (before : List ℕ) → ((directory : List ℕ) → ¬ (NamesSource part directory)) → after_part part before ≡ before
passed_after (Word word) before never = word_passed word before never
passed_after (Valued option target value) before never = value_passed option value before target never

-- The directory after all parts, as a function.
abbrev after_parts : List ℕ → List ArgumentPart → List ℕ
after_parts before [] = before
after_parts before (part ∷ parts) = after_parts (after_part part before) parts

last_after : {before last : List ℕ} {parts : List ArgumentPart} → IsLastSource before parts last → after_parts before parts ≡ last
last_after source.no_more = refl
last_after (source.named {before = before} {part = part} {parts = parts} names rest) = ap (λ b. after_parts b parts) (named_after before names) ∙ last_after rest
last_after (source.passed {before = before} {part = part} {parts = parts} never rest) = ap (λ b. after_parts b parts) (passed_after part before never) ∙ last_after rest

-- Whether a part names a directory.
data Naming (part : ArgumentPart) (before : List ℕ) : Type 0 where
  names : (directory : List ℕ) → NamesSource part directory → after_part part before ≡ directory → Naming part before
  passes : ((directory : List ℕ) → ¬ (NamesSource part directory)) → after_part part before ≡ before → Naming part before

never_given : (word directory : List ℕ) (said : Argument) → read_argument word ≡ said → NamesSource (Word word) directory → said ≡ OptionValue Srcdir directory
never_given word directory said e h = sym e ∙ names_given h refl where
  names_given : {part : ArgumentPart} → NamesSource part directory → part ≡ Word word → read_argument word ≡ OptionValue Srcdir directory
  names_given (source.in_one d) same = let w : codes "--srcdir=" ++ d ≡ word = cc in ap read_argument (sym w) ∙ source_given d
  names_given (source.in_two option d) same = absurd (cc)

naming : (part : ArgumentPart) (before : List ℕ) → Naming part before
naming (Word word) before = at (read_argument word) refl where
  none : (said : Argument) → read_argument word ≡ said → ((d : List ℕ) → said ≡ OptionValue Srcdir d → ⊥) → Naming (Word word) before
  none said e other =
      let never : (d : List ℕ) → ¬ (NamesSource (Word word) d) = λ d h. other d (never_given word d said e h) in
      passes never (word_passed word before never)

  at : (said : Argument) → read_argument word ≡ said → Naming (Word word) before
  at (OptionValue Srcdir value) e =
      names value (subst (λ w. NamesSource (Word w) value) (sym (given_source word value e)) (source.in_one value)) (ap (λ s. srcdir_said s before) e)
  at (OptionValue CacheFile value) e = none _ e (λ d h. cc)
  at (OptionValue (InstallDirectory directory) value) e = none _ e (λ d h. cc)
  at (Flag switch) e = none _ e (λ d h. cc)
  at (OptionName target) e = none _ e (λ d h. cc)
  at (FeatureValue kind name value option) e = none _ e (λ d h. cc)
  at BadFeatureName e = none _ e (λ d h. cc)
  at (VariableValue name value) e = none _ e (λ d h. cc)
  at BadVariableName e = none _ e (λ d h. cc)
  at Unrecognized e = none _ e (λ d h. cc)
naming (Valued option Srcdir value) before = names value (source.in_two option value) refl
naming (Valued option CacheFile value) before = passes (λ d h. other d h refl) refl where
  other : {part : ArgumentPart} (d : List ℕ) → NamesSource part d → part ≡ Valued option CacheFile value → ⊥
  other d (source.in_one d2) e = cc
  other d (source.in_two o d2) e = cc
naming (Valued option (InstallDirectory directory) value) before = passes (λ d h. other d h refl) refl where
  other : {part : ArgumentPart} (d : List ℕ) → NamesSource part d → part ≡ Valued option (InstallDirectory directory) value → ⊥
  other d (source.in_one d2) e = cc
  other d (source.in_two o d2) e = cc

last_at : (before : List ℕ) (part : ArgumentPart) (parts : List ArgumentPart) → Naming part before → ((b : List ℕ) → IsLastSource b parts (after_parts b parts))
    → IsLastSource before (part ∷ parts) (after_parts (after_part part before) parts)
last_at before part parts (names directory h e) rest = source.named h (subst (λ b. IsLastSource b parts (after_parts (after_part part before) parts)) e (rest (after_part part before)))
last_at before part parts (passes never e) rest = source.passed never (subst (λ b. IsLastSource b parts (after_parts (after_part part before) parts)) e (rest (after_part part before)))

after_is_last : (before : List ℕ) (parts : List ArgumentPart) → IsLastSource before parts (after_parts before parts)
after_is_last before [] = source.no_more
after_is_last before (part ∷ parts) = last_at before part parts (naming part before) (λ b. after_is_last b parts)

parts_after : {args : List (List ℕ)} {parts : List ArgumentPart} → AreParts args parts → (before : List ℕ) → srcdir_from None before args ≡ after_parts before parts
unfolding srcdir_from
parts_after parts.no_more before = refl
parts_after (parts.one_word {word = word} {more = more} never rest) before =
    ap (λ t. srcdir_from t (srcdir_said (read_argument word) before) more) (no_option word never) ∙ parts_after rest (srcdir_said (read_argument word) before)
parts_after (parts.two_words {option = option} {target = target} {more = more} is value rest) before =
    ap (λ s. srcdir_from (awaited_by s) (srcdir_said s before) (value ∷ more)) (option_said is) ∙ parts_after rest (srcdir_of_value target value before)
parts_after (parts.no_value {option = option} is) before = ap (λ s. srcdir_from (awaited_by s) (srcdir_said s before) []) (option_said is) ∙ sym (ap (λ s. srcdir_said s before) (option_said is))

pub directory_named : (args : List (List ℕ)) → NamesDirectory args (without_slashes (srcdir_from None (codes ".") args))
directory_named args =
    let cut = (both_cut args).0 in
    record {
      parts = cut.0;
      are_parts = cut.1;
      source = after_parts (codes ".") cut.0;
      is_last = after_is_last (codes ".") cut.0;
      is = ap without_slashes (parts_after cut.1 (codes "."));
    }

pub directory_only : (args : List (List ℕ)) (d : List ℕ) → NamesDirectory args d → d ≡ without_slashes (srcdir_from None (codes ".") args)
directory_only args d h = h.is ∙ ap without_slashes (sym (last_after h.is_last) ∙ sym (parts_after h.are_parts (codes ".")))

-- ---- what is kept

abbrev kept_part : ArgumentPart → List (List ℕ)
kept_part (Word word) = if is_no_create (read_argument word) then [] else word ∷ []
kept_part (Valued option target value) = option ∷ value ∷ []

abbrev kept_parts : List ArgumentPart → List (List ℕ)
kept_parts [] = []
kept_parts (part ∷ parts) = kept_part part ++ kept_parts parts

parts_kept : {args : List (List ℕ)} {parts : List ArgumentPart} → AreParts args parts → kept_from None args ≡ kept_parts parts
unfolding kept_from
parts_kept parts.no_more = refl
parts_kept (parts.one_word {word = word} {more = more} never rest) =
    ap (λ t. kept_of None word ++ kept_from t more) (no_option word never) ∙ ap (λ k. kept_of None word ++ k) (parts_kept rest)
parts_kept (parts.two_words {option = option} {target = target} {more = more} is value rest) =
    ap (λ s. (if is_no_create s then [] else option ∷ []) ++ kept_from (awaited_by s) (value ∷ more)) (option_said is) ∙ ap (λ k. option ∷ value ∷ k) (parts_kept rest)
parts_kept (parts.no_value {option = option} is) = ap (λ s. (if is_no_create s then [] else option ∷ []) ++ kept_from (awaited_by s) []) (option_said is) ∙ sym (ap (λ s. (if is_no_create s then [] else option ∷ []) ++ []) (option_said is))

-- Whether a word is left out.
abbrev IsNoCreate : List ℕ → Setting → Type 0
IsNoCreate word (Switched NoCreate) = IsSwitch word NoCreate
IsNoCreate word other = Unit {0}

no_create_is : {i : ℕ} {word : List ℕ} {setting : Setting} → GivesAlone i word setting → IsNoCreate word setting
no_create_is (line.switch {word = word} {switch = switch} is) = at switch is where
  at : (s : Switch) → IsSwitch word s → IsNoCreate word (Switched s)
  at NoCreate h = h
  at other h = tt
no_create_is (line.option line.srcdir value) = tt
no_create_is (line.option line.cache_file value) = tt
no_create_is (line.option (line.directory d) value) = tt
no_create_is other = tt

is_switch : (word : List ℕ) → is_no_create (read_argument word) ≡ true → IsSwitch word NoCreate
is_switch word = at (read_argument word) refl where
  at : (said : Argument) → read_argument word ≡ said → is_no_create said ≡ true → IsSwitch word NoCreate
  at (Flag NoCreate) e h = no_create_is {i = 0} (subst (Means 0 word) e (said_means 0 word))
  at (Flag ConfigCache) e h = absurd (cc)
  at (Flag Quiet) e h = absurd (cc)
  at (Flag Help) e h = absurd (cc)
  at (Flag Version) e h = absurd (cc)
  at (Flag Ignored) e h = absurd (cc)
  at (OptionValue target value) e h = absurd (cc)
  at (OptionName target) e h = absurd (cc)
  at (FeatureValue kind name value option) e h = absurd (cc)
  at BadFeatureName e h = absurd (cc)
  at (VariableValue name value) e h = absurd (cc)
  at BadVariableName e h = absurd (cc)
  at Unrecognized e h = absurd (cc)

left_out_is : (word : List ℕ) → IsSwitch word NoCreate → is_no_create (read_argument word) ≡ true
left_out_is word is = ap is_no_create (switch_said is)

parts_are_kept : (parts : List ArgumentPart) → KeptParts parts (kept_parts parts)
parts_are_kept [] = kept.no_more
parts_are_kept (Word word ∷ parts) = at (is_no_create (read_argument word)) refl (parts_are_kept parts) where
  at : (t : Bool) → is_no_create (read_argument word) ≡ t → KeptParts parts (kept_parts parts) → KeptParts (Word word ∷ parts) ((if t then [] else word ∷ []) ++ kept_parts parts)
  at true e rest = kept.left_out (is_switch word e) rest
  at false e rest = kept.word (λ is. let yes = left_out_is word is in absurd (cc)) rest
parts_are_kept (Valued option target value ∷ parts) = kept.valued (parts_are_kept parts)

kept_is : {parts : List ArgumentPart} {left : List (List ℕ)} → KeptParts parts left → left ≡ kept_parts parts
kept_is kept.no_more = refl
kept_is (kept.left_out {word = word} {parts = parts} is rest) = kept_is rest ∙ sym (ap (λ t. (if t then [] else word ∷ []) ++ kept_parts parts) (left_out_is word is))
kept_is (kept.word {word = word} {parts = parts} never rest) = ap (λ k. word ∷ k) (kept_is rest) ∙ at (is_no_create (read_argument word)) refl where
  at : (t : Bool) → is_no_create (read_argument word) ≡ t → word ∷ kept_parts parts ≡ (if t then [] else word ∷ []) ++ kept_parts parts
  at true e = absurd (never (is_switch word e))
  at false e = refl
kept_is (kept.valued {option = option} {value = value} rest) = ap (λ k. option ∷ value ∷ k) (kept_is rest)

pub are_kept : (args : List (List ℕ)) → IsKept args (kept_args args)
are_kept args =
    let cut = (both_cut args).0 in
    record { parts = cut.0; are_parts = cut.1; are_kept = subst (KeptParts cut.0) (sym (parts_kept cut.1)) (parts_are_kept cut.0) }

pub kept_only : (args left : List (List ℕ)) → IsKept args left → left ≡ kept_args args
kept_only args left h = kept_is h.are_kept ∙ sym (parts_kept h.are_parts)

pub answer_kept : {E : Type 0} (args : List (List ℕ)) (r : Result (List (List ℕ)) E) → IfOk r (λ k. k ≡ kept_args args) → IfOk r (λ k. IsKept args k)
answer_kept args (Ok k) e = subst (IsKept args) (sym e) (are_kept args)
answer_kept args (Err x) e = tt

pub answer_only : {E : Type 0} (args : List (List ℕ)) (r : Result (List (List ℕ)) E) → IfOk r (λ k. k ≡ kept_args args) → (left : List (List ℕ)) → IsKept args left → IfOk r (λ k. k ≡ left)
answer_only args (Ok k) e left h = e ∙ sym (kept_only args left h)
answer_only args (Err x) e left h = tt
