-- What is said of a source whose template is not printed.
use Rattle.std.proofs.Common.{◌≡◌, ◌⊎◌, inl, inr, ℕ, List, [], ◌∷◌, Option, Some, None, Bool, true, false, ◌&&◌, ◌||◌, refl, sym, subst, ap, ◌∙◌}
use Rattle.std.specs.Prelude.{MatchOption, codes, if◌then◌else◌}
use Rattle.std.specs.List.{list_any}
use Rattle.std.specs.Io.KnownBytes.{Appends}
use Rattle.cmd_call.specs.Calls.{is_input, is_option}
use Rattle.cmd_call.specs.Errors.{AreTold}
use Rattle.cmd_call.specs.Lines.{IsTold, error_line}
use Rattle.lint_sources.specs.Sources.{IsNamed, IsUnread}
use Rattle.cmd_header.specs.Answers.{name_of}
use Rattle.cmd_header.specs.Refusals.{IsLost, IsSaid, IsSaidFor, IsSaidOf, Says, no_memory, unwritten, lost, wrong, unread, without, of_text}
use Rattle.file_disk.specs.Known.{Known}
use Rattle.lint_errors.specs.Errors.{IsAccepted}

-- Another kind of text is said if each of the one kind is one of the other.
other : {E : Type 0} (contents : E → Option (List ℕ)) (has_failed : E → Bool) (old new : E) (P Q : List ℕ → Type 0) → ((said : List ℕ) → P said → Q said)
    → Says contents has_failed old new P → Says contents has_failed old new Q
other contents has_failed old new P Q from (inl failed) = inl failed
other contents has_failed old new P Q from (inr told) = inr (told.0, from told.0 told.1, told.2)

-- A text was told.
pub page_told : {E : Type 0} (contents : E → Option (List ℕ)) (has_failed : E → Bool) (old new : E) (text : List ℕ) → AreTold (contents old) (contents new) (text ∷ [])
    → (has_failed new ≡ false → Appends (contents old) (contents new) text) → (has_failed new ≡ false → has_failed old ≡ false) → IsTold contents has_failed old new text
page_told contents has_failed old new text told whole kept = record { told = told; whole = whole; kept = kept }

-- ---- what is lost

pub output_told : {E : Type 0} (contents : E → Option (List ℕ)) (has_failed : E → Bool) (old new : E) (is_full : Bool) → is_full ≡ true → IsTold contents has_failed old new (error_line (codes "file") (codes "standard output"))
    → Says contents has_failed old new (IsLost is_full)
output_told contents has_failed old new is_full full told = inr (_, unwritten full, told)

pub stream_lost : {E : Type 0} (contents : E → Option (List ℕ)) (has_failed : E → Bool) (old new : E) (is_full : Bool) (status : ℕ) → (status ≡ 2 → has_failed new ≡ true) → status ≡ 2 → Says contents has_failed old new (IsLost is_full)
stream_lost contents has_failed old new is_full status failed is = inl (failed is)

pub memory_lost : {E : Type 0} (contents : E → Option (List ℕ)) (has_failed : E → Bool) (old new : E) (is_full : Bool) → IsTold contents has_failed old new (error_line (codes "memory") []) → Says contents has_failed old new (IsLost is_full)
memory_lost contents has_failed old new is_full told = inr (_, no_memory, told)

-- ---- a text

pub lost_of : {E : Type 0} (contents : E → Option (List ℕ)) (has_failed : E → Bool) (old new : E) (is_full : Bool) (text : List ℕ) (status : ℕ)
    → (status ≡ 2 → Says contents has_failed old new (IsLost is_full)) → status ≡ 2 → Says contents has_failed old new (IsSaidOf is_full text)
lost_of contents has_failed old new is_full text status says is = other contents has_failed old new (IsLost is_full) (IsSaidOf is_full text) (λ said l. lost l) (says is)

pub memory_said : {E : Type 0} (contents : E → Option (List ℕ)) (has_failed : E → Bool) (old new : E) (is_full : Bool) (text : List ℕ)
    → IsTold contents has_failed old new (error_line (codes "memory") []) → Says contents has_failed old new (IsSaidOf is_full text)
memory_said contents has_failed old new is_full text told = inr (_, lost no_memory, told)

pub wrong_said : {E : Type 0} (contents : E → Option (List ℕ)) (has_failed : E → Bool) (old new : E) (is_full : Bool) (text page : List ℕ)
    → IsTold contents has_failed old new page → (IsAccepted text → ⊥) → Says contents has_failed old new (IsSaidOf is_full text)
wrong_said contents has_failed old new is_full text page told refused = inr (page, wrong page refused, told)

pub refused_text : {E : Type 0} (contents : E → Option (List ℕ)) (has_failed : E → Bool) (old new : E) (is_full : Bool) (text slice : List ℕ) → slice ≡ text → (IsAccepted slice → ⊥)
    → ((full : Bool) → (IsAccepted text → ⊥) → Says contents has_failed old new (IsSaidOf full text)) → Says contents has_failed old new (IsSaidOf is_full text)
refused_text contents has_failed old new is_full text slice is refused says = says is_full (subst (λ t. IsAccepted t → ⊥) is refused)

-- ---- a name

pub said_of_named : {E : Type 0} (contents : E → Option (List ℕ)) (has_failed : E → Bool) (old new : E) (files : Option Known) (is_full is_stream : Bool) (name text directory : List ℕ) (status : ℕ)
    → IsNamed files is_stream name text directory → (status ≡ 2 → Says contents has_failed old new (IsSaidOf is_full text)) → status ≡ 2 → Says contents has_failed old new (IsSaidFor files is_full is_stream name)
said_of_named contents has_failed old new files is_full is_stream name text directory status named says is =
    other contents has_failed old new (IsSaidOf is_full text) (IsSaidFor files is_full is_stream name) (λ said s. of_text text directory named s) (says is)

pub unread_said : {E : Type 0} (contents : E → Option (List ℕ)) (has_failed : E → Bool) (old new : E) (files : Option Known) (is_full is_stream : Bool) (name : List ℕ)
    → IsUnread files is_stream name → IsTold contents has_failed old new (error_line (codes "file") name) → Says contents has_failed old new (IsSaidFor files is_full is_stream name)
unread_said contents has_failed old new files is_full is_stream name lacks told = inr (_, unread lacks, told)

pub memory_for : {E : Type 0} (contents : E → Option (List ℕ)) (has_failed : E → Bool) (old new : E) (files : Option Known) (is_full is_stream : Bool) (name : List ℕ)
    → IsTold contents has_failed old new (error_line (codes "memory") []) → Says contents has_failed old new (IsSaidFor files is_full is_stream name)
memory_for contents has_failed old new files is_full is_stream name told = inr (_, without no_memory, told)

-- ---- words

or_false : (b : Bool) → (b || false) ≡ b
or_false true = refl
or_false false = refl

and_false : (b : Bool) → (b && false) ≡ false
and_false true = refl
and_false false = refl

and_same : (b : Bool) → (b && b) ≡ b
and_same true = refl
and_same false = refl

-- The one word is read from standard input exactly if it names it.
one_stream : (word name : List ℕ) (b : Bool) → (if b then None else Some word) ≡ Some name → ((is_input word || false) && is_input name) ≡ is_input name
one_stream word name true is = absurd cc
one_stream word name false is =
    let same : word ≡ name = cc in
    ap (λ w. (is_input w || false) && is_input name) same ∙ ap (λ b. b && is_input name) (or_false (is_input name)) ∙ and_same (is_input name)

here_stream : (name : List ℕ) → Some (codes "configure.ac") ≡ Some name → (false && is_input name) ≡ is_input name
here_stream name is =
    let same : codes "configure.ac" ≡ name = cc in
    ap is_input same

pub stream_is : (words : List (List ℕ)) (name : List ℕ) → name_of words ≡ Some name → (list_any is_input words && is_input name) ≡ is_input name
stream_is [] name is = here_stream name is
stream_is (word ∷ []) name is = one_stream word name (is_option word) is
stream_is (word ∷ other ∷ more) name is = absurd cc

pub said_by_words : {E : Type 0} (contents : E → Option (List ℕ)) (has_failed : E → Bool) (old new : E) (files : Option Known) (is_full : Bool) (words : List (List ℕ)) (asked : Option (List ℕ)) (name : List ℕ) (reads : Bool) (status : ℕ)
    → asked ≡ name_of words → asked ≡ Some name → reads ≡ list_any is_input words
    → (status ≡ 2 → Says contents has_failed old new (IsSaidFor files is_full (reads && is_input name) name)) → status ≡ 2 → Says contents has_failed old new (IsSaid files is_full (name_of words))
said_by_words contents has_failed old new files is_full words asked name reads status is some all says two =
    let found : Some name ≡ name_of words = sym some ∙ is in
    let stream : (reads && is_input name) ≡ is_input name = ap (λ r. r && is_input name) all ∙ stream_is words name (sym found) in
    let said : Says contents has_failed old new (IsSaid files is_full (Some name)) = subst (λ b. Says contents has_failed old new (IsSaidFor files is_full b name)) stream (says two) in
    subst (λ r. Says contents has_failed old new (IsSaid files is_full r)) found said

pub usage_said : {E : Type 0} (contents : E → Option (List ℕ)) (has_failed : E → Bool) (old new : E) (files : Option Known) (is_full : Bool) (words : Option (List ℕ)) → words ≡ None
    → IsTold contents has_failed old new (error_line (codes "usage") []) → Says contents has_failed old new (IsSaid files is_full words)
usage_said contents has_failed old new files is_full words is told = subst (λ r. Says contents has_failed old new (IsSaid files is_full r)) (sym is) (inr (_, refl, told))
