-- What is said of sources that are not linted.
use Rattle.std.proofs.Common.{◌≡◌, ◌≢◌, ◌⊎◌, inl, inr, ℕ, ◌+◌, ◌<◌, ◌≤◌, Bool, true, false, ◌&&◌, cond, List, [], ◌∷◌, ◌++◌, Option, length, take, get_or, refl, sym, ap, subst, ◌∙◌, arith, true≢false, append-nil}
use Rattle.std.specs.Prelude.{codes}
use Rattle.std.specs.List.{filter, list_any}
use Rattle.std.proofs.lemmas.List.{take_all}
use Rattle.std.proofs.lemmas.List.Elements.{filter_more}
use Rattle.std.proofs.lemmas.List.Folds.{list_any_at}
use Rattle.file_disk.specs.Known.{Known}
use Rattle.cmd_call.specs.Calls.{is_input}
use Rattle.cmd_call.specs.Lines.{AreSaid, IsTold, error_line}
use Rattle.cmd_call.proofs.Lines.{said_line, said_nothing, said_then}
use Rattle.cmd_lint.specs.Refusals as specs
use Rattle.cmd_lint.specs.Refusals.{AreSaidOf, IsSaidOf}
use Rattle.cmd_lint.specs.Status.{is_name, named_by}
use Rattle.lint_sources.specs.Sources.{IsUnread}
use Rattle.cmd_lint.proofs.Statuses.{none_named, some_named}

-- ---- one source

-- What is said of the source of a name.
abbrev Says : {E : Type 0} → (E → Option (List ℕ)) → (E → Bool) → E → E → Option Known → Bool → Bool → List ℕ → ℕ → Type 0
Says contents has_failed old new files is_full is_stream name status = (lines : List (List ℕ)) × IsSaidOf files is_full is_stream name status lines × AreSaid contents has_failed old new lines

pub nothing_said : {E : Type 0} (contents : E → Option (List ℕ)) (has_failed : E → Bool) (e : E) (files : Option Known) (is_full is_stream : Bool) (name : List ℕ) (status : ℕ) → status ≤ 1
    → (lines : List (List ℕ)) × IsSaidOf files is_full is_stream name status lines × AreSaid contents has_failed e e lines
nothing_said contents has_failed e files is_full is_stream name status low = ([], specs.IsSaidOf.nothing (λ is. absurd (omega (arith, is, low))), said_nothing contents has_failed e)

pub output_said : {E : Type 0} (contents : E → Option (List ℕ)) (has_failed : E → Bool) (old new : E) (files : Option Known) (is_full is_stream : Bool) (name : List ℕ) (status : ℕ) → status ≡ 2
    → is_full ≡ true → IsTold contents has_failed old new (error_line (codes "file") (codes "standard output"))
    → (lines : List (List ℕ)) × IsSaidOf files is_full is_stream name status lines × AreSaid contents has_failed old new lines
output_said contents has_failed old new files is_full is_stream name status is full told =
    subst (Says contents has_failed old new files is_full is_stream name) (sym is) (_, specs.IsSaidOf.unwritten full, said_line contents has_failed old new _ told)

pub file_said : {E : Type 0} (contents : E → Option (List ℕ)) (has_failed : E → Bool) (old new : E) (files : Option Known) (is_full is_stream : Bool) (name : List ℕ) (status : ℕ) → status ≡ 2
    → IsUnread files is_stream name → IsTold contents has_failed old new (error_line (codes "file") name)
    → (lines : List (List ℕ)) × IsSaidOf files is_full is_stream name status lines × AreSaid contents has_failed old new lines
file_said contents has_failed old new files is_full is_stream name status is lacks told =
    subst (Says contents has_failed old new files is_full is_stream name) (sym is) (_, specs.IsSaidOf.unread lacks, said_line contents has_failed old new _ told)

pub memory_said : {E : Type 0} (contents : E → Option (List ℕ)) (has_failed : E → Bool) (old new : E) (files : Option Known) (is_full is_stream : Bool) (name : List ℕ) (status : ℕ) → status ≡ 2
    → IsTold contents has_failed old new (error_line (codes "memory") [])
    → (lines : List (List ℕ)) × IsSaidOf files is_full is_stream name status lines × AreSaid contents has_failed old new lines
memory_said contents has_failed old new files is_full is_stream name status is told =
    subst (Says contents has_failed old new files is_full is_stream name) (sym is) (_, specs.IsSaidOf.no_memory, said_line contents has_failed old new _ told)

-- Something is said if the status is 2.
some_said : (files : Option Known) (is_full is_stream : Bool) (name : List ℕ) (status : ℕ) (lines : List (List ℕ)) → IsSaidOf files is_full is_stream name status lines → status ≡ 2 → lines ≢ []
some_said files is_full is_stream name status lines (specs.IsSaidOf.nothing ne) is none = ne is
some_said files is_full is_stream name status lines (specs.IsSaidOf.unread lacks) is none = cc
some_said files is_full is_stream name status lines specs.IsSaidOf.no_memory is none = cc
some_said files is_full is_stream name status lines (specs.IsSaidOf.unwritten full) is none = cc

-- ---- several sources

-- What is said of the sources of these names, of which one has status 2 if this one is.
abbrev pub SaysOf : {E : Type 0} → (E → Option (List ℕ)) → (E → Bool) → E → E → Option Known → Bool → List (List ℕ) → ℕ → Type 0
SaysOf contents has_failed old new files is_full names status =
    (lines : List (List ℕ)) × AreSaidOf files is_full names lines × (status ≡ 2 → lines ≢ []) × AreSaid contents has_failed old new lines

-- A stream that has failed has failed later.
full_later : (was now : Bool) → (now ≡ false → was ≡ false) → was ≡ true → now ≡ true
full_later was true kept is = refl
full_later was false kept is = absurd (true≢false (sym is ∙ kept refl))

one_later : (files : Option Known) (was now is_stream : Bool) (name : List ℕ) (status : ℕ) (lines : List (List ℕ)) → (now ≡ false → was ≡ false)
    → IsSaidOf files was is_stream name status lines → IsSaidOf files now is_stream name status lines
one_later files was now is_stream name status lines kept (specs.IsSaidOf.nothing ne) = specs.IsSaidOf.nothing ne
one_later files was now is_stream name status lines kept (specs.IsSaidOf.unread lacks) = specs.IsSaidOf.unread lacks
one_later files was now is_stream name status lines kept specs.IsSaidOf.no_memory = specs.IsSaidOf.no_memory
one_later files was now is_stream name status lines kept (specs.IsSaidOf.unwritten full) = specs.IsSaidOf.unwritten (full_later was now kept full)

-- What was said of sources holds after standard output took more.
said_later : (files : Option Known) (was now : Bool) (names said : List (List ℕ)) → (now ≡ false → was ≡ false) → AreSaidOf files was names said → AreSaidOf files now names said
said_later files was now names said kept specs.AreSaidOf.none = specs.AreSaidOf.none
said_later files was now names said kept (specs.AreSaidOf.next {before} {lines} {more} {status} name first one) =
    specs.AreSaidOf.next name (said_later files was now before lines kept first) (one_later files was now (is_input name) name status more kept one)

some_before : (xs ys : List (List ℕ)) → xs ≢ [] → xs ++ ys ≡ [] → ⊥
some_before [] ys some none = some refl
some_before (x ∷ xs) ys some none = cc

some_after : (xs ys : List (List ℕ)) → ys ≢ [] → xs ++ ys ≡ [] → ⊥
some_after [] ys some none = some none
some_after (x ∷ xs) ys some none = cc

one_more : {E : Type 0} (contents : E → Option (List ℕ)) (has_failed : E → Bool) (old mid new : E) (files : Option Known) (before after : Bool) (names : List (List ℕ)) (name : List ℕ) (status next larger : ℕ)
    → (after ≡ false → before ≡ false) → SaysOf contents has_failed old mid files before names status → Says contents has_failed mid new files after (is_input name) name next
    → (larger ≡ 2 → (status ≡ 2) ⊎ (next ≡ 2)) → SaysOf contents has_failed old new files after (names ++ name ∷ []) larger
one_more contents has_failed old mid new files before after names name status next larger kept h n either = (
  h.0 ++ n.0,
  specs.AreSaidOf.next name (said_later files before after names h.0 kept h.1) n.1,
  λ two none. elim (either two) [
    | inl is ↦ some_before h.0 n.0 (h.2 is) none
    | inr is ↦ some_after h.0 n.0 (some_said files after (is_input name) name next n.0 n.1 is) none
  ],
  said_then contents has_failed old mid new h.0 n.0 h.3 n.2,
)

-- If standard input is read, a word is it.
stream_by : (reads : Bool) (words : List (List ℕ)) (i : ℕ) (word : List ℕ) (b : Bool) → i < length words → word ≡ get_or words i word → reads ≡ list_any is_input words
    → is_input word ≡ b → (reads && is_input word) ≡ is_input word
stream_by true words i word b within at all is = refl
stream_by false words i word false within at all is = sym is
stream_by false words i word true within at all is = absurd (true≢false (sym (list_any_at is_input words i word within (ap is_input (sym at) ∙ is)) ∙ sym all))

pub name_said : {O E : Type 0} (contents : E → Option (List ℕ)) (has_failed : E → Bool) (is_full : O → Bool) (e0 e1 e2 e3 : E) (o1 o2 o3 : O) (files : Option Known) (words : List (List ℕ)) (i : ℕ) (word slice : List ℕ) (reads is : Bool) (status next larger now : ℕ)
    → i < length words → word ≡ get_or words i word → slice ≡ word → is ≡ is_name word → is ≡ true → reads ≡ list_any is_input words
    → SaysOf contents has_failed e0 e1 files (is_full o1) (filter is_name (take i words)) status
    → ((lines : List (List ℕ)) × IsSaidOf files (is_full o2) (reads && is_input slice) slice next lines × AreSaid contents has_failed e1 e2 lines)
    → (is_full o2 ≡ false → is_full o1 ≡ false) → (larger ≡ 2 → (status ≡ 2) ⊎ (next ≡ 2)) → e3 ≡ e2 → o3 ≡ o2 → now ≡ larger
    → SaysOf contents has_failed e0 e3 files (is_full o3) (filter is_name (take (i + 1) words)) now
name_said contents has_failed is_full e0 e1 e2 e3 o1 o2 o3 files words i word slice reads is status next larger now within at lent named is_true all h n kept either errors_is output_is status_is =
    let grown : filter is_name (take i words) ++ word ∷ [] ≡ filter is_name (take (i + 1) words) =
    sym (filter_more is_name words i word within ∙ ap (λ x. filter is_name (take i words) ++ cond (is_name x) (x ∷ []) []) (sym at) ∙ ap (λ b. filter is_name (take i words) ++ cond b (word ∷ []) []) (sym named ∙ is_true)) in
    let stream : (reads && is_input word) ≡ is_input word = stream_by reads words i word (is_input word) within at all refl in
    let lent_one : Says contents has_failed e1 e2 files (is_full o2) (reads && is_input word) word next = subst (λ s. Says contents has_failed e1 e2 files (is_full o2) (reads && is_input s) s next) lent n in
    let one : Says contents has_failed e1 e2 files (is_full o2) (is_input word) word next = subst (λ b. Says contents has_failed e1 e2 files (is_full o2) b word next) stream lent_one in
    subst (λ l. SaysOf contents has_failed e0 e3 files (is_full o3) l now) grown
    (subst (λ o. SaysOf contents has_failed e0 e3 files (is_full o) (filter is_name (take i words) ++ word ∷ []) now) (sym output_is)
    (subst (λ e. SaysOf contents has_failed e0 e files (is_full o2) (filter is_name (take i words) ++ word ∷ []) now) (sym errors_is)
    (subst (SaysOf contents has_failed e0 e2 files (is_full o2) (filter is_name (take i words) ++ word ∷ [])) (sym status_is)
    (one_more contents has_failed e0 e1 e2 files (is_full o1) (is_full o2) (filter is_name (take i words)) word status next larger kept h one either))))

pub option_said : {O E : Type 0} (contents : E → Option (List ℕ)) (has_failed : E → Bool) (is_full : O → Bool) (e0 e1 e3 : E) (o1 o3 : O) (files : Option Known) (words : List (List ℕ)) (i : ℕ) (word : List ℕ) (is : Bool) (status now : ℕ)
    → i < length words → word ≡ get_or words i word → is ≡ is_name word → is ≡ false
    → SaysOf contents has_failed e0 e1 files (is_full o1) (filter is_name (take i words)) status → e3 ≡ e1 → o3 ≡ o1 → now ≡ status
    → SaysOf contents has_failed e0 e3 files (is_full o3) (filter is_name (take (i + 1) words)) now
option_said contents has_failed is_full e0 e1 e3 o1 o3 files words i word is status now within at named no_name h errors_is output_is status_is =
    let same : filter is_name (take i words) ≡ filter is_name (take (i + 1) words) =
    sym (filter_more is_name words i word within ∙ ap (λ x. filter is_name (take i words) ++ cond (is_name x) (x ∷ []) []) (sym at)
    ∙ ap (λ b. filter is_name (take i words) ++ cond b (word ∷ []) []) (sym named ∙ no_name) ∙ append-nil (filter is_name (take i words))) in
    subst (λ l. SaysOf contents has_failed e0 e3 files (is_full o3) l now) same
    (subst (λ o. SaysOf contents has_failed e0 e3 files (is_full o) (filter is_name (take i words)) now) (sym output_is)
    (subst (λ e. SaysOf contents has_failed e0 e files (is_full o1) (filter is_name (take i words)) now) (sym errors_is)
    (subst (SaysOf contents has_failed e0 e1 files (is_full o1) (filter is_name (take i words))) (sym status_is) h)))

pub none_said : {E : Type 0} (contents : E → Option (List ℕ)) (has_failed : E → Bool) (e : E) (files : Option Known) (is_full : Bool) → SaysOf contents has_failed e e files is_full [] 0
none_said contents has_failed e files is_full = ([], specs.AreSaidOf.none, λ is. absurd (cc), said_nothing contents has_failed e)

pub all_said : {E : Type 0} (contents : E → Option (List ℕ)) (has_failed : E → Bool) (old new : E) (files : Option Known) (is_full : Bool) (words : List (List ℕ)) (i status : ℕ) → length words ≤ i
    → SaysOf contents has_failed old new files is_full (filter is_name (take i words)) status → SaysOf contents has_failed old new files is_full (filter is_name words) status
all_said contents has_failed old new files is_full words i status all h = subst (λ l. SaysOf contents has_failed old new files is_full (filter is_name l) status) (take_all i words all) h

pub said_here : {E : Type 0} (contents : E → Option (List ℕ)) (has_failed : E → Bool) (old new : E) (files : Option Known) (is_full : Bool) (status : ℕ)
    → ((lines : List (List ℕ)) × IsSaidOf files is_full (false && is_input (codes "configure.ac")) (codes "configure.ac") status lines × AreSaid contents has_failed old new lines)
    → SaysOf contents has_failed old new files is_full (codes "configure.ac" ∷ []) status
said_here contents has_failed old new files is_full status n = (
  n.0,
  specs.AreSaidOf.next (codes "configure.ac") specs.AreSaidOf.none n.1,
  λ two. some_said files is_full (is_input (codes "configure.ac")) (codes "configure.ac") status n.0 n.1 two,
  n.2,
)

pub said_by_names : {E : Type 0} (contents : E → Option (List ℕ)) (has_failed : E → Bool) (old new : E) (files : Option Known) (is_full : Bool) (words : List (List ℕ)) (any : Bool) (status : ℕ) → any ≡ list_any is_name words → any ≡ true
    → SaysOf contents has_failed old new files is_full (filter is_name words) status → SaysOf contents has_failed old new files is_full (named_by words) status
said_by_names contents has_failed old new files is_full words any status is has_one h = subst (λ l. SaysOf contents has_failed old new files is_full l status) (some_named words (sym is ∙ has_one)) h

pub said_by_none : {E : Type 0} (contents : E → Option (List ℕ)) (has_failed : E → Bool) (old new : E) (files : Option Known) (is_full : Bool) (words : List (List ℕ)) (any : Bool) (status : ℕ) → any ≡ list_any is_name words → any ≡ false
    → SaysOf contents has_failed old new files is_full (codes "configure.ac" ∷ []) status → SaysOf contents has_failed old new files is_full (named_by words) status
said_by_none contents has_failed old new files is_full words any status is no_one h = subst (λ l. SaysOf contents has_failed old new files is_full l status) (none_named words (sym is ∙ no_one)) h
