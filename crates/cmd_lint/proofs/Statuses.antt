-- The status after sources.
use Rattle.std.proofs.Common.{◌≡◌, ◌≢◌, ℕ, ◌+◌, ◌<◌, ◌≤◌, Bool, true, false, ◌&&◌, ◌||◌, cond, List, [], ◌∷◌, ◌++◌, Option, length, take, get_or, refl, sym, ap, subst, ◌∙◌, arith, true≢false, append-nil, zero-le}
use Rattle.std.specs.Prelude.{codes}
use Rattle.std.specs.List.{filter, list_any}
use Rattle.std.proofs.lemmas.List.{take_all}
use Rattle.std.proofs.lemmas.List.Elements.{filter_more}
use Rattle.std.proofs.lemmas.List.Folds.{list_any_at}
use Rattle.file_disk.specs.Known.{Known}
use Rattle.cmd_call.specs.Calls.{is_input}
use Rattle.cmd_lint.specs.Status.{AreLinted, IsLinted, IsStatus, is_name, named_by, or_here, status_of}
use Rattle.cmd_lint.specs.Status as specs

-- The larger of two statuses
pub worse_next : (status next : ℕ) → status < next → (has also : Bool) → status ≡ status_of has → next ≡ status_of also → next ≡ status_of (has || also)
worse_next status next less false also first second = second
worse_next status next less true false first second = absurd (omega (arith, less, first, second))
worse_next status next less true true first second = absurd (omega (arith, less, first, second))

pub worse_first : (status next : ℕ) → next ≤ status → (has also : Bool) → status ≡ status_of has → next ≡ status_of also → status ≡ status_of (has || also)
worse_first status next not_less true also first second = first
worse_first status next not_less false false first second = first
worse_first status next not_less false true first second = absurd (omega (arith, not_less, first, second))

and_no : (b : Bool) → (b && false) ≡ false
and_no true = refl
and_no false = refl

-- The status after names up to the next one
pub after_name : (files : Option Known) (words : List (List ℕ)) (i : ℕ) (word : List ℕ) (reads : Bool) (status next result : ℕ) → i < length words → word ≡ get_or words i word
    → is_name word ≡ true → reads ≡ list_any is_input words
    → (h : (has : Bool) × AreLinted files (filter is_name (take i words)) has × (status ≡ status_of has))
    → (n : (has : Bool) × IsLinted files (reads && is_input word) word has × (next ≡ status_of has))
    → ((has also : Bool) → status ≡ status_of has → next ≡ status_of also → result ≡ status_of (has || also))
    → (has : Bool) × AreLinted files (filter is_name (take (i + 1) words)) has × (result ≡ status_of has)
after_name files words i word reads status next result within at named all h n both =
    let stream : (reads && is_input word) ≡ is_input word = by_word (is_input word) refl in
    let one : IsLinted files (is_input word) word n.0 = subst (λ b. IsLinted files b word n.0) stream n.1 in
    let grown : filter is_name (take i words) ++ word ∷ [] ≡ filter is_name (take (i + 1) words) =
    sym (filter_more is_name words i word within ∙ ap (λ x. filter is_name (take i words) ++ cond (is_name x) (x ∷ []) []) (sym at) ∙ ap (λ b. filter is_name (take i words) ++ cond b (word ∷ []) []) named) in
    (h.0 || n.0, subst (λ l. AreLinted files l (h.0 || n.0)) grown (specs.AreLinted.next word n.0 h.1 one), both h.0 n.0 h.2 n.2)
  where
    by_word : (b : Bool) → is_input word ≡ b → (reads && is_input word) ≡ is_input word
    by_word false is = ap (λ b. reads && b) is ∙ and_no reads ∙ sym is
    by_word true is =
        let any : list_any is_input words ≡ true = list_any_at is_input words i word within (ap is_input (sym at) ∙ is) in
        ap (λ r. r && is_input word) (all ∙ any)

-- The status after an option
pub after_option : (files : Option Known) (words : List (List ℕ)) (i : ℕ) (word : List ℕ) (status : ℕ) → i < length words → word ≡ get_or words i word → is_name word ≡ false
    → (has : Bool) × AreLinted files (filter is_name (take i words)) has × (status ≡ status_of has)
    → (has : Bool) × AreLinted files (filter is_name (take (i + 1) words)) has × (status ≡ status_of has)
after_option files words i word status within at named h =
    let same : filter is_name (take i words) ≡ filter is_name (take (i + 1) words) =
    sym (filter_more is_name words i word within ∙ ap (λ x. filter is_name (take i words) ++ cond (is_name x) (x ∷ []) []) (sym at)
    ∙ ap (λ b. filter is_name (take i words) ++ cond b (word ∷ []) []) named ∙ append-nil (filter is_name (take i words))) in
    (h.0, subst (λ l. AreLinted files l h.0) same h.1, h.2)

pub after_all : (files : Option Known) (words : List (List ℕ)) (i status : ℕ) → length words ≤ i
    → (has : Bool) × AreLinted files (filter is_name (take i words)) has × (status ≡ status_of has)
    → (has : Bool) × AreLinted files (filter is_name words) has × (status ≡ status_of has)
after_all files words i status all h = (h.0, subst (λ l. AreLinted files (filter is_name l) h.0) (take_all i words all) h.1, h.2)

-- What is known after words up to this one
abbrev Kept : {I E : Type 0} → Option Known → List (List ℕ) → ℕ → Bool → I → I → E → E → ℕ → Type 0
Kept files words i reads first input told errors status =
    (reads ≡ false → input ≡ first) × (status ≤ 2) × (status ≢ 2 → errors ≡ told)
    × (status ≢ 2 → (has : Bool) × AreLinted files (filter is_name (take i words)) has × (status ≡ status_of has))

pub name_kept : {I E : Type 0} (files : Option Known) (words : List (List ℕ)) (i : ℕ) (word slice : List ℕ) (reads is : Bool) (i0 i1 i2 i3 : I) (e0 e1 e2 e3 : E) (status next larger now : ℕ)
    → i < length words → word ≡ get_or words i word → slice ≡ word → is ≡ is_name word → is ≡ true → reads ≡ list_any is_input words
    → Kept files words i reads i0 i1 e0 e1 status
    → (reads ≡ false → i2 ≡ i1) → (next ≢ 2 → e2 ≡ e1) → (next ≢ 2 → (has : Bool) × IsLinted files (reads && is_input slice) slice has × (next ≡ status_of has))
    → larger ≤ 2 → (larger ≢ 2 → status ≢ 2) → (larger ≢ 2 → next ≢ 2)
    → ((has also : Bool) → status ≡ status_of has → next ≡ status_of also → larger ≡ status_of (has || also))
    → i3 ≡ i2 → e3 ≡ e2 → now ≡ larger → Kept files words (i + 1) reads i0 i3 e0 e3 now
name_kept files words i word slice reads is i0 i1 i2 i3 e0 e1 e2 e3 status next larger now within at lent named is_true all h input silent linted bound first second both input_is errors_is status_is = (
  λ no_input. input_is ∙ input no_input ∙ h.0 no_input,
  subst (λ s. s ≤ 2) (sym status_is) bound,
  λ ne. let ok : larger ≢ 2 = λ e. ne (status_is ∙ e) in errors_is ∙ silent (second ok) ∙ h.2 (first ok),
  λ ne.
      let ok : larger ≢ 2 = λ e. ne (status_is ∙ e) in
      let n = linted (second ok) in
      let one : (has : Bool) × IsLinted files (reads && is_input word) word has × (next ≡ status_of has) = (n.0, subst (λ s. IsLinted files (reads && is_input s) s n.0) lent n.1, n.2) in
      let r = after_name files words i word reads status next larger within at (sym named ∙ is_true) all (h.3 (first ok)) one both in
      (r.0, r.1, status_is ∙ r.2),
)

pub option_kept : {I E : Type 0} (files : Option Known) (words : List (List ℕ)) (i : ℕ) (word : List ℕ) (reads is : Bool) (i0 i1 i3 : I) (e0 e1 e3 : E) (status now : ℕ)
    → i < length words → word ≡ get_or words i word → is ≡ is_name word → is ≡ false → Kept files words i reads i0 i1 e0 e1 status
    → i3 ≡ i1 → e3 ≡ e1 → now ≡ status → Kept files words (i + 1) reads i0 i3 e0 e3 now
option_kept files words i word reads is i0 i1 i3 e0 e1 e3 status now within at named no_name h input_is errors_is status_is = (
  λ no_input. input_is ∙ h.0 no_input,
  subst (λ s. s ≤ 2) (sym status_is) h.1,
  λ ne. errors_is ∙ h.2 (λ e. ne (status_is ∙ e)),
  λ ne.
      let r = after_option files words i word status within at (sym named ∙ no_name) (h.3 (λ e. ne (status_is ∙ e))) in
      (r.0, r.1, status_is ∙ r.2),
)

pub none_yet : {I E : Type 0} (files : Option Known) (words : List (List ℕ)) (reads : Bool) (input : I) (errors : E) → Kept files words 0 reads input input errors errors 0
none_yet files words reads input errors = (λ no_input. refl, zero-le, λ ne. refl, λ ne. (false, specs.AreLinted.none, refl))

pub here : (files : Option Known) (status : ℕ) → (status ≢ 2 → (has : Bool) × IsLinted files (false && is_input (codes "configure.ac")) (codes "configure.ac") has × (status ≡ status_of has))
    → status ≢ 2 → (has : Bool) × AreLinted files (codes "configure.ac" ∷ []) has × (status ≡ status_of has)
here files status gives ne = let h = gives ne in (h.0, specs.AreLinted.next (codes "configure.ac") h.0 specs.AreLinted.none h.1, h.2)

-- The names among words, or none
pub some_named : (words : List (List ℕ)) → list_any is_name words ≡ true → filter is_name words ≡ named_by words
some_named words any = not_empty (filter is_name words) (kept words any)
  where
    kept : (words : List (List ℕ)) → list_any is_name words ≡ true → filter is_name words ≡ [] → ⊥
    kept [] any none = absurd (true≢false (sym any))
    kept (word ∷ words) any none = by_first (is_name word) refl (kept words)
      where
        by_first : (b : Bool) → is_name word ≡ b → (list_any is_name words ≡ true → filter is_name words ≡ [] → ⊥) → ⊥
        by_first true is further = let e : word ∷ filter is_name words ≡ [] = sym (ap (λ t. cond t (word ∷ filter is_name words) (filter is_name words)) is) ∙ none in cc
        by_first false is further = further (sym (ap (λ t. t || list_any is_name words) is) ∙ any) (sym (ap (λ t. cond t (word ∷ filter is_name words) (filter is_name words)) is) ∙ none)

    not_empty : (names : List (List ℕ)) → (names ≡ [] → ⊥) → names ≡ or_here names
    not_empty [] some = absurd (some refl)
    not_empty (name ∷ more) some = refl

pub none_named : (words : List (List ℕ)) → list_any is_name words ≡ false → codes "configure.ac" ∷ [] ≡ named_by words
none_named words no_one = ap or_here (sym (dropped words no_one))
  where
    dropped : (words : List (List ℕ)) → list_any is_name words ≡ false → filter is_name words ≡ []
    dropped [] no_one = refl
    dropped (word ∷ words) no_one = by_first (is_name word) refl (dropped words)
      where
        by_first : (b : Bool) → is_name word ≡ b → (list_any is_name words ≡ false → filter is_name words ≡ []) → filter is_name (word ∷ words) ≡ []
        by_first true is further = absurd (true≢false (sym (ap (λ t. t || list_any is_name words) is) ∙ no_one))
        by_first false is further = ap (λ t. cond t (word ∷ filter is_name words) (filter is_name words)) is ∙ further (sym (ap (λ t. t || list_any is_name words) is) ∙ no_one)

pub by_names : (files : Option Known) (words : List (List ℕ)) (any : Bool) (status : ℕ) → any ≡ list_any is_name words → any ≡ true
    → (status ≢ 2 → (has : Bool) × AreLinted files (filter is_name words) has × (status ≡ status_of has)) → status ≢ 2 → IsStatus files words status
by_names files words any status is has_one gives ne =
    let h = gives ne in
    record { has = h.0; linted = subst (λ l. AreLinted files l h.0) (some_named words (sym is ∙ has_one)) h.1; status_is = h.2 }

pub by_none : (files : Option Known) (words : List (List ℕ)) (any : Bool) (status : ℕ) → any ≡ list_any is_name words → any ≡ false
    → (status ≢ 2 → (has : Bool) × AreLinted files (codes "configure.ac" ∷ []) has × (status ≡ status_of has)) → status ≢ 2 → IsStatus files words status
by_none files words any status is no_one gives ne =
    let h = gives ne in
    record { has = h.0; linted = subst (λ l. AreLinted files l h.0) (none_named words (sym is ∙ no_one)) h.1; status_is = h.2 }
