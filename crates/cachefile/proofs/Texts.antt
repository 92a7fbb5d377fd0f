-- The text that is written for variables is read as their settings.
use Rattle.std.proofs.Common.{◌≡◌, ℕ, ◌+◌, ◌≤◌, nat_lt, Bool, true, false, not, ◌==◌, ◌<◌, arith, List, [], ◌∷◌, ◌++◌, Some, None, Result, Ok, Err, inl, inr, length, map, filter, refl, sym, ap, ◌∙◌, subst, append_assoc}
use Rattle.std.specs.Prelude.{codes, IfOk, fold, bytes_eq, if◌then◌else◌}
use Rattle.std.specs.List.{onto_first, list_all, IsDistinct, AllByRecursion}
use Rattle.std.proofs.lemmas.Bool.Decides.{eqb_tells, Decides-ltb}
use Rattle.std.proofs.lemmas.List.Folds.{list_all-append}
use Rattle.std.proofs.lemmas.Slice.Eq.{bytes_eq-Decides}
use Rattle.text_cut.specs.Cuts.{parts, parts_by}
use Rattle.deftable.specs.Table.{value_of, names_of, HasDistinctNames}
use Rattle.deftable.specs.ShellName.{is_shell_name_of, starts_name, continues_name}
use Rattle.cachefile.specs.Name.{is_word, is_word_byte, is_mark}
use Rattle.deftable.specs.CacheName.{has_cv, is_cache_name}
use Rattle.cachefile.specs.Word.{word_of, quoted_text, quoted_byte, is_safe}
use Rattle.cachefile.specs.Line.{Setting, Sets, Defaults, line_of, sets_nothing, name_of}
use Rattle.cachefile.specs.Form.{IsLine}
use Rattle.cachefile.specs.Form as form
use Rattle.cachefile.specs.Reading.{◌>>=◌}
use Rattle.cachefile.specs.Cache.{lines_from, entry_of, cache_of, limit, with_setting, vars_after}
use Rattle.cachefile.specs.Text.{is_one_line, is_saved, has_brace, plain_line, guarded_line, braced_line, line_for, lines_for, saved_entries, cache_text_of, AreInOrder, saved_value, IsCacheText, ReadsBack}
use Rattle.deftable.proofs.Names.{start_continues}
use Rattle.cachefile.proofs.Words.{both_true, both_are, word_of_reads, word_is}
use Rattle.cachefile.proofs.Lines.{line_read}
use Rattle.cachefile.proofs.Grammar.{split, cache_name, unchanged}
use Rattle.cachefile.proofs.Pours.{value_of-with_setting}
use Rattle.cachefile.proofs.Orders.{Entries, Gives, all_set, in_order_values, in_order_distinct, AreSaved, all_saved_entries, decided, none_set}

-- ---- names

true_is_false : true ≡ false → ⊥
true_is_false e = absurd cc

too_much : (vars : Entries) → length (cache_text_of vars) ≤ limit → limit < length (cache_text_of vars) → ⊥
too_much vars small more = omega (arith, small, more)

word_of_name : (name : List ℕ) → is_cache_name name ≡ true → is_word name ≡ true
unfolding is_cache_name
word_of_name [] ok = absurd (true_is_false (sym ok))
word_of_name (b ∷ bs) ok =
    let p = both_true (is_shell_name_of (b ∷ bs)) (has_cv (b ∷ bs)) ok in
    let q = both_true (starts_name b) (list_all continues_name bs) p.0 in
    both_are (is_word_byte b) (list_all is_word_byte bs) (start_continues b q.0) q.1

-- ---- lines have no newline

word_byte_one_line : (b : ℕ) → is_word_byte b ≡ true → not (b == 10) ≡ true
word_byte_one_line b ok = elim (eqb_tells b 10) [ inl h ↦ absurd (true_is_false (sym ok ∙ ap is_word_byte h.1)) | inr h ↦ rw (h.0) refl ]

word_bytes_one_line : (name : List ℕ) → list_all is_word_byte name ≡ true → is_one_line name ≡ true
word_bytes_one_line [] ok = refl
word_bytes_one_line (b ∷ bs) ok =
    let p = both_true (is_word_byte b) (list_all is_word_byte bs) ok in
    both_are (not (b == 10)) (is_one_line bs) (word_byte_one_line b p.0) (word_bytes_one_line bs p.1)

name_one_line : (name : List ℕ) → is_word name ≡ true → is_one_line name ≡ true
name_one_line [] ok = absurd (true_is_false (sym ok))
name_one_line (b ∷ bs) ok = word_bytes_one_line (b ∷ bs) ok

both_one_line : (xs ys : List ℕ) → is_one_line xs ≡ true → is_one_line ys ≡ true → is_one_line (xs ++ ys) ≡ true
both_one_line xs ys h k = list_all-append (λ b. not (b == 10)) xs ys ∙ both_are (is_one_line xs) (is_one_line ys) h k

quoted_byte_one_line : (b : ℕ) → not (b == 10) ≡ true → is_one_line (quoted_byte b) ≡ true
quoted_byte_one_line b ok = elim (eqb_tells b 39) [ inl h ↦ rw (h.0) refl | inr h ↦ rw (h.0) (both_are (not (b == 10)) true ok refl) ]

quoted_one_line : (v : List ℕ) → is_one_line v ≡ true → is_one_line (quoted_text v) ≡ true
quoted_one_line [] ok = refl
quoted_one_line (b ∷ bs) ok =
    let p = both_true (not (b == 10)) (is_one_line bs) ok in
    both_one_line (quoted_byte b) (quoted_text bs) (quoted_byte_one_line b p.0) (quoted_one_line bs p.1)

word_one_line : (v : List ℕ) → is_one_line v ≡ true → is_one_line (word_of v) ≡ true
unfolding word_of
word_one_line v ok = elim (decided (list_all is_safe v)) [
  | inl h ↦ rw h ok
  | inr h ↦ rw h (both_one_line (39 ∷ []) (quoted_text v ++ 39 ∷ []) refl (both_one_line (quoted_text v) (39 ∷ []) (quoted_one_line v ok) refl))
]

plain_one_line : (name w : List ℕ) → is_one_line name ≡ true → is_one_line w ≡ true → is_one_line (plain_line name w) ≡ true
plain_one_line name w n_ok w_ok = both_one_line name (codes "=" ++ w) n_ok (both_one_line (codes "=") w refl w_ok)

guarded_one_line : (name w : List ℕ) → is_one_line name ≡ true → is_one_line w ≡ true → is_one_line (guarded_line name w) ≡ true
guarded_one_line name w n_ok w_ok =
    both_one_line (codes "test ${") (name ++ (codes "+y} || " ++ plain_line name w)) refl
    (both_one_line name (codes "+y} || " ++ plain_line name w) n_ok (both_one_line (codes "+y} || ") (plain_line name w) refl (plain_one_line name w n_ok w_ok)))

braced_one_line : (name w : List ℕ) → is_one_line name ≡ true → is_one_line w ≡ true → is_one_line (braced_line name w) ≡ true
braced_one_line name w n_ok w_ok =
    both_one_line name (codes "=${" ++ (name ++ (codes "=" ++ (w ++ codes "}")))) n_ok
    (both_one_line (codes "=${") (name ++ (codes "=" ++ (w ++ codes "}"))) refl (plain_one_line name (w ++ codes "}") n_ok (both_one_line w (codes "}") w_ok refl)))

line_one_line : (e : List ℕ × List ℕ) → is_saved e ≡ true → is_one_line (line_for e) ≡ true
unfolding line_for
line_one_line e ok =
    let p = both_true (is_cache_name e.0) (is_one_line e.1) ok in
    let n = name_one_line e.0 (word_of_name e.0 p.0) in
    let w = word_one_line e.1 p.1 in
    elim (decided (is_mark e.0)) [
      | inl h ↦ rw h (plain_one_line e.0 (word_of e.1) n w)
      | inr h ↦ (elim (decided (has_brace e.1)) [
        | inl k ↦ rw (h, k) (guarded_one_line e.0 (word_of e.1) n w)
        | inr k ↦ rw (h, k) (braced_one_line e.0 (word_of e.1) n w)
      ])
    ]

-- ---- lines are read

-- the setting of the line of an entry
abbrev pub setting_of : List ℕ × List ℕ → Setting
setting_of e = if is_mark e.0 then Sets e.0 e.1 else Defaults e.0 e.1

line_sets : (e : List ℕ × List ℕ) → is_saved e ≡ true → IsLine (line_for e) (Some (setting_of e))
unfolding line_for
line_sets e ok =
    let n = word_of_name e.0 (both_true (is_cache_name e.0) (is_one_line e.1) ok).0 in
    elim (decided (is_mark e.0)) [
      | inl h ↦ rw h (form.set e.0 (word_of e.1) n (word_is false (word_of e.1) e.1 (word_of_reads false e.1)))
      | inr h ↦ (elim (decided (has_brace e.1)) [
        | inl k ↦ rw (h, k) (form.guarded e.0 (word_of e.1) n (word_is false (word_of e.1) e.1 (word_of_reads false e.1)))
        | inr k ↦ rw (h, k) (form.braced e.0 (word_of e.1) n (word_is true (word_of e.1) e.1 (word_of_reads true e.1)))
      ])
    ]

setting_name : (e : List ℕ × List ℕ) → is_saved e ≡ true → is_cache_name (name_of (setting_of e)) ≡ true
setting_name e ok =
    let p = both_true (is_cache_name e.0) (is_one_line e.1) ok in
    elim (decided (is_mark e.0)) [ inl h ↦ rw h p.0 | inr h ↦ rw h p.0 ]

not_true : (b : Bool) → not b ≡ true → b ≡ false
not_true true e = absurd cc
not_true false e = refl

-- a line with its newline is cut off
cut_line : (line rest : List ℕ) → is_one_line line ≡ true → parts 10 (line ++ 10 ∷ rest) ≡ line ∷ parts 10 rest
unfolding parts parts_by
cut_line [] rest whole = refl
cut_line (b ∷ line) rest whole =
    let p = both_true (not (b == 10)) (is_one_line line) whole in
    rw (not_true (b == 10) p.0) (ap (λ ls. onto_first b ls) (cut_line line rest p.1))

lines_set : (n : ℕ) (es : Entries) → AreSaved es → lines_from n (parts 10 (lines_for es)) ≡ Ok (map setting_of es)
unfolding lines_from entry_of line_of sets_nothing parts parts_by
lines_set n [] all = refl
lines_set n (e ∷ es) all =
    ap (λ t. lines_from n (parts 10 t)) (append_assoc (line_for e) (10 ∷ []) (lines_for es))
    ∙ ap (λ ls. lines_from n ls) (cut_line (line_for e) (lines_for es) (line_one_line e all.0))
    ∙ split n (line_for e) (parts 10 (lines_for es)) (Some (Some (setting_of e))) (line_read (line_for e) (Some (setting_of e)) (line_sets e all.0))
    ∙ cache_name n (setting_of e) (lines_from (n + 1) (parts 10 (lines_for es))) (setting_name e all.0)
    ∙ ap (λ r. r >>= λ more. Ok (setting_of e ∷ more)) (lines_set (n + 1) es all.1)

heading_sets_nothing : line_of (codes "# config.cache of configure") ≡ Some None
unfolding line_of sets_nothing
heading_sets_nothing = refl

text_sets : (es : Entries) → AreSaved es → lines_from 1 (parts 10 (codes "# config.cache of configure\n" ++ lines_for es)) ≡ Ok (map setting_of es)
text_sets es all =
    ap (λ ls. lines_from 1 ls) (cut_line (codes "# config.cache of configure") (lines_for es) refl)
    ∙ split 1 (codes "# config.cache of configure") (parts 10 (lines_for es)) (Some None) heading_sets_nothing
    ∙ unchanged (lines_from (1 + 1) (parts 10 (lines_for es)))
    ∙ lines_set (1 + 1) es all

pub text_read : (vars : Entries) → length (cache_text_of vars) ≤ limit → cache_of (cache_text_of vars) ≡ Ok (map setting_of (saved_entries vars))
unfolding cache_of
text_read vars small = elim (decided (nat_lt limit (length (cache_text_of vars)))) [
  | inl h ↦ absurd (too_much vars small ((Decides-ltb limit (length (cache_text_of vars))).0 h))
  | inr h ↦ rw h (text_sets (saved_entries vars) (all_saved_entries vars))
]

-- ---- settings leave the values

abbrev step : Entries → List ℕ × List ℕ → Entries
step vars e = with_setting vars (setting_of e)

setting_others : (vars : Entries) (e : List ℕ × List ℕ) (q : List ℕ) → bytes_eq q e.0 ≡ false → value_of (step vars e) q ≡ value_of vars q
setting_others vars e q other = value_of-with_setting vars (setting_of e) q ∙ (elim (decided (is_mark e.0)) [
  | inl h ↦ rw (h, other) refl
  | inr h ↦ rw (h, other) refl
])

setting_own : (vars : Entries) (e : List ℕ × List ℕ) (q : List ℕ) → bytes_eq q e.0 ≡ true → value_of vars q ≡ None → value_of (step vars e) q ≡ Some e.1
setting_own vars e q own new = value_of-with_setting vars (setting_of e) q ∙ (elim (decided (is_mark e.0)) [
  | inl h ↦ rw (h, own) refl
  | inr h ↦ rw (h, own, new) refl
])

pouring : Gives step
pouring = record { others = setting_others; own = setting_own }

settings_are_steps : (vars es : Entries) → vars_after (map setting_of es) vars ≡ fold step vars es
settings_are_steps vars [] = refl
settings_are_steps vars (e ∷ es) = settings_are_steps (step vars e) es

-- ---- the value of a name that is saved

pub absent : (es : Entries) (q : List ℕ) → AllByRecursion (λ n. bytes_eq q n ≡ false) (names_of es) → value_of es q ≡ None
unfolding value_of
absent [] q all = refl
absent (e ∷ es) q all = rw (all.0) (absent es q all.1)

filter_values : (es : Entries) (q : List ℕ) → HasDistinctNames es → value_of (filter is_saved es) q ≡ saved_value q (value_of es q)
unfolding value_of IsDistinct
filter_values [] q distinct = refl
filter_values (e ∷ es) q distinct = elim (decided (bytes_eq q e.0)) [
  | inl h ↦
      let same : q ≡ e.0 = (bytes_eq-Decides q e.0).0 h in
      (elim (decided (is_saved e)) [
        | inl k ↦ let m : is_saved (q, e.1) ≡ true = ap (λ n. is_saved (n, e.1)) same ∙ k in rw (k, h, m) refl
        | inr k ↦
            let m : is_saved (q, e.1) ≡ false = ap (λ n. is_saved (n, e.1)) same ∙ k in
            let gone : value_of es q ≡ None = absent es q (subst (λ n. AllByRecursion (λ y. bytes_eq n y ≡ false) (names_of es)) (sym same) distinct.0) in
            rw (k, h, m) (filter_values es q distinct.1 ∙ ap (saved_value q) gone)
      ])
  | inr h ↦ (elim (decided (is_saved e)) [
    | inl k ↦ rw (k, h) (filter_values es q distinct.1)
    | inr k ↦ rw (k, h) (filter_values es q distinct.1)
  ])
]

pub values_saved : (vars : Entries) (q : List ℕ) → HasDistinctNames vars → value_of (saved_entries vars) q ≡ saved_value q (value_of vars q)
values_saved vars q distinct =
    in_order_values (filter is_saved vars) q ∙ filter_values vars q distinct

-- the text is what is to be written
is_text : (vars : Entries) → HasDistinctNames vars → AreInOrder (saved_entries vars) → IsCacheText vars (cache_text_of vars)
is_text vars distinct sorted = record { entries = saved_entries vars; in_order = sorted; values = λ q. values_saved vars q distinct; lines = refl }

-- the text is read, and its settings leave what is saved
reads_back : (vars : Entries) → HasDistinctNames vars → AreInOrder (saved_entries vars) → length (cache_text_of vars) ≤ limit → ReadsBack vars (cache_text_of vars)
reads_back vars distinct sorted small = record {
  settings = map setting_of (saved_entries vars);
  read = text_read vars small;
  values = λ q.
      ap (λ vs. value_of vs q) (settings_are_steps [] (saved_entries vars))
      ∙ all_set step pouring [] (saved_entries vars) q (in_order_distinct (saved_entries vars) sorted) (none_set q)
      ∙ values_saved vars q distinct;
}

same_text : (vars es : Entries) (t : List ℕ) → es ≡ saved_entries vars → t ≡ codes "# config.cache of configure\n" ++ lines_for es → cache_text_of vars ≡ t
same_text vars es t same is = sym (is ∙ ap (λ x. codes "# config.cache of configure\n" ++ lines_for x) same)

-- ---- what a call returns

pub returned_is_text : {E : Type 0} (vars es : Entries) (r : Result (List ℕ) E) → HasDistinctNames vars → AreInOrder es → es ≡ saved_entries vars
    → IfOk r (λ t. t ≡ codes "# config.cache of configure\n" ++ lines_for es) → IfOk r (IsCacheText vars)
returned_is_text vars es (Ok t) distinct sorted same is =
    subst (λ x. IsCacheText vars x) (same_text vars es t same is) (is_text vars distinct (subst (λ x. AreInOrder x) same sorted))
returned_is_text vars es (Err e) distinct sorted same is = is

pub returned_reads_back : {E : Type 0} (vars es : Entries) (r : Result (List ℕ) E) → HasDistinctNames vars → AreInOrder es → es ≡ saved_entries vars
    → IfOk r (λ t. t ≡ codes "# config.cache of configure\n" ++ lines_for es) → IfOk r (λ t. length t ≤ limit → ReadsBack vars t)
returned_reads_back vars es (Ok t) distinct sorted same is =
    subst (λ x. length x ≤ limit → ReadsBack vars x) (same_text vars es t same is) (reads_back vars distinct (subst (λ x. AreInOrder x) same sorted))
returned_reads_back vars es (Err e) distinct sorted same is = is
