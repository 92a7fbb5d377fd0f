-- The function of a cache text and the forms of its lines agree.
use Rattle.std.proofs.Common.{◌≡◌, ℕ, ◌+◌, ◌<◌, ◌≤◌, nat_lt, Bool, true, false, List, [], ◌∷◌, ◌++◌, Option, Some, None, Result, Ok, Err, ◌⊎◌, inl, inr, length, refl, sym, ap, ◌∙◌, subst, arith}
use Rattle.std.specs.Prelude.{◌≢◌, option_to_list, IfOk, IfErr}
use Rattle.std.proofs.lemmas.Bool.Decides.{Decides-ltb, nat_tests}
use Rattle.text_cut.specs.Cuts.{parts}
use Rattle.cachefile.specs.declared.fault.CacheFault.{CacheFault}
use Rattle.cachefile.specs.declared.fault.CacheFault.TheVariants.{BadLine, BadName, OutOfMemory}
use Rattle.deftable.specs.CacheName.{is_cache_name}
use Rattle.cachefile.specs.Line.{Setting, name_of, line_of}
use Rattle.cachefile.specs.Form.{IsLine}
use Rattle.cachefile.specs.Reading.{◌>>=◌, Fails, Gives}
use Rattle.cachefile.specs.Cache.{HaveCacheNames, AreLines, no_more, bad_line, bad_name, no_setting, one_setting, limit, IsCache, too_large, within, entry_from, entry_of, lines_from, cache_of}
use Rattle.cachefile.proofs.Lines.{line_read, line_is}

abbrev Read : Type 0
Read = Result (List Setting) CacheFault

decided : (b : Bool) → (b ≡ true) ⊎ (b ≡ false)
decided true = inl refl
decided false = inr refl

true_is_false : true ≡ false → ⊥
true_is_false e = absurd cc

none_is_some : (x : Option Setting) → None ≡ Some x → ⊥
none_is_some x e = absurd cc

found : (o : Option (Option Setting)) → ((x : Option Setting) × (o ≡ Some x)) ⊎ (o ≡ None)
found None = inr refl
found (Some x) = inl (x, refl)

pub unchanged : (r : Read) → (r >>= λ more. Ok more) ≡ r
unchanged (Ok more) = refl
unchanged (Err e) = refl

-- the reading of a line and of the lines after it, from what `line_of` gives for the line
abbrev pub onto : ℕ → Option (Option Setting) → Read → Read
onto n o rest = entry_from n o >>= λ setting. rest >>= λ more. Ok (option_to_list setting ++ more)

pub split : (n : ℕ) (line : List ℕ) (rest : List (List ℕ)) (o : Option (Option Setting)) → line_of line ≡ o → lines_from n (line ∷ rest) ≡ onto n o (lines_from (n + 1) rest)
unfolding lines_from entry_of
split n line rest o is = ap (λ o. onto n o (lines_from (n + 1) rest)) is

foreign_name : (n : ℕ) (setting : Setting) (rest : Read) → is_cache_name (name_of setting) ≡ false → onto n (Some (Some setting)) rest ≡ Err (BadName n)
foreign_name n setting rest foreign = rw foreign refl

pub cache_name : (n : ℕ) (setting : Setting) (rest : Read) → is_cache_name (name_of setting) ≡ true → onto n (Some (Some setting)) rest ≡ (rest >>= λ more. Ok (setting ∷ more))
cache_name n setting rest ok = rw ok refl

no_form : (line : List ℕ) → ((setting : Option Setting) → IsLine line setting → ⊥) → line_of line ≡ None
no_form line none = elim (found (line_of line)) [ inl h ↦ absurd (none h.0 (line_is line h.0 h.1)) | inr h ↦ h ]

lines_read : (n : ℕ) (list : List (List ℕ)) (read : Read) → AreLines n list read → lines_from n list ≡ read
unfolding lines_from
lines_read n list read no_more = refl
lines_read n list read (bad_line {line} {lines = rest} none) = split n line rest None (no_form line none)
lines_read n list read (bad_name {line} {lines = rest} {setting} is foreign) =
    split n line rest (Some (Some setting)) (line_read line (Some setting) is) ∙ foreign_name n setting (lines_from (n + 1) rest) foreign
lines_read n list read (no_setting {line} {lines = rest} {rest = r} is more) =
    split n line rest (Some None) (line_read line None is) ∙ unchanged (lines_from (n + 1) rest) ∙ lines_read (n + 1) rest r more
lines_read n list read (one_setting {line} {lines = rest} {setting} {rest = r} is ok more) =
    split n line rest (Some (Some setting)) (line_read line (Some setting) is) ∙ cache_name n setting (lines_from (n + 1) rest) ok
    ∙ ap (λ r. r >>= λ more. Ok (setting ∷ more)) (lines_read (n + 1) rest r more)

moved : (n : ℕ) (list : List (List ℕ)) (r s : Read) → s ≡ r → AreLines n list r → AreLines n list s
moved n list r s e l = subst (λ x. AreLines n list x) (sym e) l

line_then : (n : ℕ) (line : List ℕ) (rest : List (List ℕ)) (o : Option Setting) → line_of line ≡ Some o → AreLines (n + 1) rest (lines_from (n + 1) rest)
    → AreLines n (line ∷ rest) (lines_from n (line ∷ rest))
line_then n line rest None is more =
    moved n (line ∷ rest) (lines_from (n + 1) rest) (lines_from n (line ∷ rest)) (split n line rest (Some None) is ∙ unchanged (lines_from (n + 1) rest)) (no_setting (line_is line None is) more)
line_then n line rest (Some setting) is more = elim (decided (is_cache_name (name_of setting))) [
  | inl h ↦ moved n (line ∷ rest) (lines_from (n + 1) rest >>= λ more. Ok (setting ∷ more)) (lines_from n (line ∷ rest))
      (split n line rest (Some (Some setting)) is ∙ cache_name n setting (lines_from (n + 1) rest) h) (one_setting (line_is line (Some setting) is) h more)
  | inr h ↦ moved n (line ∷ rest) (Err (BadName n)) (lines_from n (line ∷ rest))
      (split n line rest (Some (Some setting)) is ∙ foreign_name n setting (lines_from (n + 1) rest) h) (bad_name (line_is line (Some setting) is) h)
]

lines_are : (n : ℕ) (list : List (List ℕ)) → AreLines n list (lines_from n list)
unfolding lines_from
lines_are n [] = no_more
lines_are n (line ∷ rest) = elim (found (line_of line)) [
  | inl h ↦ line_then n line rest h.0 h.1 (lines_are (n + 1) rest)
  | inr h ↦ moved n (line ∷ rest) (Err (BadLine n)) (lines_from n (line ∷ rest)) (split n line rest None h)
      (bad_line (λ setting l. none_is_some setting (sym h ∙ line_read line setting l)))
]

cache_read : (text : List ℕ) (read : Read) → IsCache text read → cache_of text ≡ read
unfolding cache_of
cache_read text read (too_large more) = rw ((Decides-ltb limit (length text)).1 more) refl
cache_read text read (within {read = r} less are) = elim (decided (nat_lt limit (length text))) [
  | inl h ↦ absurd (omega (arith, less, (Decides-ltb limit (length text)).0 h))
  | inr h ↦ rw h (lines_read 1 (parts 10 text) r are)
]

pub not_more : (text : List ℕ) → nat_lt limit (length text) ≡ false → length text ≤ limit
not_more text h = first_of (omega (arith, λ (more : limit < length text). true_is_false (sym ((Decides-ltb limit (length text)).1 more) ∙ h)), grind (arith, nat_tests))

cache_is : (text : List ℕ) → IsCache text (cache_of text)
unfolding cache_of
cache_is text = elim (decided (nat_lt limit (length text))) [
  | inl h ↦ subst (λ r. IsCache text r) (sym (rw h refl)) (too_large ((Decides-ltb limit (length text)).0 h))
  | inr h ↦ subst (λ r. IsCache text r) (sym (rw h refl)) (within (not_more text h) (lines_are 1 (parts 10 text)))
]

-- ---- what a call returns

pub read_sound : (text : List ℕ) (answer : Read) → Gives answer (cache_of text) → IfOk answer (λ settings. IsCache text (Ok settings))
read_sound text (Ok list) is = subst (λ r. IsCache text r) is (cache_is text)
read_sound text (Err e) is = tt

pub read_complete : (text : List ℕ) (answer read : Read) → Gives answer (cache_of text) → IsCache text read → Gives answer read
read_complete text answer read is cache = subst (λ r. Gives answer r) (cache_read text read cache) is

failed : (text : List ℕ) (e : CacheFault) → Fails e (cache_of text) → e ≢ OutOfMemory → IsCache text (Err e)
failed text OutOfMemory is other = absurd (other refl)
failed text e is other = subst (λ r. IsCache text r) is (cache_is text)

pub read_error_sound : (text : List ℕ) (answer : Read) → Gives answer (cache_of text) → IfErr answer (λ fault. fault ≢ OutOfMemory → IsCache text (Err fault))
read_error_sound text (Ok list) is = tt
read_error_sound text (Err e) is = failed text e is

-- ---- names

named : (n : ℕ) (list : List (List ℕ)) (read : Read) → AreLines n list read → IfOk read HaveCacheNames
named n list read no_more = tt
named n list read (bad_line none) = tt
named n list read (bad_name is foreign) = tt
named n list read (no_setting {lines = rest} {rest = r} is more) = named (n + 1) rest r more
named n list read (one_setting {lines = rest} {setting} {rest = Ok list2} is ok more) = (ok, named (n + 1) rest (Ok list2) more)
named n list read (one_setting {lines = rest} {setting} {rest = Err e} is ok more) = tt

cache_named : (text : List ℕ) (read : Read) → IsCache text read → IfOk read HaveCacheNames
cache_named text read (too_large more) = tt
cache_named text read (within {read = r} less are) = named 1 (parts 10 text) r are

-- the names of what is read are those of cached values
pub read_named : (text : List ℕ) (answer : Read) → Gives answer (cache_of text) → IfOk answer HaveCacheNames
read_named text (Ok list) is = subst (λ r. IfOk r HaveCacheNames) is (cache_named text (cache_of text) (cache_is text))
read_named text (Err e) is = tt
