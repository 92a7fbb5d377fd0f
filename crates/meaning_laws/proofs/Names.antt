-- The names of tests are cache names.
use Rattle.std.proofs.Common.{◌≡◌, ℕ, Bool, List, [], ◌∷◌, true, false, cond, refl, ap}
use Rattle.std.specs.Prelude.{◌&&◌, ◌||◌, ◌==◌}
use Rattle.std.specs.Int.{is_in_range}
use Rattle.std.specs.List.{list_all}
use Rattle.std.proofs.lemmas.Bool.{and_from, and_parts}
use Rattle.deftable.specs.CacheName.{is_cache_name, has_cv}
use Rattle.deftable.specs.ShellName.{starts_name, continues_name, IsShellName}
use Rattle.m4quote.specs.Names.{sh_byte}
use Rattle.m4quote.specs.Text.{is_word_byte}
use Rattle.test_forms.specs.Form.{TestForm}
use Rattle.meaning.specs.Forms.{form_name}
use Rattle.ac_tree.specs.TestNames.{shell_part, program_name, path_name}

abbrev pub IsCached : List ℕ → Type 0
IsCached name = is_cache_name name ≡ true

word_if : (b : ℕ) (c : Bool) → is_word_byte b ≡ c → continues_name (cond c b 95) ≡ true
word_if b true e = e
word_if b false e = refl

sh_if : (b : ℕ) (c : Bool) → continues_name (cond c 112 (cond (is_word_byte b) b 95)) ≡ true
sh_if b true = refl
sh_if b false = word_if b (is_word_byte b) refl

pub all_sh : (text : List ℕ) → list_all continues_name (shell_part text) ≡ true
all_sh [] = refl
all_sh (b ∷ bs) = and_from (continues_name (sh_byte b)) (list_all continues_name (shell_part bs)) (sh_if b (b == 42 || b == 43)) (all_sh bs)

widened : (d a b c : Bool) → (a || b) || c ≡ true → ((d || a) || b) || c ≡ true
widened true a b c e = refl
widened false a b c e = e

continues_so : (b : ℕ) → starts_name b ≡ true → continues_name b ≡ true
continues_so b e = widened (is_in_range 48 57 b) (is_in_range 65 90 b) (is_in_range 97 122 b) (b == 95) e

pub all_name : (name : List ℕ) → IsShellName name → list_all continues_name name ≡ true
all_name [] e = refl
all_name (b ∷ bs) e =
    let h = and_parts (starts_name b) (list_all continues_name bs) e in
    and_from (continues_name b) (list_all continues_name bs) (continues_so b h.0) h.1

pub form_cached : (form : TestForm) → IsCached (form_name form)
unfolding is_cache_name has_cv
form_cached form = ap (λ b. b && true) (all_sh form.key)

pub program_cached : (variable : List ℕ) → IsShellName variable → IsCached (program_name variable)
unfolding is_cache_name has_cv
program_cached variable h = ap (λ b. b && true) (all_name variable h)

pub path_cached : (variable : List ℕ) → IsShellName variable → IsCached (path_name variable)
unfolding is_cache_name has_cv
path_cached variable h = ap (λ b. b && true) (all_name variable h)
