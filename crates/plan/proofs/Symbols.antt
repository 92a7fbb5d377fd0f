-- The names that a plan defines have the form of names.
use Rattle.std.proofs.Common.{◌≡◌, ℕ, ◌-◌, Bool, true, false, cond, List, [], ◌∷◌, ◌++◌, codes, refl, ap, arith, get_or}
use Rattle.std.specs.Prelude.{◌&&◌, ◌||◌, ◌==◌, nat_le, Option, All, IfSome}
use Rattle.std.specs.List.{list_all}
use Rattle.std.proofs.lemmas.Bool.{and_from, and_parts, leb-true, le-leb}
use Rattle.std.proofs.lemmas.List.Sums.{AllPass-from_list_all}
use Rattle.deftable.specs.ShellName.{IsShellName, continues_name, is_shell_name_of}
use Rattle.m4quote.specs.Names.{cpp_byte}
use Rattle.m4quote.specs.Text.{is_word_byte}
use Rattle.ac_tree.specs.declared.listed.Listed.{Listed}
use Rattle.ac_tree.specs.declared.statement.Effect.TheVariants.{Batch}
use Rattle.ac_tree.specs.declared.statement.Question.TheVariants as questions
use Rattle.ac_tree.specs.declared.statement.Question.TheVariants.{Given, Tries, Checks, ChecksEach}
use Rattle.ac_tree.specs.declared.tree.Subject as subject
use Rattle.ac_tree.specs.declared.tree.Subject.TheVariants.{Nothing, Word, Asked}
use Rattle.shellword.specs.declared.part.Part.{Part}
use Rattle.test_forms.specs.Macros.{library_form}
use Rattle.test_forms.specs.declared.form.Gives.{Gives}
use Rattle.test_forms.specs.declared.form.Gives.TheVariants as forms
use Rattle.test_forms.specs.Form.{TestForm}
use Rattle.meaning.specs.Forms.{symbol_part}
use Rattle.meaning.specs.Entries.{listed_form, sought_form}
use Rattle.plan.specs.Names.{DefinesAbout, DefinesBy, DefinesName, given_symbol, package_names}

pick : (c : Bool) (a b : ℕ) → (c ≡ true → continues_name a ≡ true) → (c ≡ false → continues_name b ≡ true) → continues_name (cond c a b) ≡ true
pick true a b h k = h refl
pick false a b h k = k refl

any_upper : (a d p o : Bool) → d ≡ true → ((a || d) || p) || o ≡ true
any_upper true d p o h = refl
any_upper false d p o h = ap (λ x. (x || p) || o) h

upper : (b : ℕ) → (nat_le 97 b && nat_le b 122) ≡ true → continues_name (b - 32) ≡ true
upper b h =
    let p = and_parts (nat_le 97 b) (nat_le b 122) h in
    let low = leb-true 97 b p.0 in
    let high = leb-true b 122 p.1 in
    any_upper _ _ _ _ (and_from (nat_le 65 (b - 32)) (nat_le (b - 32) 90) (le-leb 65 (b - 32) (omega (arith, low))) (le-leb (b - 32) 90 (omega (arith, high))))

byte_continues : (b : ℕ) → continues_name (cpp_byte b) ≡ true
byte_continues b =
    pick (b == 42) 80 _ (λ e. refl) (λ e.
    pick (nat_le 97 b && nat_le b 122) (b - 32) _ (upper b) (λ f.
    pick (is_word_byte b) b 95 (λ w. w) (λ w. refl)))

part_continues : (text : List ℕ) → list_all continues_name (symbol_part text) ≡ true
part_continues [] = refl
part_continues (b ∷ bs) = and_from _ _ (byte_continues b) (part_continues bs)

pub have_name : (text : List ℕ) → IsShellName (codes "HAVE_" ++ symbol_part text)
have_name text = part_continues text

pub library_name : (text : List ℕ) → IsShellName (codes "HAVE_LIB" ++ symbol_part text)
library_name text = part_continues text

-- Whatever a form gives.
given_defines : (gives : Gives) → IfSome (given_symbol gives) IsShellName
given_defines forms.Nothing = tt
given_defines (forms.Have what) = have_name what
given_defines (forms.HaveOrNot what) = have_name what
given_defines (forms.AddsLibrary library) = library_name library
given_defines forms.AddsValue = tt

pub form_defines : (form : TestForm) → DefinesBy form
form_defines form = given_defines form.gives

-- What AC_INIT defines.
pub package_defines : All IsShellName package_names
package_defines = AllPass-from_list_all is_shell_name_of package_names refl

-- The entries of a list that are tested at once.
pub batch_defines : (listed : Listed) (entries : List (List ℕ)) (includes : Option (List Part)) → DefinesName (Batch listed entries includes)
unfolding DefinesName
batch_defines listed entries includes = λ k d lt. form_defines (listed_form listed (get_or entries k d) true)

-- Whatever a choice is about.
pub step_begins : (about : subject.Subject) → DefinesAbout about
unfolding DefinesAbout
step_begins Nothing = tt
step_begins (Word word) = tt
step_begins (Asked (Given kind variable)) = tt
step_begins (Asked (Tries kind program)) = tt
step_begins (Asked (Checks sought entry includes)) = form_defines (sought_form sought entry false)
step_begins (Asked (ChecksEach sought entries includes)) = λ k d lt. form_defines (sought_form sought (get_or entries k d) true)
step_begins (Asked (questions.Library library function others adds)) = form_defines (library_form library function adds)
step_begins (Asked (questions.Libraries function libraries others)) = tt
