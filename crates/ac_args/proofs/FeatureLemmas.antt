-- The variable of an option has the form of a name.
use Rattle.std.proofs.Common.{◌≡◌, ℕ, Bool, true, false, cond, List, [], ◌∷◌, map, refl, sym, ap, ◌∙◌}
use Rattle.std.specs.Prelude.{not, ◌||◌, ◌==◌}
use Rattle.std.specs.Char.{is_ascii_alphanumeric}
use Rattle.std.specs.List.{list_all}
use Rattle.std.proofs.lemmas.Bool.{and_parts, and_from}
use Rattle.deftable.specs.ShellName.{is_shell_name_of, continues_name}
use Rattle.ac_tree.specs.declared.feature.OptionKind.{OptionKind}
use Rattle.ac_tree.specs.declared.feature.OptionKind.TheVariants.{Feature, Package}
use Rattle.ac_tree.specs.Feature.{is_feature_byte, is_feature, variable_byte, option_variable}
use Rattle.ac_tree.specs.Texts.{is_empty}

bits : (a d p o u : Bool) → (d || p || o) ≡ false → (a || d || p || o || u) ≡ true → (a || u) ≡ true
bits true d p o u e h = refl
bits false false false false u e h = h
bits false true p o u e h = absurd cc
bits false false true o u e h = absurd cc
bits false false false true u e h = absurd cc

picked : (c : Bool) (b : ℕ) → (c ≡ false → continues_name b ≡ true) → continues_name (cond c 95 b) ≡ true
picked true b h = refl
picked false b h = h refl

byte_continues : (b : ℕ) → is_feature_byte b ≡ true → continues_name (variable_byte b) ≡ true
byte_continues b h = picked (b == 45 || b == 43 || b == 46) b (λ e. bits (is_ascii_alphanumeric b) (b == 45) (b == 43) (b == 46) (b == 95) e h)

all_continue : (name : List ℕ) → list_all is_feature_byte name ≡ true → list_all continues_name (map variable_byte name) ≡ true
all_continue [] h = refl
all_continue (b ∷ bs) h =
    let p = and_parts (is_feature_byte b) (list_all is_feature_byte bs) h in
    and_from _ _ (byte_continues b p.0) (all_continue bs p.1)

variable_is_name : (kind : OptionKind) (name : List ℕ) → list_all is_feature_byte name ≡ true → is_shell_name_of (option_variable kind name) ≡ true
variable_is_name Feature name h = all_continue name h
variable_is_name Package name h = all_continue name h

-- Every feature has a variable.
pub has_variable : {A : Type 0} (kind : OptionKind) (name variable : List ℕ) → is_feature name ≡ true → variable ≡ option_variable kind name → is_shell_name_of variable ≡ false → A
has_variable kind name variable f v n = absurd (wrong (is_shell_name_of (option_variable kind name)) (variable_is_name kind name (and_parts (not (is_empty name)) (list_all is_feature_byte name) f).1) (ap is_shell_name_of (sym v) ∙ n))
  where
    wrong : (b : Bool) → b ≡ true → b ≡ false → ⊥
    wrong b t f = cc
