use Rattle.std.proofs.Common.{◌≡◌, true}
use Rattle.ac_tree.specs.Feature.{is_feature, option_variable}
use Rattle.ac_args.proofs.FeatureLemmas.{has_variable}
use Rattle.ac_args.proofs.feature.feature_variable.Goals as goal

pub returns : goal.returns
returns c =
    let f : is_feature c.in_ok-text.text ≡ true = cc (c.is_feature.ensures, c.as_slice.ensures, c.if-not-is_feature.false) in
    let v : c.in_ok-variable.variable ≡ option_variable c.args.kind c.in_ok-text.text = cc (c.in_ok-variable.ensures, c.as_slice-2.ensures, c.as_slice.ensures) in
    has_variable c.args.kind c.in_ok-text.text c.in_ok-variable.variable f v (rw c.in-None.is at c.new.ensures.not_a_name)
