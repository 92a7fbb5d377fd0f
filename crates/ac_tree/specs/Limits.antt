-- The limits of a source's lists. (own)
use Rattle.std.specs.Prelude.{◌≡◌, ℕ, ◌≤◌, true, List, length}
use Rattle.deftable.specs.NameList.{has_name, AreDistinct}
use Rattle.output_list.specs.Output.{AreOutputs}
use Rattle.ac_tree.specs.declared.declarations.Declarations as declarations

-- Each list has at most 1,024 names, files or headers. Each precious variable is an output variable too, and none is listed
-- twice, so there are at most as many precious variables as output variables. Files and headers are outputs of one run.
-- (own)
pub record IsWithinLimits (c : declarations.Declarations) : Type 0 where
  pub substituted : length c.substituted ≤ 1024
  pub distinct : AreDistinct c.precious
  pub precious : (n : List ℕ) → has_name c.precious n ≡ true → has_name c.substituted n ≡ true
  pub features : length c.features ≤ 1024
  pub packages : length c.packages ≤ 1024
  pub files : length c.files ≤ 1024
  pub headers : length c.headers ≤ 1024
  pub outputs : AreOutputs c.files c.headers

-- Each list has at most 1,024 names, files or headers; the help entries, one for each call, have no limit of their own. (own)
pub record HasShortLists (c : declarations.Declarations) : Type 0 where
  pub substituted : length c.substituted ≤ 1024
  pub precious : length c.precious ≤ 1024
  pub features : length c.features ≤ 1024
  pub packages : length c.packages ≤ 1024
  pub files : length c.files ≤ 1024
  pub headers : length c.headers ≤ 1024
