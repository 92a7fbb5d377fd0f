-- What a run needs besides its cache and its templates.
use Rattle.std.specs.Prelude.{◌≡◌, ℕ, false, List, Ok}
use Rattle.options.specs.declared.settings.Settings.{Settings}
use Rattle.output_list.specs.Output.{AreOutputs}
use Rattle.plan.specs.Walk.{Instruction, DoesWhat}
use Rattle.ac_tree.specs.Lists.{lists_of}
use Rattle.ac_tree.specs.Script.{Script, script_of}
use Rattle.ac_tree.specs.declared.tree.Stmt.{Stmt}
use Rattle.engine_frame.specs.Given.{source_settings, shows}

-- The statements of a source, its plan, its arguments, and its settings. (own)
pub record Needed : Type 0 where
  pub statements : List Stmt
  pub plan : List Instruction
  pub arguments : List (List ℕ)
  pub settings : Settings

-- The statements, as contracts see them. (own)
abbrev pub script_in : Needed → Script
script_in n = script_of n.statements

-- The plan does what the statements do. The settings are those that these statements get by these
-- arguments and an environment, and no text is to be shown. (own)
pub record IsAsked (n : Needed) : Type 0 where
  pub does : DoesWhat n.plan (script_in n)
  pub outputs : AreOutputs (lists_of (script_in n)).files (lists_of (script_in n)).headers
  pub environment : List (List ℕ × List ℕ)
  pub asks : source_settings n.arguments environment (script_in n) ≡ Ok n.settings
  pub runs : shows n.settings ≡ false
