-- No name has two entries in the variables, from the opening of a run to its end.
use Rattle.std.proofs.Common.{ℕ, Bool, true, false, List, [], ◌∷◌, Option, Some, None, sym, subst}
use Rattle.std.specs.Prelude.{fold, is_some, if◌then◌else◌}
use Rattle.std.specs.List.{flat_map}
use Rattle.cachefile.specs.Cache.{with_setting, vars_after}
use Rattle.cachefile.specs.Line.{Setting, Sets, Defaults}
use Rattle.cachefile.proofs.Orders.{Entries}
use Rattle.options_line.specs.Directories.{directories, variable_of}
use Rattle.options_line.specs.Slashes.{without_slashes}
use Rattle.options_line.specs.declared.directory.Directory.{Directory}
use Rattle.crew_trait.specs.declared.reply.Reply.{Reply}
use Rattle.deftable.specs.Table.{value_of, with_entry, HasDistinctNames}
use Rattle.deftable.proofs.Tables.{HasDistinctNames-with_entry, HasDistinctNames-without_entry, HasDistinctNames-[]}
use Rattle.meaning_laws.proofs.Kept.{Closed, of_variables, meaning_keeps}
use Rattle.meaning.specs.Meaning.{meaning}
use Rattle.meaning.specs.State.{opened}
use Rattle.options.specs.Opening.{with_variable, set_by, with_unslashed, marks_of, with_marks, unmarked, finished}
use Rattle.meaning_resumption.specs.Plays.{played}
use Rattle.meaning_resumption.proofs.Runs.{at_end}
use Rattle.meaning_laws.proofs.Plays.{same_end}
use Rattle.ac_tree.specs.Script.{Script}

pub fold_distinct : (es base : Entries) → HasDistinctNames base → HasDistinctNames (fold with_variable base es)
fold_distinct [] base h = h
fold_distinct (e ∷ es) base h = fold_distinct es (with_variable base e) (HasDistinctNames-with_entry base e.0 e.1 h)

one_unslashed : (base : Entries) (d : Directory) → HasDistinctNames base → HasDistinctNames (with_unslashed base d)
unfolding with_unslashed
one_unslashed base d h = by (value_of base (variable_of d))
  where
    by : (o : Option (List ℕ)) → HasDistinctNames (elim o [ None ↦ base | Some value ↦ with_entry base (variable_of d) (without_slashes value) ])
    by None = h
    by (Some value) = HasDistinctNames-with_entry base (variable_of d) (without_slashes value) h

unslashed : (ds : List Directory) (base : Entries) → HasDistinctNames base → HasDistinctNames (fold with_unslashed base ds)
unslashed [] base h = h
unslashed (d ∷ ds) base h = unslashed ds (with_unslashed base d) (one_unslashed base d h)

pub finished_distinct : (precious : List (List ℕ)) (es : Entries) → HasDistinctNames (finished precious (set_by es))
unfolding finished with_marks unmarked set_by
finished_distinct precious es =
    let base = fold with_unslashed (fold with_variable [] es) directories in
    fold_distinct (flat_map (marks_of base) precious) base (unslashed directories (fold with_variable [] es) (fold_distinct es [] HasDistinctNames-[]))

one_setting : (base : Entries) (s : Setting) → HasDistinctNames base → HasDistinctNames (with_setting base s)
one_setting base (Sets name value) h = HasDistinctNames-with_entry base name value h
one_setting base (Defaults name value) h = by (is_some (value_of base name))
  where
    by : (b : Bool) → HasDistinctNames (if b then base else with_entry base name value)
    by true = h
    by false = HasDistinctNames-with_entry base name value h

pub settings_distinct : (settings : List Setting) (base : Entries) → HasDistinctNames base → HasDistinctNames (vars_after settings base)
settings_distinct [] base h = h
settings_distinct (s ∷ more) base h = settings_distinct more (with_setting base s) (one_setting base s h)

closed : Closed (λ st. HasDistinctNames st.vars)
closed = of_variables HasDistinctNames (λ es name value h. HasDistinctNames-with_entry es name value h) (λ before es name e b h. HasDistinctNames-without_entry es name h)

pub played_distinct : (script : Script) (vars : Entries) (rs : List Reply) → HasDistinctNames vars → HasDistinctNames (played script (opened vars) rs).state.vars
played_distinct script vars rs h =
    subst HasDistinctNames (sym (same_end (meaning script (opened vars)) 0 None rs).vars)
    (at_end (λ how now. HasDistinctNames now.vars) (meaning script (opened vars)) rs (meaning_keeps (λ st. HasDistinctNames st.vars) closed script (opened vars) h))
