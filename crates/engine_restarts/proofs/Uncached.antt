-- A call without a cache has no fault of a precious variable.
use Rattle.std.proofs.Common.{◌≡◌, ℕ, Bool, true, false, List, [], ◌++◌, Option, Some, None, Result, Ok, Err, refl, sym, ap, subst}
use Rattle.std.specs.Prelude.{nat_le, if◌then◌else◌}
use Rattle.acparse.specs.Profile.{source_of}
use Rattle.ac_statement.specs.declared.fault.ParseFault as parse
use Rattle.ac_statement.specs.declared.fault.ParseFault.TheVariants as parses
use Rattle.cachefile.specs.Cache.{vars_after}
use Rattle.cachefile.specs.Line.{Setting}
use Rattle.cachefile.proofs.Orders.{Entries}
use Rattle.options_line.specs.Kept.{kept_args}
use Rattle.options_line.specs.declared.fault.OptionFault as option
use Rattle.options_line.specs.declared.fault.OptionFault.TheVariants as options
use Rattle.deftable.specs.declared.note.Note.{Note}
use Rattle.engine.specs.Judged.{acceptance}
use Rattle.engine_frame.specs.Faults.{of_parse, of_option, of_precious, named, ◌>>=◌, wants}
use Rattle.engine_frame.specs.Given.{Shows, Starts, accepted_after, none_missing, source_settings, old_of, present, shows, started}
use Rattle.engine_frame.specs.declared.starting.Start.{Start}
use Rattle.engine_frame.specs.declared.fault.Fault.{Fault}
use Rattle.engine_frame.specs.declared.fault.Fault.TheVariants.{Plan, Precious}
use Rattle.options.specs.Opening.{opening, set_by}
use Rattle.options.specs.Precious.{checked}
use Rattle.options.specs.declared.settings.Settings.{Settings}
use Rattle.options.proofs.Fresh.{fresh_runs_agree}
use Rattle.output_list.specs.declared.output.Output.{Output}
use Rattle.output_make.specs.Choice.{missing}
use Rattle.plan.specs.Weight.{heaviest, weight}
use Rattle.plan.specs.declared.fault.PlanFault.TheVariants.{TooLong}
use Rattle.ac_tree.specs.Lists.{lists_of}
use Rattle.ac_tree.specs.Script.{Script}
use Rattle.engine_restarts.specs.Calls.{Given, follows}
use Rattle.engine_restarts.specs.Second.{UncachedCallsAgree}
use Rattle.engine_restarts.proofs.Judging.{bind_ok, named_ok, settled}
use Rattle.engine_restarts.proofs.Openings.{AreFinished, opening_finished}

-- ---- faults of other kinds

abbrev is_precious : Fault → Bool
is_precious (Precious f) = true
is_precious other = false

-- The reading succeeds, or has another fault.
abbrev HasOther : {A : Type 0} → Result A Fault → Type 0
HasOther (Ok x) = Unit {0}
HasOther (Err f) = is_precious f ≡ false

along : {A B : Type 0} (r : Result A Fault) (f : A → Result B Fault) → HasOther r → ((x : A) → r ≡ Ok x → HasOther (f x)) → HasOther (r >>= f)
along (Ok x) f h k = k x refl
along (Err g) f h k = h

of_value : {A : Type 0} (r : Result A Fault) (x : A) → r ≡ Ok x → HasOther r
of_value (Ok y) x e = tt
of_value (Err f) x e = absurd cc

by_name : {A E : Type 0} (fault : E → Fault) → ((e : E) → is_precious (fault e) ≡ false) → (r : Result A E) → HasOther (named fault r)
by_name fault h (Ok x) = tt
by_name fault h (Err e) = h e

parse_other : (f : parse.ParseFault) → is_precious (of_parse f) ≡ false
parse_other parses.OutOfMemory = refl
parse_other f = refl

option_other : (f : option.OptionFault) → is_precious (of_option f) ≡ false
option_other options.OutOfMemory = refl
option_other f = refl

wants_other : (b : Bool) → HasOther (wants b (Plan TooLong))
wants_other true = tt
wants_other false = refl

missing_other : (o : Option Output) → HasOther (none_missing o)
missing_other None = tt
missing_other (Some output) = refl

present_other : (no_create : Bool) (templates : Entries) (files headers : List Output) → HasOther (present no_create templates files headers)
unfolding present
present_other true templates files headers = tt
present_other false templates files headers =
    along (none_missing (missing templates files [])) (λ _. none_missing (missing templates headers [])) (missing_other (missing templates files [])) (λ _ _. missing_other (missing templates headers []))

-- ---- the call

no_old : (name : Option (List ℕ)) → old_of name None ≡ Ok []
no_old None = refl
no_old (Some name) = refl

module _ (given : Given) (script : Script) (settings : Settings) where
  abbrev begins : List Setting → Entries × List Note → Start
  begins old left = record {
    cache_name = settings.cache_name;
    srcdir = settings.srcdir;
    no_create = settings.no_create;
    args = kept_args given.arguments;
    vars = vars_after old left.0;
    notes = settings.notes ++ left.1;
  }

  abbrev there : Result (Unit {0}) Fault
  there = present settings.no_create given.templates (lists_of script).files (lists_of script).headers

  abbrev compared : List Setting → Entries × List Note → Result Start Fault
  compared old left = there >>= λ _. Ok (begins old left)

  abbrev poured : List Setting → Result Start Fault
  poured old = named of_precious (checked (lists_of script).precious settings.vars old) >>= compared old

  finds_none : AreFinished (lists_of script).precious settings.vars → checked (lists_of script).precious settings.vars [] ≡ Ok (settings.vars, [])
  finds_none ready = subst (λ vs. checked (lists_of script).precious vs [] ≡ Ok (vs, [])) (sym ready.1) (fresh_runs_agree (lists_of script).precious (set_by ready.0))

  start_other : AreFinished (lists_of script).precious settings.vars → HasOther (started given.arguments None given.templates script settings)
  unfolding started
  start_other ready =
      along (old_of settings.cache_name None) poured (of_value _ [] (no_old settings.cache_name))
      (λ old e.
      let empty : [] ≡ old = let h = no_old settings.cache_name in cc in
      subst (λ o. HasOther (poured o)) empty
      (along (named of_precious (checked (lists_of script).precious settings.vars [])) (compared [])
      (of_value _ (settings.vars, []) (ap (named of_precious) (finds_none ready)))
      (λ left _. along there (λ _. Ok (begins [] left)) (present_other settings.no_create given.templates (lists_of script).files (lists_of script).headers) (λ _ _. tt))))

  accepted_other : AreFinished (lists_of script).precious settings.vars → HasOther (accepted_after given.arguments None given.templates script settings)
  unfolding accepted_after
  accepted_other ready = by (shows settings) where
    by : (b : Bool) → HasOther (if b then Ok (Shows script settings) else (started given.arguments None given.templates script settings >>= λ start. Ok (Starts script start)))
    by true = tt
    by false = along (started given.arguments None given.templates script settings) (λ start. Ok (Starts script start)) (start_other ready) (λ _ _. tt)

settles_other : (given : Given) (script : Script) → HasOther (source_settings given.arguments given.environment script)
unfolding source_settings
settles_other given script =
    along (wants (nat_le (weight script) heaviest) (Plan TooLong)) (λ _. settled script given) (wants_other (nat_le (weight script) heaviest)) (λ _ _. by_name of_option option_other (opening (lists_of script).features (lists_of script).packages (lists_of script).precious given.arguments given.environment))

settles_finished : (given : Given) (script : Script) (settings : Settings) → source_settings given.arguments given.environment script ≡ Ok settings → AreFinished (lists_of script).precious settings.vars
unfolding source_settings
settles_finished given script settings e =
    let lists = lists_of script in
    let second = bind_ok (wants (nat_le (weight script) heaviest) (Plan TooLong)) (λ _. settled script given) settings e in
    opening_finished lists.features lists.packages lists.precious given.arguments given.environment settings
    (named_ok of_option (opening lists.features lists.packages lists.precious given.arguments given.environment) settings second.1.1)

call_other : (given : Given) → HasOther (follows given None)
unfolding acceptance
call_other given =
    along (named of_parse (source_of given.source)) (λ script. source_settings given.arguments given.environment script >>= λ settings. accepted_after given.arguments None given.templates script settings)
    (by_name of_parse parse_other (source_of given.source))
    (λ script _. along (source_settings given.arguments given.environment script) (λ settings. accepted_after given.arguments None given.templates script settings) (settles_other given script)
    (λ settings e. accepted_other given script settings (settles_finished given script settings e)))

pub uncached_calls_agree : UncachedCallsAgree
uncached_calls_agree given fault e =
    let other : is_precious (Precious fault) ≡ false = subst HasOther e (call_other given) in
    absurd cc
