-- How a call was accepted, and what the same call with another cache takes.
use Rattle.std.proofs.Common.{◌≡◌, ℕ, Bool, true, false, List, ◌++◌, Option, Result, Ok, Err, refl, sym, ap, ◌∙◌, subst}
use Rattle.std.specs.Prelude.{nat_le, if◌then◌else◌}
use Rattle.acparse.specs.Profile.{source_of}
use Rattle.cachefile.specs.Cache.{vars_after}
use Rattle.cachefile.specs.Line.{Setting}
use Rattle.cachefile.proofs.Orders.{Entries}
use Rattle.options_line.specs.Kept.{kept_args}
use Rattle.deftable.specs.declared.note.Note.{Note}
use Rattle.engine.specs.Judged.{acceptance}
use Rattle.engine_frame.specs.Faults.{of_parse, of_option, of_precious, named, ◌>>=◌, wants}
use Rattle.engine_frame.specs.Given.{Accepted, Shows, Starts, accepted_after, source_settings, old_of, present, shows, started}
use Rattle.engine_frame.specs.declared.starting.Start.{Start}
use Rattle.engine_frame.specs.declared.fault.Fault.{Fault}
use Rattle.engine_frame.specs.declared.fault.Fault.TheVariants.{Plan}
use Rattle.options.specs.Opening.{opening}
use Rattle.options.specs.Precious.{checked}
use Rattle.options.specs.declared.settings.Settings.{Settings}
use Rattle.plan.specs.Weight.{heaviest, weight}
use Rattle.plan.specs.declared.fault.PlanFault.TheVariants.{TooLong}
use Rattle.ac_tree.specs.Commands.{HasCommands}
use Rattle.ac_tree.specs.Lists.{lists_of}
use Rattle.ac_tree.specs.Script.{Script}
use Rattle.ac_tree.specs.TestNames.{HasTestNames}
use Rattle.engine_restarts.specs.Calls.{Given, follows}

pub bind_ok : {A B F : Type 0} (r : Result A F) (f : A → Result B F) (y : B) → (r >>= f) ≡ Ok y → (x : A) × ((r ≡ Ok x) × (f x ≡ Ok y))
bind_ok (Ok x) f y e = (x, (refl, e))
bind_ok (Err g) f y e = absurd cc

ok_bind : {A B F : Type 0} (r : Result A F) (f : A → Result B F) (x : A) (y : B) → r ≡ Ok x → f x ≡ Ok y → (r >>= f) ≡ Ok y
ok_bind r f x y e h = ap (λ z. z >>= f) e ∙ h

pub named_ok : {A E F : Type 0} (fault : E → F) (r : Result A E) (x : A) → named fault r ≡ Ok x → r ≡ Ok x
named_ok fault (Ok y) x e = let same : y ≡ x = cc in ap Ok same
named_ok fault (Err f) x e = absurd cc

-- The settings of the call.
abbrev pub settled : Script → Given → Result Settings Fault
settled script given = named of_option (opening (lists_of script).features (lists_of script).packages (lists_of script).precious given.arguments given.environment)

-- The check of its precious variables against these settings of a cache.
abbrev pub comparison : Script → Settings → List Setting → Result (Entries × List Note) Fault
comparison script settings old = named of_precious (checked (lists_of script).precious settings.vars old)

-- With what it starts.
abbrev pub start_of : Given → Settings → List Setting → Entries × List Note → Start
start_of given settings old left = record {
  cache_name = settings.cache_name;
  srcdir = settings.srcdir;
  no_create = settings.no_create;
  args = kept_args given.arguments;
  vars = vars_after old left.0;
  notes = settings.notes ++ left.1;
}

-- What each source that can be read keeps.
pub record HaveForms : Type 0 where
  pub commands : (text : List ℕ) (script : Script) → source_of text ≡ Ok script → HasCommands script
  pub names : (text : List ℕ) (script : Script) → source_of text ≡ Ok script → HasTestNames script

-- How the call was accepted; with another cache it is accepted if that one is read, and the check
-- finds no fault.
pub record Way (given : Given) (cache : Option (List ℕ)) (script : Script) (start : Start) : Type 0 where
  pub source : source_of given.source ≡ Ok script
  pub settings : Settings
  pub old : List Setting
  pub left : Entries × List Note
  pub settles : settled script given ≡ Ok settings
  pub read : old_of settings.cache_name cache ≡ Ok old
  pub check : comparison script settings old ≡ Ok left
  pub is : start ≡ start_of given settings old left
  pub again : (other : Option (List ℕ)) (more : List Setting) (after : Entries × List Note) → old_of settings.cache_name other ≡ Ok more → comparison script settings more ≡ Ok after
      → follows given other ≡ Ok (Starts script (start_of given settings more after))

-- ---- one step after the other

abbrev ended : Given → Settings → List Setting → Entries × List Note → Unit {0} → Result Start Fault
ended given settings old left u = Ok (start_of given settings old left)

abbrev compared : Given → Script → Settings → List Setting → Entries × List Note → Result Start Fault
compared given script settings old left = present settings.no_create given.templates (lists_of script).files (lists_of script).headers >>= ended given settings old left

abbrev poured : Given → Script → Settings → List Setting → Result Start Fault
poured given script settings old = comparison script settings old >>= compared given script settings old

abbrev begun : Script → Start → Result Accepted Fault
begun script start = Ok (Starts script start)

abbrev chosen : Given → Option (List ℕ) → Script → Settings → Bool → Result Accepted Fault
chosen given cache script settings b = if b then Ok (Shows script settings) else (started given.arguments cache given.templates script settings >>= begun script)

abbrev opened : Given → Option (List ℕ) → Script → Settings → Result Accepted Fault
opened given cache script settings = accepted_after given.arguments cache given.templates script settings

abbrev parsed : Given → Option (List ℕ) → Script → Result Accepted Fault
parsed given cache script = source_settings given.arguments given.environment script >>= opened given cache script

is_started : (given : Given) (cache : Option (List ℕ)) (script : Script) (settings : Settings) → started given.arguments cache given.templates script settings ≡ (old_of settings.cache_name cache >>= poured given script settings)
unfolding started
is_started given cache script settings = refl

is_asked : (given : Given) (script : Script) → source_settings given.arguments given.environment script ≡ (wants (nat_le (weight script) heaviest) (Plan TooLong) >>= λ _. settled script given)
unfolding source_settings
is_asked given script = refl

is_opened : (given : Given) (cache : Option (List ℕ)) (script : Script) (settings : Settings) → opened given cache script settings ≡ chosen given cache script settings (shows settings)
unfolding accepted_after
is_opened given cache script settings = refl

is_followed : (given : Given) (cache : Option (List ℕ)) → follows given cache ≡ (named of_parse (source_of given.source) >>= parsed given cache)
unfolding acceptance
is_followed given cache = refl

-- ---- all steps

-- The templates are there, unless no file is to be made.
abbrev pub AreThere : Given → Script → Settings → Type 0
AreThere given script settings = present settings.no_create given.templates (lists_of script).files (lists_of script).headers ≡ Ok tt

-- A call that is accepted.
pub follows_so : (given : Given) (cache : Option (List ℕ)) (script : Script) (settings : Settings) (old : List Setting) (left : Entries × List Note)
    → source_of given.source ≡ Ok script → wants (nat_le (weight script) heaviest) (Plan TooLong) ≡ Ok tt → settled script given ≡ Ok settings → shows settings ≡ false → AreThere given script settings
    → old_of settings.cache_name cache ≡ Ok old → comparison script settings old ≡ Ok left → follows given cache ≡ Ok (Starts script (start_of given settings old left))
follows_so given cache script settings old left read light settles runs there reads compares =
    let begins = start_of given settings old left in
    let answer : Accepted = Starts script begins in
    let starts : started given.arguments cache given.templates script settings ≡ Ok begins =
    is_started given cache script settings
    ∙ ok_bind (old_of settings.cache_name cache) (poured given script settings) old begins reads
    (ok_bind (comparison script settings old) (compared given script settings old) left begins compares
    (ok_bind (present settings.no_create given.templates (lists_of script).files (lists_of script).headers) (ended given settings old left) tt begins there refl)) in
    is_followed given cache
    ∙ ok_bind (named of_parse (source_of given.source)) (parsed given cache) script answer (ap (named of_parse) read)
    (ok_bind (source_settings given.arguments given.environment script) (opened given cache script) settings answer
    (is_asked given script ∙ ok_bind (wants (nat_le (weight script) heaviest) (Plan TooLong)) (λ _. settled script given) tt settings light settles)
    (is_opened given cache script settings ∙ ap (chosen given cache script settings) runs
    ∙ ok_bind (started given.arguments cache given.templates script settings) (begun script) begins answer starts refl))

record Started (given : Given) (cache : Option (List ℕ)) (script : Script) (settings : Settings) (start : Start) : Type 0 where
  pub old : List Setting
  pub left : Entries × List Note
  pub read : old_of settings.cache_name cache ≡ Ok old
  pub check : comparison script settings old ≡ Ok left
  pub is : start ≡ start_of given settings old left
  pub there : AreThere given script settings

start_steps : (given : Given) (cache : Option (List ℕ)) (script : Script) (settings : Settings) (start : Start) → started given.arguments cache given.templates script settings ≡ Ok start → Started given cache script settings start
start_steps given cache script settings start e =
    let old = bind_ok (old_of settings.cache_name cache) (poured given script settings) start (sym (is_started given cache script settings) ∙ e) in
    let left = bind_ok (comparison script settings old.0) (compared given script settings old.0) start old.1.1 in
    let there = bind_ok (present settings.no_create given.templates (lists_of script).files (lists_of script).headers) (ended given settings old.0 left.0) start left.1.1 in
    let is : start_of given settings old.0 left.0 ≡ start = let h = there.1.1 in cc in
    record {
      old = old.0;
      left = left.0;
      read = old.1.0;
      check = left.1.0;
      is = sym is;
      there = there.1.0;
    }

-- A choice that is run.
record Chosen (given : Given) (cache : Option (List ℕ)) (script : Script) (settings : Settings) (b : Bool) (final : Script) (start : Start) : Type 0 where
  pub same : script ≡ final
  pub is : started given.arguments cache given.templates script settings ≡ Ok start
  pub runs : b ≡ false

choice_steps : (given : Given) (cache : Option (List ℕ)) (script : Script) (settings : Settings) (b : Bool) (final : Script) (start : Start) → chosen given cache script settings b ≡ Ok (Starts final start) → Chosen given cache script settings b final start
choice_steps given cache script settings true final start e = absurd cc
choice_steps given cache script settings false final start e =
    let begins = bind_ok (started given.arguments cache given.templates script settings) (begun script) (Starts final start) e in
    let same : script ≡ final = let h = begins.1.1 in cc in
    let is : begins.0 ≡ start = let h = begins.1.1 in cc in
    record { same = same; is = begins.1.0 ∙ ap Ok is; runs = refl }

way_by : (given : Given) (cache : Option (List ℕ)) (script final : Script) (start : Start) → script ≡ final → source_of given.source ≡ Ok script → wants (nat_le (weight script) heaviest) (Plan TooLong) ≡ Ok tt
    → (settings : Settings) → settled script given ≡ Ok settings → shows settings ≡ false → started given.arguments cache given.templates script settings ≡ Ok start → Way given cache script start
way_by given cache script final start same read light settings settles runs starts =
    let s = start_steps given cache script settings start starts in
    record {
      source = read;
      settings = settings;
      old = s.old;
      left = s.left;
      settles = settles;
      read = s.read;
      check = s.check;
      is = s.is;
      again = λ other more after reads compares. follows_so given other script settings more after read light settles runs s.there reads compares;
    }

pub way : (given : Given) (cache : Option (List ℕ)) (script : Script) (start : Start) → follows given cache ≡ Ok (Starts script start) → Way given cache script start
way given cache script start e =
    let read = bind_ok (named of_parse (source_of given.source)) (parsed given cache) (Starts script start) (sym (is_followed given cache) ∙ e) in
    let asks = bind_ok (source_settings given.arguments given.environment read.0) (opened given cache read.0) (Starts script start) read.1.1 in
    let light = bind_ok (wants (nat_le (weight read.0) heaviest) (Plan TooLong)) (λ _. settled read.0 given) asks.0 (sym (is_asked given read.0) ∙ asks.1.0) in
    let c = choice_steps given cache read.0 asks.0 (shows asks.0) script start (sym (is_opened given cache read.0 asks.0) ∙ asks.1.1) in
    subst (λ s. Way given cache s start) c.same (way_by given cache read.0 script start c.same (named_ok of_parse (source_of given.source) read.0 read.1.0) light.1.0 asks.0 light.1.1 c.runs c.is)
