-- The faults of the parts of a run as those of the run, and readings that may have them.
use Rattle.std.specs.Prelude.{◌≡◌, Result, Err}
use Rattle.fallible.specs.Reading.{GivesBy}
use Rattle.ac_statement.specs.declared.fault.ParseFault as parse
use Rattle.ac_statement.specs.declared.fault.ParseFault.TheVariants as parses
use Rattle.plan.specs.declared.fault.PlanFault as plan
use Rattle.plan.specs.declared.fault.PlanFault.TheVariants as plans
use Rattle.options_line.specs.declared.fault.OptionFault as option
use Rattle.options_line.specs.declared.fault.OptionFault.TheVariants as options
use Rattle.cachefile.specs.declared.fault.CacheFault as cache
use Rattle.cachefile.specs.declared.fault.CacheFault.TheVariants as caches
use Rattle.options.specs.declared.fault.PreciousFault as precious
use Rattle.options.specs.declared.fault.PreciousFault.TheVariants as preciouses
use Rattle.status_record.specs.declared.fault.RecordFault as recorded
use Rattle.status_record.specs.declared.fault.RecordFault.TheVariants as records
use Rattle.engine_frame.specs.declared.fault.Fault.{Fault}
use Rattle.engine_frame.specs.declared.fault.Fault.TheVariants.{Parse, Plan, Option, Cache, Precious, NoTemplate, OutOfMemory}
use Rattle.engine_frame.specs.declared.fault.RemakeFault.{RemakeFault}
use Rattle.engine_frame.specs.declared.fault.RemakeFault.TheVariants as remade
pub use Rattle.fallible.specs.Reading.{◌>>=◌, wants, named}

-- An error of the source, as a fault of the run. (own)
abbrev pub of_parse : parse.ParseFault → Fault
of_parse parses.OutOfMemory = OutOfMemory
of_parse f = Parse f

-- A fault of the plan, as one of the run. (own)
abbrev pub of_plan : plan.PlanFault → Fault
of_plan plans.OutOfMemory = OutOfMemory
of_plan f = Plan f

-- An error of the arguments, as a fault of the run. (own)
abbrev pub of_option : option.OptionFault → Fault
of_option options.OutOfMemory = OutOfMemory
of_option f = Option f

-- An error of the cache, as a fault of the run. (own)
abbrev pub of_cache : cache.CacheFault → Fault
of_cache caches.OutOfMemory = OutOfMemory
of_cache f = Cache f

-- A precious variable that changed, as a fault of the run. (own)
abbrev pub of_precious : precious.PreciousFault → Fault
of_precious preciouses.OutOfMemory = OutOfMemory
of_precious f = Precious f

-- An error of the record, as a fault of making its outputs again. (own)
abbrev pub of_record : recorded.RecordFault → RemakeFault
of_record records.OutOfMemory = remade.OutOfMemory
of_record f = remade.Record f

-- The reading fails with this fault; running out of memory is no fault of what is read. (own)
abbrev pub Fails : {Y : Type 0} → Fault → Result Y Fault → Type 0
Fails OutOfMemory read = Unit {0}
Fails f read = read ≡ Err f

-- The function returned what the reading gives, as view shows it, or ran out of memory. (own)
abbrev pub Gives : {X Y : Type 0} → (X → Y) → Result X Fault → Result Y Fault → Type 0
Gives view given read = GivesBy Fails view given read

-- The same of outputs that are made again. (own)
abbrev pub FailsAgain : {Y : Type 0} → RemakeFault → Result Y RemakeFault → Type 0
FailsAgain remade.OutOfMemory read = Unit {0}
FailsAgain f read = read ≡ Err f

-- The same of outputs that are made again. (own)
abbrev pub GivesAgain : {X Y : Type 0} → (X → Y) → Result X RemakeFault → Result Y RemakeFault → Type 0
GivesAgain view given read = GivesBy FailsAgain view given read
