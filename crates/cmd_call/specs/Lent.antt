-- What the program is asked to do, as the code has it, which borrows the words.
use Rattle.cmd_call.specs.Calls.{ProgramCall, Filter, StandIn, Configure, Status, Recheck, Lint, Port, Header, Why, Help, Version, Unknown}
use Rattle.cmd_call.specs.declared.call.ProgramCall as lent
use Rattle.cmd_call.specs.declared.call.ProgramCall.TheVariants as lends

-- The call, with the words themselves. (own)
abbrev pub call_seen : lent.ProgramCall → ProgramCall
call_seen lends.Filter = Filter
call_seen (lends.StandIn words) = StandIn words.now
call_seen (lends.Configure window arguments) = Configure window arguments.now
call_seen (lends.Status tags) = Status tags.now
call_seen lends.Recheck = Recheck
call_seen (lends.Lint words) = Lint words.now
call_seen (lends.Port words) = Port words.now
call_seen (lends.Header words) = Header words.now
call_seen (lends.Why words) = Why words.now
call_seen (lends.Help words) = Help words.now
call_seen lends.Version = Version
call_seen lends.Unknown = Unknown
