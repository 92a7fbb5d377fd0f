use Rattle.cfglog.proofs.Readings.{entries_log, entries_read}
use Rattle.cfglog.proofs.written.written_logs_are_read.Goals as goal

pub returns : goal.returns
returns c = record {
  log = entries_log;
  lines = entries_read;
}
