-- A run under given replies, with those that it takes and those that it leaves.
pub use Rattle.meaning_laws.specs.Finished.{Finished, with_taken, finish, Enough}
