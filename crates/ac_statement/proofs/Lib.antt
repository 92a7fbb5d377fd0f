pub mod Binds
pub mod FaultLemmas
pub mod IdleLemmas
pub mod InsideLemmas
pub mod Outside
pub mod Runs
pub mod Standings
