pub mod ChildLemmas
pub mod FusedLemmas
pub mod Holding
pub mod ReadyLemmas
pub mod ScriptLemmas
pub mod SlotLemmas
