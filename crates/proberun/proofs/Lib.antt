pub mod EventLemmas
pub mod TableLemmas
pub mod ServingLemmas
pub mod GroupLemmas
pub mod RunLemmas
pub mod WholeLemmas
pub mod AgreeLemmas
