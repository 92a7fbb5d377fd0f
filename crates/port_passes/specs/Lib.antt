pub mod Chains
pub mod Compiler
pub mod Exchanged
pub mod Making
pub mod Pathed
pub mod Rewritten
