pub mod ScriptLemmas
mod Deciding
mod ResumableRows
