pub mod Lists
pub mod OutputLemmas
pub mod FeatureLemmas
pub mod EntryLists
pub mod PartsLaws
pub mod PartsLoop
pub mod HelpParts
