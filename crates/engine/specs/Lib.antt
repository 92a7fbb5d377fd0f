pub mod Told
pub mod Judged
pub mod Configured
pub mod Agreeing
pub mod Kept
pub mod Remaking
pub mod Headline
