pub mod Form
pub mod Stream
