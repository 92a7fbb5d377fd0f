pub mod Leaves
pub mod Shapes
pub mod Trees
pub mod Walks
