pub mod Joints
pub mod Spelled
pub mod Files
