pub mod Following
pub mod Comparing
pub mod Carrying
