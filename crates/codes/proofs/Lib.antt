pub mod Bounds
pub mod Distance
pub mod Faults
pub mod Reach
pub mod Answering
pub mod InPlace
pub mod Lists
