pub mod Report
pub mod Receiver
pub mod Sealed
pub mod Steps
