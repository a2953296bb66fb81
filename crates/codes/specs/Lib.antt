pub mod Bounded
pub mod Sums
pub mod Fault
pub mod Meaning
pub mod Interface
pub mod Slots
