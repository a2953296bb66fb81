pub mod Layout
pub mod Reader
pub mod Lookup
pub mod Steps
