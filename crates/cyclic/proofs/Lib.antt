pub mod Search
pub mod Reach
pub mod Perfect
pub mod Three
