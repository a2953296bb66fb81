pub mod Boundary
pub mod Words
pub mod Lists
pub mod Times
pub mod Transfer
pub mod Steps
