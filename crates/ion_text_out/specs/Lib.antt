pub mod Escape
pub mod Layout
pub mod Text
pub mod Laws
pub mod Writing
pub mod Lane
pub mod Written
pub mod Steps
