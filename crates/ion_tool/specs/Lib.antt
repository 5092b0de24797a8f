pub mod Words
pub mod LineNumbers
pub mod Counting
pub mod Serving
