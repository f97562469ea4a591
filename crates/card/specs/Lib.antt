-- The types of the code, read as the rules' own; the words of its private parts.
pub mod Values
pub mod Tags
pub mod Reading
pub mod Bench
pub mod Rows
pub mod Parts
