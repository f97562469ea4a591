-- The types of the code, read as the values of the rules; the words of its private parts.
pub mod Values
pub mod Parts
