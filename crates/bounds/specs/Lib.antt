-- The answer of the code, read as the rules' own; words for its private parts.
pub mod Values
pub mod Parts
