-- The types of the code, read as the values of the rules; what one field makes of a state; what a run of bytes does.
pub mod Values
pub mod Took
pub mod Heard
pub mod Parts
