-- The code's ledgers as the rules' values, what a function leaves in the slice that it is lent, the parts of a line, and the lines of many entries.
pub mod Values
pub mod Written
pub mod Parts
pub mod Names
pub mod Stamps
pub mod Quick
pub mod Runs
