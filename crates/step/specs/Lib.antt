-- The answers of a step, read as the rules' refusals; what it leaves; a run; the parts of a step; a record of one part; the quick test, and the quick run.
pub mod Values
pub mod Runs
pub mod Parts
pub mod Single
pub mod Ready
pub mod Quick
