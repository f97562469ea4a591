-- Laws of a step: its answers, the accounts' two 11, its parts, temperatures and the pace, what it leaves; that it keeps a sound record sound. Of a run: entry by
-- entry and part by part. Of a record of one part: what an entry is to it. Of the quick run: kinds, delay rules that do not speak; what it begins with; what the
-- quick test clears is taken; its loop; it is a part of the run. The turns of a run. Promises; and runs of steps.
pub mod Answers
pub mod Elevens
pub mod Split
pub mod Closed
pub mod Offered
pub mod Paced
pub mod Leaves
pub mod Arrays
pub mod Kept
pub mod Farther
pub mod Onward
pub mod ByEntry
pub mod Alone
pub mod Levels
pub mod Within
pub mod Quiet
pub mod Standing
pub mod Cleared
pub mod Places
pub mod Begun
pub mod Went
pub mod Ahead
pub mod Tabled
pub mod Joining
pub mod Turning
pub mod Promises
pub mod Runs
