-- Laws of the answers, of the banks asked for and of the table, and that every promise determines its answer.
pub mod Kept
pub mod Spanned
pub mod Sourced
pub mod Ruled
pub mod Folded
pub mod Promises
