-- Laws of the account in closed form, of what a lent ledger is told, of its pace, and of its deadline.
pub mod Closing
pub mod Moves
pub mod Told
pub mod Admission
pub mod Enters
pub mod Spacing
pub mod Promises
pub mod Deadlines
