-- What a turn of the program leaves, and what is true between two turns.
pub mod Calls
pub mod Standing
