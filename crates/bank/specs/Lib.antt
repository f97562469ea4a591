-- The record of the code, read as the lent record of the rules; clauses of 13; what an entry changes; the ledgers of both parts.
pub mod Values
pub mod Clauses
pub mod After
pub mod Both
