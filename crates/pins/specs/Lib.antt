-- The types of the code, read as the values of the rules; the kinds by their numbers; the places of numbers; entry fields; the round counter.
pub mod Values
pub mod Table
pub mod Places
pub mod Fronts
pub mod Counter
