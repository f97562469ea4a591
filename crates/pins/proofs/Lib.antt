-- Laws of the pins' code, each after what it stands on.
pub mod Codes
pub mod Places
pub mod Fronts
pub mod Written
pub mod Unlisted
pub mod Rounds
pub mod Equal
pub mod Uncommanded
pub mod Asleep
pub mod Selected
pub mod Values
pub mod Tempered
pub mod Promises
pub mod Calls
pub mod Trips
pub mod PartTrips
