-- Laws of the tables and columns, each after what it stands on; what is told of a field's value; what the fields of a file make of a card; and that every promise
-- determines its answer.
pub mod Rounded
pub mod Columns
pub mod Fits
pub mod Found
pub mod Recovered
pub mod Groups
pub mod Lengths
pub mod Numbers
pub mod Told
pub mod Defaults
pub mod Fields
pub mod BenchCard
pub mod Promises
