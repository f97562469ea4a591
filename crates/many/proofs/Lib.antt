-- Laws of a call of the judge without lines.
pub mod Feeding
