-- Laws of texts that are put into a slice and over one another, of decimal numbers, of whole lines, and of the promises.
pub mod Puts
pub mod Decimals
pub mod Endings
pub mod Leading
pub mod Overlaid
pub mod Joined
pub mod LinesIn
pub mod Promises
