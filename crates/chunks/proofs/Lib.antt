-- Laws of one field, of a temperature, of the lines of entries, of a run of bytes, of many entries at once; and that every promise determines its answer.
pub mod Turns
pub mod Fronts
pub mod Sizes
pub mod Entries
pub mod Taking
pub mod Sensed
pub mod Advances
pub mod Walks
pub mod Leads
pub mod Lining
pub mod Hearing
pub mod Bytes
pub mod Wraps
pub mod Short
pub mod Stood
pub mod Ranging
pub mod Promises
