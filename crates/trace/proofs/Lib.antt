-- Laws of a call of the judge and a read, and of a turn of the program.
pub mod Calling
pub mod Turning
