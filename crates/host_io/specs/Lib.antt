pub mod Causes
pub mod Fronts
pub mod Ends
pub mod LineReads
