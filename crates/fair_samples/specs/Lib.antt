pub mod Sentences
pub mod Samples
pub mod Further
pub mod Lax
pub mod Example
pub mod Claims
