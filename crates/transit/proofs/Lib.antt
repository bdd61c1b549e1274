pub mod Wholes
pub mod Keeping
pub mod Calls
pub mod ReadOff
pub use Rattle.lemmas.proofs as lemmas
