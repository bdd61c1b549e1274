pub mod Weights
pub mod Parts
pub mod Starts
pub mod Ends
pub use Rattle.jessie_machine.proofs.jessie_semantics
