pub mod Exits
pub mod Places
pub mod AtHand
pub use Rattle.jessie_semantics.proofs.host_data
pub use Rattle.jessie_index.proofs.jessie_grammar
pub use Rattle.jessie_semantics.proofs as jessie_semantics
