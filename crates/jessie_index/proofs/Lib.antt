mod Indexed
pub mod Indexing
pub use Rattle.jessie_semantics.proofs.jessie_grammar
pub use Rattle.jessie_semantics.proofs as jessie_semantics
