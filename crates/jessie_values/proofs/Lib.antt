pub mod NamedFields
pub mod ReadFunctions
mod Rows
pub mod SortedNames
pub mod Constants
pub use Rattle.jessie_grammar.proofs as jessie_grammar
