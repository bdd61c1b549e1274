pub mod Places
pub mod Index
pub use Rattle.jessie_semantics.specs.jessie_grammar
pub use Rattle.jessie_semantics.specs as jessie_semantics
pub use Rattle.jessie_semantics.specs.jessie_values
