pub mod Labels
pub mod Turns
pub mod Paths
pub mod Tables
pub mod Changes
pub mod InstanceTurns
pub mod Facets
pub mod SeatPromises
pub use Rattle.brands.specs as brands
pub use Rattle.jessie_index.specs.jessie_grammar
pub use Rattle.jessie_index.specs.jessie_semantics
pub use Rattle.jessie_index.specs.jessie_values
pub use Rattle.promise_store.specs as promise_store
pub use Rattle.turn_stores.specs as turn_stores
