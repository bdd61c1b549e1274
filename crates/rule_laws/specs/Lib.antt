pub mod GoodServices
pub mod GoodContracts
pub use Rattle.world_laws.specs.brands
pub use Rattle.rules.specs.call_arguments
pub use Rattle.world_laws.specs.ertp_mint
pub use Rattle.rules.specs.holders
pub use Rattle.rules.specs.jessie_grammar
pub use Rattle.rules.specs.jessie_semantics
pub use Rattle.world_laws.specs.jessie_values
pub use Rattle.world_laws.specs.turn_stores
pub use Rattle.world_laws.specs as world_laws
