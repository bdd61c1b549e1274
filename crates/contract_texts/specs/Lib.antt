pub mod Reader
pub use Rattle.rules.specs as rules
pub use Rattle.rules.specs.turn_records
pub use Rattle.rules.specs.turn_rows
pub use Rattle.rules.specs.world_state
