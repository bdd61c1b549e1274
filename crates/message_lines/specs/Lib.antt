pub mod InputLines
pub mod Arguments
pub mod NamedParts
pub mod Meanings
pub mod FormTables
pub use Rattle.turn_records.specs.amount_math
pub use Rattle.turn_records.specs.host_data
pub use Rattle.turn_records.specs.host_text
pub use Rattle.turn_records.specs.promise_store
pub use Rattle.turn_records.specs.proposals
pub use Rattle.turn_records.specs.refusals
pub use Rattle.turn_records.specs.rights_model
pub use Rattle.turn_records.specs as turn_records
pub use Rattle.turn_records.specs.turn_rows
