pub mod Views
pub use Rattle.turn_rows.specs.amount_math
pub use Rattle.journal_rows.specs.fair_rows
pub use Rattle.turn_rows.specs.host_text
pub use Rattle.journal_rows.specs as journal_rows
pub use Rattle.turn_rows.specs.rights_model
pub use Rattle.turn_records.specs as turn_records
pub use Rattle.turn_rows.specs as turn_rows
