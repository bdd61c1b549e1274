pub mod Names
pub mod PrintedData
pub mod Printable
pub mod Values
pub mod Messages
pub mod Deliveries
pub mod Events
pub mod Turns
pub mod Printed
pub mod Tellable
pub mod Endings
pub mod Views
pub mod Logs
pub mod Ends
pub mod Records
pub mod Settlements
pub use Rattle.turn_rows.specs.amount_math
pub use Rattle.refusals.specs.host_data
pub use Rattle.turn_rows.specs.host_text
pub use Rattle.promise_store.specs as promise_store
pub use Rattle.proposals.specs as proposals
pub use Rattle.refusals.specs as refusals
pub use Rattle.turn_rows.specs.rights_model
pub use Rattle.turn_rows.specs as turn_rows
