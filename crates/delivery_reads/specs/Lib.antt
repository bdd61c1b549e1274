pub mod Reads
pub mod MessageViews
pub use Rattle.delivery_turns.specs as delivery_turns
pub use Rattle.host_data.specs as host_data
pub use Rattle.refusals.specs as refusals
