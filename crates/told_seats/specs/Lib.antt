pub mod SlotViews
pub mod DueViews
pub mod ToldSeats
pub mod SeatSteps
pub use Rattle.row_records.specs as row_records
pub use Rattle.told_rights.specs as told_rights
