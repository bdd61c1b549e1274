pub mod SlotLists
pub mod SlotsApart
pub mod PrintedValues
pub mod DueTests
pub mod ToldSeats
pub mod SeatTests
pub use Rattle.row_records.proofs as row_records
