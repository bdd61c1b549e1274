pub mod Named
pub mod Owners
pub mod CallWords
pub mod TurnWords
pub mod Appended
pub mod SeatLists
pub mod Called
pub mod Ones
pub mod Pairs
pub mod Halted
pub mod Opened
pub mod Exited
pub mod Ended
pub mod CauseRows
pub use Rattle.row_records.proofs as row_records
