pub mod Moves
pub mod Views
pub mod Lists
pub mod CallOutcomes
pub use Rattle.registers.specs as registers
