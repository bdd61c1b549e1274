pub mod Seats
pub mod States
pub mod Sums
pub mod Parts
pub mod Safety
pub mod Settled
pub mod Plans
pub mod Staged
pub mod Transfers
pub mod Working
pub mod Covered
pub mod Bounds
pub mod Told
pub mod Slots
pub mod TestedPlans
pub mod TransferRefusals
pub mod Moves
pub use Rattle.value_tests.specs.ertp_mint
pub use Rattle.rights_model.specs as rights_model
pub use Rattle.value_tests.specs as value_tests
