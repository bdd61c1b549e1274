pub mod Slots
pub mod Seats
pub mod Instances
pub mod Staging
pub mod Store
pub mod Undone
pub use Rattle.ertp_mint.specs.amount_math
pub use Rattle.proposals.specs as proposals
