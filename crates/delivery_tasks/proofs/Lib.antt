pub mod ReadMessages
pub mod BareSeats
pub mod DueDeliveries
pub mod Settlements
pub mod BareEndings
pub mod Chains
pub mod AnswerPromises
pub use Rattle.host_data.proofs as host_data
