pub mod Shares
pub mod Slots
pub mod Proposals
pub mod OfferSafety
pub mod Plans
pub mod Leasts
pub mod ChangedShares
pub mod Gains
pub mod Losses
pub use Rattle.host_data.specs as host_data
