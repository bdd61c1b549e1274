pub mod ArgumentLists
pub mod Made
pub mod Same
pub mod Each
pub mod Found
pub use Rattle.refusals.proofs.host_data
pub use Rattle.proposals.proofs as proposals
