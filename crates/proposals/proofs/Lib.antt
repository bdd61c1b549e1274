pub mod ShareLists
pub mod SharesKeyed
pub mod SlotLists
pub mod Coverings
pub mod Leasts
pub mod Firsts
pub mod Apart
pub mod Sums
pub mod Under
pub use Rattle.host_data.proofs as host_data
