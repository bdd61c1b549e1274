pub mod Tests
pub mod Sums
pub mod Plays
pub mod Runs
pub mod Safe
pub mod Writes
pub mod Kept
pub mod Amounts
pub mod Within
pub mod FormKept
pub mod NamesKept
pub mod Licence
pub mod Charges
pub mod Hosts
pub use Rattle.host_data.proofs as host_data
pub use Rattle.jessie_values.proofs.jessie_grammar
