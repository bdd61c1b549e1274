pub mod Steps
pub mod HandStore
pub mod Sums
pub mod Offers
