pub mod Runs
pub mod Listing
pub mod Shelves
pub mod Spots
pub mod Supplies
pub mod BrandKinds
pub mod Sums
pub mod Rights
