pub mod Inviting
pub mod KeywordTests
pub mod Pairs
pub mod ReadShares
pub mod Steps
pub mod Strange
pub mod Values
