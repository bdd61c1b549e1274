pub mod PathStates
pub mod PartLists
pub mod PartSizes
pub mod SentCalls
pub mod SameReads
