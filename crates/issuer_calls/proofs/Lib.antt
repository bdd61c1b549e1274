pub mod LiveLists
pub mod PartLists
