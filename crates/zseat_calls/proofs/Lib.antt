pub mod Exited
pub mod SlotAmounts
pub mod Calls
pub mod Few
pub mod StagingParts
