pub mod Met
pub mod Passed
pub mod Among
pub mod Left
pub mod TransferStates
pub mod Steps
