pub mod UndoPlaces
pub mod UndoTurns
pub mod Waiting
pub mod Schedules
pub mod WaitingPlaces
pub mod Details
pub mod InvitationTurns
pub mod Elements
