pub mod Parts
pub mod StartSteps
