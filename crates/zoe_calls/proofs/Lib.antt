pub mod GivenIssuers
pub mod Targets
