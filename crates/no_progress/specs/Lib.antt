pub mod Proper
pub mod Valid
pub mod Begin
