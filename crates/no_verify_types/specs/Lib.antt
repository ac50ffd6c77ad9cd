pub mod Addresses
pub mod Constants
pub mod Named
pub mod Places
pub mod Registers
pub mod Tables
pub mod Typing
