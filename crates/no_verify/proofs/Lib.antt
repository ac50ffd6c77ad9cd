mod Later
mod Firsts
mod Images
mod Layouts
mod Lists
mod Ops
mod Places
mod Tables
pub mod Accepting
pub mod Unique
