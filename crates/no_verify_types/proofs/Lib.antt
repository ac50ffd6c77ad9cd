pub mod Gathered
pub mod Numbers
pub mod Tables
pub mod Differ
pub mod Marks
pub mod Firsts
pub mod Taking
