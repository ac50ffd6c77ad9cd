mod Absent
mod Kept
mod Standing
