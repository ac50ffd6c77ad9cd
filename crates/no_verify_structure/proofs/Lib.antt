mod Known
mod Members
mod Edges
mod Named
mod Found
mod Firsts
