pub mod Firsts
mod Shown
