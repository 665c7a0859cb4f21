pub mod Bits
mod Examples
mod Numbers
