pub mod Bits
