pub mod Comings
pub mod Dues
pub mod Exchanges
pub mod Tallies
pub mod Turns
