pub mod Downgraded
