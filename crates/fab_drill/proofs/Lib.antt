mod Examples
mod Sums
