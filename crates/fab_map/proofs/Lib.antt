pub mod Bytes
pub mod Changing
pub mod Found
pub mod Made
pub mod Rows
