pub mod Chains
pub mod Escaping
pub mod Events
pub mod Printed
