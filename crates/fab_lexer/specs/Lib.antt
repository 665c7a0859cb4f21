pub mod Cuts
pub mod Firsts
pub mod Fronts
pub mod Signs
