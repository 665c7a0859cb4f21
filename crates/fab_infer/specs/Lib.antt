pub mod Fill
pub mod Masks
pub mod Shown
pub mod Small
pub mod Spreading
