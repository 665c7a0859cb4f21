pub mod FirstNames
pub mod Gives
pub mod SiteOrder
pub mod Tabled
