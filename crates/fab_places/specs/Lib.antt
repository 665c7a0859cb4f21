pub mod Places
pub mod ClassRights
