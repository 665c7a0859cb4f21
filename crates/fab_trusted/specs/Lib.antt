pub mod Trusts
pub mod Trusted
pub mod Robust
pub mod Agreement
