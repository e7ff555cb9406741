-- What the contracts of this crate cite.
pub mod Intakes
pub mod Turns
pub mod Waitings
