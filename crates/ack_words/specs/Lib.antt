-- What the contracts of this crate cite.
pub mod Acks
pub mod Countdowns
pub mod Flags
pub mod Masks
