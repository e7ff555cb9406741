-- Lemmas that the proofs of this crate and of those above share.
pub mod Countings
pub mod Decisions
pub mod Masks
