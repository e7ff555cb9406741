-- Lemmas that the proofs of this crate share.
pub mod Keeping
pub mod Orders
