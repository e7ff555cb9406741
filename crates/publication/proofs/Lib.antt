-- Lemmas that the proofs of this crate and of those above share.
pub mod Counting
pub mod Failures
pub mod Holding
pub mod Offering
pub mod Sending
pub mod Settling
pub mod Targets
pub mod Threes
pub mod Walks
