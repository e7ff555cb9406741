-- Lemmas that the proofs of this crate and of those above share.
pub mod AnswersTold
pub mod Counts
pub mod Entries
pub mod Passes
pub mod Places
pub mod Ready
pub mod RegistryStates
pub mod Rising
pub mod Rooms
pub mod Showing
pub mod WatchStates
