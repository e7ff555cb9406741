-- Lemmas that the proofs of this crate share.
pub mod AliasListing
pub mod Identifying
pub mod Linking
pub mod Listing
pub mod Receiving
pub mod Touching
pub mod Tying
pub mod Updating
