-- What the contracts of this crate cite.
pub mod Adapters
pub mod Bytes
pub mod Causes
pub mod InMemory
