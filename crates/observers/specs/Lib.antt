-- What the contracts of this crate cite.
pub mod Laws
pub mod Listings
pub mod Registries
pub mod Showings
pub mod Watchings
pub mod Words
