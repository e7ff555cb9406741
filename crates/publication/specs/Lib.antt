-- What the contracts of this crate cite.
pub mod Deliveries
pub mod Fours
pub mod Handings
pub mod InMemory
pub mod LinkMeanings
pub mod Messages
pub mod Offers
pub mod Publications
pub mod Threes
