-- What the contracts of this crate cite.
pub mod AliasLists
pub mod Applying
pub mod Commits
pub mod Events
pub mod Identifiers
pub mod Kept
pub mod ListedNames
pub mod NodeLinks
pub mod Parts
pub mod Sinces
pub mod Standing
pub mod Tied
pub mod TouchedNames
pub mod Updated
