pub mod Agreements
pub mod At
pub mod Cells
mod Flatness
pub mod Lookups
mod Order
mod Walks
