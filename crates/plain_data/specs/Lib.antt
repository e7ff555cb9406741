pub mod Agreements
pub mod Cells
pub mod Depths
pub mod Pairs
pub mod Trees
pub mod Walks
pub mod formers
